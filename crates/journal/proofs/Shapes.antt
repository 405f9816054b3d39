-- Records by their first byte, and rows by what is behind it.
use Rattle.std.proofs.Common.{◌≡◌, ℕ, zero, suc, ◌*◌, ◌<◌, ◌≢◌, Bool, true, List, ◌∷◌, ◌++◌, length, take, drop, None, sym, refl, ap, ap₂, ◌∙◌, subst, arith, length-append}
use Rattle.std.proofs.lemmas.List.{drop_at, take-append-drop}
use Rattle.table.specs.declared.row.Row.{Row}
use Rattle.register.specs.Registers.{Record, put, removed, made, went_up, turned, went_down, filled, cleared, came_up, are_stages}
use Rattle.journal.specs.Bytes.{two, fours, stage_bytes, kind_of, body_of, bytes_of, Writable}
use Rattle.journal.specs.Reads.{ReadOf}
use Rattle.journal.proofs.Sizes.{length_fours}

-- a record by its first byte
unfoldable pub Shape : ℕ → Record → Type 0
Shape zero y = Unit {0}
Shape (suc zero) y = (k : ℕ) × (n : Row) × (ss : List ℕ) × (y ≡ put k n ss)
Shape (suc (suc zero)) y = (k : ℕ) × (ss : List ℕ) × (y ≡ removed k ss)
Shape (suc (suc (suc zero))) y = (i : ℕ) × (c : ℕ) × (u : Bool) × (y ≡ made i c u)
Shape (suc (suc (suc (suc zero)))) y = (i : ℕ) × (y ≡ went_up i)
Shape (suc (suc (suc (suc (suc zero))))) y = (i : ℕ) × (y ≡ turned i)
Shape (suc (suc (suc (suc (suc (suc zero)))))) y = (i : ℕ) × (y ≡ went_down i)
Shape (suc (suc (suc (suc (suc (suc (suc zero))))))) y = (i : ℕ) × (k : ℕ) × (y ≡ filled i k)
Shape (suc (suc (suc (suc (suc (suc (suc (suc zero)))))))) y = (i : ℕ) × (k : ℕ) × (y ≡ cleared i k)
Shape (suc (suc (suc (suc (suc (suc (suc (suc (suc k))))))))) y = y ≡ came_up

pub shape : (y : Record) → Shape (kind_of y) y
unfolding Shape
shape (put k n ss) = (k, n, ss, refl)
shape (removed k ss) = (k, ss, refl)
shape (made i c u) = (i, c, u, refl)
shape (went_up i) = (i, refl)
shape (turned i) = (i, refl)
shape (went_down i) = (i, refl)
shape (filled i k) = (i, k, refl)
shape (cleared i k) = (i, k, refl)
shape came_up = refl

module _ (body : List ℕ) where
  -- the record of a kind that has these bytes behind its first
  of_kind : (k : ℕ) (y : Record) → k ∷ body ≡ bytes_of y → Shape k y × (body ≡ body_of y)
  of_kind k y e =
      let kind : kind_of y ≡ k = cc in
      (subst (λ m. Shape m y) kind (shape y), cc)

  module _ (none : (x : ℕ × ℕ) → (x.0 < 8) × (x.1 < 4096) → body ≢ x.0 ∷ two x.1) where
    pub no_filled : ReadOf bytes_of Writable (7 ∷ body) None
    unfolding Shape
    no_filled y w e = let ((i, k, q), b) = of_kind 7 y e in none (i, k) (subst Writable q w) (b ∙ ap body_of q)

    pub no_cleared : ReadOf bytes_of Writable (8 ∷ body) None
    unfolding Shape
    no_cleared y w e = let ((i, k, q), b) = of_kind 8 y e in none (i, k) (subst Writable q w) (b ∙ ap body_of q)

  -- no row's record has these bytes behind its first
  no_put : ((k : ℕ) (cs ss : List ℕ) → length (fours cs) ≡ 32 → are_stages 8 ss ≡ true → body ≢ two k ++ (fours cs ++ stage_bytes ss)) → ReadOf bytes_of Writable (1 ∷ body) None
  unfolding Shape
  no_put none y w e =
      let ((k, n, ss, q), b) = of_kind 1 y e in
      let v = subst Writable q w in
      none k n.columns ss (length_fours n.columns ∙ ap (λ (l : ℕ). 4 * l) v.1.eight) v.2 (b ∙ ap body_of q)

  pub put_short : length body < 34 → ReadOf bytes_of Writable (1 ∷ body) None
  put_short h = no_put (λ k cs ss l w e. omega (arith, ap length e, length-append (fours cs) (stage_bytes ss)))

  pub put_unread : ((ss : List ℕ) → are_stages 8 ss ≡ true → drop 32 (drop 2 body) ≢ stage_bytes ss) → ReadOf bytes_of Writable (1 ∷ body) None
  put_unread none = no_put (λ k cs ss l w e. none ss w (ap (λ b. drop 32 (drop 2 b)) e ∙ drop_at (fours cs) (stage_bytes ss) 32 l))

  -- a key, columns and stages are the whole
  pub put_parts : (k : ℕ) (cs ss : List ℕ) → take 2 body ≡ two k → take 32 (drop 2 body) ≡ fours cs → drop 32 (drop 2 body) ≡ stage_bytes ss → body ≡ two k ++ (fours cs ++ stage_bytes ss)
  put_parts k cs ss a b d = sym (take-append-drop 2 body) ∙ ap₂ (λ x y. x ++ y) a (sym (take-append-drop 32 (drop 2 body)) ∙ ap₂ (λ x y. x ++ y) b d)
