-- A change can always be brought to its end, with no write.
use Rattle.std.proofs.Common.{◌≡◌, ℕ, zero, suc, ◌+◌, ◌-◌, ◌<◌, Bool, true, ◌&&◌, ◌⊎◌, List, [], ◌∷◌, Some, None, Option, sym, refl, ◌∙◌, subst, inl, inr, arith}
use borrow.Author.Tests.{clash}
use Rattle.stage.specs.Stages.{value_taken}
use Rattle.change.specs.Protocol.{Way, up, down, there, stage_of}
use Rattle.change.specs.Index.{About, unique_of, backfilled, cleaned_up, must_turn, NoOrphan}
use Rattle.change.specs.OneChange.{State, Step, leaves, goes_up, turns, goes_down, fills, clears, why_not, with_head, with_holders, after, after_all}
use Rattle.change.specs.Promises.{serves, CanCome, Done, Undone, Twice}
use Rattle.change.proofs.IndexKind.{other_row}
use Rattle.change.proofs.Steps.{Fine, fill_either, step_fine, steps_fine}
use Rattle.change.proofs.Kept.{gone_empty, no_orphan_lem, one_number_lem}

-- a unique index that refuses the next key's value has two rows with it
taken_twice : (keys d : ℕ) (rows es : ℕ → Option ℕ) (u : Bool) → NoOrphan rows es → d < keys → u && (true && value_taken keys es d (rows d)) ≡ true → (u ≡ true) × Twice keys rows
taken_twice keys d rows es u own l e = go (rows d) refl (grind arith)
  where
    go : (r : Option ℕ) → rows d ≡ r → (u ≡ true) × (value_taken keys es d r ≡ true) → (u ≡ true) × Twice keys rows
    go None c (on, t) = absurd (clash t)
    go (Some v) c (on, t) = let (j, b, other, has) = other_row keys d v rows es own t in (on, (j, d, v, b, l, other, has, c))

module _ (keys : ℕ) where
  rows_stay : (s : Step) (w : State) → serves s ≡ true → (after keys s w).rows ≡ w.rows
  rows_stay s w e = grind arith

  module _ (P : State → Type 0) where
    -- one step first
    next : (s : Step) (w : State) → serves s ≡ true → why_not keys s w ≡ None → Fine keys w → (Fine keys (after keys s w) → CanCome keys (after keys s w) P) → CanCome keys w P
    next s w e f g go =
        let (ss, serve, may, same, p) = go (step_fine keys s w f g) in
        (s ∷ ss, grind arith, grind arith, same ∙ rows_stay s w e, p)

    -- everybody leaves first
    deserted : (w : State) → (Fine keys (with_holders [] w) → CanCome keys (with_holders [] w) P) → (hs : List ℕ) → Fine keys (with_holders hs w) → CanCome keys (with_holders hs w) P
    deserted w go [] g = go g
    deserted w go (s ∷ hs) g = next (leaves 0) _ refl refl g (deserted w go hs)

  mapped : (P Q : State → Type 0) (w : State) → ((n : State) → P n → Q n) → CanCome keys w P → CanCome keys w Q
  mapped P Q w f (ss, serve, may, same, p) = (ss, serve, may, same, f (after_all keys ss w) p)

  module _ (a : About) (rows : ℕ → Option ℕ) where
    abbrev at : Way → (stage done : ℕ) → (ℕ → Option ℕ) → State
    at w s d es = record { rows = rows; entries = es; head = there a w s d; holders = [] }

    down_0 : (es : ℕ → Option ℕ) (d : ℕ) → Fine keys (at down 0 d es) → CanCome keys (at down 0 d es) Undone
    down_0 es d g = next Undone goes_down _ refl refl g (λ f. ([], refl, refl, refl, (refl, gone_empty keys f)))

    down_1 : (left : ℕ) (es : ℕ → Option ℕ) (d : ℕ) → d + left ≡ keys → Fine keys (at down 1 d es) → CanCome keys (at down 1 d es) Undone
    down_1 zero es d e g = next Undone goes_down _ refl (grind arith) g (down_0 es 0)
    down_1 (suc left) es d e g = next Undone clears _ refl (grind arith) g (down_1 left (cleaned_up d es) (d + 1) (omega arith))

    down_2 : (es : ℕ → Option ℕ) (d : ℕ) → Fine keys (at down 2 d es) → CanCome keys (at down 2 d es) Undone
    down_2 es d g = next Undone goes_down _ refl refl g (down_1 keys es 0 (omega arith))

    down_any : (s : ℕ) (es : ℕ → Option ℕ) (d : ℕ) → Fine keys (at down s d es) → CanCome keys (at down s d es) Undone
    down_any zero es d g = down_0 es d g
    down_any (suc zero) es d g = down_1 (keys - d) es d (omega (arith, g.by_head.1)) g
    down_any (suc (suc zero)) es d g = down_2 es d g
    down_any (suc (suc (suc zero))) es d g = next Undone goes_down _ refl refl g (down_2 es 0)
    down_any (suc (suc (suc (suc s)))) es d g = absurd (omega (arith, g.by_head.0))

    abbrev Ended : State → Type 0
    Ended n = Done a n ⊎ ((a.unique ≡ true) × Twice keys rows × Undone n)

    up_3 : (es : ℕ → Option ℕ) (d : ℕ) → CanCome keys (at up 3 d es) Ended
    up_3 es d = ([], refl, refl, refl, inl (d, refl))

    up_2 : (left : ℕ) (es : ℕ → Option ℕ) (d : ℕ) → d + left ≡ keys → Fine keys (at up 2 d es) → CanCome keys (at up 2 d es) Ended
    up_2 zero es d e g = next Ended goes_up _ refl (grind arith) g (λ _. up_3 es 0)
    up_2 (suc left) es d e g =
        next Ended fills _ refl (grind arith) g
        (fill_either (must_turn keys rows es (there a up 2 d)) (there a down 2 0) (there a up 2 (d + 1)) es (backfilled d rows es)
        (λ h es. let w : State = record { rows = rows; entries = es; head = h; holders = [] } in Fine keys w → CanCome keys w Ended)
        (λ z f. let t = taken_twice keys d rows es a.unique (no_orphan_lem keys (there a up 2 d) g) (omega arith) z in mapped Undone Ended _ (λ n u. inr (t.0, t.1, u)) (down_2 es 0 f))
        (λ z. up_2 left (backfilled d rows es) (d + 1) (omega arith)))

    up_1 : (es : ℕ → Option ℕ) (d : ℕ) → Fine keys (at up 1 d es) → CanCome keys (at up 1 d es) Ended
    up_1 es d g = next Ended goes_up _ refl refl g (up_2 keys es 0 (omega arith))

    up_any : (s : ℕ) (es : ℕ → Option ℕ) (d : ℕ) → Fine keys (at up s d es) → CanCome keys (at up s d es) Ended
    up_any zero es d g = next Ended goes_up _ refl refl g (up_1 es 0)
    up_any (suc zero) es d g = up_1 es d g
    up_any (suc (suc zero)) es d g = up_2 (keys - d) es d (omega (arith, g.by_head.1)) g
    up_any (suc (suc (suc zero))) es d g = up_3 es d
    up_any (suc (suc (suc (suc s)))) es d g = absurd (omega (arith, g.by_head.0))

  -- for a state whose head is known
  module _ (w : State) (a : About) (s d : ℕ) where
    known : (P : State → Type 0) (v : Way) → w.head ≡ there a v s d → (Fine keys (at a w.rows v s d w.entries) → CanCome keys (at a w.rows v s d w.entries) P) → Fine keys w → CanCome keys w P
    known P v e go =
        subst (λ h. Fine keys (with_head h w) → CanCome keys (with_head h w) P) (sym e) (deserted P (with_head (there a v s d) w) go w.holders)

    pub can_undo_lem : w.head ≡ there a down s d → Fine keys w → CanCome keys w Undone
    can_undo_lem e = known Undone down e (down_any a w.rows s w.entries d)

    pub can_turn_lem : w.head ≡ there a up s d → Fine keys w → CanCome keys w Undone
    can_turn_lem e = known Undone up e (λ g. next Undone turns _ refl refl g (down_any a w.rows s w.entries 0))

    pub can_end_lem : w.head ≡ there a up s d → Fine keys w → CanCome keys w (Done a) ⊎ ((a.unique ≡ true) × Twice keys w.rows × CanCome keys w Undone)
    can_end_lem e g = apart (known (Ended a w.rows) up e (up_any a w.rows s w.entries d) g)
      where
        apart : CanCome keys w (Ended a w.rows) → CanCome keys w (Done a) ⊎ ((a.unique ≡ true) × Twice keys w.rows × CanCome keys w Undone)
        apart (ss, serve, may, same, inl p) = inl (ss, serve, may, same, p)
        apart (ss, serve, may, same, inr (u, t, p)) = inr (u, t, (ss, serve, may, same, p))

  pub not_both_lem : (w : State) (a : About) → Fine keys w → CanCome keys w (Done a) → a.unique ≡ true → Twice keys w.rows → ⊥
  not_both_lem w a g (ss, serve, may, same, (d, e)) u (k, j, v, kb, jb, other, p, q) =
      let n = after_all keys ss w in
      let f : Fine keys n = steps_fine keys ss w may g in
      let on : unique_of n.head ≡ true = rw e u in
      let three : stage_of n.head ≡ 3 = rw e in
      other (one_number_lem keys n.head on (inr three) f k j v (rw same p) (rw same q))
