-- Whether some index refuses a row.
use Rattle.std.proofs.Common.{◌≡◌, ℕ, zero, suc, Bool, ◌||◌, List, [], ◌∷◌, length, get_or, Some, sym, refl, ap, ◌∙◌, arith}
use Rattle.std.specs.List.{list_any, zip}
use Rattle.keyset.specs.Sets.{any_below}
use Rattle.table.specs.declared.row.Row.{Row}
use Rattle.table.specs.Held.{entry_of}
use Rattle.stage.specs.declared.kinds.Stage.{Stage}
use Rattle.stage.specs.Stages.{rank, ranks}
use Rattle.change.specs.Index.{refuses}
use Rattle.change.specs.Heads.{slot_of}
use Rattle.register.specs.declared.place.Place.{Place}
use Rattle.register.specs.Registers.{cell_of}
use Rattle.register.specs.Held.{entry_in, head_in}

or_assoc : (a b c : Bool) → a || b || c ≡ a || (b || c)
or_assoc a b c = grind arith

-- the first of the numbers below a bound, and then the others
any_below-first : (f : ℕ → Bool) (n : ℕ) → any_below f (suc n) ≡ f 0 || any_below (λ i. f (suc i)) n
unfolding any_below
any_below-first f zero = grind arith
any_below-first f (suc n) = ap (λ b. b || f (suc n)) (any_below-first f n) ∙ or_assoc (f 0) (any_below (λ i. f (suc i)) n) (f (suc n))

module _ (k : ℕ) (row : Row) where
  -- whether a place refuses the row to whoever knows its index in a stage
  abbrev pub refused_at : Place × Stage → Bool
  refused_at (p, s) = refuses 4096 (slot_of p.head) (rank s) k (cell_of (slot_of p.head) (Some row)) (entry_of p.entries)

  abbrev pub refused_in : List Place → List Stage → ℕ → Bool
  refused_in ps ss i = refuses 4096 (head_in ps i) (get_or (ranks ss) i 0) k (cell_of (head_in ps i) (Some row)) (entry_in ps i)

  pub any_refused : (ps : List Place) (ss : List Stage) (n : ℕ) → length ps ≡ n → length ss ≡ n → list_any refused_at (zip ps ss) ≡ any_below (refused_in ps ss) n
  unfolding any_below
  any_refused [] ss zero e f = refl
  any_refused [] ss (suc n) e f = absurd (omega arith)
  any_refused (p ∷ ps) ss zero e f = absurd (omega arith)
  any_refused (p ∷ ps) [] (suc n) e f = absurd (omega arith)
  any_refused (p ∷ ps) (s ∷ ss) (suc n) e f = ap (λ b. refused_at (p, s) || b) (any_refused ps ss n (omega arith) (omega arith)) ∙ sym (any_below-first (refused_in (p ∷ ps) (s ∷ ss)) n)
