use Rattle.std.proofs.Common.{◌≡◌, ℕ, Bool, vec_items}
use Rattle.keyset.specs.Sets.{keys_below}
use Rattle.table.specs.Held.{cell_of}
use Rattle.table.proofs.table.Table.keys_where.Given as goal

abbrev pub invariant-loop-k : goal.invariant-loop-k
invariant-loop-k g l =
    (f : ℕ → Bool) → ((k : ℕ) (b : Bool) → goal.F-post g l.test (cell_of l.self k) b → b ≡ f k)
    → vec_items l.found ≡ keys_below f l.k
