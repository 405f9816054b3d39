-- A register in which nothing is wrong, while no office acts on any of its indexes: what a store may come up with.
use Rattle.std.specs.Prelude.{◌≡◌, ℕ, ◌<◌, ◌≤◌, Bool, true, false, cond, None, ◌==◌, nat_le}
use Rattle.change.specs.Protocol.{Head, gone, there, up, down, stage_of, done_of}
use Rattle.change.specs.Index.{About, unique_of, NoOrphan, NoneTwice}
use Rattle.register.specs.Registers.{Register, rows_of}

-- below this key no entry may be there: nothing was put in yet, or cleanup has gone over it
abbrev pub empty_to : (keys : ℕ) → Head About → ℕ
empty_to keys gone = keys
empty_to keys (there a up s d) = cond (nat_le s 1) keys 0
empty_to keys (there a down s d) = cond (s == 0) keys (cond (s == 1) d 0)

-- below this key every row has its entry: backfill has gone over it
abbrev pub full_to : (keys : ℕ) → Head About → ℕ
full_to keys gone = 0
full_to keys (there a up s d) = cond (s == 2) d (cond (s == 3) keys 0)
full_to keys (there a down s d) = cond (s == 3) keys 0

-- rows and indexes are in range, and the entries of every index are what its head says
pub record Whole (keys indexes : ℕ) (r : Register) : Type 0 where
  pub no_row : (k : ℕ) → keys ≤ k → r.row k ≡ None
  pub no_index : (i : ℕ) → indexes ≤ i → r.head i ≡ gone
  pub no_entry : (i k : ℕ) → keys ≤ k → r.entry i k ≡ None
  pub stage : (i : ℕ) → stage_of (r.head i) ≤ 3
  pub done : (i : ℕ) → done_of (r.head i) ≤ keys
  -- no entry without its row
  pub no_orphan : (i : ℕ) → NoOrphan (rows_of i r) (r.entry i)
  -- no two entries of a unique index have one value
  pub one_each : (i : ℕ) → unique_of (r.head i) ≡ true → NoneTwice (r.entry i)
  pub empty : (i k : ℕ) → k < empty_to keys (r.head i) → r.entry i k ≡ None
  pub full : (i k : ℕ) → k < full_to keys (r.head i) → r.entry i k ≡ rows_of i r k

-- an answer tells whether something holds
abbrev pub Tells : Bool → Type 0 → Type 0
Tells true P = P
Tells false P = P → ⊥
