-- A whole register, one key of one index at a time: what the test of it goes by.
use Rattle.std.specs.Prelude.{◌≡◌, ℕ, ◌<◌, ◌≤◌, true, Some, None, Option}
use Rattle.table.specs.declared.row.Row.{Row}
use Rattle.change.specs.Protocol.{Head, done_of}
use Rattle.change.specs.Index.{About, unique_of}
use Rattle.register.specs.Registers.{cell_of}
use Rattle.register.specs.Whole.{empty_to, full_to}

-- an entry is its row's own, and is not there below one key, and is there below another
pub record EntryRight (k : ℕ) (entry cell : Option ℕ) (empty full : ℕ) : Type 0 where
  pub own : (v : ℕ) → entry ≡ Some v → cell ≡ Some v
  pub none : k < empty → entry ≡ None
  pub all : k < full → entry ≡ cell

-- a key's entry in an index is right, and no other key has its value if the index is unique
pub record KeyRight (keys : ℕ) (h : Head About) (row : Option Row) (es : ℕ → Option ℕ) (k : ℕ) : Type 0 where
  pub right : EntryRight k (es k) (cell_of h row) (empty_to keys h) (full_to keys h)
  pub once : unique_of h ≡ true → (j v : ℕ) → es k ≡ Some v → es j ≡ Some v → k ≡ j

-- all keys of an index
pub record IndexRight (keys : ℕ) (h : Head About) (row : ℕ → Option Row) (es : ℕ → Option ℕ) : Type 0 where
  pub done : done_of h ≤ keys
  pub keyed : (k : ℕ) → k < keys → KeyRight keys h (row k) es k
