-- What each key has.
use Rattle.std.specs.Prelude.{ℕ, vec_items, Option, None, slice_index_or}
use Rattle.table.specs.declared.row.Row.{Row}
use Rattle.table.specs.declared.table.Table.{Table}

-- what a key has, if it has something
abbrev pub cell_of : {A : Type 0} → Table A → ℕ → Option A
cell_of t k = slice_index_or (vec_items t.cells) k None

-- the row of a key, if it has one
abbrev pub row_of : Table Row → ℕ → Option Row
row_of = cell_of

-- the entry of a key, if it has one: its value
abbrev pub entry_of : Table ℕ → ℕ → Option ℕ
entry_of = cell_of
