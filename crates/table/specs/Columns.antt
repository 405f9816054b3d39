-- What a row has in its columns.
use Rattle.std.specs.Prelude.{ℕ, Some, None, Option, slice_index}
use Rattle.table.specs.declared.row.Row.{Row}

-- what a row has in a column, if it is there
abbrev pub value_in : (column : ℕ) → Option Row → Option ℕ
value_in c None = None
value_in c (Some r) = Some (slice_index r.columns c)
