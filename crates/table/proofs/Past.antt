-- No row and no entry is there past the last key.
use Rattle.std.proofs.Common.{◌≡◌, ℕ, ◌≤◌, None, vec_items, arith}
use lib.ListN.{get_or-eq_default}
use Rattle.table.specs.declared.row.Row.{Row}
use Rattle.table.specs.declared.table.Table.{Table}
use Rattle.table.specs.Held.{cell_of, row_of, entry_of}

pub no_cell_past : {A : Type 0} (t : Table A) (k : ℕ) → 4096 ≤ k → cell_of t k ≡ None
no_cell_past t k h = get_or-eq_default (vec_items t.cells) None (omega (arith, t.one_for_each_key))

pub no_row_past : (t : Table Row) (k : ℕ) → 4096 ≤ k → row_of t k ≡ None
no_row_past = no_cell_past

pub no_entry_past : (t : Table ℕ) (k : ℕ) → 4096 ≤ k → entry_of t k ≡ None
no_entry_past = no_cell_past
