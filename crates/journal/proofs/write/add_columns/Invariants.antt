use Rattle.std.proofs.Common.{◌≡◌, ◌++◌, take, vec_items}
use Rattle.journal.specs.Bytes.{fours}
use Rattle.journal.proofs.write.add_columns.Given as goal

abbrev pub invariant-loop-column : goal.invariant-loop-column
invariant-loop-column l = vec_items l.out ≡ vec_items l.initial.out ++ fours (take l.column-index l.columns)
