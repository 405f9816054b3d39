use Rattle.std.proofs.Common.{drop, ap, ◌∙◌, arith, drop-drop, rules}
use Rattle.lines.proofs.Rows.{next_value, no_value, all_values}
use Rattle.lines.proofs.reader.row_in.Goals as goal

pub returns-in_err-column-clause-value : goal.returns-in_err-column-clause-value
returns-in_err-column-clause-value c =
    rw c.from_residual.ensures (no_value _ _ _ c.loop-column.column-index _ (omega arith) c.loop-column.invariant.values c.in_err-column.ensures.value)

pub loop-column-preserved : goal.loop-column-preserved
loop-column-preserved c = record {
  long = search rules;
  left = c.value_in.ensures.left ∙ ap (drop 1) c.loop-column.invariant.left ∙ drop-drop 1 c.loop-column.column-index _;
  values = next_value _ c.loop-column.column-index c.in_ok-column.field-0 c.loop-column.column-items _ _ (omega arith) c.loop-column.invariant.long c.loop-column.invariant.values c.in_ok-column.ensures.value c.value_in.ensures.left;
}

pub returns-clause-value : goal.returns-clause-value
returns-clause-value c = all_values (λ cs. record { columns = cs }) _ c.loop-column.column-index c.loop-column.column-items _ (omega arith) c.loop-column.invariant.long c.loop-column.invariant.values
