use Rattle.std.proofs.Common.{◌++◌, get_or, take, vec_items, sym, ap, ◌∙◌, append_assoc, arith}
use Rattle.journal.specs.Bytes.{four, fours}
use Rattle.journal.proofs.Adds.{fours_more}
use Rattle.journal.proofs.write.add_columns.Goals as goal

pub loop-column-preserved : goal.loop-column-preserved
loop-column-preserved c =
    let cs = c.args.columns.now in
    let i = c.loop-column.column-index in
    let old = vec_items c.args.out.now in
    c.in_ok-add.ensures ∙ (λ j. c.loop-column.invariant j ++ c.to_be_bytes.ensures j) ∙ append_assoc old (fours (take i cs)) (four (get_or cs i 0))
    ∙ ap (λ l. old ++ l) (sym (fours_more cs i (omega arith)))
