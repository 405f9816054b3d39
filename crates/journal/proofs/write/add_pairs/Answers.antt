use Rattle.std.proofs.Common.{[], ◌∷◌, ◌++◌, get_or, take, vec_items, sym, ap, ◌∙◌, append_assoc, arith}
use Rattle.stage.specs.declared.kinds.Stage.TheVariants.{Absent}
use Rattle.stage.specs.Stages.{rank, ranks}
use Rattle.journal.specs.Bytes.{pairs}
use Rattle.journal.proofs.Adds.{added_short, pairs_more}
use Rattle.journal.proofs.write.add_pairs.Goals as goal

pub returns-in_err-add_stage : goal.returns-in_err-add_stage
returns-in_err-add_stage c = added_short c.from_residual.result _ _ _ _ _ c.from_residual.ensures.0 c.loop-index.invariant c.in_err-add_stage.ensures

pub loop-index-preserved : goal.loop-index-preserved
loop-index-preserved c =
    let ss = c.args.stages.now in
    let i = c.loop-index.index in
    let old = vec_items c.args.out.now in
    let one = pairs i (rank (get_or ss i Absent) ∷ []) in
    c.in_ok-add_stage.ensures ∙ ap (λ l. l ++ one) c.loop-index.invariant ∙ append_assoc old (pairs 0 (ranks (take i ss))) one
    ∙ ap (λ l. old ++ l) (sym (pairs_more ss i Absent (omega arith)))
