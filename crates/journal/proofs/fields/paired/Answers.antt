use Rattle.std.proofs.Common.{◌≡◌, ◌≢◌, ◌≤◌, ◌+◌, ◌-◌, true, length, get_or, set, take, drop, sym, ap, ◌∙◌, subst, arith, rules, ◌<◌}
use Rattle.std.proofs.lemmas.List.{set-get_or, take_rest}
use Rattle.std.specs.Option.{option_map}
use Rattle.std.specs.Bool.{then_some}
use Rattle.stage.specs.declared.kinds.Stage.TheVariants.{Absent}
use Rattle.stage.specs.Stages.{ranks}
use Rattle.register.specs.Registers.{are_stages}
use Rattle.journal.specs.Bytes.{pairs}
use Rattle.journal.specs.Reads.{ReadOf}
use Rattle.journal.proofs.Pairs.{StagesSoFar, no_pair_here, pair_here, no_stage_here, stages_read}
use Rattle.journal.proofs.fields.paired.Goals as goal
use Rattle.journal.proofs.fields.paired.Goals.{in-len2-up+then-from-index+in_ok-stage, else-rest-lt2, else-rest-lt2-via-then-rest-lt2, else-rest-lt2-via-in-len2-up+else-from-index}

pub returns-in_err-stage : goal.returns-in_err-stage
returns-in_err-stage c =
    let none = no_stage_here c.args.bytes.now _ _ _ c.loop-index.invariant c.loop-index-test.true c.in-len2-up.len_at_least (omega arith) c.in_err-stage.ensures in
    subst (λ r. ReadOf (pairs 0) (λ ss. are_stages 8 ss ≡ true) c.args.bytes.now (option_map ranks r)) (sym c.from_residual.ensures) none

pub loop-index-preserved : goal.loop-index-preserved
loop-index-preserved c =
    let bs = c.args.bytes.now in
    let rest = c.loop-index.rest.now in
    let ss = c.loop-index.stage-items in
    let i = c.loop-index.index in
    let so = c.loop-index.invariant in
    let below = c.loop-index-test.true in
    elim c.if-rest-lt2.branch [
      | in-len2-up+then-from-index+in_ok-stage w ↦
          let s = w.in_ok-stage.field-0 in
          let now : c.if-rest-lt2.stage-items ≡ set ss i s = w.stage-items-is in
          let cut : c.if-rest-lt2.rest.now ≡ take (length rest - 2) (drop 2 rest) = ap (λ r. r.now) w.rest-is in
          let left = cut ∙ take_rest rest 2 in
          let (written, number) = w.in_ok-stage.ensures in
          subst (λ z. StagesSoFar bs c.if-rest-lt2.rest.now z (i + 1)) (sym now) (subst (λ z. StagesSoFar bs z (set ss i s) (i + 1)) (sym left)
          (pair_here bs rest ss i so below w.in-len2-up.len_at_least (omega arith) s written.0 number))
      | else-rest-lt2 w ↦
          let kept : w.else-rest-lt2.stage-items ≡ set ss i (get_or ss i Absent) = elim w.else-rest-lt2.branch [
            | else-rest-lt2-via-then-rest-lt2 v ↦ v.stage-items-is
            | else-rest-lt2-via-in-len2-up+else-from-index v ↦ v.stage-items-is
          ] in
          let none : 2 ≤ length rest → get_or rest 0 0 ≢ i = elim w.else-rest-lt2.branch [
            | else-rest-lt2-via-then-rest-lt2 v ↦ λ h e. let short : length rest < 2 = search rules in omega arith
            | else-rest-lt2-via-in-len2-up+else-from-index v ↦ λ h e. omega arith
          ] in
          let now = w.stage-items-is ∙ kept ∙ set-get_or ss i Absent in
          subst (λ z. StagesSoFar bs c.if-rest-lt2.rest.now z (i + 1)) (sym now) (subst (λ z. StagesSoFar bs z.now ss (i + 1)) (sym w.rest-is) (no_pair_here bs rest ss i so below none))
    ]

pub returns : goal.returns
returns c =
    subst (λ r. ReadOf (pairs 0) (λ ss. are_stages 8 ss ≡ true) c.args.bytes.now (option_map ranks r)) (sym (c.then_some.ensures ∙ ap (λ b. then_some b c.loop-index.stage-items) c.is_empty.ensures)) (stages_read c.args.bytes.now c.loop-index.rest.now _ _ c.loop-index.invariant (omega arith))
