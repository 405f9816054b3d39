use Rattle.std.proofs.Common.{true, refl, sym, ap, ◌∙◌, ◌++◌, get_or, append-nil}
use Rattle.std.proofs.Output.{has_written_append, has_written_of_eq}
use Rattle.stage.specs.Stages.{rank}
use Rattle.stage.specs.declared.kinds.Stage.TheVariants.{Absent}
use Rattle.answers.specs.Texts.{stage_word}
use Rattle.answers.proofs.Texts.{word_of, no_word, stage_list-drop}
use Rattle.answers.proofs.text.StageListDisplay.fmt.Goals.{then-ne+in_ok-write, else-ne}
use Rattle.answers.proofs.text.StageListDisplay.fmt.Goals as goal

pub loop-index-preserved : goal.loop-index-preserved
loop-index-preserved g c = λ plain.
    let took = g.W.Write.write_str_gives in
    let i = c.loop-index.index-counter in
    let stages = c.args.self.now.0.now in
    let s = get_or stages i Absent in
    let so_far = c.loop-index.invariant plain in
    let word = stage_word i (rank s) in (
      so_far.0 ++ word,
      elim c.if-ne.branch [
        | then-ne+in_ok-write w ↦
            rw w.f-is
            (has_written_append took c.args.f.now so_far.0 c.loop-index.f word w.write.new.self so_far.1
            (has_written_of_eq took c.loop-index.f _ _ w.write.new.self (word_of i w.from.result s (sym c.ne.ensures ∙ w.if-ne.true) w.from.ensures) (w.in_ok-write.ensures.writes so_far.1.plain (refl {a = true}))))
        | else-ne w ↦
            rw w.f-is (has_written_of_eq took c.args.f.now _ _ c.loop-index.f (sym (append-nil so_far.0) ∙ ap (λ l. so_far.0 ++ l) (no_word i s (sym c.ne.ensures ∙ w.if-ne.false))) so_far.1)
      ],
      stage_list-drop _ so_far.0 stages i Absent c.loop-index-test.true so_far.2,
    )
