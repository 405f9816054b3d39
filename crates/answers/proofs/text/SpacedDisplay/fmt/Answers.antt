use Rattle.std.proofs.Common.{Ok}
use Rattle.std.proofs.Output.{displays_on_IsOk_append, displays_on_ok_of_eq}
use Rattle.answers.proofs.Texts.{spaced_texts-take}
use Rattle.answers.proofs.text.SpacedDisplay.fmt.Goals as goal

pub loop-value-preserved : goal.loop-value-preserved
loop-value-preserved g c =
    let took = g.W.Write.write_str_gives in
    displays_on_ok_of_eq took c.args.f.now c.write.new.self (Ok tt) _ _
    (spaced_texts-take g.T.Display.output c.args.self.now.0.now c.loop-value.value-index c.value-item.result c.loop-value-test.true c.value-item.is)
    (displays_on_IsOk_append took c.args.f.now c.loop-value.f c.write.new.self (Ok tt) (Ok tt) _ _ (λ ok. ok) c.loop-value.invariant c.in_ok-write.ensures.writes)
