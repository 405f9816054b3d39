use Rattle.std.proofs.Common.{Ok, take}
use Rattle.std.specs.Fmt.{DisplaysOnOk}
use Rattle.answers.specs.Texts.{spaced_texts}
use Rattle.answers.proofs.text.SpacedDisplay.fmt.Given as goal

abbrev pub invariant-loop-value : goal.invariant-loop-value
invariant-loop-value g l = DisplaysOnOk g.W.Write.write_str_gives l.initial.f (Ok tt) (spaced_texts g.T.Display.output (take l.value-index l.self.0.now)) l.f
