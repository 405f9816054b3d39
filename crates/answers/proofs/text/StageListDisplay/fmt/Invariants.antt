use Rattle.std.proofs.Common.{◌≡◌, ℕ, List, ◌++◌, drop}
use Rattle.std.specs.Fmt.{HasWritten, IsPlainFormatter}
use Rattle.stage.specs.Stages.{ranks}
use Rattle.answers.specs.Texts.{stage_list}
use Rattle.answers.proofs.text.StageListDisplay.fmt.Given as goal

abbrev pub invariant-loop-index : goal.invariant-loop-index
invariant-loop-index g l =
    IsPlainFormatter l.initial.f → (done : List ℕ) × HasWritten g.W.Write.write_str_gives l.initial.f done l.f × (stage_list 0 (ranks l.self.0.now) ≡ done ++ stage_list l.index-counter (ranks (drop l.index-counter l.self.0.now)))
