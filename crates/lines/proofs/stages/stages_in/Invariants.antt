use Rattle.std.proofs.Common.{◌≡◌, length}
use Rattle.stage.specs.Stages.{ranks}
use Rattle.lines.specs.Stages.{stages_in, stages_from}
use Rattle.lines.proofs.stages.stages_in.Given as goal

abbrev pub invariant-loop-word : goal.invariant-loop-word
invariant-loop-word l =
    (length l.stages ≡ 8) × (stages_in l.fn.line ≡ stages_from l.lowest (ranks l.stages) l.word-iterator)
