use Rattle.std.proofs.Common.{◌≡◌, ◌++◌, take, vec_items}
use Rattle.stage.specs.Stages.{ranks}
use Rattle.journal.specs.Bytes.{pairs}
use Rattle.journal.proofs.write.add_pairs.Given as goal

abbrev pub invariant-loop-index : goal.invariant-loop-index
invariant-loop-index l = vec_items l.out ≡ vec_items l.initial.out ++ pairs 0 (ranks (take l.index l.stages))
