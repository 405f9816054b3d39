use Rattle.journal.proofs.Pairs.{StagesSoFar}
use Rattle.journal.proofs.fields.paired.Given as goal

abbrev pub invariant-loop-index : goal.invariant-loop-index
invariant-loop-index l = StagesSoFar l.bytes l.rest l.stage-items l.index
