use Rattle.std.proofs.Common.{rules}
use Rattle.change.specs.Batches.{cleared}
use Rattle.change.proofs.batch.clear.Goals as goal

pub returns : goal.returns
returns c = c.work.ensures cleared (λ h r e f k next met. search rules)
