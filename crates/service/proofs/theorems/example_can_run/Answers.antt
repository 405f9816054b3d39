use Rattle.service.proofs.Witness.{can_run}
use Rattle.service.proofs.theorems.example_can_run.Goals as goal

pub returns : goal.returns
returns c = can_run
