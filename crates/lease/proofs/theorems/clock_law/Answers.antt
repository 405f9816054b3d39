use Rattle.lease.proofs.Clocks.{clock_law}
use Rattle.lease.proofs.theorems.clock_law.Goals as goal

pub returns : goal.returns
returns c = clock_law
