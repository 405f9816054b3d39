use Rattle.change.proofs.Witness.{can_be_public, can_be_gone}
use Rattle.change.proofs.theorems.examples_can_be.Goals as goal

pub returns : goal.returns
returns c = record { public = can_be_public; gone = can_be_gone }
