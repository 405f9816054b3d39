use Rattle.service.proofs.Promises.{keeps}
use Rattle.service.proofs.theorems.keeps.Goals as goal

pub returns : goal.returns
returns c = keeps
