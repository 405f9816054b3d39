use Rattle.service.proofs.Promises.{stays, stops_between}
use Rattle.service.proofs.theorems.stays.Goals as goal

pub returns : goal.returns
returns c = record { synced = stays; stopped = stops_between }
