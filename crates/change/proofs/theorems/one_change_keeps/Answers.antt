use Rattle.change.proofs.Promises.{one_change, fill_turns}
use Rattle.change.proofs.theorems.one_change_keeps.Goals as goal

pub returns : goal.returns
returns c = record { keeps = one_change; turns = fill_turns }
