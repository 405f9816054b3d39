use Rattle.replay.proofs.Windows.{windows_agree}
use Rattle.replay.proofs.Ends.{ends_once}
use Rattle.replay.proofs.theorems.windows_agree.Goals as goal

pub returns : goal.returns
returns c = record { agree = windows_agree; once = ends_once }
