use Rattle.register.proofs.Replays.{in_parts, rows_replayed}
use Rattle.register.proofs.theorems.replays_in_order.Goals as goal

pub returns : goal.returns
returns c = record { parts = in_parts; rows = rows_replayed }
