use Rattle.std.proofs.Common.{◌-◌, ◌≤◌, length, drop}
use Rattle.register.specs.Held.{register_of}
use Rattle.replay.specs.Played.{Played}
use Rattle.replay.proofs.records.replay.Given as goal

abbrev pub invariant-loop-end : goal.invariant-loop-end
invariant-loop-end l = (l.at ≤ length l.bytes) × Played l.bytes (register_of l.initial.register) (drop l.at l.bytes) (register_of l.register)

abbrev pub decreases-loop-end : goal.decreases-loop-end
decreases-loop-end l = length l.bytes - l.at
