use Rattle.register.specs.Held.{register_of}
use Rattle.register.proofs.Left.{Left}
use Rattle.register.proofs.owner.Register.replay.Given as goal

abbrev pub invariant-loop-what : goal.invariant-loop-what
invariant-loop-what l = Left l.records l.what-index (register_of l.fn.self) (register_of l.self)
