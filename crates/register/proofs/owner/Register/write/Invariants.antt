use Rattle.stage.specs.Stages.{ranks, written}
use Rattle.register.specs.Registers.{wrote}
use Rattle.register.specs.Held.{register_of}
use Rattle.register.proofs.Follows.{GoneOver}
use Rattle.register.proofs.owner.Register.write.Given as goal

abbrev pub invariant-loop-i : goal.invariant-loop-i
invariant-loop-i l =
    let s = l.fn.self in
    GoneOver s.places l.place-items (wrote l.key.number (written l.write) (ranks l.stages) (register_of s)).entry l.i
