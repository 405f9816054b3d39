use Rattle.std.proofs.Common.{Ok, subst, arith}
use Rattle.register.specs.Held.{register_of}
use Rattle.replay.specs.Next.{OneMore}
use Rattle.replay.proofs.Windows.{none_yet, one_more}
use Rattle.replay.proofs.records.replay.Goals as goal

pub loop-end-init : goal.loop-end-init
loop-end-init c = (omega arith, none_yet _ _)

pub loop-end-preserved : goal.loop-end-preserved
loop-end-preserved c =
    let (x, writable, stands, further, within, can, did) = subst (λ r. OneMore (Ok r) c.args.bytes.now c.loop-end.at (register_of c.loop-end.register) (register_of c.one_more.new.register)) c.in-Some.is c.in_ok-end.ensures in
    (within, one_more _ _ _ _ _ _ x c.loop-end.invariant.1 stands writable can did)
