use Rattle.std.proofs.Common.{arith}
use Rattle.service.specs.Held.{store_of}
use Rattle.service.proofs.Runs.{goes_on, finds, has_promises}
use Rattle.service.proofs.store.Store.call.Goals as goal

pub invariant_of-self : goal.invariant_of-self
invariant_of-self c =
    let s = c.args.self.now in
    record { reached = goes_on s.state c.call.new.self c.call.ensures.times s.clock _ (omega arith) c.args.call s.reached c.call.result c.call.ensures.called }

pub returns-clause-promises : goal.returns-clause-promises
returns-clause-promises c =
    let s = c.args.self.now in
    let after = c.call.new.self in
    has_promises after.times.long after.times.short after.times.rate after.times.fits (store_of after) _
    (goes_on s.state after c.call.ensures.times s.clock _ (omega arith) c.args.call s.reached c.call.result c.call.ensures.called)

pub returns-clause-looks : goal.returns-clause-looks
returns-clause-looks c =
    let s = c.args.self.now in
    finds s.state c.call.new.self c.call.ensures.times s.clock _ (omega arith) c.args.call s.reached c.call.result c.call.ensures.called
