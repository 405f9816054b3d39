use Rattle.service.specs.Held.{store_of}
use Rattle.service.proofs.Runs.{has_promises}
use Rattle.service.proofs.store.Store.clock.Goals as goal

pub returns-clause-promises : goal.returns-clause-promises
returns-clause-promises c =
    let s = c.args.self.now in
    let t = s.state.times in
    has_promises t.long t.short t.rate t.fits (store_of s.state) s.clock s.reached
