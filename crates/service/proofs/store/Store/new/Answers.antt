use Rattle.std.proofs.Common.{subst, rules}
use Rattle.service.specs.Reached.{Reached}
use Rattle.service.proofs.Runs.{first_up}
use Rattle.service.proofs.store.Store.new.Goals as goal

pub invariant_of-result : goal.invariant_of-result
invariant_of-result c =
    let t = c.args.times in
    record { reached = ∣ subst (λ s. Reached t.long t.short t.rate s 0) (search rules) (first_up t.long t.short t.rate) ∣₁ }
