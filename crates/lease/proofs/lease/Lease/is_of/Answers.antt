use Rattle.std.proofs.Common.{◌∙◌, rules, arith}
use Rattle.lease.proofs.Views.{same_ranks}
use Rattle.lease.proofs.lease.Lease.is_of.Goals as goal

pub returns-then-self-office : goal.returns-then-self-office
returns-then-self-office c =
    let h = c.eq.ensures ∙ same_ranks _ (λ a b. search rules) c.args.self.now.stages c.args.stages.now in
    let k = c.if-self-office.true in grind arith
