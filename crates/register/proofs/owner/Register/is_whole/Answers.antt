use Rattle.std.proofs.Common.{rules, tests}
use Rattle.std.proofs.lemmas.Iterator.{YieldsList-from_slice, cases_from_all}
use Rattle.register.proofs.Rights.{right, whole_told}
use Rattle.register.proofs.owner.Register.is_whole.Goals as goal

pub returns : goal.returns
returns c =
    let s = c.args.self.now in
    whole_told s c.all.result (cases_from_all c.all.new.self _ c.all.result (right s) (λ p. right s p → ⊥) c.all.ensures.ran (YieldsList-from_slice s.places (cc)) (λ x q k. search (rules, tests)) (λ x q k. search (rules, tests)))
