use Rattle.std.proofs.Common.{◌∙◌, ap, rules, ◌++◌}
use Rattle.std.proofs.lemmas.Iterator.{YieldsList-from_slice, items_from_drains}
use Rattle.std.proofs.lemmas.Iterator.Consumers.{YieldsList-at, YieldsList-from_filter}
use Rattle.std.proofs.lemmas.List.Concat.{flat_map_single}
use borrow.Author.Tests.{tests}
use Rattle.lease.specs.Desks.{acts_on}
use Rattle.lease.proofs.office.Desk.granted.Goals as goal

pub returns : goal.returns
returns c =
    let (it, xs, b, h, (u, (t, ys, end))) = c.in_ok-extend.ensures.ran in
    let e = items_from_drains xs (t, ys, λ _. (u, end)) (YieldsList-at b (YieldsList-from_filter _ (acts_on c.args.self.now.short c.in-Some.asked) (YieldsList-from_slice c.args.self.now.grants.items cc) c.filter-others.ensures.closure (λ x r q k. search (rules, tests)))) in
    let m = h.0 ∙ ap (λ l. c.push.new.self.items ++ l) (flat_map_single (λ y. y.now) xs ∙ e) in
    search rules
