use Rattle.std.proofs.Common.{◌∙◌, ap, rules, ◌++◌}
use Rattle.std.proofs.lemmas.Iterator.{YieldsList-from_slice, items_from_drains}
use Rattle.std.proofs.lemmas.Iterator.Consumers.{YieldsList-at, YieldsList-from_filter}
use Rattle.std.proofs.lemmas.List.Concat.{flat_map_single}
use borrow.Author.Tests.{tests}
use Rattle.lease.specs.Leases.{stays}
use Rattle.lease.specs.Books.{lease_of}
use Rattle.lease.proofs.Views.{noted_view}
use Rattle.lease.proofs.book.Book.note.Goals as goal

pub returns : goal.returns
returns c =
    let n = c.args.lease in
    let (it, xs, b, h, (u, (t, ys, end))) = c.in_ok-extend.ensures.ran in
    let e = items_from_drains xs (t, ys, λ _. (u, end)) (YieldsList-at b (YieldsList-from_filter _ (λ l. stays c.args.long (lease_of n) (lease_of l)) (YieldsList-from_slice c.args.self.now.leases.items cc) c.filter-others.ensures.closure (λ x r q k. search (rules, tests)))) in
    let m = h.0 ∙ ap (λ l. c.push.new.self.items ++ l) (flat_map_single (λ y. y.now) xs ∙ e) in
    noted_view c.args.long n c.args.self.now.leases.items _ (search rules)
