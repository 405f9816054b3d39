use Rattle.std.proofs.Common.{nat_eq, rules, tests}
use Rattle.std.proofs.lemmas.Iterator.{YieldsList-from_slice}
use Rattle.std.proofs.lemmas.Iterator.Search.{find_from_yields_List}
use Rattle.lease.proofs.Views.{newest_found}
use Rattle.lease.proofs.book.Book.newest.Goals as goal

pub returns-in_err-lease : goal.returns-in_err-lease
returns-in_err-lease c =
    let ls = c.args.self.now.leases.items in
    let found = find_from_yields_List (λ l. nat_eq l.office c.args.office) _ _ c.find.result c.find.ensures.ran (YieldsList-from_slice ls cc) (λ x b q k. search (rules, tests)) in
    rw c.from_residual.ensures (rw c.in_err-lease.was at (newest_found c.args.office ls _ found))

pub returns : goal.returns
returns c =
    let ls = c.args.self.now.leases.items in
    let found = find_from_yields_List (λ l. nat_eq l.office c.args.office) _ _ c.find.result c.find.ensures.ran (YieldsList-from_slice ls cc) (λ x b q k. search (rules, tests)) in
    rw c.in_ok-lease.was at (newest_found c.args.office ls _ found)
