use Rattle.std.proofs.Common.{◌∙◌, sym, rules, tests}
use Rattle.std.proofs.lemmas.Iterator.{YieldsList-from_slice}
use Rattle.std.proofs.lemmas.Iterator.Search.{any_from_yields_List}
use Rattle.stage.specs.Stages.{ranks}
use Rattle.lease.specs.Leases.{stands}
use Rattle.lease.specs.Books.{lease_of}
use Rattle.lease.proofs.Views.{list_any-map}
use Rattle.lease.proofs.book.Book.holds.Goals as goal

pub returns : goal.returns
returns c =
    let a = c.args in
    let p = stands a.long a.reading a.office (ranks a.stages.now) in
    let ls = a.self.now.leases.items in
    any_from_yields_List (λ l. p (lease_of l)) _ _ _ c.any.ensures.ran (YieldsList-from_slice ls cc) (λ x b q k. search (rules, tests)) ∙ sym (list_any-map lease_of p ls)
