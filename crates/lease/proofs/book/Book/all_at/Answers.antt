use Rattle.std.proofs.Common.{◌∙◌, sym, rules, tests}
use Rattle.std.proofs.lemmas.Iterator.{YieldsList-from_slice}
use Rattle.std.proofs.lemmas.Iterator.Search.{all_from_yields_List}
use Rattle.std.proofs.lemmas.List.Folds.{list_all-map}
use Rattle.stage.specs.Stages.{rank}
use Rattle.lease.specs.Leases.{is_at}
use Rattle.lease.specs.Books.{lease_of}
use Rattle.lease.proofs.book.Book.all_at.Goals as goal

pub returns : goal.returns
returns c =
    let a = c.args in
    let p = is_at a.long a.reading a.index.number (rank a.stage) in
    let ls = a.self.now.leases.items in
    all_from_yields_List (λ l. p (lease_of l)) _ _ _ c.all.ensures.ran (YieldsList-from_slice ls cc) (λ x b q k. search (rules, tests)) ∙ sym (list_all-map p lease_of ls)
