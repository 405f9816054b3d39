use Rattle.std.proofs.Common.{refl, ◌∙◌, rules, tests}
use Rattle.std.proofs.lemmas.Iterator.{YieldsList-from_range}
use Rattle.std.proofs.lemmas.Iterator.Search.{any_from_yields_List}
use Rattle.keyset.proofs.Scans.{any_in_range}
use Rattle.table.specs.Held.{entry_of}
use Rattle.table.specs.Update.{by_other}
use Rattle.table.proofs.entries.Entries.taken_by_other.Goals as goal

pub returns : goal.returns
returns c =
    let f = by_other (entry_of c.args.self.now) c.args.value c.args.key.number in
    any_from_yields_List f c.any.new.self _ c.any.result c.any.ensures.ran (YieldsList-from_range 0 4096 4096 refl refl) (λ x b q. search (rules, tests))
    ∙ any_in_range f 4096
