use Rattle.std.proofs.Common.{not, refl, ap, ◌∙◌, rules, tests}
use Rattle.std.proofs.lemmas.Iterator.{YieldsList-from_range}
use Rattle.std.proofs.lemmas.Iterator.Search.{any_from_yields_List}
use Rattle.keyset.specs.Sets.{has}
use Rattle.keyset.proofs.Scans.{any_in_range}
use Rattle.keyset.proofs.is_empty.Goals as goal

pub returns : goal.returns
returns c =
    let f = has c.args.words.now in
    let e = any_from_yields_List f c.any.new.self _ c.any.result c.any.ensures.ran (YieldsList-from_range 0 4096 4096 refl refl) (λ x b q. search (rules, tests)) in
    ap not (e ∙ any_in_range f 4096)
