use Rattle.std.proofs.Common.{length, refl, ap, ◌∙◌, rules, tests}
use Rattle.std.proofs.lemmas.Iterator.{YieldsList-from_range}
use Rattle.std.proofs.lemmas.Iterator.Consumers.{YieldsList-from_filter, count_from_yields_List}
use Rattle.keyset.specs.Sets.{has}
use Rattle.keyset.proofs.Scans.{keys_in_range}
use Rattle.keyset.proofs.count.Goals as goal

pub returns : goal.returns
returns c =
    let f = has c.args.words.now in
    let y = YieldsList-from_filter _ f (YieldsList-from_range 0 4096 4096 (search rules) refl) refl (λ x b q. search (rules, tests)) in
    count_from_yields_List _ c.count.result c.count.ensures.ran y ∙ ap length (keys_in_range f 4096)
