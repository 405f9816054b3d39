use Rattle.std.proofs.Common.{refl, rules, tests}
use Rattle.std.proofs.lemmas.Iterator.{YieldsList-from_range, items_from_collect}
use Rattle.std.proofs.lemmas.Iterator.Consumers.{YieldsList-from_filter}
use Rattle.keyset.specs.Sets.{has}
use Rattle.keyset.proofs.Scans.{keys_in_range}
use Rattle.keyset.proofs.listed.Goals as goal

pub returns : goal.returns
returns c =
    let f = has c.args.words.now in
    rw (← keys_in_range f 4096)
    (items_from_collect c.collect.result c.collect.ensures.ran
    (YieldsList-from_filter _ f (YieldsList-from_range 0 4096 4096 (search rules) refl) refl (λ x b q. search (rules, tests))))
