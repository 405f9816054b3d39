use Rattle.std.proofs.Common.{◌∙◌, rules, tests}
use Rattle.std.proofs.lemmas.Iterator.{YieldsList-from_slice, YieldsList-from_zip}
use Rattle.std.proofs.lemmas.Iterator.Consumers.{YieldsList-at}
use Rattle.std.proofs.lemmas.Iterator.Search.{any_from_yields_List}
use Rattle.register.proofs.Refusals.{refused_at, any_refused}
use Rattle.register.proofs.owner.Register.refuses.Goals as goal

pub returns : goal.returns
returns c =
    let ps = c.args.self.now.places in
    let ss = c.args.stages.now in
    any_from_yields_List (refused_at c.args.key.number c.args.row) c.any.new.self _ c.any.result c.any.ensures.ran (YieldsList-from_zip (YieldsList-at c.zip.ensures.first (YieldsList-from_slice ps (cc))) (YieldsList-from_slice ss (cc))) (λ x b q k. search (rules, tests))
    ∙ any_refused c.args.key.number c.args.row ps ss 8 c.args.self.now.places_long c.told-stages
