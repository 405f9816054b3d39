use Rattle.std.proofs.Common.{ap, ◌∙◌, arith, rules}
use Rattle.std.proofs.lemmas.Result.{err_from_is_err_and}
use Rattle.change.specs.declared.kinds.Refusal.TheVariants.{OutOfRange}
use Rattle.change.specs.Heads.{number_of}
use Rattle.register.proofs.Left.{Left-more, Left-all, refused, was_done, was_refused, turned_into}
use Rattle.register.proofs.owner.Register.replay.Goals as goal

pub returns-in_err-map_err : goal.returns-in_err-map_err
returns-in_err-map_err c =
    let (e, is, same) = err_from_is_err_and c.from_residual.result c.from_residual.ensures.1 in
    let cannot = was_refused c.apply.result _ _ _ (grind arith) c.apply.ensures in
    let out = turned_into c.apply.result c.map_err.result _ OutOfRange (λ e d k. search rules) c.map_err.ensures.cases _ c.in_err-map_err.was in
    rw is (refused _ _ _ _ c.loop-what.invariant c.what-item.result c.loop-what-test.true c.what-item.is cannot, ap number_of (same ∙ out))

pub loop-what-preserved : goal.loop-what-preserved
loop-what-preserved c = Left-more _ _ _ _ c.loop-what.invariant c.what-item.result c.loop-what-test.true c.what-item.is _ (was_done c.apply.result _ _ _ (grind arith) c.apply.ensures)

pub returns : goal.returns
returns c = Left-all _ _ _ _ c.loop-what.invariant c.loop-what-test.false
