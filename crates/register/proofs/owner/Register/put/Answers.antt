use Rattle.std.proofs.Common.{arith}
use Rattle.std.proofs.lemmas.Bool.Decides.{nat_tests}
use Rattle.register.proofs.Parts.{are_stages_lem}
use Rattle.register.proofs.owner.Register.put.Goals as goal

pub returns : goal.returns
returns c =
    let a = are_stages_lem 8 c.args.stages.now c.told-stages in
    let s = c.args.key.small in
    (grind (arith, nat_tests), c.write.ensures)
