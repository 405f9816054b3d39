use Rattle.std.proofs.Common.{◌≡◌, get_or, ap, ◌∙◌, rules, arith}
use Rattle.stage.specs.declared.kinds.Stage.TheVariants.{Absent}
use Rattle.stage.specs.Stages.{rank}
use Rattle.change.specs.Protocol.{stage_of}
use Rattle.change.specs.Heads.{slot_of}
use Rattle.register.specs.Held.{register_of}
use Rattle.register.proofs.Parts.{head_lent, stages_told}
use Rattle.register.proofs.owner.Register.stages.Goals as goal

pub returns : goal.returns
returns c =
    let s = c.args.self.now in
    let refs = c.each_ref.result in
    let told = c.map.ensures.items in
    let d = told.each.1 in
    stages_told c.map.result 8 (register_of s) told.long (λ i l.
    let (f, g, h) = told.at i d Absent l in
    let at : rank (get_or c.map.result i Absent) ≡ stage_of (slot_of (get_or refs i d).now.head) = search rules in
    at ∙ ap stage_of (head_lent refs s.places c.each_ref.ensures.items i d (omega (arith, s.places_long))))
