use Rattle.std.proofs.Common.{◌≡◌, true, Some, refl, ap, ◌∙◌, arith}
use Rattle.std.proofs.lemmas.Bool.{and_left}
use Rattle.table.specs.Held.{entry_of}
use Rattle.change.specs.Protocol.{why_not_clear}
use Rattle.change.specs.Heads.{slot_of}
use Rattle.register.proofs.Keys.{cleared_one, against, not_done}
use Rattle.register.proofs.place.Place.clear.Goals as goal

pub returns : goal.returns
returns c =
    let p = c.args.self.now in
    let x = c.in_ok-head.head in
    let is : p.head ≡ Some x = grind arith in
    cleared_one (slot_of p.head) x c.args.key.number (entry_of p.entries) (entry_of c.clear.new.entries) (ap slot_of is) (c.if-head-number.false ∙ c.number.ensures) c.in_ok-clear.field-0 c.in_ok-clear.ensures

pub returns-in_err-clear : goal.returns-in_err-clear
returns-in_err-clear c =
    let p = c.args.self.now in
    let is : p.head ≡ Some c.in_ok-head.head = grind arith in
    not_done c.from_residual-in_err-clear.result _ _ _ p _ c.from_residual-in_err-clear.ensures.0 (and_left _ _ (against (why_not_clear 4096 true) (slot_of p.head) c.in_ok-head.head _ (ap slot_of is) c.in_err-clear.ensures.0)) refl c.in_err-clear.ensures.1
