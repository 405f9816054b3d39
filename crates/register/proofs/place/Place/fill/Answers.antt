use Rattle.std.proofs.Common.{◌≡◌, true, Some, refl, sym, ap, ◌∙◌, arith}
use Rattle.std.proofs.lemmas.Bool.{and_left}
use Rattle.table.specs.Held.{row_of, entry_of}
use Rattle.change.specs.Protocol.{why_not_fill}
use Rattle.change.specs.Heads.{slot_of}
use Rattle.register.proofs.Keys.{filled_one, against, not_done}
use Rattle.register.proofs.place.Place.fill.Goals as goal

pub returns : goal.returns
returns c =
    let p = c.args.self.now in
    let x = c.in_ok-head.head in
    let is : p.head ≡ Some x = grind arith in
    filled_one (slot_of p.head) x c.args.key.number (entry_of p.entries) (entry_of c.fill.new.entries) (ap slot_of is) (c.if-head-number.false ∙ c.number.ensures) (row_of c.args.rows.now) c.in_ok-fill.field-0 (sym c.if-is_taken.ensures) c.in_ok-fill.ensures

pub returns-in_err-fill : goal.returns-in_err-fill
returns-in_err-fill c =
    let p = c.args.self.now in
    let is : p.head ≡ Some c.in_ok-head.head = grind arith in
    not_done c.from_residual-in_err-fill.result _ _ _ p _ c.from_residual-in_err-fill.ensures.0 (and_left _ _ (and_left _ _ (against (why_not_fill 4096 true) (slot_of p.head) c.in_ok-head.head _ (ap slot_of is) c.in_err-fill.ensures.0))) refl c.in_err-fill.ensures.1
