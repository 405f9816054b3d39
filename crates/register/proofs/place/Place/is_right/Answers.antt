use Rattle.std.proofs.Common.{◌<◌, ◌≤◌, refl, arith, rules, tests}
use Rattle.std.proofs.lemmas.Iterator.{YieldsList-from_range, cases_from_all}
use Rattle.table.specs.Held.{row_of, entry_of}
use Rattle.change.specs.Protocol.{done_of}
use Rattle.change.specs.Heads.{slot_of}
use Rattle.register.specs.Right.{KeyRight}
use Rattle.register.proofs.Rights.{index_told}
use Rattle.register.proofs.place.Place.is_right.Goals as goal

pub returns-then-is_none_or : goal.returns-then-is_none_or
returns-then-is_none_or c =
    let h = slot_of c.args.self.now.head in
    let row = row_of c.args.rows.now in
    let es = entry_of c.args.self.now.entries in
    let done : done_of h ≤ 4096 = let z = c.if-is_none_or.ensures in grind arith in
    index_told h row es c.all.result done
    (cases_from_all c.all.new.self _ c.all.result (λ k. k < 4096 → KeyRight 4096 h (row k) es k) (λ k. KeyRight 4096 h (row k) es k → ⊥) c.all.ensures.ran (YieldsList-from_range 0 4096 4096 refl refl)
    (λ x q k. search (rules, tests)) (λ x q k. search (rules, tests)))
