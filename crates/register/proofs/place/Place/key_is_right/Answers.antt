use Rattle.std.proofs.Common.{◌≡◌, ◌&&◌, arith}
use Rattle.table.specs.Held.{row_of, entry_of}
use Rattle.table.proofs.Past.{no_entry_past}
use Rattle.stage.specs.Stages.{value_taken}
use Rattle.change.specs.Index.{unique_of}
use Rattle.change.specs.Heads.{slot_of}
use Rattle.register.specs.Registers.{cell_of}
use Rattle.register.specs.Whole.{empty_to, full_to}
use Rattle.register.specs.Right.{EntryRight}
use Rattle.register.proofs.Rights.{once_told}
use Rattle.register.proofs.place.Place.key_is_right.Goals as goal
use Rattle.register.proofs.place.Place.key_is_right.Goals.{then-head, else-head}

pub returns-after-head : goal.returns-after-head
returns-after-head c =
    let h = slot_of c.args.self.now.head in
    let k = c.args.key.number in
    let es = entry_of c.args.self.now.entries in
    let row = row_of c.args.rows.now k in
    let right : EntryRight k (es k) (cell_of h row) (empty_to 4096 h) (full_to 4096 h) = let z = c.if-entry_is_right.ensures in grind arith in
    let repeated : c.if-head.result ≡ unique_of h && value_taken 4096 es k (es k) = elim c.if-head.branch [ then-head w ↦ grind arith | else-head w ↦ grind arith ] in
    once_told h row es k (no_entry_past c.args.self.now.entries) right c.if-head.result repeated
