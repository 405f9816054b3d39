use Rattle.std.proofs.Common.{◌≡◌, ℕ, ◌*◌, true, List, sym, ap, ◌∙◌, subst}
use Rattle.std.specs.Option.{option_map}
use Rattle.stage.specs.Stages.{ranks}
use Rattle.register.specs.Registers.{are_stages}
use Rattle.journal.specs.Bytes.{stage_bytes}
use Rattle.journal.specs.Reads.{ReadOf}
use Rattle.journal.proofs.Pairs.{counted, miscounted}
use Rattle.journal.proofs.fields.stages.Goals as goal

pub returns-then-pairs-from : goal.returns-then-pairs-from
returns-then-pairs-from c = λ ss w e.
    let n = c.in_ok-count.count.now in
    miscounted n c.in_ok-count.pairs.now ss (λ l. c.if-pairs-from.true (l ∙ ap (λ (m : ℕ). 2 * m) (sym c.from.ensures))) (sym c.in_ok-count.ensures.cases.0 ∙ e)

pub returns : goal.returns
returns c =
    let n = c.in_ok-count.count.now in
    let P = ReadOf stage_bytes (λ ss. are_stages 8 ss ≡ true) in
    let long = c.if-pairs-from.false ∙ ap (λ (m : ℕ). 2 * m) c.from.ensures in
    subst (λ (bs : List ℕ). ReadOf stage_bytes (λ ss. are_stages 8 ss ≡ true) bs (option_map ranks c.paired.result)) (sym c.in_ok-count.ensures.cases.0) (counted n c.in_ok-count.pairs.now _ long c.paired.ensures)
