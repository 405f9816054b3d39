use Rattle.std.proofs.Common.{◌≡◌, ℕ, ◌/◌, [], get_or, rules, ap, ◌∙◌}
use Rattle.std.specs.Int.{w32, from_be_bytes}
use Rattle.std.specs.Simd.{first_chunks}
use Rattle.journal.proofs.Numbers.{fours_read, eight_cases}
use Rattle.journal.proofs.fields.row.Goals as goal

pub returns-clause-columns : goal.returns-clause-columns
returns-clause-columns c =
    let chunks = c.as_chunks.result.0.now in
    let P : ℕ → Type 0 = λ i. get_or c.from_fn.result i 0 ≡ from_be_bytes w32 (get_or chunks i []) in
    let each = eight_cases P (search rules) (search rules) (search rules) (search rules) (search rules) (search rules) (search rules) (search rules) in
    let of = c.as_chunks.ensures.front ∙ ap (λ (n : ℕ). first_chunks 4 (n / 4) c.args.bytes.now) c.told-bytes in
    fours_read 8 c.args.bytes.now c.from_fn.result chunks c.told-bytes c.from_fn.ensures.items.long of c.fits-bytes each
