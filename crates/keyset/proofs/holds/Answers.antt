use Rattle.std.proofs.Common.{ℕ, ◌/◌, ◌%◌, ◌^◌, ◌≤◌, eqb, length, get_or, sym, ap, ◌∙◌, arith}
use lib.Bits.{and_mask}
use Rattle.std.proofs.lemmas.Bool.{le-ltb}
use Rattle.keyset.specs.Sets.{has, bit}
use Rattle.keyset.proofs.Words.{has_past}
use Rattle.keyset.proofs.holds.Goals as goal

pub returns-then-at-words : goal.returns-then-at-words
unfolding has bit
returns-then-at-words c =
    ap (λ (x : ℕ). eqb x 1) (and_mask (get_or c.args.words.now (c.args.number / 32) 0 / 2 ^ (c.args.number % 32)) 1)

pub returns-else-at-words : goal.returns-else-at-words
returns-else-at-words c =
    let past : length c.args.words.now ≤ c.args.number / 32 = omega arith in
    le-ltb (c.args.number / 32) (length c.args.words.now) past ∙ sym (has_past c.args.words.now c.args.number past)
