-- A word I=S, taken apart at its first =; a stage list word by word.
use Rattle.std.proofs.Common.{◌≡◌, ℕ, ◌+◌, ◌<◌, Bool, true, false, not, eqb, List, [], ◌∷◌, length, take, drop, Some, None, Option, refl, ap, ◌∙◌, arith}
use Rattle.std.proofs.Math.Numerals.{add-one, one-add}
use Rattle.std.proofs.lemmas.List.Sums.{prefix_len-le-length}
use Rattle.std.proofs.lemmas.Grind.{common_steps}
use Rattle.std.proofs.lemmas.List.{map-set}
use Rattle.std.specs.List.{position, position_or_len}
use Rattle.lines.specs.Stages.{before_equals, behind_equals}

abbrev pub is_equals : ℕ → Bool
is_equals b = eqb b 61

-- how many bytes stand before the first =
abbrev before : List ℕ → ℕ
before w = position_or_len is_equals w

front : (w : List ℕ) → before_equals w ≡ take (before w) w
front [] = refl
front (b ∷ bs) = (elim (eqb b 61) as (λ v. eqb b 61 ≡ v → before_equals (b ∷ bs) ≡ take (before (b ∷ bs)) (b ∷ bs)) [ true ↦ λ e. simp e | false ↦ λ e. simp e (simp one-add (ap (λ l. b ∷ l) (front bs))) ]) refl

back : (w : List ℕ) → before w < length w → behind_equals w ≡ Some (drop (before w + 1) w)
back [] lt = absurd (omega arith)
back (b ∷ bs) lt = (elim (eqb b 61) as (λ v. eqb b 61 ≡ v → behind_equals (b ∷ bs) ≡ Some (drop (before (b ∷ bs) + 1) (b ∷ bs))) [ true ↦ λ e. simp e | false ↦ λ e. let less = simp e at lt in simp e (simp (one-add, add-one) (back bs (omega arith) ∙ simp add-one)) ]) refl

none : (w : List ℕ) → length w ≡ before w → behind_equals w ≡ None
none [] e = refl
none (b ∷ bs) e = let rest : length bs ≡ before bs → behind_equals bs ≡ None = none bs in grind arith

-- the same, of what `position` answers
pub no_equals : (w : List ℕ) (at : Option ℕ) → at ≡ position is_equals w → at ≡ None → behind_equals w ≡ None
no_equals w at e gone = let le = prefix_len-le-length (λ b. not (is_equals b)) w in none w (grind arith)

pub equals_at : (w : List ℕ) (at : Option ℕ) (n : ℕ) → at ≡ position is_equals w → at ≡ Some n → (before_equals w ≡ take n w) × (behind_equals w ≡ Some (drop (n + 1) w))
equals_at w at n e some =
    let here : n ≡ before w = grind arith in
    let lt : before w < length w = grind arith in
    let p = front w in
    let q = back w lt in
    (rw here p, rw here q)

-- a stage put among others, by number
pub ruleset stages = (common_steps, map-set)
