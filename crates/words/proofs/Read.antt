-- Reading a number digit by digit.
use Rattle.std.proofs.Common.{◌≡◌, ℕ, ◌+◌, ◌-◌, ◌*◌, ◌≤◌, false, cond, ◌&&◌, eqb, leb, List, [], ◌∷◌, length, Some, None, Option, IfSome, ◌∙◌, arith}
use Rattle.words.specs.Numbers.{is_digit, are_digits, value_behind, number_in}
use Rattle.words.proofs.Tried.{tried}

-- one more digit behind n, while the number is not above most
abbrev pub with_digit : (most n b : ℕ) → Option ℕ
with_digit most n b = cond (is_digit b && leb (n * 10 + (b - 48)) most) (Some (n * 10 + (b - 48))) None

-- more digits write no smaller number
value_behind_ge : (n : ℕ) (bs : List ℕ) → n ≤ value_behind n bs
value_behind_ge n [] = omega arith
value_behind_ge n (b ∷ bs) = omega (arith, value_behind_ge (n * 10 + (b - 48)) bs)

-- reading stops at the first digit too many, or not at all
read_on : (most n : ℕ) (bs : List ℕ) → n ≤ most → tried (with_digit most) n bs ≡ cond (are_digits bs && leb (value_behind n bs) most) (Some (value_behind n bs)) None
read_on most n [] le = grind arith
read_on most n (b ∷ bs) le =
    let m : ℕ = n * 10 + (b - 48) in
    let on : m ≤ most → tried (with_digit most) m bs ≡ cond (are_digits bs && leb (value_behind m bs) most) (Some (value_behind m bs)) None = read_on most m bs in
    let ge : m ≤ value_behind m bs = value_behind_ge m bs in
    grind arith

-- a number in a word is one up to most
bounded : (most : ℕ) (w : List ℕ) → IfSome (number_in most w) (λ n. n ≤ most)
bounded most w = grind arith

-- a word that is not empty is read from its first digit
pub number_read : (most : ℕ) (w : List ℕ) (r : Option ℕ) → false ≡ eqb (length w) 0 → r ≡ tried (with_digit most) 0 w → (r ≡ number_in most w) × IfSome r (λ n. n ≤ most)
number_read most [] r some e = absurd (cc)
number_read most (b ∷ bs) r some e =
    let read : r ≡ number_in most (b ∷ bs) = e ∙ read_on most 0 (b ∷ bs) (omega arith) in
    (read, rw read (bounded most (b ∷ bs)))
