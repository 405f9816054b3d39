-- Numbers in decimal digits.
use Rattle.std.specs.Prelude.{ℕ, ◌+◌, ◌-◌, ◌*◌, Bool, true, false, cond, ◌&&◌, List, [], ◌∷◌, Some, None, Option, nat_le}

-- is a byte a decimal digit
abbrev pub is_digit : ℕ → Bool
is_digit b = nat_le 48 b && nat_le b 57

-- is each byte a decimal digit
abbrev pub are_digits : List ℕ → Bool
are_digits [] = true
are_digits (b ∷ bs) = is_digit b && are_digits bs

-- the number that digits write behind those of n
abbrev pub value_behind : ℕ → List ℕ → ℕ
value_behind n [] = n
value_behind n (b ∷ bs) = value_behind (n * 10 + (b - 48)) bs

-- is a word made of one or more digits
abbrev pub is_numeral : List ℕ → Bool
is_numeral [] = false
is_numeral (b ∷ bs) = are_digits (b ∷ bs)

-- the number that a word writes, if it is one up to most
abbrev pub number_in : (most : ℕ) → List ℕ → Option ℕ
number_in most w = cond (is_numeral w && nat_le (value_behind 0 w) most) (Some (value_behind 0 w)) None

-- the number that the first of some words writes, if there is one up to most
abbrev pub first_number : (most : ℕ) → List (List ℕ) → Option ℕ
first_number most [] = None
first_number most (w ∷ ws) = number_in most w
