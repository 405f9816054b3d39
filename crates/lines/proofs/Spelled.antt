-- Words that are not a text.
use Rattle.std.proofs.Common.{◌≡◌, ◌≢◌, ℕ, false, List, [], ◌∷◌, length, get_or, refl, arith}
use Rattle.lines.specs.Verbs.{spells}

-- texts of two lengths are not the same
pub other_length : (xs ys : List ℕ) → length xs ≢ length ys → spells xs ys ≡ false
other_length [] [] h = absurd (h refl)
other_length [] (c ∷ cs) h = refl
other_length (b ∷ bs) [] h = refl
other_length (b ∷ bs) (c ∷ cs) h = let rest : length bs ≢ length cs → spells bs cs ≡ false = other_length bs cs in grind arith

-- nor are those that begin with two bytes
pub other_first : (xs cs : List ℕ) (c : ℕ) → get_or xs 0 0 ≢ c → spells xs (c ∷ cs) ≡ false
other_first [] cs c h = refl
other_first (b ∷ bs) cs c h = let here : b ≢ c = h in grind arith

pub ruleset others = (other_length, other_first)
