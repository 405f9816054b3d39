-- Stage lists: words I=S, the indexes rising.
use Rattle.std.specs.Prelude.{ℕ, ◌+◌, cond, List, [], ◌∷◌, replicate, Some, None, Option, ◌==◌, nat_le, slice_set}
use Rattle.words.specs.Numbers.{number_in}

-- a word's bytes before its first =
abbrev pub before_equals : List ℕ → List ℕ
before_equals [] = []
before_equals (b ∷ bs) = cond (b == 61) [] (b ∷ before_equals bs)

-- a word's bytes behind its first =, if it has one
abbrev pub behind_equals : List ℕ → Option (List ℕ)
behind_equals [] = None
behind_equals (b ∷ bs) = cond (b == 61) (Some bs) (behind_equals bs)

-- a number that is not 0
abbrev pub not_zero : Option ℕ → Option ℕ
not_zero None = None
not_zero (Some s) = cond (s == 0) None (Some s)

-- the stage other than 0 that a text writes, if there is one
abbrev pub stage_in : Option (List ℕ) → Option ℕ
stage_in None = None
stage_in (Some w) = not_zero (number_in 3 w)

-- an index with its stage
abbrev pub both : Option ℕ → Option ℕ → Option (ℕ × ℕ)
both None s = None
both (Some i) None = None
both (Some i) (Some s) = Some (i, s)

-- the index and the stage that a word I=S gives
abbrev pub pair_in : List ℕ → Option (ℕ × ℕ)
pair_in w = both (number_in 7 (before_equals w)) (stage_in (behind_equals w))

-- what is done with an index and its stage, if the index is not below the lowest that may follow
abbrev pub with_pair : Option (ℕ × ℕ) → (lowest : ℕ) → (ℕ → ℕ → Option (List ℕ)) → Option (List ℕ)
with_pair None l f = None
with_pair (Some p) l f = cond (nat_le l p.0) (f p.0 p.1) None

-- the stages that words give beside those that are known, the indexes rising from the lowest on
abbrev pub stages_from : (lowest : ℕ) → List ℕ → List (List ℕ) → Option (List ℕ)
stages_from l known [] = Some known
stages_from l known (w ∷ ws) = with_pair (pair_in w) l (λ i s. stages_from (i + 1) (slice_set known i s) ws)

-- the stages of all eight indexes that a stage list gives
abbrev pub stages_in : List (List ℕ) → Option (List ℕ)
stages_in ws = stages_from 0 (replicate 8 0) ws
