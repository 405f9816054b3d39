-- The numbers of things that are counted from 0.
use Rattle.std.specs.Prelude.{ℕ, zero, suc, List, None, Option}
use Rattle.words.specs.Numbers.{first_number}

-- the number that the first of some words writes, if it is that of one of so many things
abbrev pub first_below : (count : ℕ) → List (List ℕ) → Option ℕ
first_below zero ws = None
first_below (suc last) ws = first_number last ws
