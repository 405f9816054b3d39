-- How a text falls apart into its first word and what follows it.
use Rattle.std.proofs.Common.{◌≡◌, ℕ, ◌<◌, Bool, true, false, not, eqb, List, [], ◌∷◌, length, take, drop, Some, None, Option, refl, ap, arith}
use Rattle.std.proofs.Math.Numerals.{one-add}
use Rattle.std.proofs.lemmas.List.Sums.{prefix_len-le-length}
use Rattle.std.specs.List.{position, position_or_len}
use Rattle.std.specs.Option.{unwrap_or}
use Rattle.words.specs.Words.{words, begun, on_first}

abbrev pub is_space : ℕ → Bool
is_space b = eqb b 32

-- how many spaces a text begins with, and how many other bytes
abbrev spaces : List ℕ → ℕ
spaces bs = position_or_len (λ b. not (is_space b)) bs

abbrev others : List ℕ → ℕ
others bs = position_or_len is_space bs

-- a text of spaces has no word
blank : (bs : List ℕ) → length bs ≡ spaces bs → words bs ≡ []
blank [] e = refl
blank (b ∷ bs) e = let rest : length bs ≡ spaces bs → words bs ≡ [] = blank bs in grind arith

-- a word that was begun goes on up to a space or the text's end
abbrev GoesOn : ℕ → List ℕ → Type 0
GoesOn b bs = begun b bs (words bs) ≡ (b ∷ take (others bs) bs) ∷ words (drop (others bs) bs)

goes_on : (b : ℕ) (bs : List ℕ) → GoesOn b bs
goes_on b [] = refl
goes_on b (c ∷ cs) =
    let more = ap (on_first b) (goes_on c cs) in
    (elim (eqb c 32) as (λ v. eqb c 32 ≡ v → GoesOn b (c ∷ cs)) [ true ↦ λ e. simp e | false ↦ λ e. simp e (simp one-add more) ]) refl

-- the first word, and the words behind it
abbrev FallsApart : List ℕ → Type 0
FallsApart bs = let rest = drop (spaces bs) bs in words bs ≡ take (others rest) rest ∷ words (drop (others rest) rest)

falls_apart : (bs : List ℕ) → spaces bs < length bs → FallsApart bs
falls_apart [] lt = absurd (omega arith)
falls_apart (b ∷ bs) lt =
    let here = goes_on b bs in
    let later = falls_apart bs in
    (elim (eqb b 32) as (λ v. eqb b 32 ≡ v → FallsApart (b ∷ bs)) [ true ↦ λ e. let less = simp e at lt in simp e (simp one-add (later (omega arith))) | false ↦ λ e. simp e (simp one-add here) ]) refl

-- the same, of what `position` answers
pub no_word : (bs : List ℕ) (start : Option ℕ) → start ≡ position (λ b. not (is_space b)) bs → start ≡ None → words bs ≡ []
no_word bs start e none = let le = prefix_len-le-length (λ b. not (not (is_space b))) bs in blank bs (grind arith)

pub first_word : (bs rest : List ℕ) (start end : Option ℕ) (s n : ℕ) → start ≡ position (λ b. not (is_space b)) bs → start ≡ Some s → rest ≡ drop s bs → end ≡ position is_space rest → n ≡ unwrap_or end (length rest) → words bs ≡ take n rest ∷ words (drop n rest)
first_word bs rest start end s n e some f g h =
    let le = prefix_len-le-length (λ b. not (is_space b)) rest in
    let from : s ≡ spaces bs = grind arith in
    let to : n ≡ others rest = grind arith in
    let lt : spaces bs < length bs = grind arith in
    let apart = falls_apart bs lt in
    cc
