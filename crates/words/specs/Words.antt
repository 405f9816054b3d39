-- The words of a text.
use Rattle.std.specs.Prelude.{ℕ, cond, List, [], ◌∷◌, Some, None, Option, ◌==◌}

-- a byte put in front of the first of some words
abbrev pub on_first : ℕ → List (List ℕ) → List (List ℕ)
on_first b [] = (b ∷ []) ∷ []
on_first b (w ∷ ws) = (b ∷ w) ∷ ws

-- a byte of a word in front of a text, whose words are given: it begins a word, which goes on unless a space follows
abbrev pub begun : ℕ → List ℕ → List (List ℕ) → List (List ℕ)
begun b [] ws = (b ∷ []) ∷ ws
begun b (c ∷ cs) ws = cond (c == 32) ((b ∷ []) ∷ ws) (on_first b ws)

-- the words of a text: what one or more spaces set apart
abbrev pub words : List ℕ → List (List ℕ)
words [] = []
words (b ∷ bs) = cond (b == 32) (words bs) (begun b bs (words bs))

-- the first of some words, if there is one
abbrev pub first_of : List (List ℕ) → Option (List ℕ)
first_of [] = None
first_of (w ∷ ws) = Some w
