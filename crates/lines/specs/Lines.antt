-- What is read of a line.
use Rattle.std.specs.Prelude.{ℕ, Bool, false, cond, List, [], ◌∷◌, length, Some, None, Option, Ok, Err, Result, ◌==◌, nat_lt}
use Rattle.lines.specs.declared.kinds.Asked.{Asked}
use Rattle.lines.specs.declared.kinds.Unreadable.{Unreadable}
use Rattle.std.specs.Option.{unwrap_or}
use Rattle.words.specs.Words.{words}
use Rattle.words.specs.Numbers.{first_number}
use Rattle.lines.specs.Asks.{Ask, ask_of, ask_in}

-- a line gets no answer, asks for something, or cannot be read
pub data Parsed : Type 0 where
  skip : Parsed
  asks : Ask → Parsed
  refused : Parsed

-- what the code's value says
abbrev pub parsed_of : Result (Option Asked) Unreadable → Parsed
parsed_of (Ok None) = skip
parsed_of (Ok (Some a)) = asks (ask_of a)
parsed_of (Err e) = refused

-- a comment begins with #
abbrev pub is_comment : List ℕ → Bool
is_comment [] = false
is_comment (b ∷ bs) = b == 35

-- a line of more bytes is not read
abbrev pub too_long : List ℕ → Bool
too_long bs = nat_lt 4096 (length bs)

-- what was read, or a refusal
abbrev pub or_refused : Option Ask → Parsed
or_refused None = refused
or_refused (Some a) = asks a

-- words ask for something or cannot be read; without words there is nothing to answer
abbrev pub read_of : List (List ℕ) → Parsed
read_of [] = skip
read_of (w ∷ ws) = or_refused (ask_in (w ∷ ws))

-- what is read of a line
abbrev pub parsed_in : List ℕ → Parsed
parsed_in bs = cond (is_comment bs) skip (cond (too_long bs) refused (read_of (words bs)))

-- words behind a reading
abbrev pub behind_reading : Option ℕ → List (List ℕ) → Parsed
behind_reading None ws = refused
behind_reading (Some t) ws = or_refused (ask_in ws)

-- the first word is a reading, and the others ask for something
abbrev pub timed_of : List (List ℕ) → Parsed
timed_of [] = skip
timed_of (w ∷ ws) = behind_reading (first_number 18446744073709551615 (w ∷ ws)) ws

-- what is read of a line that begins with a reading of the clock
abbrev pub timed_in : List ℕ → Parsed
timed_in bs = cond (is_comment bs) skip (cond (too_long bs) refused (timed_of (words bs)))

-- the reading, or 0
abbrev pub reading_in : List ℕ → ℕ
reading_in bs = cond (is_comment bs) 0 (cond (too_long bs) 0 (unwrap_or (first_number 18446744073709551615 (words bs)) 0))
