-- Windows and one slice agree.
use Rattle.std.specs.Prelude.{◌≡◌, ℕ, true, ◌⊎◌, List, ◌++◌}
use Rattle.register.specs.Registers.{Register}
use Rattle.journal.specs.Bytes.{is_part}
use Rattle.replay.specs.Played.{Played, Stuck}

-- what is left of a window and the next window behind it are read as both windows in one
abbrev pub WindowsAgree : Type 0
WindowsAgree = (bs more rest rest' : List ℕ) (r s t : Register) → Played bs r rest s → Played (rest ++ more) s rest' t → Played (bs ++ more) r rest' t

-- nothing more can be read and done: a part of a record is left, or what comes next is refused
abbrev pub Ended : (rest : List ℕ) → Register → Type 0
Ended rest s = (is_part rest ≡ true) ⊎ Stuck rest s

-- the same bytes, done to the same register, have one end
abbrev pub OneEnd : Type 0
OneEnd = (bs rest rest' : List ℕ) (r s s' : Register) → Played bs r rest s → Ended rest s → Played bs r rest' s' → Ended rest' s' → (rest ≡ rest') × (s ≡ s')
