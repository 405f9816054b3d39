-- The kinds of records.
use Rattle.std.specs.Prelude.{ℕ}
use Rattle.journal.specs.declared.kinds.Kind.{Kind}
use Rattle.journal.specs.declared.kinds.Kind.TheVariants.{Put, Removed, Made, WentUp, Turned, WentDown, Filled, Cleared, CameUp}

-- the first byte of the records of a kind
abbrev pub first_byte : Kind → ℕ
first_byte Put = 1
first_byte Removed = 2
first_byte Made = 3
first_byte WentUp = 4
first_byte Turned = 5
first_byte WentDown = 6
first_byte Filled = 7
first_byte Cleared = 8
first_byte CameUp = 9
