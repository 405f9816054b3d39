-- What a window of bytes leaves a reader with.
use Rattle.std.specs.Prelude.{◌≡◌, ℕ, List, Ok, Err, vec_items, Result}
use Rattle.change.specs.Heads.{number_of}
use Rattle.register.specs.Registers as rules
use Rattle.register.specs.Held.{register_of}
use Rattle.replay.specs.declared.reader.Reader.{Reader}
use Rattle.replay.specs.declared.error.NotRead.{NotRead}
use Rattle.replay.specs.declared.error.NotRead.TheVariants.{NoMemory, Refused}
use Rattle.replay.specs.Played.{Through, Refusing}

-- all whole records of the bytes are done, and a part of one is kept; or the bytes are refused by 1, since something in them cannot be read or be done
abbrev pub Windowed : Result Reader NotRead → (bytes : List ℕ) → rules.Register → Type 0
Windowed (Ok d) bs r = Through bs r (vec_items d.rest) (register_of d.register)
Windowed (Err NoMemory) bs r = Unit {0}
Windowed (Err (Refused e)) bs r = (number_of e ≡ 1) × ((s : rules.Register) × Refusing bs r s)
