-- What is read of bytes.
use Rattle.std.specs.Prelude.{◌≡◌, ℕ, ◌<◌, ◌≤◌, true, false, List, ◌++◌, length, drop, Some, None, Ok, Err, Option, Result, ◌≢◌}
use Rattle.register.specs.declared.kinds.Record.{Record}
use Rattle.register.specs.Held.{record_of}
use Rattle.journal.specs.declared.error.Unread.{Unread}
use Rattle.journal.specs.declared.error.Unread.TheVariants.{Part, Bad}
use Rattle.journal.specs.Bytes.{Writable, bytes_of, is_part}

-- no value's bytes stand first among these
abbrev pub NoneOf : {X : Type 0} → (X → List ℕ) → (X → Type 0) → List ℕ → Type 0
NoneOf {X} f P bs = (x : X) (rest : List ℕ) → P x → bs ≢ f x ++ rest

-- what was read of bytes: the value whose bytes they are, or there is none
abbrev pub ReadOf : {X : Type 0} → (X → List ℕ) → (X → Type 0) → List ℕ → Option X → Type 0
ReadOf {X} f P bs None = (x : X) → P x → bs ≢ f x
ReadOf f P bs (Some x) = P x × (bs ≡ f x)

-- a stage that is written: an absent one is not
abbrev pub IsWritten : ℕ → Type 0
IsWritten s = (0 < s) × (s ≤ 3)

-- neither a record nor a part of one
abbrev pub Refused : List ℕ → Type 0
Refused bs = (is_part bs ≡ false) × NoneOf bytes_of Writable bs

-- what was read of the bytes from a place on: a record up to another place, a part of one, or neither
abbrev pub Reads : List ℕ → (at : ℕ) → Result (Record × ℕ) Unread → Type 0
Reads bs at (Ok (x, e)) = Writable (record_of x) × (drop at bs ≡ bytes_of (record_of x) ++ drop e bs) × (e ≤ length bs)
Reads bs at (Err Part) = is_part (drop at bs) ≡ true
Reads bs at (Err Bad) = Refused (drop at bs)
