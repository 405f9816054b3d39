-- Records read of bytes and done, one after the other.
use Rattle.std.specs.Prelude.{◌≡◌, ℕ, ◌≤◌, true, false, ◌⊎◌, List, ◌++◌, length, drop, Ok, Err, Result}
use Rattle.change.specs.declared.kinds.Refusal.{Refusal}
use Rattle.change.specs.Heads.{number_of}
use Rattle.register.specs.Registers.{Register, Record, replayed}
use Rattle.register.specs.Held.{can_do, can_do_all}
use Rattle.journal.specs.Bytes.{bytes_of, all_bytes, Writable, AllWritable, is_part}
use Rattle.journal.specs.Reads.{Refused}

-- the bytes begin with records that can be done in order; this is left of the bytes, and this is the register once they are done
pub record Played (bytes : List ℕ) (before : Register) (rest : List ℕ) (after : Register) : Type 0 where
  pub records : List Record
  pub writable : AllWritable records
  pub begin : bytes ≡ all_bytes records ++ rest
  pub can : can_do_all records before ≡ true
  pub did : after ≡ replayed records before

-- what comes next is neither a record nor a part of one, or it is a record that cannot be done
abbrev pub Stuck : List ℕ → Register → Type 0
Stuck bs r = Refused bs ⊎ ((x : Record) × (rest : List ℕ) × Writable x × (bs ≡ bytes_of x ++ rest) × (can_do x r ≡ false))

-- all whole records are done, and a part of one is left, or nothing
abbrev pub Through : (bytes : List ℕ) → (before : Register) → (rest : List ℕ) → (after : Register) → Type 0
Through bs r rest s = Played bs r rest s × (is_part rest ≡ true)

-- the records before the first that cannot be read, or be done, are done
abbrev pub Refusing : (bytes : List ℕ) → (before after : Register) → Type 0
Refusing bs r s = (rest : List ℕ) × Played bs r rest s × Stuck rest s

-- what is answered to bytes: up to which place they were done; or they are refused by 1
abbrev pub Answered : Result ℕ Refusal → (bytes : List ℕ) → (before after : Register) → Type 0
Answered (Ok n) bs r s = (n ≤ length bs) × Through bs r (drop n bs) s
Answered (Err e) bs r s = (number_of e ≡ 1) × Refusing bs r s
