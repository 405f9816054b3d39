-- What holds of the bytes of records.
use Rattle.std.specs.Prelude.{◌≡◌, ℕ, ◌+◌, ◌≤◌, true, ◌⊎◌, List, ◌∷◌, ◌++◌, length, take, drop, Ok, Result}
use Rattle.register.specs.Registers.{Record}
use Rattle.register.specs.Held.{record_of}
use Rattle.register.specs.declared.kinds.Record.{Record as Coded}
use Rattle.journal.specs.declared.error.Unread.{Unread}
use Rattle.journal.specs.Bytes.{bytes_of, all_bytes, Writable, AllWritable, is_part}
use Rattle.journal.specs.Reads.{Reads, Refused}

-- no two records have the same bytes, and none's begin another's
abbrev pub NoTwo : Type 0
NoTwo = (x y : Record) (r s : List ℕ) → Writable x → Writable y → bytes_of x ++ r ≡ bytes_of y ++ s → (x ≡ y) × (r ≡ s)

-- where a record's bytes stand that record is read, and no other
abbrev pub ReadBack : Type 0
ReadBack = (x : Record) (before rest : List ℕ) (r : Result (Coded × ℕ) Unread) → Writable x → Reads (before ++ (bytes_of x ++ rest)) (length before) r
    → (y : Coded) × (e : ℕ) × (r ≡ Ok (y, e)) × (record_of y ≡ x) × (e ≡ length before + length (bytes_of x))

-- wherever the bytes of records are cut off, whole records are left, and a part of the next one or nothing
abbrev pub CutAnywhere : Type 0
CutAnywhere = (xs : List Record) (n : ℕ) → AllWritable xs
    → (k : ℕ) × (part : List ℕ) × (m : ℕ) × (take n (all_bytes xs) ≡ all_bytes (take k xs) ++ part) × (is_part part ≡ true) × (part ≡ take m (all_bytes (drop k xs)))

-- records before which nothing is cut off are all left
abbrev pub CutBehind : Type 0
CutBehind = (xs ys : List Record) (n : ℕ) → AllWritable ys → length (all_bytes xs) ≤ n
    → (k : ℕ) × (part : List ℕ) × (take n (all_bytes (xs ++ ys)) ≡ all_bytes (xs ++ take k ys) ++ part) × (is_part part ≡ true)

-- what begins with an unknown byte is refused, and never taken for a part that may be cut off
abbrev pub UnknownRefused : Type 0
UnknownRefused = (k : ℕ) (bs : List ℕ) → (k ≡ 0) ⊎ (10 ≤ k) → Refused (k ∷ bs)
