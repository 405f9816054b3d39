-- What becomes of one record.
use Rattle.std.specs.Prelude.{◌≡◌, ℕ, ◌<◌, ◌≤◌, true, List, ◌++◌, length, drop, Some, None, Ok, Err, Option, Result}
use Rattle.change.specs.declared.kinds.Refusal.{Refusal}
use Rattle.change.specs.Heads.{number_of}
use Rattle.register.specs.Registers.{Register, Record, applied}
use Rattle.register.specs.Held.{can_do}
use Rattle.journal.specs.Bytes.{bytes_of, Writable, is_part}
use Rattle.replay.specs.Played.{Stuck}

-- the record at a place is done, and ends at another; there is only a part of one; or it is refused by 1; then nothing is done
abbrev pub OneMore : Result (Option ℕ) Refusal → List ℕ → (at : ℕ) → (before after : Register) → Type 0
OneMore (Ok (Some e)) bs at r s = (x : Record) × Writable x × (drop at bs ≡ bytes_of x ++ drop e bs) × (at < e) × (e ≤ length bs) × (can_do x r ≡ true) × (s ≡ applied x r)
OneMore (Ok None) bs at r s = (is_part (drop at bs) ≡ true) × (s ≡ r)
OneMore (Err e) bs at r s = (number_of e ≡ 1) × Stuck (drop at bs) r × (s ≡ r)
