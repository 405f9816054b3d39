-- What writing bytes leaves.
use Rattle.std.specs.Prelude.{◌≡◌, ℕ, List, ◌++◌, Ok, Err, Result}

module _ {X Y : Type 0} where
  -- the bytes stand behind those that were there; where memory is short some other bytes may
  abbrev pub Added : Result X Y → (bytes before after : List ℕ) → Type 0
  Added (Ok u) bs old new = new ≡ old ++ bs
  Added (Err e) bs old new = (more : List ℕ) × (new ≡ old ++ more)

  -- the bytes stand behind those that were there; where memory is short nothing changes
  abbrev pub Written : Result X Y → (bytes before after : List ℕ) → Type 0
  Written (Ok u) bs old new = new ≡ old ++ bs
  Written (Err e) bs old new = new ≡ old
