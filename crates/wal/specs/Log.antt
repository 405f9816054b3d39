-- What an append, a sync and a commit do to the two parts of a log: what a stop keeps, and what it may lose.
use Rattle.std.specs.Prelude.{◌≡◌, ℕ, List, [], ◌++◌, take, Ok, Err, Result}

module _ {A X Y : Type 0} where
  -- what is appended stands last in the pending part; where it fails some first part of it may
  abbrev pub Appended : Result X Y → (new durable pending durable' pending' : List A) → Type 0
  Appended (Ok x) xs d p d' p' = (d' ≡ d) × (p' ≡ p ++ xs)
  Appended (Err e) xs d p d' p' = (d' ≡ d) × ((n : ℕ) × (p' ≡ p ++ take n xs))

  -- after a sync all that was pending is durable; where it fails nothing more is known to be
  abbrev pub Synced : Result X Y → (durable pending durable' pending' : List A) → Type 0
  Synced (Ok x) d p d' p' = (d' ≡ d ++ p) × (p' ≡ [])
  Synced (Err e) d p d' p' = (d' ≡ d) × (p' ≡ p)

  -- a commit gives something out only when what it writes is durable, behind all that was there
  abbrev pub Committed : Result X Y → (X → Type 0) → (new durable pending durable' pending' : List A) → Type 0
  Committed (Ok x) P xs d p d' p' = P x × (d' ≡ d ++ (p ++ xs)) × (p' ≡ [])
  Committed (Err e) P xs d p d' p' = d' ≡ d
