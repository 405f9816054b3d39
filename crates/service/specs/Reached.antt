-- A running store of some possible list of events.
-- The moments are the readings of the store's own clock: from when it came up it counts exactly.
use Rattle.std.specs.Prelude.{◌≡◌, ℕ, ◌+◌, ◌-◌, true, List}
use Rattle.lease.specs.Clocks.{Times, Counts}
use Rattle.service.specs.Calls.{Store}
use Rattle.service.specs.World.{Event, Possible, after_all}
use Rattle.service.specs.Promise.{Promise, CanEnd}
use Rattle.service.specs.Held.{limits}

-- how long offices act on leases, and how far clocks are off; moments are milliseconds
abbrev pub times_of : (short rate : ℕ) → Times
times_of short rate = record { short = short; rate = rate; grain = 1 }

-- after these events the store is up, is this one, and its clock shows that
pub record Reached (long short rate : ℕ) (s : Store) (reading : ℕ) : Type 0 where
  pub events : List Event
  pub possible : Possible (limits long) (times_of short rate) events
  pub up : (after_all (limits long) (times_of short rate) events).is_up ≡ true
  pub store : (after_all (limits long) (times_of short rate) events).store ≡ s
  -- the moment at which it came up
  pub since : ℕ
  pub clock : (after_all (limits long) (times_of short rate) events).clock ≡ (λ t. t - since)
  pub moment : (after_all (limits long) (times_of short rate) events).moment ≡ since + reading

-- the store is that of a world that has all the promises, whatever clocks the offices have
pub record Promised (long short rate : ℕ) (clocks : ℕ → ℕ → ℕ) (s : Store) (reading : ℕ) : Type 0 where
  pub events : List Event
  pub possible : Possible (limits long) (times_of short rate) events
  pub up : (after_all (limits long) (times_of short rate) events).is_up ≡ true
  pub store : (after_all (limits long) (times_of short rate) events).store ≡ s
  pub reads : (after_all (limits long) (times_of short rate) events).clock (after_all (limits long) (times_of short rate) events).moment ≡ reading
  pub promise : Promise (limits long) (times_of short rate) clocks (after_all (limits long) (times_of short rate) events)
  pub can_end : CanEnd (limits long) (times_of short rate) clocks events

-- the store has all the promises
abbrev pub HasPromises : (long short rate : ℕ) → Store → (reading : ℕ) → Type 0
HasPromises long short rate s t = (clocks : ℕ → ℕ → ℕ) → ((o : ℕ) → Counts (times_of short rate) 0 (clocks o)) → ∥ Promised long short rate clocks s t ∥₁
