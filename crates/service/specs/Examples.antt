-- A run that can come about, with two keys and one index: what is promised is not promised of nothing.
use Rattle.std.specs.Prelude.{◌≡◌, ℕ, ◌-◌, true, List, [], ◌∷◌, Some}
use Rattle.table.specs.declared.row.Row.{Row}
use Rattle.table.specs.Update.{keys_for}
use Rattle.change.specs.Protocol.{up, there}
use Rattle.register.specs.Registers.{put, made, went_up, filled, came_up}
use Rattle.lease.specs.Clocks.{Times, Counts, Fit}
use Rattle.service.specs.Calls.{Limits, Claim, ok, refused, write, loan, make, raise, fill}
use Rattle.service.specs.World.{World, written, says, Has, Acts, Event, passes, calls, syncs, stops, comes_up, Possible, after_all}
use Rattle.service.specs.Promise.{In, answer}

-- two keys, one index, one column, two offices
abbrev pub small : Limits
small = record { keys = 2; indexes = 1; columns = 1; offices = 2; long = 20 }

-- times that fit
abbrev pub times : Times
times = record { short = 10; rate = 100; grain = 1 }

-- every office's clock is right
abbrev pub clocks : ℕ → ℕ → ℕ
clocks o t = t

-- so is the store's, from the moment at which it came up
abbrev pub since : ℕ → ℕ → ℕ
since u t = t - u

-- a row
abbrev pub row : ℕ → Row
row v = record { columns = v ∷ [] }

-- the claim of a lease of public in epoch 1
abbrev pub three : Claim
three = record { epoch = 1; stages = 3 ∷ [] }

-- newest first: a unique index is brought to public in one group, with one sync, and two offices get their leases with another
abbrev pub to_public : List Event
to_public =
    syncs ∷ passes 1 ∷ calls 30 (loan 1) ∷ calls 31 (loan 0) ∷ passes 1
    ∷ syncs ∷ calls 0 (raise 0) ∷ calls 0 (fill 0) ∷ calls 0 (fill 0) ∷ calls 0 (raise 0) ∷ calls 0 (raise 0) ∷ calls 0 (make 0 0 true)
    ∷ passes 25 ∷ comes_up (since 5) ∷ passes 5 ∷ []

-- then of a group of four writes a stop keeps three, the machine, while the store is down, two of these, and the store comes up again
abbrev pub run : List Event
run =
    comes_up (since 33) ∷ stops 2 ∷ passes 1 ∷ stops 3
    ∷ calls 32 (write 1 three 1 (row 6)) ∷ calls 32 (write 0 three 0 (row 9)) ∷ calls 32 (write 1 three 0 (row 8)) ∷ calls 32 (write 0 three 1 (row 7))
    ∷ to_public

-- the world in which the index is public
abbrev pub public : World
public = after_all small times to_public

-- the world in which the store is up again
abbrev pub end : World
end = after_all small times run

-- this run can come about, and leads there
pub record CanRun : Type 0 where
  pub fits : Fit small.long times
  pub counts : (o : ℕ) → Counts times 0 (clocks o)
  pub possible : Possible small times run
  -- an office acts on the lease that it was told in this epoch, and its write is done
  pub told : Has public 0 31 three
  pub acts : Acts small times clocks public 0 31
  pub epoch : three.epoch ≡ (says public).epoch
  pub wrote : answer small times clocks public (write 0 three 1 (row 7)) ≡ ok
  -- a value that another key has is refused
  pub taken : answer small times clocks (after_all small times (calls 32 (write 0 three 1 (row 7)) ∷ to_public)) (write 1 three 0 (row 7)) ≡ refused 4
  -- two of the four writes were kept
  pub left : written end ≡ came_up ∷ made 0 0 true ∷ went_up 0 ∷ went_up 0 ∷ filled 0 0 ∷ filled 0 1 ∷ went_up 0 ∷ put 1 (row 7) (3 ∷ []) ∷ put 0 (row 8) (3 ∷ []) ∷ came_up ∷ []
  pub head : (says end).head 0 ≡ there (record { column = 0; unique = true }) up 3 0
  pub rows : ((says end).row 0 ≡ Some (row 8)) × ((says end).row 1 ≡ Some (row 7))
  pub found : (keys_for 2 ((says end).entry 0) 7 ≡ 1 ∷ []) × (keys_for 2 ((says end).entry 0) 8 ≡ 0 ∷ []) × (keys_for 2 ((says end).entry 0) 9 ≡ [])
  -- an office is in public by its own clock, on a lease of the epoch before
  pub in_public : In small times clocks end 0 3
