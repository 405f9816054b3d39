-- What the store answers to a call at a reading of its clock, and which record it writes for it.
use Rattle.std.specs.Prelude.{ℕ, Bool, cond, not, ◌||◌, List, Some, None, Option, ◌==◌, nat_lt}
use Rattle.keyset.specs.Sets.{any_below}
use Rattle.table.specs.declared.row.Row.{Row}
use Rattle.table.specs.Update.{keys_for}
use Rattle.change.specs.Protocol.{stage_of, done_of, is_gone, why_not_make, why_not_up, why_not_turn, why_not_down, why_not_fill, why_not_clear}
use Rattle.change.specs.Index.{must_turn}
use Rattle.register.specs.Registers.{Register, Record, put, removed, made, went_up, turned, went_down, filled, cleared, rows_of, stages_now, refused_by, applied, no_row, are_stages}
use Rattle.lease.specs.Leases.{Lease, stage_at, holds, all_at, noted}

-- how many keys, indexes, columns and offices there are, and how long a lease runs by the store's clock
pub record Limits : Type 0 where
  pub keys : ℕ
  pub indexes : ℕ
  pub columns : ℕ
  pub offices : ℕ
  pub long : ℕ

-- the register and the book of leases
pub record Store : Type 0 where
  pub register : Register
  pub leases : List Lease

-- what a call is made on: the epoch, and a stage for each index
pub record Claim : Type 0 where
  pub epoch : ℕ
  pub stages : List ℕ

-- the calls
pub data Call : Type 0 where
  write : (office : ℕ) (claim : Claim) (key : ℕ) (row : Row) → Call
  take_away : (office : ℕ) (claim : Claim) (key : ℕ) → Call
  read : (office key : ℕ) → Call
  look : (office : ℕ) (claim : Claim) (index value : ℕ) → Call
  loan : (office : ℕ) → Call
  make : (index column : ℕ) (unique : Bool) → Call
  raise turn lower fill clear : (index : ℕ) → Call
  by_all_rows : (index value : ℕ) → Call

-- the answers
pub data Answer : Type 0 where
  ok : Answer
  there_is : (row : Row) → Answer
  found : (keys : List ℕ) → Answer
  lent : (claim : Claim) → Answer
  turned_back : Answer
  refused : (number : ℕ) → Answer

-- what is answered to a reading
abbrev pub row_answer : Option Row → Answer
row_answer None = refused 9
row_answer (Some n) = there_is n

-- the answer: a refusal, or what is granted
abbrev pub answer_by : (why : Option ℕ) → Answer → Answer
answer_by None a = a
answer_by (Some n) a = refused n

-- nothing is written for a refusal
abbrev pub record_by : (why : Option ℕ) → Option Record → Option Record
record_by None x = x
record_by (Some n) x = None

module _ (m : Limits) where
  -- is an office out of range
  abbrev pub no_office : ℕ → Bool
  no_office o = not (nat_lt o m.offices)

  -- is a key out of range
  abbrev pub no_key : ℕ → Bool
  no_key k = not (nat_lt k m.keys)

  -- is an index out of range
  abbrev pub no_index : ℕ → Bool
  no_index i = not (nat_lt i m.indexes)

  -- is a column out of range
  abbrev pub no_column : ℕ → Bool
  no_column c = not (nat_lt c m.columns)

  -- is it no claim: not one stage for each index
  abbrev pub no_claim : Claim → Bool
  no_claim c = not (are_stages m.indexes c.stages)

-- the limits, the store, and what its clock shows
module _ (m : Limits) (s : Store) (t : ℕ) where
  -- has an office no lease that runs, of this epoch and these stages
  abbrev pub no_lease : (office : ℕ) → Claim → Bool
  no_lease o c = not (c.epoch == s.register.epoch) || not (holds m.long t o c.stages s.leases)

  -- is every lease that runs of the index's own stage
  abbrev pub alone : (index : ℕ) → Bool
  alone i = all_at m.long t i (stage_of (s.register.head i)) s.leases

  -- a change that may take a step may not take it while the store is quiet after a stop: 8
  abbrev pub unless_quiet : (why : Option ℕ) → Option ℕ
  unless_quiet None = cond (nat_lt t m.long) (Some 8) None
  unless_quiet (Some n) = Some n

  -- does backfill find the value of the next key taken
  abbrev pub turns_back : (index : ℕ) → Bool
  turns_back i = must_turn m.keys (rows_of i s.register) (s.register.entry i) (s.register.head i)

  -- by which number a call is refused: the lowest that applies
  abbrev pub why_not : Call → Option ℕ
  why_not (write o c k n) = cond (no_office m o || no_key m k || no_claim m c) (Some 1) (cond (no_lease o c) (Some 2) (cond (any_below (refused_by m.keys s.register c.stages k n) m.indexes) (Some 4) None))
  why_not (take_away o c k) = cond (no_office m o || no_key m k || no_claim m c) (Some 1) (cond (no_lease o c) (Some 2) (cond (no_row (s.register.row k)) (Some 9) None))
  why_not (read o k) = cond (no_office m o || no_key m k) (Some 1) (cond (no_row (s.register.row k)) (Some 9) None)
  why_not (look o c i v) = cond (no_office m o || no_index m i || no_claim m c) (Some 1) (cond (no_lease o c) (Some 2) (cond (not (stage_at c.stages i == 3)) (Some 3) None))
  why_not (loan o) = cond (no_office m o) (Some 1) None
  why_not (make i c u) = cond (no_index m i || no_column m c) (Some 1) (why_not_make (s.register.head i))
  why_not (raise i) = cond (no_index m i) (Some 1) (unless_quiet (why_not_up m.keys (alone i) (s.register.head i)))
  why_not (turn i) = cond (no_index m i) (Some 1) (unless_quiet (why_not_turn (alone i) (s.register.head i)))
  why_not (lower i) = cond (no_index m i) (Some 1) (unless_quiet (why_not_down m.keys (alone i) (s.register.head i)))
  why_not (fill i) = cond (no_index m i) (Some 1) (unless_quiet (why_not_fill m.keys (alone i) (s.register.head i)))
  why_not (clear i) = cond (no_index m i) (Some 1) (unless_quiet (why_not_clear m.keys (alone i) (s.register.head i)))
  why_not (by_all_rows i v) = cond (no_index m i) (Some 1) (cond (is_gone (s.register.head i)) (Some 6) None)

  -- what is answered to a call that is not refused
  abbrev pub granted : Call → Answer
  granted (write o c k n) = ok
  granted (take_away o c k) = ok
  granted (read o k) = row_answer (s.register.row k)
  granted (look o c i v) = found (keys_for m.keys (s.register.entry i) v)
  granted (loan o) = lent (record { epoch = s.register.epoch; stages = stages_now m.indexes s.register })
  granted (make i c u) = ok
  granted (raise i) = ok
  granted (turn i) = ok
  granted (lower i) = ok
  granted (fill i) = cond (turns_back i) turned_back ok
  granted (clear i) = ok
  granted (by_all_rows i v) = found (keys_for m.keys (rows_of i s.register) v)

  -- the record of a call that is not refused; backfill that finds a value taken turns the change
  abbrev pub record_of : Call → Option Record
  record_of (write o c k n) = Some (put k n c.stages)
  record_of (take_away o c k) = Some (removed k c.stages)
  record_of (read o k) = None
  record_of (look o c i v) = None
  record_of (loan o) = None
  record_of (make i c u) = Some (made i c u)
  record_of (raise i) = Some (went_up i)
  record_of (turn i) = Some (turned i)
  record_of (lower i) = Some (went_down i)
  record_of (fill i) = Some (cond (turns_back i) (turned i) (filled i (done_of (s.register.head i))))
  record_of (clear i) = Some (cleared i (done_of (s.register.head i)))
  record_of (by_all_rows i v) = None

  -- what is answered to a call
  abbrev pub answered : Call → Answer
  answered c = answer_by (why_not c) (granted c)

  -- the record that is written for a call, if one is
  abbrev pub recorded : Call → Option Record
  recorded c = record_by (why_not c) (record_of c)

  -- the lease that an office is given
  abbrev pub lease_for : (office : ℕ) → Lease
  lease_for o = record { office = o; stages = stages_now m.indexes s.register; since = t }

  -- the book after a call
  abbrev pub leases_after : Call → List Lease
  leases_after (loan o) = cond (no_office m o) s.leases (noted m.long (lease_for o) s.leases)
  leases_after (write o c k n) = s.leases
  leases_after (take_away o c k) = s.leases
  leases_after (read o k) = s.leases
  leases_after (look o c i v) = s.leases
  leases_after (make i c u) = s.leases
  leases_after (raise i) = s.leases
  leases_after (turn i) = s.leases
  leases_after (lower i) = s.leases
  leases_after (fill i) = s.leases
  leases_after (clear i) = s.leases
  leases_after (by_all_rows i v) = s.leases

  -- the register once a record, if there is one, is done
  abbrev pub applied_maybe : Option Record → Register
  applied_maybe None = s.register
  applied_maybe (Some x) = applied x s.register

  -- the store after a call
  abbrev pub after : Call → Store
  after c = record { register = applied_maybe (recorded c); leases = leases_after c }
