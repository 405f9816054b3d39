-- The code's store, calls and answers as the rules see them.
use Rattle.std.specs.Prelude.{◌≡◌, ℕ, true, Some, None, vec_items, Option}
use Rattle.stage.specs.Stages.{ranks}
use Rattle.change.specs.Heads.{number_of}
use Rattle.register.specs.declared.kinds.Record as codes
use Rattle.register.specs.Registers as rules
use Rattle.register.specs.Held.{register_of}
use Rattle.register.specs.Held as held
use Rattle.lease.specs.Books.{book_of}
use Rattle.service.specs.declared.kinds.Claim.{Claim}
use Rattle.service.specs.declared.kinds.Call.{Call}
use Rattle.service.specs.declared.kinds.Call.TheVariants.{Write, TakeAway, Read, Look, Loan, Make, Raise, Turn, Lower, Fill, Clear, ByAllRows}
use Rattle.service.specs.declared.kinds.Answer.{Answer}
use Rattle.service.specs.declared.kinds.Answer.TheVariants.{Done, Row, Keys, Lent, Turned, Refused}
use Rattle.service.specs.declared.owner.State.{State}
use Rattle.service.specs.Calls as calls
use Rattle.service.specs.Calls.{Limits, write, take_away, read, look, loan, make, raise, turn, lower, fill, clear, by_all_rows, ok, there_is, found, lent, turned_back, refused}

-- the limits of the code; long is set when the store comes up
abbrev pub limits : (long : ℕ) → Limits
limits long = record { keys = 4096; indexes = 8; columns = 8; offices = 64; long = long }

-- the store
abbrev pub store_of : State → calls.Store
store_of s = record { register = register_of s.register; leases = book_of (vec_items s.book.leases) }

-- a claim
abbrev pub claim_of : Claim → calls.Claim
claim_of c = record { epoch = c.epoch; stages = ranks c.stages }

-- a call
abbrev pub call_of : Call → calls.Call
call_of (Write o c k n) = write o (claim_of c) k.number n
call_of (TakeAway o c k) = take_away o (claim_of c) k.number
call_of (Read o k) = read o k.number
call_of (Look o c i v) = look o (claim_of c) i.number v
call_of (Loan o) = loan o
call_of (Make i c u) = make i.number c.number u
call_of (Raise i) = raise i.number
call_of (Turn i) = turn i.number
call_of (Lower i) = lower i.number
call_of (Fill i) = fill i.number
call_of (Clear i) = clear i.number
call_of (ByAllRows i v) = by_all_rows i.number v

-- an answer
abbrev pub answer_of : Answer → calls.Answer
answer_of Done = ok
answer_of (Row n) = there_is n
answer_of (Keys v) = found (vec_items v)
answer_of (Lent c) = lent (claim_of c)
answer_of Turned = turned_back
answer_of (Refused e) = refused (number_of e)

-- a record that may be there
abbrev pub record_in : Option codes.Record → Option rules.Record
record_in None = None
record_in (Some x) = Some (held.record_of x)

-- a record that can be done is done; without one nothing is
abbrev pub Carried : Option rules.Record → (before after : rules.Register) → Type 0
Carried None r q = q ≡ r
Carried (Some x) r q = held.can_do x r ≡ true → q ≡ rules.applied x r

-- a call comes at a reading: what is answered, the record that is written, and the store afterwards
pub record Called (long : ℕ) (before after : calls.Store) (t : ℕ) (c : Call) (a : Answer) (x : Option codes.Record) : Type 0 where
  pub answers : answer_of a ≡ calls.answered (limits long) before t (call_of c)
  pub writes : record_in x ≡ calls.recorded (limits long) before t (call_of c)
  pub leaves : after ≡ calls.after (limits long) before t (call_of c)
