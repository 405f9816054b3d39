-- What the code finds of a call before it is done.
use Rattle.std.specs.Prelude.{◌≡◌, ℕ, Bool, Some, None, Option, Result}
use Rattle.std.specs.Result.{result_err}
use Rattle.change.specs.declared.kinds.Index.{Index}
use Rattle.change.specs.declared.kinds.Refusal.{Refusal}
use Rattle.change.specs.Protocol.{Head}
use Rattle.change.specs.Index.{About}
use Rattle.change.specs.Heads.{head_of, number_of, numbered}
use Rattle.register.specs.declared.kinds.Record.{Record}
use Rattle.service.specs.declared.kinds.Call.{Call}
use Rattle.service.specs.declared.kinds.Answer.{Answer}
use Rattle.service.specs.declared.grant.Failure.{Failure}
use Rattle.service.specs.declared.grant.Failure.TheVariants.{Refused, NoMemory}
use Rattle.service.specs.Calls.{Store, why_not, granted, record_of}
use Rattle.service.specs.Held.{limits, call_of, answer_of, record_in}

-- a step that answers so refuses by these numbers, whether all running leases are of its stage (alone) or not
abbrev pub RefusesBy : {T : Type 0} → (Answers : Index → Bool → Result T Refusal → Type 0) → (why : Bool → Head About → Option ℕ) → Type 0
RefusesBy {T} Answers why = (head : Index) (alone : Bool) (r : Result T Refusal) → Answers head alone r → numbered (result_err r) ≡ why alone (head_of head)

-- a call is granted at a reading, with this answer and this record
pub record Granted (long : ℕ) (s : Store) (t : ℕ) (c : Call) (a : Answer) (x : Option Record) : Type 0 where
  pub allowed : why_not (limits long) s t (call_of c) ≡ None
  pub answers : answer_of a ≡ granted (limits long) s t (call_of c)
  pub writes : record_in x ≡ record_of (limits long) s t (call_of c)

-- why it is not: it is refused, or there is no memory
abbrev pub NotGranted : (long : ℕ) → Store → (t : ℕ) → Call → Failure → Type 0
NotGranted long s t c (Refused e) = why_not (limits long) s t (call_of c) ≡ Some (number_of e)
NotGranted long s t c (NoMemory e) = Unit {0}
