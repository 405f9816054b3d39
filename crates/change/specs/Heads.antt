-- A head of the code as the stage protocol sees it, and what a step of it answers.
use Rattle.std.specs.Prelude.{◌≡◌, ℕ, Bool, Some, None, Ok, Err, Option, Result}
use Rattle.keyset.specs.declared.number.Number.{Number}
use Rattle.table.specs.declared.row.OfColumn.{OfColumn}
use Rattle.stage.specs.Stages.{rank}
use Rattle.change.specs.declared.kinds.Way.{Way}
use Rattle.change.specs.declared.kinds.Way.TheVariants.{Up, Down}
use Rattle.change.specs.declared.kinds.Index.{Index}
use Rattle.change.specs.declared.kinds.Refusal.{Refusal}
use Rattle.change.specs.declared.kinds.Refusal.TheVariants.{OutOfRange, NoLease, NotPublic, NotUnique, OtherStage, NotFilled, NotCleared, OtherWay, LastStage, NoIndex, IndexThere, NotNow, AllDone, Quiet, NoRow}
use Rattle.change.specs.Protocol.{Head, gone, there, up, down}
use Rattle.change.specs.Index.{About}
use Rattle.change.specs.Batches.{Work}

-- what an index is about
abbrev pub about_of : Number OfColumn 8 → Bool → About
about_of c u = record { column = c.number; unique = u }

-- a head by its way
abbrev pub head_by : About → (done : ℕ) → Way → Head About
head_by a d (Up s) = there a up (rank s) d
head_by a d (Down s) = there a down (rank s) d

-- the head of an index that is there
abbrev pub head_of : Index → Head About
head_of x = head_by (about_of x.column x.unique) x.done x.way

-- the head of an index that may be gone
abbrev pub slot_of : Option Index → Head About
slot_of None = gone
slot_of (Some x) = head_of x

-- the numbers of refusals
abbrev pub number_of : Refusal → ℕ
number_of OutOfRange = 1
number_of NoLease = 2
number_of NotPublic = 3
number_of NotUnique = 4
number_of OtherStage = 5
number_of NotFilled = 5
number_of NotCleared = 5
number_of OtherWay = 6
number_of LastStage = 6
number_of NoIndex = 6
number_of IndexThere = 6
number_of NotNow = 7
number_of AllDone = 7
number_of Quiet = 8
number_of NoRow = 9

-- the number of a refusal, if there is one
abbrev pub numbered : Option Refusal → Option ℕ
numbered None = None
numbered (Some e) = Some (number_of e)

-- a step hands back the head after it where nothing is against it, and else the refusal of that number
abbrev pub Stepped : {X : Type 0} → (X → Head About) → Result X Refusal → (why : Option ℕ) → (after : Head About) → Type 0
Stepped view (Ok x) why h = (why ≡ None) × (view x ≡ h)
Stepped view (Err e) why h = why ≡ Some (number_of e)

-- a head and its entries, to be worked on
abbrev pub work_on : Index → (ℕ → Option ℕ) → Work
work_on x es = record { head = head_of x; entries = es }

-- backfill or cleanup hands back the head after the work, with the entries after it; where something is against it, the refusal of that number, and the entries are as they were
abbrev pub Worked : Result Index Refusal → (why : Option ℕ) → (before after : ℕ → Option ℕ) → Work → Type 0
Worked (Ok x) why es fs w = (why ≡ None) × (work_on x fs ≡ w)
Worked (Err e) why es fs w = (why ≡ Some (number_of e)) × (fs ≡ es)
