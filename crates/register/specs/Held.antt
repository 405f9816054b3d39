-- The code's register and records as the rules see them.
use Rattle.std.specs.Prelude.{◌≡◌, ℕ, ◌+◌, ◌^◌, Bool, true, false, ◌&&◌, List, [], ◌∷◌, None, Ok, Err, Some, Option, Result, nat_lt, slice_get, option_and_then}
use Rattle.table.specs.Held.{row_of, entry_of}
use Rattle.change.specs.declared.kinds.Index.{Index}
use Rattle.change.specs.Protocol.{Head}
use Rattle.change.specs.Index.{About}
use Rattle.change.specs.OneChange.{is_none}
use Rattle.change.specs.declared.kinds.Refusal.{Refusal}
use Rattle.change.specs.Heads.{slot_of, number_of}
use Rattle.stage.specs.Stages.{ranks}
use Rattle.register.specs.declared.kinds.Record.{Record}
use Rattle.register.specs.declared.kinds.Record.TheVariants.{Put, Removed, Made, WentUp, Turned, WentDown, Filled, Cleared, CameUp}
use Rattle.register.specs.declared.place.Place.{Place}
use Rattle.register.specs.declared.owner.Register.{Register}
use Rattle.register.specs.Registers as rules
use Rattle.register.specs.Registers.{put, removed, made, went_up, turned, went_down, filled, cleared, came_up, doable}

-- the entries of each index, key by key
abbrev pub entry_in : List Place → (index key : ℕ) → Option ℕ
entry_in ps i k = option_and_then (λ (p : Place). entry_of p.entries k) (slice_get ps i)

-- the head of each index
abbrev pub head_in : List Place → (index : ℕ) → Head About
head_in ps i = slot_of (option_and_then (λ (p : Place). p.head) (slice_get ps i))

-- the register
abbrev pub register_of : Register → rules.Register
register_of r = record { row = row_of r.rows; entry = entry_in r.places; head = head_in r.places; epoch = r.epoch }

-- a record
abbrev pub record_of : Record → rules.Record
record_of (Put k n ss) = put k.number n (ranks ss)
record_of (Removed k ss) = removed k.number (ranks ss)
record_of (Made i c u) = made i.number c.number u
record_of (WentUp i) = went_up i.number
record_of (Turned i) = turned i.number
record_of (WentDown i) = went_down i.number
record_of (Filled i k) = filled i.number k.number
record_of (Cleared i k) = cleared i.number k.number
record_of CameUp = came_up

-- the number of comings-up stays below 2 ^ 64
abbrev pub counts : rules.Record → rules.Register → Bool
counts (put k n ss) r = true
counts (removed k ss) r = true
counts (made i c u) r = true
counts (went_up i) r = true
counts (turned i) r = true
counts (went_down i) r = true
counts (filled i k) r = true
counts (cleared i k) r = true
counts came_up r = nat_lt (r.epoch + 1) (2 ^ 64)

-- a record can be done
abbrev pub can_do : rules.Record → rules.Register → Bool
can_do x r = doable 4096 8 8 x r && counts x r

-- a record that can be done is done; one that cannot is refused, and changes nothing
abbrev pub Applied : {X Y : Type 0} → Result X Y → rules.Record → (before after : rules.Register) → Type 0
Applied (Ok u) x r s = (can_do x r ≡ true) × (s ≡ rules.applied x r)
Applied (Err e) x r s = (can_do x r ≡ false) × (s ≡ r)

-- can each of these records be done once those before it are
unfoldable pub can_do_all : List rules.Record → rules.Register → Bool
can_do_all [] r = true
can_do_all (x ∷ xs) r = can_do x r && can_do_all xs (rules.applied x r)

-- records that can be done in order are done; else they are refused by 1
abbrev pub Replayed : {X : Type 0} → Result X Refusal → List rules.Record → (before after : rules.Register) → Type 0
Replayed (Ok u) xs r s = (can_do_all xs r ≡ true) × (s ≡ rules.replayed xs r)
Replayed (Err e) xs r s = (can_do_all xs r ≡ false) × (number_of e ≡ 1)

-- a step of one index is done where it may be, and leaves the index this head and these entries; else nothing changes
abbrev pub OneStep : {X Y : Type 0} → Result X Y → (may : Bool) → Head About → (entries : ℕ → Option ℕ) → (before after : Place) → Type 0
OneStep (Ok u) may h es p q = (may ≡ true) × (slot_of q.head ≡ h) × ((j : ℕ) → entry_of q.entries j ≡ es j)
OneStep (Err e) may h es p q = (may ≡ false) × (slot_of q.head ≡ slot_of p.head) × ((j : ℕ) → entry_of q.entries j ≡ entry_of p.entries j)

-- a step of the head alone is done where nothing is against it
abbrev pub HeadStep : {X Y : Type 0} → Result X Y → (why_not : Head About → Option ℕ) → (next : Head About → Head About) → (before after : Place) → Type 0
HeadStep r why_not next p q = OneStep r (is_none (why_not (slot_of p.head))) (next (slot_of p.head)) (entry_of p.entries) p q

-- what is answered of a head is the head from then on; where the answer is a refusal, or no index is there, nothing changes
abbrev pub HeadFrom : (Index → Result (Option Index) Refusal → Type 0) → {X : Type 0} → Result X Refusal → (before after : Option Index) → Type 0
HeadFrom answers (Ok u) None h = ⊥
HeadFrom answers (Ok u) (Some x) h = answers x (Ok h)
HeadFrom answers (Err e) None h = h ≡ None
HeadFrom answers (Err e) (Some x) h = answers x (Err e) × (h ≡ Some x)
