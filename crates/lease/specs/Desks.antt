-- An office's own side: what it asked for, and what it was granted.
use Rattle.std.specs.Prelude.{ℕ, ◌+◌, ◌-◌, ◌^◌, min, Bool, cond, List, [], ◌∷◌, Some, None, vec_items, filter, Option}
use Rattle.stage.specs.declared.kinds.Stage.{Stage}
use Rattle.lease.specs.declared.office.Grant.{Grant}
use Rattle.lease.specs.declared.office.Desk as code
use Rattle.lease.specs.Clocks.{acts}

-- for how long the office acts on a grant, what its clock showed as it asked for one that has not come, and its grants, the newest first
pub record Desk : Type 0 where
  pub short : ℕ
  pub asked : Option ℕ
  pub grants : List Grant

-- the code's desk
abbrev pub desk_of : code.Desk → Desk
desk_of d = record { short = d.short; asked = d.asked; grants = vec_items d.grants }

-- a desk with no grant, where nothing was asked for
abbrev pub fresh : (short : ℕ) → Desk
fresh short = record { short = short; asked = None; grants = [] }

-- the desk once the office has asked
abbrev pub asks : (own : ℕ) → Desk → Desk
asks own d = record { short = d.short; asked = Some own; grants = d.grants }

-- does the office act on a grant at a reading of its own clock
abbrev pub acts_on : (short own : ℕ) → Grant → Bool
acts_on short own g = acts short g.asked own

-- the grants once there is a new one: those that were over as it was asked for are dropped
abbrev pub with_new : (short : ℕ) → (new : Grant) → List Grant → List Grant
with_new short n gs = n ∷ filter (acts_on short n.asked) gs

-- the desk once the answer has come to what was asked for, if anything was
abbrev pub told : (asked : Option ℕ) → (epoch : ℕ) → (stages : List Stage) → Desk → Desk
told None e ss d = d
told (Some a) e ss d = record { short = d.short; asked = None; grants = with_new d.short (record { epoch = e; stages = ss; asked = a }) d.grants }

-- until which reading of its own clock the office acts on what it asked for; a clock shows less than 2 ^ 64
abbrev pub until : (short : ℕ) → (asked : Option ℕ) → Option ℕ
until short None = None
until short (Some a) = Some (min (a + short) (2 ^ 64 - 1))

-- the newest grant, if the office acts on it at a reading of its own clock
abbrev pub newest_acted : (short own : ℕ) → List Grant → Option Grant
newest_acted short own [] = None
newest_acted short own (g ∷ gs) = cond (acts_on short own g) (Some g) None
