-- One change of an index, whoever holds a stage of it, and the steps that they take together.
use Rattle.std.specs.Prelude.{◌≡◌, ℕ, zero, suc, Bool, true, false, cond, not, ◌&&◌, ◌||◌, List, [], ◌∷◌, Some, None, Option, ◌==◌, nat_lt}
use Rattle.table.specs.Update.{update}
use Rattle.change.specs.Protocol.{Head, gone, there, up, stage_of, done_of, raised, turned_down, lowered, onward, why_not_make, why_not_up, why_not_turn, why_not_down, why_not_fill, why_not_clear}
use Rattle.change.specs.Index.{About, refuses, entries_written, cleaned_up, head_filled, entries_filled}

-- the rows' values in the index's column, its entries, the change's head, and the stages that are held, one for each holder
pub record State : Type 0 where
  pub rows : ℕ → Option ℕ
  pub entries : ℕ → Option ℕ
  pub head : Head About
  pub holders : List ℕ

-- no rows, no entries, no change, no holders
abbrev pub empty : State
empty = record { rows = λ k. None; entries = λ k. None; head = gone; holders = [] }

-- does somebody hold this stage
abbrev pub holds : ℕ → List ℕ → Bool
holds s [] = false
holds s (h ∷ hs) = h == s || holds s hs

-- do all hold this stage
abbrev pub all_at : ℕ → List ℕ → Bool
all_at s [] = true
all_at s (h ∷ hs) = h == s && all_at s hs

-- the holders but the one at this place
abbrev pub without : ℕ → List ℕ → List ℕ
without n [] = []
without zero (h ∷ hs) = hs
without (suc n) (h ∷ hs) = h ∷ without n hs

-- do all hold the change's own stage
abbrev pub alone : State → Bool
alone w = all_at (stage_of w.head) w.holders

-- what can happen: a holder of a stage changes a key's row (None: takes it away), somebody comes to hold the change's own stage, the holder at a place leaves, or the change makes a step
pub data Step : Type 0 where
  writes : (stage key : ℕ) (row : Option ℕ) → Step
  joins : Step
  leaves : (place : ℕ) → Step
  made : (about : About) → Step
  goes_up turns goes_down fills clears : Step

-- why a step may not be taken: 1 no such key, 2 nobody holds that stage, 4 not unique, 5 to 7 the change may not do it now
abbrev pub why_not : (keys : ℕ) → Step → State → Option ℕ
why_not keys (writes s k r) w = cond (not (nat_lt k keys)) (Some 1) (cond (not (holds s w.holders)) (Some 2) (cond (refuses keys w.head s k r w.entries) (Some 4) None))
why_not keys joins w = None
why_not keys (leaves n) w = None
why_not keys (made a) w = why_not_make w.head
why_not keys goes_up w = why_not_up keys (alone w) w.head
why_not keys turns w = why_not_turn (alone w) w.head
why_not keys goes_down w = why_not_down keys (alone w) w.head
why_not keys fills w = why_not_fill keys (alone w) w.head
why_not keys clears w = why_not_clear keys (alone w) w.head

-- the state with another head
abbrev pub with_head : Head About → State → State
with_head h w = record { rows = w.rows; entries = w.entries; head = h; holders = w.holders }

-- the state with other holders
abbrev pub with_holders : List ℕ → State → State
with_holders hs w = record { rows = w.rows; entries = w.entries; head = w.head; holders = hs }

-- the state after a step
abbrev pub after : (keys : ℕ) → Step → State → State
after keys (writes s k r) w = record { rows = update k r w.rows; entries = entries_written s k r w.rows w.entries; head = w.head; holders = w.holders }
after keys joins w = with_holders (stage_of w.head ∷ w.holders) w
after keys (leaves n) w = with_holders (without n w.holders) w
after keys (made a) w = with_head (there a up 0 0) w
after keys goes_up w = with_head (raised w.head) w
after keys turns w = with_head (turned_down w.head) w
after keys goes_down w = with_head (lowered w.head) w
after keys fills w = record { rows = w.rows; entries = entries_filled keys w.rows w.entries w.head; head = head_filled keys w.rows w.entries w.head; holders = w.holders }
after keys clears w = record { rows = w.rows; entries = cleaned_up (done_of w.head) w.entries; head = onward w.head; holders = w.holders }

-- the state after these steps
abbrev pub after_all : (keys : ℕ) → List Step → State → State
after_all keys [] w = w
after_all keys (s ∷ ss) w = after_all keys ss (after keys s w)

-- was nothing refused
abbrev pub is_none : Option ℕ → Bool
is_none None = true
is_none (Some n) = false

-- may these steps be taken, each after those before it
abbrev pub may_all : (keys : ℕ) → List Step → State → Bool
may_all keys [] w = true
may_all keys (s ∷ ss) w = is_none (why_not keys s w) && may_all keys ss (after keys s w)

-- a state that some steps lead to from the empty one
abbrev pub Reach : (keys : ℕ) → State → Type 0
Reach keys w = (ss : List Step) × (may_all keys ss empty ≡ true) × (after_all keys ss empty ≡ w)
