-- What one change promises at every moment, whatever steps led there.
use Rattle.std.specs.Prelude.{◌≡◌, ℕ, ◌+◌, ◌<◌, ◌≤◌, Bool, true, false, ◌&&◌, ◌⊎◌, List, [], ◌∷◌, Some, None, Option, ◌≢◌}
use Rattle.table.specs.Update.{keys_for}
use Rattle.change.specs.Protocol.{gone, there, up, down, stage_of}
use Rattle.change.specs.Index.{About, unique_of, refuses, must_turn, NoOrphan, NoneTwice}
use Rattle.change.specs.OneChange.{State, Step, writes, joins, leaves, made, goes_up, turns, goes_down, fills, clears, holds, why_not, after, after_all, may_all, Reach}

-- does a step only serve the change: it writes no row and makes no change
abbrev pub serves : Step → Bool
serves (writes s k r) = false
serves joins = true
serves (leaves n) = true
serves (made a) = false
serves goes_up = true
serves turns = true
serves goes_down = true
serves fills = true
serves clears = true

-- do all these steps serve the change
abbrev pub all_serve : List Step → Bool
all_serve [] = true
all_serve (s ∷ ss) = serves s && all_serve ss

-- serving steps that may be taken, and leave the rows as they are, lead to a state such as P says
abbrev pub CanCome : (keys : ℕ) → State → (State → Type 0) → Type 0
CanCome keys w P = (ss : List Step) × (all_serve ss ≡ true) × (may_all keys ss w ≡ true) × ((after_all keys ss w).rows ≡ w.rows) × P (after_all keys ss w)

-- the change is public
abbrev pub Done : About → State → Type 0
Done a w = (d : ℕ) × (w.head ≡ there a up 3 d)

-- the change is gone, and no entry is left
abbrev pub Undone : State → Type 0
Undone w = (w.head ≡ gone) × ((k : ℕ) → w.entries k ≡ None)

-- two keys have rows with one value
abbrev pub Twice : (keys : ℕ) → (rows : ℕ → Option ℕ) → Type 0
Twice keys rows = (k j v : ℕ) × (k < keys) × (j < keys) × (k ≢ j) × (rows k ≡ Some v) × (rows j ≡ Some v)

-- somebody holds the index as public
abbrev pub HeldPublic : State → Type 0
HeldPublic w = holds 3 w.holders ≡ true

-- what holds of a state
pub record Keeps (keys : ℕ) (w : State) : Type 0 where
  -- any two holders are at most one stage apart
  pub one_apart : (s t : ℕ) → holds s w.holders ≡ true → holds t w.holders ≡ true → s ≤ t + 1
  -- no entry without its row
  pub no_orphan : NoOrphan w.rows w.entries
  -- whoever holds it as public finds by the index what a look through all rows finds
  pub looks_right : HeldPublic w → (v : ℕ) → keys_for keys w.entries v ≡ keys_for keys w.rows v
  -- no two rows have one value in a unique index that is public, or held as public
  pub one_number : unique_of w.head ≡ true → HeldPublic w ⊎ (stage_of w.head ≡ 3) → NoneTwice w.rows
  -- a row is refused only where another key's row has its value
  pub refused_rightly : (s k v : ℕ) → refuses keys w.head s k (Some v) w.entries ≡ true → (j : ℕ) × (j < keys) × (j ≢ k) × (w.rows j ≡ Some v)
  -- a change that is gone leaves no entry
  pub leaves_nothing : w.head ≡ gone → (k : ℕ) → w.entries k ≡ None
  -- a change that goes up can be brought to public, or its index is unique, two rows have one value, and it can be undone
  pub can_end : (a : About) (s d : ℕ) → w.head ≡ there a up s d → CanCome keys w (Done a) ⊎ ((a.unique ≡ true) × Twice keys w.rows × CanCome keys w Undone)
  -- and never both
  pub not_both : (a : About) → CanCome keys w (Done a) → a.unique ≡ true → Twice keys w.rows → ⊥
  -- a change that goes up can at any time be turned and undone
  pub can_turn : (a : About) (s d : ℕ) → w.head ≡ there a up s d → CanCome keys w Undone
  -- a change that goes down can be undone
  pub can_undo : (a : About) (s d : ℕ) → w.head ≡ there a down s d → CanCome keys w Undone

-- the theorem of one change: in every state that steps lead to, all of this holds
abbrev pub OneChange : Type 0
OneChange = (keys : ℕ) (w : State) → Reach keys w → Keeps keys w

-- a backfill at a key whose value is taken is the step `turns`
abbrev pub FillTurns : Type 0
FillTurns = (keys : ℕ) (w : State) → why_not keys fills w ≡ None → must_turn keys w.rows w.entries w.head ≡ true → (why_not keys turns w ≡ None) × (after keys fills w ≡ after keys turns w)
