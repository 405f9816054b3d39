-- The register: rows, the entries and the head of each index, and the epoch; and the records of its journal, each a step.
use Rattle.std.specs.Prelude.{◌≡◌, ℕ, zero, suc, ◌+◌, Bool, true, false, cond, not, ◌&&◌, List, [], ◌∷◌, ◌++◌, length, Some, None, Option, ◌==◌, nat_le, nat_lt, slice_index}
use Rattle.table.specs.declared.row.Row.{Row}
use Rattle.table.specs.Update.{update}
use Rattle.table.specs.Columns.{value_in}
use Rattle.change.specs.Protocol.{Head, gone, there, up, stage_of, done_of, raised, turned_down, lowered, onward, why_not_make, why_not_up, why_not_turn, why_not_down, why_not_fill, why_not_clear}
use Rattle.change.specs.Index.{About, refuses, entries_written, backfilled, cleaned_up, must_turn}
use Rattle.change.specs.OneChange.{is_none}

-- each key's row, each index's entries and head, and how often the store has come up
pub record Register : Type 0 where
  pub row : ℕ → Option Row
  pub entry : (index key : ℕ) → Option ℕ
  pub head : (index : ℕ) → Head About
  pub epoch : ℕ

-- no rows, no entries, no indexes, never come up
abbrev pub bare : Register
bare = record { row = λ k. None; entry = λ i k. None; head = λ i. gone; epoch = 0 }

-- what an index that is there has of a row: the row's value in its column
abbrev pub cell_of : Head About → Option Row → Option ℕ
cell_of gone r = None
cell_of (there a w s d) r = value_in a.column r

-- what an index has of each key's row
abbrev pub rows_of : (index : ℕ) → Register → ℕ → Option ℕ
rows_of i r k = cell_of (r.head i) (r.row k)

-- the stages of all indexes
unfoldable pub stages_now : (indexes : ℕ) → Register → List ℕ
stages_now zero r = []
stages_now (suc n) r = stages_now n r ++ (stage_of (r.head n) ∷ [])

-- does an index refuse a key's row to whoever knows these stages
abbrev pub refused_by : (keys : ℕ) → Register → (stages : List ℕ) → (key : ℕ) → Row → (index : ℕ) → Bool
refused_by keys r ss k n i = refuses keys (r.head i) (slice_index ss i) k (cell_of (r.head i) (Some n)) (r.entry i)

-- the records of the journal; stages: those that the writer knew, one for each index
pub data Record : Type 0 where
  put : (key : ℕ) (row : Row) (stages : List ℕ) → Record
  removed : (key : ℕ) (stages : List ℕ) → Record
  made : (index column : ℕ) (unique : Bool) → Record
  went_up turned went_down : (index : ℕ) → Record
  filled cleared : (index key : ℕ) → Record
  came_up : Record

-- a key's row is put, changed or taken away by somebody who knows these stages
abbrev pub wrote : (key : ℕ) → Option Row → (stages : List ℕ) → Register → Register
wrote k n ss r = record {
  row = update k n r.row;
  entry = λ i. entries_written (slice_index ss i) k (cell_of (r.head i) n) (rows_of i r) (r.entry i);
  head = r.head;
  epoch = r.epoch;
}

-- an index has another head
abbrev pub with_head : (index : ℕ) → Head About → Register → Register
with_head i h r = record { row = r.row; entry = r.entry; head = update i h r.head; epoch = r.epoch }

-- an index has one more key done, and other entries
abbrev pub worked_on : (index : ℕ) → (entries : ℕ → Option ℕ) → Register → Register
worked_on i es r = record { row = r.row; entry = update i es r.entry; head = update i (onward (r.head i)) r.head; epoch = r.epoch }

-- a record is done: as a call is answered, and again as the store comes up
abbrev pub applied : Record → Register → Register
applied (put k n ss) r = wrote k (Some n) ss r
applied (removed k ss) r = wrote k None ss r
applied (made i c u) r = with_head i (there (record { column = c; unique = u }) up 0 0) r
applied (went_up i) r = with_head i (raised (r.head i)) r
applied (turned i) r = with_head i (turned_down (r.head i)) r
applied (went_down i) r = with_head i (lowered (r.head i)) r
applied (filled i k) r = worked_on i (backfilled k (rows_of i r) (r.entry i)) r
applied (cleared i k) r = worked_on i (cleaned_up k (r.entry i)) r
applied came_up r = record { row = r.row; entry = r.entry; head = r.head; epoch = r.epoch + 1 }

-- these records done, the oldest first
unfoldable pub replayed : List Record → Register → Register
replayed [] r = r
replayed (x ∷ xs) r = replayed xs (applied x r)

-- is there no row
abbrev pub no_row : Option Row → Bool
no_row None = true
no_row (Some n) = false

-- is each of these a stage
unfoldable pub all_stages : List ℕ → Bool
all_stages [] = true
all_stages (s ∷ ss) = nat_le s 3 && all_stages ss

-- are these stages, one for each index
abbrev pub are_stages : (indexes : ℕ) → List ℕ → Bool
are_stages n ss = length ss == n && all_stages ss

-- can a record be done: it is in range, and its row or index is in a state that allows it, if nobody is in another stage
abbrev pub doable : (keys indexes columns : ℕ) → Record → Register → Bool
doable keys indexes columns (put k n ss) r = nat_lt k keys && are_stages indexes ss
doable keys indexes columns (removed k ss) r = nat_lt k keys && are_stages indexes ss && not (no_row (r.row k))
doable keys indexes columns (made i c u) r = nat_lt i indexes && nat_lt c columns && is_none (why_not_make (r.head i))
doable keys indexes columns (went_up i) r = nat_lt i indexes && is_none (why_not_up keys true (r.head i))
doable keys indexes columns (turned i) r = nat_lt i indexes && is_none (why_not_turn true (r.head i))
doable keys indexes columns (went_down i) r = nat_lt i indexes && is_none (why_not_down keys true (r.head i))
doable keys indexes columns (filled i k) r = nat_lt i indexes && is_none (why_not_fill keys true (r.head i)) && k == done_of (r.head i) && not (must_turn keys (rows_of i r) (r.entry i) (r.head i))
doable keys indexes columns (cleared i k) r = nat_lt i indexes && is_none (why_not_clear keys true (r.head i)) && k == done_of (r.head i)
doable keys indexes columns came_up r = true

-- can each of these records be done once those before it are
unfoldable pub all_doable : (keys indexes columns : ℕ) → List Record → Register → Bool
all_doable keys indexes columns [] r = true
all_doable keys indexes columns (x ∷ xs) r = doable keys indexes columns x r && all_doable keys indexes columns xs (applied x r)

-- what a record leaves of a key's row
abbrev pub row_by : (key : ℕ) → Record → Option Row → Option Row
row_by k (put j n ss) r = cond (k == j) (Some n) r
row_by k (removed j ss) r = cond (k == j) None r
row_by k (made i c u) r = r
row_by k (went_up i) r = r
row_by k (turned i) r = r
row_by k (went_down i) r = r
row_by k (filled i j) r = r
row_by k (cleared i j) r = r
row_by k came_up r = r

-- a key's row after these records, the oldest first: what the last that put it, or took it away, left
unfoldable pub row_after : (key : ℕ) → List Record → Option Row → Option Row
row_after k [] r = r
row_after k (x ∷ xs) r = row_after k xs (row_by k x r)

-- records done in two parts are done
abbrev pub ReplayedInParts : Type 0
ReplayedInParts = (xs ys : List Record) (r : Register) → replayed (xs ++ ys) r ≡ replayed ys (replayed xs r)

-- what becomes of indexes is no matter for a key's row
abbrev pub RowsReplayed : Type 0
RowsReplayed = (xs : List Record) (r : Register) (k : ℕ) → (replayed xs r).row k ≡ row_after k xs (r.row k)
