-- An index as a kind of change: the rows that it is over, its entries, and what is done to them.
use Rattle.std.specs.Prelude.{◌≡◌, ℕ, ◌<◌, ◌≤◌, Bool, true, false, cond, Some, None, Option}
use Rattle.table.specs.Update.{update}
use Rattle.stage.specs.Stages.{put_in, entry_after, refused_by}
use Rattle.change.specs.Protocol.{Head, gone, there, done_of, turned_down, onward}

-- what an index is about
pub record About : Type 0 where
  pub column : ℕ
  pub unique : Bool

-- is there an index, and a unique one
abbrev pub unique_of : Head About → Bool
unique_of gone = false
unique_of (there a w s d) = a.unique

-- a unique index refuses, for whoever is in write-only or public, a row whose value another key has an entry for
abbrev pub refuses : (keys : ℕ) → Head About → (stage key : ℕ) → (row : Option ℕ) → (entries : ℕ → Option ℕ) → Bool
refuses keys h s k r es = refused_by keys (unique_of h) s es k r

-- the entries after somebody in a stage has changed a key's row to new
abbrev pub entries_written : (stage key : ℕ) → (new : Option ℕ) → (rows entries : ℕ → Option ℕ) → ℕ → Option ℕ
entries_written s k new rows es = update k (entry_after s (rows k) new (es k)) es

-- the entries after backfill at a key
abbrev pub backfilled : (key : ℕ) → (rows entries : ℕ → Option ℕ) → ℕ → Option ℕ
backfilled k rows es = update k (put_in (rows k) (es k)) es

-- the entries after cleanup at a key
abbrev pub cleaned_up : (key : ℕ) → (entries : ℕ → Option ℕ) → ℕ → Option ℕ
cleaned_up k es = update k None es

-- is the value of the next key to backfill taken, in a unique index
abbrev pub must_turn : (keys : ℕ) → (rows entries : ℕ → Option ℕ) → Head About → Bool
must_turn keys rows es h = refuses keys h 2 (done_of h) (rows (done_of h)) es

-- the head after a backfill of the next key: the change turns where its value is taken
abbrev pub head_filled : (keys : ℕ) → (rows entries : ℕ → Option ℕ) → Head About → Head About
head_filled keys rows es h = cond (must_turn keys rows es h) (turned_down h) (onward h)

-- the entries after a backfill of the next key
abbrev pub entries_filled : (keys : ℕ) → (rows entries : ℕ → Option ℕ) → Head About → ℕ → Option ℕ
entries_filled keys rows es h k = cond (must_turn keys rows es h) (es k) (backfilled (done_of h) rows es k)

-- what each key's row has in the index's column, and the entries
pub record Part : Type 0 where
  pub rows : ℕ → Option ℕ
  pub entries : ℕ → Option ℕ

-- no entry without its row
abbrev pub NoOrphan : (rows entries : ℕ → Option ℕ) → Type 0
NoOrphan rows es = (k v : ℕ) → es k ≡ Some v → rows k ≡ Some v

-- no two keys have one value
abbrev pub NoneTwice : (ℕ → Option ℕ) → Type 0
NoneTwice f = (k j v : ℕ) → f k ≡ Some v → f j ≡ Some v → k ≡ j

-- only keys below the bound have rows and entries
abbrev pub Always : (keys : ℕ) → Part → Type 0
Always keys x = (k : ℕ) → keys ≤ k → (x.rows k ≡ None) × (x.entries k ≡ None)

-- no entry without its row, and in a unique index no two for one value
abbrev pub Base : About → Part → Type 0
Base a x = NoOrphan x.rows x.entries × (a.unique ≡ true → NoneTwice x.entries)

-- no key below the bound has an entry
abbrev pub NoneTo : ℕ → Part → Type 0
NoneTo n x = (k : ℕ) → k < n → x.entries k ≡ None

-- every key below the bound has its row's entry
abbrev pub AllTo : About → ℕ → Part → Type 0
AllTo a n x = (k : ℕ) → k < n → x.entries k ≡ x.rows k

-- somebody in a stage changes a key's row
pub data Writes (keys : ℕ) (h : Head About) (s : ℕ) (x : Part) : Part → Type 0 where
  writes : (k : ℕ) (new : Option ℕ) → k < keys → refuses keys h s k new x.entries ≡ false →
      Writes keys h s x (record { rows = update k new x.rows; entries = entries_written s k new x.rows x.entries })

-- backfill at a key whose value no other key has
pub data Fills (keys : ℕ) (h : Head About) (k : ℕ) (x : Part) : Part → Type 0 where
  fills : refuses keys h 2 k (x.rows k) x.entries ≡ false → Fills keys h k x (record { rows = x.rows; entries = backfilled k x.rows x.entries })

-- cleanup at a key
pub data Clears (k : ℕ) (x : Part) : Part → Type 0 where
  clears : Clears k x (record { rows = x.rows; entries = cleaned_up k x.entries })
