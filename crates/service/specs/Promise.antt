-- What is promised of every list of events, from an empty register on.
use Rattle.std.specs.Prelude.{◌≡◌, ℕ, ◌+◌, ◌*◌, ◌^◌, ◌<◌, ◌≤◌, true, ◌||◌, ◌⊎◌, List, [], ◌∷◌, ◌++◌, length, Some, None, ◌≢◌}
use Rattle.table.specs.declared.row.Row.{Row}
use Rattle.table.specs.Update.{keys_for}
use Rattle.change.specs.Protocol.{Way, up, gone, there, stage_of}
use Rattle.change.specs.Index.{About, unique_of, NoOrphan, NoneTwice}
use Rattle.register.specs.Registers.{Register, Record, came_up, rows_of, cell_of, row_after, all_doable, bare}
use Rattle.lease.specs.Leases.{Lease, stage_at, Among, Once}
use Rattle.lease.specs.Clocks.{Times, Counts, Fit}
use Rattle.service.specs.Calls.{Limits, Claim, Call, write, take_away, read, look, loan, make, raise, turn, lower, fill, clear, by_all_rows, Answer, ok, there_is, found, lent, refused, no_office, no_key, no_claim, no_lease, answered}
use Rattle.service.specs.World.{Reply, World, written, says, Has, list_of, Event, passes, calls, syncs, stops, comes_up, then, after_all, Possible, Acts, Runs}

-- two keys have rows with one value in the column of an index
abbrev pub Alike : Register → (index : ℕ) → Type 0
Alike r i = (k j v : ℕ) × (k ≢ j) × (rows_of i r k ≡ Some v) × (rows_of i r j ≡ Some v)

-- the records that were written for these answers, which are newest first: oldest first
unfoldable pub records_of : List Reply → List Record
records_of [] = []
records_of (r ∷ rs) = records_of rs ++ list_of r.wrote

-- these are in the list, in their order, others between them
pub data InOrder {A : Type 0} : List A → List A → Type 0 where
  none_left : {ys : List A} → InOrder [] ys
  this : {x : A} {xs ys : List A} → InOrder xs ys → InOrder (x ∷ xs) (x ∷ ys)
  not_this : {y : A} {xs ys : List A} → InOrder xs ys → InOrder xs (y ∷ ys)

-- since the store came up last exactly the records of its answers are written, in their order
pub record SinceUp (w : World) : Type 0 where
  -- what was written before
  pub old : List Record
  -- the answers since, and those of earlier epochs that went out
  pub since : List Reply
  pub earlier : List Reply
  pub replies : w.waiting ++ w.told ≡ since ++ earlier
  pub records : written w ≡ old ++ came_up ∷ records_of since

-- a call that an office makes on a claim
pub data OnClaim (o : ℕ) (c : Claim) : Call → Type 0 where
  writes : (k : ℕ) (n : Row) → OnClaim o c (write o c k n)
  takes : (k : ℕ) → OnClaim o c (take_away o c k)
  looks : (i v : ℕ) → OnClaim o c (look o c i v)

-- a call that takes a change a step further
abbrev pub ServesBy : Call → Type 0
ServesBy (raise i) = Unit {0}
ServesBy (turn i) = Unit {0}
ServesBy (lower i) = Unit {0}
ServesBy (fill i) = Unit {0}
ServesBy (clear i) = Unit {0}
ServesBy (write o c k n) = ⊥
ServesBy (take_away o c k) = ⊥
ServesBy (read o k) = ⊥
ServesBy (look o c i v) = ⊥
ServesBy (loan o) = ⊥
ServesBy (make i c u) = ⊥
ServesBy (by_all_rows i v) = ⊥

-- an event that writes no row, makes no index and stops nothing
abbrev pub Serves : Event → Type 0
Serves (passes t) = Unit {0}
Serves (calls a c) = ServesBy c
Serves syncs = Unit {0}
Serves (stops n) = ⊥
Serves (comes_up c) = Unit {0}

-- what is synced stays, whatever comes
abbrev pub Stays : Limits → Times → Type 0
Stays m p = (more es : List Event) → (xs : List Record) × ((after_all m p (more ++ es)).journal ≡ (after_all m p es).journal ++ xs)

-- a stop leaves what was written after some earlier event
abbrev pub StopsBetween : Limits → Times → Type 0
StopsBetween m p = (es : List Event) (n : ℕ) → (late early : List Event) × (late ++ early ≡ es) × (written (after_all m p (stops n ∷ es)) ≡ written (after_all m p early))

module _ (m : Limits) (p : Times) (clocks : ℕ → ℕ → ℕ) where
  -- somebody is in a stage of an index: by a lease that the store has noted and that runs, or by their own clock
  pub data In (w : World) (i s : ℕ) : Type 0 where
    by_store : (l : Lease) → Among l w.store.leases → Runs m p w l → stage_at l.stages i ≡ s → In w i s
    by_own : (o a : ℕ) (c : Claim) → Has w o a c → Acts m p clocks w o a → stage_at c.stages i ≡ s → In w i s

  -- what the store answers now
  abbrev pub answer : World → Call → Answer
  answer w c = answered m w.store (w.clock w.moment) c

  -- what may be answered to a write: 1 where it is out of range, 2 where no lease of its epoch and stages runs, 4 only where another key's row has the value in a unique index
  pub data ToWrite (w : World) (o : ℕ) (c : Claim) (k : ℕ) (n : Row) : Answer → Type 0 where
    done : ToWrite w o c k n ok
    out_of_range : (no_office m o || no_key m k || no_claim m c) ≡ true → ToWrite w o c k n (refused 1)
    no_lease_runs : no_lease m w.store (w.clock w.moment) o c ≡ true → ToWrite w o c k n (refused 2)
    taken : (i j v : ℕ) → unique_of ((says w).head i) ≡ true → (j ≢ k) → rows_of i (says w) j ≡ Some v → cell_of ((says w).head i) (Some n) ≡ Some v → ToWrite w o c k n (refused 4)

  -- what may be answered to a reading
  pub data ToRead (w : World) (o k : ℕ) : Answer → Type 0 where
    its_row : (n : Row) → (says w).row k ≡ Some n → ToRead w o k (there_is n)
    out_of_range : (no_office m o || no_key m k) ≡ true → ToRead w o k (refused 1)
    is_no_row : (says w).row k ≡ None → ToRead w o k (refused 9)

  -- what the store answers while it is up
  pub record Answers (w : World) : Type 0 where
    pub writing : (o : ℕ) (c : Claim) (k : ℕ) (n : Row) → ToWrite w o c k n (answer w (write o c k n))
    pub reading : (o k : ℕ) → ToRead w o k (answer w (read o k))
    -- what is looked up by an index is what a look through all rows finds
    pub looking : (o : ℕ) (c : Claim) (i v : ℕ) (ks : List ℕ) → answer w (look o c i v) ≡ found ks → ks ≡ keys_for m.keys (rows_of i (says w)) v
    -- a lease is refused to no office in range
    pub lending : (o : ℕ) → o < m.offices → (c : Claim) × (answer w (loan o) ≡ lent c)
    -- whoever acts on a lease of this epoch is never refused by 2
    pub acting : (o a : ℕ) (c : Claim) (x : Call) → Has w o a c → Acts m p clocks w o a → c.epoch ≡ (says w).epoch → OnClaim o c x → answer w x ≢ refused 2
    -- and a row that it writes to a key in range is refused by nothing but 4
    pub serving : (o a : ℕ) (c : Claim) (k : ℕ) (n : Row) → Has w o a c → Acts m p clocks w o a → c.epoch ≡ (says w).epoch → k < m.keys → (answer w (write o c k n) ≡ ok) ⊎ (answer w (write o c k n) ≡ refused 4)
    -- a refusal changes nothing
    pub refusing : (a : ℕ) (x : Call) (n : ℕ) → answer w x ≡ refused n → let v = then m p (calls a x) w in (v.store ≡ w.store) × (v.pending ≡ w.pending) × (v.journal ≡ w.journal)

  -- what holds at every moment
  pub record Promise (w : World) : Type 0 where
    -- any two who are in a stage of an index are at most one apart
    pub one_apart : (i s t : ℕ) → In w i s → In w i t → s ≤ t + 1
    -- no entry without its row
    pub no_orphan : (i : ℕ) → NoOrphan (rows_of i (says w)) ((says w).entry i)
    -- whoever is in public finds by the index what a look through all rows finds
    pub looks_right : (i v : ℕ) → In w i 3 → keys_for m.keys ((says w).entry i) v ≡ keys_for m.keys (rows_of i (says w)) v
    -- no two rows have one value in a unique index that is public, or that somebody is in public of
    pub one_number : (i : ℕ) → unique_of ((says w).head i) ≡ true → In w i 3 ⊎ (stage_of ((says w).head i) ≡ 3) → NoneTwice (rows_of i (says w))
    -- an index that is gone leaves no entry
    pub leaves_nothing : (i : ℕ) → (says w).head i ≡ gone → (k : ℕ) → (says w).entry i k ≡ None
    -- the register is what its journal says
    pub lasts : w.is_up ≡ true → w.store.register ≡ says w
    -- what was answered is synced, in the order of the answers
    pub answered_lasts : InOrder (records_of w.told) w.journal
    -- and nothing else is written while the store is up
    pub exact : w.is_up ≡ true → SinceUp w
    -- a key's row is what the last write or taking away left
    pub rows : (k : ℕ) → (says w).row k ≡ row_after k (written w) None
    -- the journal can be replayed: each record can be done once those before it are
    pub replays : all_doable m.keys m.indexes m.columns (written w) bare ≡ true
    -- no office has two leases of the same stages in the book
    pub book_once : Once w.store.leases
    -- and the book stays small
    pub book_small : length w.store.leases ≤ m.offices * 2 ^ m.indexes
    -- what is answered while the store is up
    pub answers : w.is_up ≡ true → Answers w

  -- an index is public, and nobody is in another stage
  abbrev pub Public : (index : ℕ) → About → World → Type 0
  Public i a w = (d : ℕ) × ((says w).head i ≡ there a up 3 d) × ((s : ℕ) → In w i s → s ≡ 3)

  -- an index is gone, and no entry of it is left
  abbrev pub Gone : (index : ℕ) → World → Type 0
  Gone i w = ((says w).head i ≡ gone) × ((k : ℕ) → (says w).entry i k ≡ None)

  -- more events that serve lead to such a world, with the same rows, all synced
  abbrev pub Leads : List Event → (World → Type 0) → Type 0
  Leads es P = (more : List Event) × ((e : Event) → Among e more → Serves e) × Possible m p (more ++ es) ×
      (let w = after_all m p (more ++ es) in ((says w).row ≡ (says (after_all m p es)).row) × (w.pending ≡ []) × P w)

  -- an index that goes up can be brought to public, or else, and never both, it is unique and two rows have one value; and any can be brought to be gone
  abbrev pub CanEnd : List Event → Type 0
  CanEnd es = (i : ℕ) (a : About) (x : Way) (s d : ℕ) → (says (after_all m p es)).head i ≡ there a x s d →
      let twice = (a.unique ≡ true) × Alike (says (after_all m p es)) i in
      (x ≡ up → Leads es (Public i a) ⊎ twice) × (Leads es (Public i a) → twice → ⊥) × Leads es (Gone i)

  -- the theorem: for fitting times and clocks that count, all of this holds after every list of events
  abbrev pub Keeps : Type 0
  Keeps = Fit m.long p → ((o : ℕ) → Counts p 0 (clocks o)) → (es : List Event) → Possible m p es → Promise (after_all m p es) × CanEnd es
