-- What a record does to every index: a step of its change.
use Rattle.std.proofs.Common.{◌≡◌, ℕ, zero, suc, ◌<◌, ◌≤◌, Bool, true, false, cond, eqb, List, get_or, Some, None, Option, sym, refl, subst, arith, eqb-true}
use mathlib.Core.Path.{fun_ext}
use Rattle.table.specs.declared.row.Row.{Row}
use Rattle.table.specs.Update.{update}
use Rattle.change.specs.Protocol.{Head, gone, there, up, stage_of, done_of, raised, turned_down, lowered, onward, why_not_make, why_not_up, why_not_turn, why_not_down, why_not_fill, why_not_clear, AllAt, Sound}
use Rattle.change.specs.Index as index
use Rattle.change.specs.Index.{About, Part, refuses, entries_written, backfilled, cleaned_up, must_turn}
use Rattle.change.proofs.Protocol as protocol
use Rattle.change.proofs.IndexKind.{kind}
use Rattle.register.specs.Registers.{Register, Record, put, removed, made, went_up, turned, went_down, filled, cleared, came_up, cell_of, rows_of, wrote, with_head, worked_on, applied, doable}

-- what one index is over
abbrev pub part_by : Head About → (ℕ → Option Row) → (ℕ → Option ℕ) → Part
part_by h row es = record { rows = λ k. cell_of h (row k); entries = es }

abbrev pub Fine : (keys : ℕ) → Head About → (ℕ → Type 0) → (ℕ → Option Row) → (ℕ → Option ℕ) → Type 0
Fine keys h hs row es = Sound (kind keys) h hs (part_by h row es)

-- hs i s: somebody is in stage s of index i
pub record Good (keys indexes : ℕ) (hs : ℕ → ℕ → Type 0) (r : Register) : Type 0 where
  pub no_index : (i : ℕ) → indexes ≤ i → r.head i ≡ gone
  pub no_row : (k : ℕ) → keys ≤ k → r.row k ≡ None
  pub sound : (i : ℕ) → Fine keys (r.head i) (hs i) r.row (r.entry i)

-- one index of many
pub at_one : {A : Type 0} (P : ℕ → A → Type 0) (i : ℕ) (a : A) (f : ℕ → A) → P i a → ((j : ℕ) → P j (f j)) → (j : ℕ) → P j (update i a f j)
at_one P i a f new old j = go (eqb j i) refl
  where
    go : (b : Bool) → eqb j i ≡ b → P j (cond b a (f j))
    go true e = subst (λ x. P x a) (sym (eqb-true j i e)) new
    go false e = old j

at_two : {A B : Type 0} (P : ℕ → A → B → Type 0) (i : ℕ) (a : A) (f : ℕ → A) (b : B) (g : ℕ → B) → P i a b → ((j : ℕ) → P j (f j) (g j)) → (j : ℕ) → P j (update i a f j) (update i b g j)
at_two P i a f b g new old j = go (eqb j i) refl
  where
    go : (t : Bool) → eqb j i ≡ t → P j (cond t a (f j)) (cond t b (g j))
    go true e = subst (λ x. P x a b) (sym (eqb-true j i e)) new
    go false e = old j

-- a write changes what an index sees at that key
same_rows : (row : ℕ → Option Row) (h : Head About) (k : ℕ) (n : Option Row) → update k (cell_of h n) (λ j. cell_of h (row j)) ≡ (λ j. cell_of h (update k n row j))
same_rows row h k n = fun_ext (λ j. at (eqb j k) j)
  where
    at : (b : Bool) (j : ℕ) → cond b (cell_of h n) (cell_of h (row j)) ≡ cell_of h (cond b n (row j))
    at true j = refl
    at false j = refl

-- one index, whose part is what its head sees
module _ {keys : ℕ} (row : ℕ → Option Row) {hs : ℕ → Type 0} {es : ℕ → Option ℕ} where
  made_fine : (h : Head About) (a : About) → ((k : ℕ) → keys ≤ k → row k ≡ None) → why_not_make h ≡ None → Fine keys h hs row es → Fine keys (there a up 0 0) hs row es
  made_fine h a none e g =
      protocol.make (kind keys) h a _ e (λ k l. (let z = none k l in grind arith, (g.always k l).1)) (protocol.gone_none (kind keys) h e g) g

  raised_fine : (h : Head About) → why_not_up keys true h ≡ None → AllAt (stage_of h) hs → Fine keys h hs row es → Fine keys (raised h) hs row es
  raised_fine gone e all g = g
  raised_fine (there a w s d) e all g = protocol.raise (kind keys) true (there a w s d) e (λ _. all) g

  turned_fine : (h : Head About) → why_not_turn true h ≡ None → AllAt (stage_of h) hs → Fine keys h hs row es → Fine keys (turned_down h) hs row es
  turned_fine gone e all g = g
  turned_fine (there a w s d) e all g = protocol.turn (kind keys) true (there a w s d) e (λ _. all) g

  lowered_fine : (h : Head About) → why_not_down keys true h ≡ None → AllAt (stage_of h) hs → Fine keys h hs row es → Fine keys (lowered h) hs row es
  lowered_fine gone e all g = g
  lowered_fine (there a w zero d) e all g =
      let f = protocol.lower (kind keys) true (there a w zero d) e (λ _. all) g in
      record { always = λ k l. (refl, (f.always k l).1); near = f.near; by_head = f.by_head }
  lowered_fine (there a w (suc s) d) e all g = protocol.lower (kind keys) true (there a w (suc s) d) e (λ _. all) g

  filled_fine : (h : Head About) → why_not_fill keys true h ≡ None → AllAt (stage_of h) hs → must_turn keys (λ k. cell_of h (row k)) es h ≡ false → Fine keys h hs row es → Fine keys (onward h) hs row (backfilled (done_of h) (λ k. cell_of h (row k)) es)
  filled_fine gone e all free g = absurd (grind arith)
  filled_fine (there a w s d) e all free g = protocol.fill (kind keys) true _ (there a w s d) e (λ _. all) (index.fills free) g

  cleared_fine : (h : Head About) → why_not_clear keys true h ≡ None → AllAt (stage_of h) hs → Fine keys h hs row es → Fine keys (onward h) hs row (cleaned_up (done_of h) es)
  cleared_fine gone e all g = absurd (grind arith)
  cleared_fine (there a w s d) e all g = protocol.clear (kind keys) true _ (there a w s d) e (λ _. all) index.clears g

  written_fine : (h : Head About) (s k : ℕ) (n : Option Row) → k < keys → hs s → refuses keys h s k (cell_of h n) es ≡ false → Fine keys h hs row es
      → Fine keys h hs (update k n row) (entries_written s k (cell_of h n) (λ j. cell_of h (row j)) es)
  written_fine h s k n l held free g =
      let f = protocol.write (kind keys) _ h s held (index.writes k (cell_of h n) l free) g in
      let after = entries_written s k (cell_of h n) (λ j. cell_of h (row j)) es in
      subst (λ rows. Sound (kind keys) h hs (record { rows = rows; entries = after })) (same_rows row h k n) f

module _ (keys indexes columns : ℕ) (hs : ℕ → ℕ → Type 0) where
  -- where a record may be done: whoever writes is in the stages that it names and is not refused, and nobody is in another stage of an index that takes a step
  abbrev pub Allowed : Record → Register → Type 0
  Allowed (put k n ss) r = ((i : ℕ) → hs i (get_or ss i 0)) × ((i : ℕ) → refuses keys (r.head i) (get_or ss i 0) k (cell_of (r.head i) (Some n)) (r.entry i) ≡ false)
  Allowed (removed k ss) r = (i : ℕ) → hs i (get_or ss i 0)
  Allowed (made i c u) r = Unit {0}
  Allowed (went_up i) r = AllAt (stage_of (r.head i)) (hs i)
  Allowed (turned i) r = AllAt (stage_of (r.head i)) (hs i)
  Allowed (went_down i) r = AllAt (stage_of (r.head i)) (hs i)
  Allowed (filled i k) r = AllAt (stage_of (r.head i)) (hs i)
  Allowed (cleared i k) r = AllAt (stage_of (r.head i)) (hs i)
  Allowed came_up r = Unit {0}

  none_taken : (h : Head About) (s k : ℕ) (es : ℕ → Option ℕ) → refuses keys h s k (cell_of h None) es ≡ false
  none_taken h s k es = grind arith

  module _ (r : Register) (g : Good keys indexes hs r) where
    head_good : (i : ℕ) (h : Head About) → i < indexes → Fine keys h (hs i) r.row (r.entry i) → Good keys indexes hs (with_head i h r)
    head_good i h l new = record {
      no_index = at_one (λ j x. indexes ≤ j → x ≡ gone) i h r.head (λ q. absurd (omega arith)) g.no_index;
      no_row = g.no_row;
      sound = at_one (λ j x. Fine keys x (hs j) r.row (r.entry j)) i h r.head new g.sound;
    }

    worked_good : (i : ℕ) (es : ℕ → Option ℕ) → i < indexes → Fine keys (onward (r.head i)) (hs i) r.row es → Good keys indexes hs (worked_on i es r)
    worked_good i es l new = record {
      no_index = at_one (λ j x. indexes ≤ j → x ≡ gone) i (onward (r.head i)) r.head (λ q. absurd (omega arith)) g.no_index;
      no_row = g.no_row;
      sound = at_two (λ j x e. Fine keys x (hs j) r.row e) i (onward (r.head i)) r.head es r.entry new g.sound;
    }

    wrote_good : (k : ℕ) (n : Option Row) (ss : List ℕ) → k < keys → ((i : ℕ) → hs i (get_or ss i 0)) → ((i : ℕ) → refuses keys (r.head i) (get_or ss i 0) k (cell_of (r.head i) n) (r.entry i) ≡ false) → Good keys indexes hs (wrote k n ss r)
    wrote_good k n ss l held free = record {
      no_index = g.no_index;
      no_row = at_one (λ j x. keys ≤ j → x ≡ None) k n r.row (λ q. absurd (omega arith)) g.no_row;
      sound = λ i. written_fine r.row (r.head i) (get_or ss i 0) k n l (held i) (free i) (g.sound i);
    }

    pub record_good : (x : Record) → doable keys indexes columns x r ≡ true → Allowed x r → Good keys indexes hs (applied x r)
    record_good (put k n ss) e (held, free) = wrote_good k (Some n) ss (grind arith) held free
    record_good (removed k ss) e held = wrote_good k None ss (grind arith) held (λ i. none_taken (r.head i) (get_or ss i 0) k (r.entry i))
    record_good (made i c u) e all = head_good i _ (grind arith) (made_fine r.row (r.head i) _ g.no_row (grind arith) (g.sound i))
    record_good (went_up i) e all = head_good i _ (grind arith) (raised_fine r.row (r.head i) (grind arith) all (g.sound i))
    record_good (turned i) e all = head_good i _ (grind arith) (turned_fine r.row (r.head i) (grind arith) all (g.sound i))
    record_good (went_down i) e all = head_good i _ (grind arith) (lowered_fine r.row (r.head i) (grind arith) all (g.sound i))
    record_good (filled i k) e all =
        let next : done_of (r.head i) ≡ k = grind arith in
        worked_good i _ (grind arith) (subst (λ k. Fine keys (onward (r.head i)) (hs i) r.row (backfilled k (rows_of i r) (r.entry i))) next (filled_fine r.row (r.head i) (grind arith) all (grind arith) (g.sound i)))
    record_good (cleared i k) e all =
        let next : done_of (r.head i) ≡ k = grind arith in
        worked_good i _ (grind arith) (subst (λ k. Fine keys (onward (r.head i)) (hs i) r.row (cleaned_up k (r.entry i))) next (cleared_fine r.row (r.head i) (grind arith) all (g.sound i)))
    record_good came_up e all = record { no_index = g.no_index; no_row = g.no_row; sound = g.sound }
