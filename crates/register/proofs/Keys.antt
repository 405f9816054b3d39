-- One key of backfill or cleanup.
use Rattle.std.proofs.Common.{◌≡◌, ℕ, Bool, true, false, cond, not, ◌&&◌, eqb, Some, None, Ok, Err, Option, Result, sym, refl, ap, ◌∙◌, subst, ap₂, arith}
use mathlib.Core.Path.{fun_ext}
use Rattle.std.specs.Result.{IsErr}
use Rattle.std.proofs.lemmas.Bool.{eq-eqb}
use Rattle.table.specs.declared.row.Row.{Row}
use Rattle.table.specs.Held.{entry_of}
use Rattle.table.specs.Columns.{value_in}
use Rattle.change.specs.declared.kinds.Way as codes
use Rattle.change.specs.declared.kinds.Way.TheVariants.{Up, Down}
use Rattle.change.specs.declared.kinds.Index.{Index}
use Rattle.stage.specs.Stages.{rank}
use Rattle.change.specs.Protocol.{Way, Head, there, up, down, done_of, turned_down, onward, why_not_fill, why_not_clear, may_fill, may_clear}
use Rattle.change.specs.Index.{About, refuses, must_turn, backfilled, cleaned_up}
use Rattle.change.specs.OneChange.{is_none}
use Rattle.change.specs.Batches.{Work, filled_n, cleared_n, filled, cleared}
use Rattle.change.specs.Heads.{head_of, slot_of, head_by, about_of, work_on, Worked}
use Rattle.change.proofs.Batches.{one_turn}
use Rattle.register.specs.declared.place.Place.{Place}
use Rattle.register.specs.Registers.{cell_of}
use Rattle.register.specs.Held.{OneStep}

-- an index that is there
is_there : (x : Index) → (w : Way) × (s : ℕ) × (head_of x ≡ there (about_of x.column x.unique) w s x.done)
is_there x = by x.way
  where
    by : (v : codes.Way) → (w : Way) × (s : ℕ) × (head_by (about_of x.column x.unique) x.done v ≡ there (about_of x.column x.unique) w s x.done)
    by (Up s) = (up, rank s, refl)
    by (Down s) = (down, rank s, refl)

-- nothing is against it
may : (a b : Bool) → cond {A = Option ℕ} a (Some 5) (cond (not b) (Some 7) None) ≡ None → b ≡ true
may a b e = grind arith

module _ (h : Head About) (x : Index) (k : ℕ) (es fs : ℕ → Option ℕ) (is : h ≡ head_of x) (next : x.done ≡ k) where
  at_next : k ≡ done_of h
  at_next = let (w, s, e) = is_there x in sym next ∙ ap done_of (sym (is ∙ e))

  pub cleared_one : (y : Index) → Worked (Ok y) (why_not_clear 4096 true (head_of x)) es fs (cleared_n 4096 1 (work_on x es))
      → (is_none (why_not_clear 4096 true h) && eqb k (done_of h) ≡ true) × (head_of y ≡ onward h) × ((j : ℕ) → fs j ≡ cleaned_up k es j)
  cleared_one y (why, did) =
      let m : may_clear 4096 (head_of x) ≡ true = may _ _ why in
      let w = one_turn (λ w. may_clear 4096 w.head) cleared (work_on x es) (work_on y fs) m did in (
        rw (is, why, ← is, eq-eqb k (done_of h) at_next),
        ap (λ (w : Work). w.head) w ∙ ap onward (sym is),
        λ j. ap (λ (w : Work). w.entries j) w ∙ ap (λ n. cleaned_up n es j) (ap done_of (sym is) ∙ sym at_next),
      )

  cell_there : (r : Option Row) → cell_of h r ≡ value_in x.column.number r
  cell_there r = let (w, s, e) = is_there x in ap (λ g. cell_of g r) (is ∙ e)

  module _ (row : ℕ → Option Row) where
    abbrev seen : ℕ → Option ℕ
    seen = λ j. value_in x.column.number (row j)

    abbrev rows : ℕ → Option ℕ
    rows = λ j. cell_of h (row j)

    free : refuses 4096 (head_of x) 2 k (seen k) es ≡ false → must_turn 4096 seen es h ≡ false
    free e = ap₂ (λ g n. refuses 4096 g 2 n (seen n) es) is (sym at_next) ∙ e

    pub filled_one : (y : Index) → refuses 4096 (head_of x) 2 k (seen k) es ≡ false → Worked (Ok y) (why_not_fill 4096 true (head_of x)) es fs (filled_n 4096 seen 1 (work_on x es))
        → (is_none (why_not_fill 4096 true h) && eqb k (done_of h) && not (must_turn 4096 rows es h) ≡ true) × (head_of y ≡ onward h) × ((j : ℕ) → fs j ≡ backfilled k rows es j)
    filled_one y e (why, did) =
        let m : may_fill 4096 (head_of x) ≡ true = may _ _ why in
        let w = one_turn (λ w. may_fill 4096 w.head) (filled 4096 seen) (work_on x es) (work_on y fs) m did in
        let not_taken : must_turn 4096 seen es (head_of x) ≡ false = ap (must_turn 4096 seen es) (sym is) ∙ free e in
        let same : rows ≡ seen = fun_ext (λ j. cell_there (row j)) in
        subst (λ rs. (is_none (why_not_fill 4096 true h) && eqb k (done_of h) && not (must_turn 4096 rs es h) ≡ true) × (head_of y ≡ onward h) × ((j : ℕ) → fs j ≡ backfilled k rs es j)) (sym same) (
          rw (free e, eq-eqb k (done_of h) at_next, is, why),
          ap (λ (w : Work). w.head) w ∙ ap (λ b. cond b (turned_down (head_of x)) (onward (head_of x))) not_taken ∙ ap onward (sym is),
          λ j. ap (λ (w : Work). w.entries j) w ∙ ap (λ b. cond b (es j) (backfilled (done_of (head_of x)) seen es j)) not_taken ∙ ap (λ n. backfilled n seen es j) (ap done_of (sym is) ∙ sym at_next),
        )

-- where something is against it, nothing is done
pub against : (why_not : Head About → Option ℕ) (h : Head About) (x : Index) (n : ℕ) → h ≡ head_of x → why_not (head_of x) ≡ Some n → is_none (why_not h) ≡ false
against why_not h x n is e = rw (is, e)

pub not_done : {X Y : Type 0} (r : Result X Y) (may : Bool) (h : Head About) (es : ℕ → Option ℕ) (p q : Place) → IsErr r → may ≡ false → q.head ≡ p.head → entry_of q.entries ≡ entry_of p.entries → OneStep r may h es p q
not_done (Ok u) may h es p q err e same left = absurd (grind arith)
not_done (Err u) may h es p q err e same left = (e, ap slot_of same, λ j. ap (λ (g : ℕ → Option ℕ). g j) left)
