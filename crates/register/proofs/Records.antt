-- A step of one index's place is a record of the register.
use Rattle.std.proofs.Common.{◌≡◌, ℕ, ◌<◌, Bool, true, false, not, ◌&&◌, eqb, length, get_or, set, Ok, Err, Option, Result, sym, refl, ap, ◌∙◌, ap₂, arith}
use mathlib.Core.Path.{fun_ext}
use Rattle.std.proofs.lemmas.Bool.{lt-ltb}
use Rattle.table.specs.Held.{row_of, entry_of}
use Rattle.table.specs.Update.{update}
use Rattle.change.specs.Protocol.{Head, there, up, done_of, raised, turned_down, lowered, onward, why_not_make, why_not_up, why_not_turn, why_not_down, why_not_fill, why_not_clear}
use Rattle.change.specs.Index.{About, must_turn, backfilled, cleaned_up}
use Rattle.change.specs.OneChange.{is_none}
use Rattle.change.specs.Heads.{slot_of}
use Rattle.register.specs.declared.place.Place.{Place}
use Rattle.register.specs.declared.owner.Register as codes
use Rattle.register.specs.Registers as rules
use Rattle.register.specs.Registers.{cell_of, with_head, worked_on, applied}
use Rattle.register.specs.Held.{entry_in, head_in, register_of, can_do, Applied, OneStep, HeadStep}
use Rattle.register.proofs.Parts.{head_read, entry_read, head_set, entry_set, update_same}

and_true : (b : Bool) → b && true ≡ b
and_true true = refl
and_true false = refl

module _ (s : codes.Register) (n i : ℕ) (at : n ≡ i) (small : i < 8) (p q : Place) where
  abbrev before : Place
  before = get_or s.places n p

  abbrev after : rules.Register
  after = record { row = row_of s.rows; entry = entry_in (set s.places n q); head = head_in (set s.places n q); epoch = s.epoch }

  inside : n < length s.places
  inside = let z = s.places_long in omega arith

  head : slot_of before.head ≡ head_in s.places i
  head = head_read s.places n p inside ∙ ap (head_in s.places) at

  entries : entry_of before.entries ≡ entry_in s.places i
  entries = entry_read s.places n p inside ∙ ap (entry_in s.places) at

  -- the register, once its place is another
  changed : (h : Head About) (es : ℕ → Option ℕ) → slot_of q.head ≡ h → ((j : ℕ) → entry_of q.entries j ≡ es j)
      → after ≡ record { row = row_of s.rows; entry = update i es (entry_in s.places); head = update i h (head_in s.places); epoch = s.epoch }
  changed h es e f = λ t. record {
    row = row_of s.rows;
    entry = fun_ext (λ m. fun_ext (λ j. entry_set s.places n q inside m j ∙ ap₂ (λ k g. update k g (entry_in s.places) m j) at (fun_ext f))) t;
    head = fun_ext (λ m. head_set s.places n q inside m ∙ ap₂ (λ k g. update k g (head_in s.places) m) at e) t;
    epoch = s.epoch;
  }

  step_is : {X Y : Type 0} (r : Result X Y) (x : rules.Record) (may : Bool) (h : Head About) (es : ℕ → Option ℕ) → can_do x (register_of s) ≡ may
      → applied x (register_of s) ≡ record { row = row_of s.rows; entry = update i es (entry_in s.places); head = update i h (head_in s.places); epoch = s.epoch }
      → OneStep r may h es before q → Applied r x (register_of s) after
  step_is (Ok u) x may h es can does (m, e, f) = (can ∙ m, changed h es e f ∙ sym does)
  step_is (Err u) x may h es can does (m, e, f) =
      let same = changed (head_in s.places i) (entry_in s.places i) (e ∙ head) (λ j. f j ∙ ap (λ (g : ℕ → Option ℕ). g j) entries) in (
        can ∙ m,
        same ∙ (λ t. record { row = row_of s.rows; entry = update_same i (entry_in s.places) t; head = update_same i (head_in s.places) t; epoch = s.epoch }),
      )

  -- a step of the head alone
  head_is : {X Y : Type 0} (r : Result X Y) (x : rules.Record) (may : Bool) (h : Head About) → can_do x (register_of s) ≡ may → applied x (register_of s) ≡ with_head i h (register_of s)
      → OneStep r may h (entry_of before.entries) before q → Applied r x (register_of s) after
  head_is r x may h can does =
      step_is r x may h (entry_of before.entries) can
      (does ∙ (λ t. record { row = row_of s.rows; entry = (sym (update_same i (entry_in s.places)) ∙ ap (λ es. update i es (entry_in s.places)) (sym entries)) t; head = update i h (head_in s.places); epoch = s.epoch }))

  -- work on a key
  work_is : {X Y : Type 0} (r : Result X Y) (x : rules.Record) (may : Head About → (ℕ → Option ℕ) → Bool) (done : Head About → (ℕ → Option ℕ) → ℕ → Option ℕ)
      → can_do x (register_of s) ≡ may (head_in s.places i) (entry_in s.places i) → applied x (register_of s) ≡ worked_on i (done (head_in s.places i) (entry_in s.places i)) (register_of s)
      → OneStep r (may (slot_of before.head) (entry_of before.entries)) (onward (slot_of before.head)) (done (slot_of before.head) (entry_of before.entries)) before q → Applied r x (register_of s) after
  work_is r x may done can does =
      step_is r x _ _ _ (can ∙ ap₂ may (sym head) (sym entries))
      (does ∙ ap₂ left (sym head) (sym entries))
    where
      left : Head About → (ℕ → Option ℕ) → rules.Register
      left h es = record { row = row_of s.rows; entry = update i (done h es) (entry_in s.places); head = update i (onward h) (head_in s.places); epoch = s.epoch }

  module _ {X Y : Type 0} (r : Result X Y) (x : rules.Record) where
    pub made_is : (c : ℕ) (u : Bool) → c < 8 → x ≡ rules.made i c u → HeadStep r why_not_make (λ _. there (record { column = c; unique = u }) up 0 0) before q → Applied r x (register_of s) after
    made_is c u l e = head_is r x _ _ (rw (e, lt-ltb i 8 small, lt-ltb c 8 l, head) (and_true _)) (rw e)

    pub went_up_is : x ≡ rules.went_up i → HeadStep r (why_not_up 4096 true) raised before q → Applied r x (register_of s) after
    went_up_is e = head_is r x _ _ (rw (e, lt-ltb i 8 small, head) (and_true _)) (rw (e, head))

    pub turned_is : x ≡ rules.turned i → HeadStep r (why_not_turn true) turned_down before q → Applied r x (register_of s) after
    turned_is e = head_is r x _ _ (rw (e, lt-ltb i 8 small, head) (and_true _)) (rw (e, head))

    pub went_down_is : x ≡ rules.went_down i → HeadStep r (why_not_down 4096 true) lowered before q → Applied r x (register_of s) after
    went_down_is e = head_is r x _ _ (rw (e, lt-ltb i 8 small, head) (and_true _)) (rw (e, head))

    module _ (k : ℕ) where
      pub filled_is : x ≡ rules.filled i k
          → OneStep r (is_none (why_not_fill 4096 true (slot_of before.head)) && eqb k (done_of (slot_of before.head)) && not (must_turn 4096 (λ j. cell_of (slot_of before.head) (row_of s.rows j)) (entry_of before.entries) (slot_of before.head)))
          (onward (slot_of before.head)) (backfilled k (λ j. cell_of (slot_of before.head) (row_of s.rows j)) (entry_of before.entries)) before q
          → Applied r x (register_of s) after
      filled_is e =
          let can : (h : Head About) (es : ℕ → Option ℕ) → Bool = λ h es. is_none (why_not_fill 4096 true h) && eqb k (done_of h) && not (must_turn 4096 (λ j. cell_of h (row_of s.rows j)) es h) in
          work_is r x can (λ h. backfilled k (λ j. cell_of h (row_of s.rows j))) (rw (e, lt-ltb i 8 small) (and_true _)) (rw e)

      pub cleared_is : x ≡ rules.cleared i k → OneStep r (is_none (why_not_clear 4096 true (slot_of before.head)) && eqb k (done_of (slot_of before.head))) (onward (slot_of before.head)) (cleaned_up k (entry_of before.entries)) before q → Applied r x (register_of s) after
      cleared_is e = work_is r x (λ h es. is_none (why_not_clear 4096 true h) && eqb k (done_of h)) (λ h. cleaned_up k) (rw (e, lt-ltb i 8 small) (and_true _)) (rw e)
