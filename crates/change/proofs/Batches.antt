-- Many keys at once.
use Rattle.std.proofs.Common.{◌≡◌, ℕ, zero, suc, ◌+◌, ◌-◌, ◌<◌, ◌≤◌, Bool, true, false, cond, None, Option, sym, refl, ap, ◌∙◌, ◌⊎◌, inl, inr, suc-add, zero-add, arith}
use Rattle.change.specs.Protocol.{Head, stage_of, turned_down, onward, may_fill, may_clear}
use Rattle.change.specs.Index.{About}
use Rattle.change.specs.OneChange.{State, alone, Step, fills, clears, why_not, after}
use Rattle.change.specs.Batches.{Work, repeated, filled, cleared, FilledInParts, ClearedInParts, work_of, IsSteps, FilledBySteps, ClearedBySteps}

module _ {X : Type 0} (may : X → Bool) (step : X → X) where
  stays : (n : ℕ) (x : X) → may x ≡ false → repeated may step n x ≡ x
  unfolding repeated
  stays zero x e = refl
  stays (suc n) x e = rw e

  in_parts : (m n : ℕ) (x : X) → repeated may step (m + n) x ≡ repeated may step n (repeated may step m x)
  unfolding repeated
  in_parts zero n x = rw zero-add
  in_parts (suc m) n x = let ih = in_parts m n (step x) in let e = stays n x in rw (suc-add m n) (grind arith)

pub filled_in_parts : FilledInParts
filled_in_parts keys rows = in_parts _ _

pub cleared_in_parts : ClearedInParts
cleared_in_parts keys = in_parts _ _

-- work of which each turn is the step, is steps
module _ (keys : ℕ) (s : Step) (rows : ℕ → Option ℕ) (may : Work → Bool) (turn : Work → Work)
    (one : (w : State) → w.rows ≡ rows → alone w ≡ true → may (work_of w) ≡ true → (why_not keys s w ≡ None) × ((after keys s w).rows ≡ rows) × (alone (after keys s w) ≡ true) × (work_of (after keys s w) ≡ turn (work_of w))) where
  by-steps : (n : ℕ) (w : State) → w.rows ≡ rows → alone w ≡ true → IsSteps keys s n w (repeated may turn n (work_of w))
  unfolding repeated
  by-steps zero w r e = (0, omega arith, refl, refl)
  by-steps (suc n) w r e = go (may (work_of w)) refl (by-steps n (after keys s w))
    where
      go : (b : Bool) → may (work_of w) ≡ b → ((after keys s w).rows ≡ rows → alone (after keys s w) ≡ true → IsSteps keys s n (after keys s w) (repeated may turn n (work_of (after keys s w)))) →
          IsSteps keys s (suc n) w (cond b (repeated may turn n (turn (work_of w))) (work_of w))
      go true f ih =
          let (not, same, all, is) = one w r e f in
          let (m, l, ok, x) = ih same all in
          (suc m, omega arith, grind arith, x ∙ ap (repeated may turn n) is)
      go false f ih = (0, omega arith, refl, refl)

same_stage : (b : Bool) (h : Head About) → stage_of (cond b (turned_down h) (onward h)) ≡ stage_of h
same_stage b h = grind arith

pub filled_by_steps : FilledBySteps
filled_by_steps keys n w e =
    by-steps keys fills w.rows (λ x. may_fill keys x.head) (filled keys w.rows)
    (λ u r f m. (grind arith, r, rw same_stage f, rw r)) n w refl e

pub cleared_by_steps : ClearedBySteps
cleared_by_steps keys n w e =
    by-steps keys clears w.rows (λ x. may_clear keys x.head) cleared
    (λ u r f m. (grind arith, r, rw (same_stage false u.head) f, refl)) n w refl e

-- a turn of a loop that makes a step n times: some are made, and the rest leads from y to where all lead from x
module _ {X : Type 0} (may : X → Bool) (step : X → X) (n i : ℕ) (x y : X) (so-far : repeated may step (n - i) y ≡ repeated may step n x) where
  pub one_more : (z : X) → i < n → may y ≡ true → z ≡ step y → repeated may step (n - (i + 1)) z ≡ repeated may step n x
  unfolding repeated
  one_more z l m e = let left : n - i ≡ suc (n - (i + 1)) = omega arith in rw e (rw (left, m) at so-far)

  pub no_more : (n ≤ i) ⊎ (may y ≡ false) → y ≡ repeated may step n x
  unfolding repeated
  no_more (inl l) = let none : n - i ≡ 0 = omega arith in (rw none at so-far)
  no_more (inr m) = sym (stays may step (n - i) y m) ∙ so-far

-- a step by what it leaves as it is may as well be by what is there at first
pub by-first : {X C : Type 0} (may : X → Bool) (of : X → C) (step : C → X → X) → ((c : C) (x : X) → of (step c x) ≡ of x) → (n : ℕ) (x : X) (c : C) → of x ≡ c
    → repeated may (λ x. step (of x) x) n x ≡ repeated may (step c) n x
unfolding repeated
by-first may of step keeps zero x c e = refl
by-first may of step keeps (suc n) x c e = rw e (let ih = by-first may of step keeps n (step c x) c (keeps c x ∙ e) in rw ih)

-- work of one key, where it may be done
pub one_turn : {X : Type 0} (may : X → Bool) (step : X → X) (x y : X) → may x ≡ true → y ≡ repeated may step 1 x → y ≡ step x
unfolding repeated
one_turn may step x y m e = e ∙ rw m
