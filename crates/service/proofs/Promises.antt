-- What is promised, from what holds of every world.
use Rattle.std.proofs.Common.{◌≡◌, ℕ, true, List, [], ◌∷◌, ◌++◌, Some, sym, refl, ap, ◌∙◌, subst, inl, inr, append_assoc, append-nil}
use mathlib.Core.Path.{subst⁻¹}
use Rattle.change.specs.Protocol.{Way, there, stage_of}
use Rattle.change.specs.Index.{About, unique_of}
use Rattle.change.proofs.Kept as kept
use Rattle.register.specs.Registers.{Record, bare, cell_of, came_up}
use Rattle.register.proofs.Replays.{rows_replayed}
use Rattle.register.proofs.Goods.{Fine}
use Rattle.lease.specs.Clocks.{Times, Counts, Fit}
use Rattle.lease.proofs.Sizes.{book_small_lem}
use Rattle.service.specs.Calls.{Limits, recorded}
use Rattle.service.specs.World.{World, written, says, Event, passes, calls, syncs, stops, comes_up, then, after_all, Possible}
use Rattle.service.specs.Promise.{Alike, Public, In, Promise, Leads, CanEnd, Stays, StopsBetween}
use Rattle.service.proofs.Lists.{take_none, take_take, part_or_all, part_or_more}
use Rattle.service.proofs.Worlds.{Inv, near, invariant}
use Rattle.service.proofs.Answered.{answers}
use Rattle.service.proofs.Ends.{ways}

module _ (m : Limits) (p : Times) (clocks : ℕ → ℕ → ℕ) (fit : Fit m.long p) (counts : (o : ℕ) → Counts p 0 (clocks o)) (w : World) (v : Inv m p clocks w) where
  pub promise : Promise m p clocks w
  promise = let hs = In m p clocks w in let r = says w in let g = v.good in record {
    one_apart = near m hs r g;
    no_orphan = λ i. kept.no_orphan_lem m.keys (r.head i) (g.sound i);
    looks_right = λ i x three. kept.looks_right_lem m.keys (r.head i) (inl three) (g.sound i) x;
    one_number = λ i one three. kept.one_number_lem m.keys (r.head i) one three (g.sound i);
    leaves_nothing = λ i e. kept.gone_empty m.keys (subst (λ h. Fine m.keys h (hs i) r.row (r.entry i)) e (g.sound i));
    lasts = λ u. (v.up u).lasts;
    answered_lasts = v.synced;
    exact = λ u. (v.up u).exact;
    rows = λ k. rows_replayed (written w) bare k;
    replays = v.replays;
    book_once = v.once;
    book_small = book_small_lem m.offices m.indexes w.store.leases v.once v.apart (λ l a. let f = v.fits l a in (f.0, f.1));
    answers = λ u. answers m p clocks fit counts w v u;
  }

module _ (m : Limits) (p : Times) (clocks : ℕ → ℕ → ℕ) (fit : Fit m.long p) (counts : (o : ℕ) → Counts p 0 (clocks o)) (es : List Event) where
  -- in an index that is public no two rows have one value
  never_both : (i : ℕ) (a : About) (x : Way) (s d : ℕ) → (says (after_all m p es)).head i ≡ there a x s d → Leads m p clocks es (Public m p clocks i a) → (a.unique ≡ true) × Alike (says (after_all m p es)) i → ⊥
  never_both i a x s d e (more, serving, possible, (rows, synced, (d', three, others))) (one, (k, j, y, other, f, g)) =
      let w = after_all m p (more ++ es) in
      let holds = promise m p clocks fit counts w (invariant m p clocks fit counts (more ++ es) possible) in
      let old = subst (λ h. (cell_of h ((says (after_all m p es)).row k) ≡ Some y) × (cell_of h ((says (after_all m p es)).row j) ≡ Some y)) e (f, g) in
      let new = subst⁻¹ (λ row. (cell_of (there a x s d) (row k) ≡ Some y) × (cell_of (there a x s d) (row j) ≡ Some y)) rows old in
      let end = subst⁻¹ (λ h. (cell_of h ((says w).row k) ≡ Some y) × (cell_of h ((says w).row j) ≡ Some y)) three new in
      other (holds.one_number i (subst⁻¹ (λ h. unique_of h ≡ true) three one) (inr (ap stage_of three)) k j y end.0 end.1)

  pub keeps : Possible m p es → Promise m p clocks (after_all m p es) × CanEnd m p clocks es
  keeps q = (
    promise m p clocks fit counts (after_all m p es) (invariant m p clocks fit counts es q),
    λ i a x s d e. let f = ways m p clocks fit counts es q i a x s d e in (f.0, never_both i a x s d e, f.1),
  )

-- the journal
grows : (m : Limits) (p : Times) (e : Event) (w : World) → (xs : List Record) × ((then m p e w).journal ≡ w.journal ++ xs)
grows m p (passes t) w = ([], sym (append-nil w.journal))
grows m p (calls a c) w = ([], sym (append-nil w.journal))
grows m p syncs w = (w.pending, refl)
grows m p (stops n) w = ([], sym (append-nil w.journal))
grows m p (comes_up clock) w = ([], sym (append-nil w.journal))

pub stays : (m : Limits) (p : Times) → Stays m p
unfolding after_all
stays m p [] es = ([], sym (append-nil (after_all m p es).journal))
stays m p (e ∷ more) es =
    let (xs, f) = stays m p more es in
    let (ys, g) = grows m p e (after_all m p (more ++ es)) in
    (xs ++ ys, g ∙ ap (λ z. z ++ ys) f ∙ append_assoc (after_all m p es).journal xs ys)

-- what a stop leaves
module _ (m : Limits) (p : Times) where
  abbrev Was : List Event → List Record → Type 0
  Was es xs = (late early : List Event) × (late ++ early ≡ es) × (xs ≡ written (after_all m p early))

  before : (e : Event) (es : List Event) (xs ys : List Record) → xs ≡ ys → Was es ys → Was (e ∷ es) xs
  before e es xs ys q (late, early, f, g) = (e ∷ late, early, ap (λ z. e ∷ z) f, q ∙ g)

  pub stops_between : StopsBetween m p
  unfolding after_all
  stops_between [] n = ([], [], refl, take_none n)
  stops_between (passes t ∷ es) n = before (passes t) es _ _ refl (stops_between es n)
  stops_between (calls a c ∷ es) n =
      let w = after_all m p es in
      elim (part_or_more n w.pending (recorded m w.store (w.clock w.moment) c)) [
        | inl e ↦ before (calls a c) es _ _ (ap (λ z. w.journal ++ z) e) (stops_between es n)
        | inr e ↦ ([], calls a c ∷ es, refl, ap (λ z. w.journal ++ z) e)
      ]
  stops_between (syncs ∷ es) n = ([], syncs ∷ es, refl, ap (λ z. ((after_all m p es).journal ++ (after_all m p es).pending) ++ z) (take_none n))
  stops_between (stops k ∷ es) n = let (j, e) = take_take n k (after_all m p es).pending in before (stops k) es _ _ (ap (λ z. (after_all m p es).journal ++ z) e) (stops_between es j)
  stops_between (comes_up clock ∷ es) n =
      let w = after_all m p es in
      elim (part_or_all n w.pending came_up) [
        | inl e ↦ before (comes_up clock) es _ _ (ap (λ z. w.journal ++ z) e) (stops_between es n)
        | inr e ↦ ([], comes_up clock ∷ es, refl, ap (λ z. w.journal ++ z) e)
      ]
