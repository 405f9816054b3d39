-- An index is a kind of change.
use Rattle.std.proofs.Common.{◌≡◌, ℕ, zero, suc, ◌+◌, ◌<◌, ◌≤◌, Bool, true, false, cond, ◌||◌, Some, None, Option, refl, arith}
use Rattle.keyset.specs.Sets.{any_below}
use Rattle.table.specs.Update.{update, by_other, taken_by_other}
use Rattle.stage.specs.Stages.{puts_in, entry_after}
use Rattle.change.specs.Protocol.{Way, Head, there, Kind}
use Rattle.change.specs.Index.{About, unique_of, refuses, Part, NoOrphan, NoneTwice, Always, Base, NoneTo, AllTo, Writes, writes, Fills, fills, Clears, clears}

pub none_below : (f : ℕ → Bool) (n : ℕ) → any_below f n ≡ false → (j : ℕ) → j < n → f j ≡ false
unfolding any_below
none_below f zero e j l = absurd (omega arith)
none_below f (suc n) e j l = let ih : any_below f n ≡ false → j < n → f j ≡ false = λ z. none_below f n z j in grind arith

pub some_below : (f : ℕ → Bool) (n : ℕ) → any_below f n ≡ true → (j : ℕ) × (j < n) × (f j ≡ true)
unfolding any_below
some_below f zero e = absurd (grind arith)
some_below f (suc n) e =
    elim (any_below f n) as (λ b. b || f n ≡ true → (b ≡ true → (j : ℕ) × (j < n) × (f j ≡ true)) → (j : ℕ) × (j < suc n) × (f j ≡ true)) [
      | true ↦ λ _ ih. let (j, l, i) = ih refl in (j, omega arith, i)
      | false ↦ λ here _. (n, omega arith, here)
    ]
    e (some_below f n)

-- a value that is taken is another row's
pub other_row : (keys k v : ℕ) (rows es : ℕ → Option ℕ) → NoOrphan rows es → taken_by_other keys es v k ≡ true → (j : ℕ) × (j < keys) × (j ≡ k → ⊥) × (rows j ≡ Some v)
other_row keys k v rows es own e =
    let (j, l, i) = some_below (by_other es v k) keys e in
    let has : es j ≡ Some v = grind arith in
    (j, l, grind arith, own j v has)

-- a value that is not refused is no other key's
free : (keys : ℕ) (h : Head About) (s k : ℕ) (r : Option ℕ) (es : ℕ → Option ℕ) → ((j : ℕ) → keys ≤ j → es j ≡ None) → refuses keys h s k r es ≡ false →
    unique_of h ≡ true → 2 ≤ s → (j v : ℕ) → r ≡ Some v → es j ≡ Some v → j ≡ k
free keys h s k r es beyond ok u high j v e i =
    let b : j < keys = let o = beyond j in grind arith in
    let n : by_other es v k j ≡ false = none_below (by_other es v k) keys (grind arith) j b in
    grind arith

-- a writer who leaves no orphan leaves the new row's entry, or none
after : (s : ℕ) (old new e : Option ℕ) → ((v : ℕ) → e ≡ Some v → old ≡ Some v) → (s ≡ 0 → e ≡ None) → entry_after s old new e ≡ cond (puts_in s) new None
after s old None None own zero-none = grind arith
after s old (Some v) None own zero-none = grind arith
after s old None (Some x) own zero-none = let o = own x in grind arith
after s old (Some v) (Some x) own zero-none = let o = own x in grind arith

pub written_always : (keys : ℕ) (h : Head About) (s : ℕ) (x y : Part) → Writes keys h s x y → Always keys x → Always keys y
written_always keys h s x y (writes k r l ok) b j q = let o = b j q in grind arith

pub written_none : (keys : ℕ) (h : Head About) (s : ℕ) (x y : Part) → Writes keys h s x y → s ≤ 1 → (n : ℕ) → NoneTo n x → NoneTo n y
written_none keys h s x y (writes k r l ok) low n none j q = let o = none j q in grind arith

pub written_all : (keys : ℕ) (a : About) (w : Way) (t d s : ℕ) (x y : Part) → Writes keys (there a w t d) s x y → 2 ≤ s → (n : ℕ) → AllTo a n x → AllTo a n y
written_all keys a w t d s x y (writes k r l ok) high n all j q = let o = all j q in grind arith

-- one more entry, for a value that no other key has
one_more : (k : ℕ) (e : Option ℕ) (es : ℕ → Option ℕ) → NoneTwice es → ((j v : ℕ) → e ≡ Some v → es j ≡ Some v → j ≡ k) → NoneTwice (update k e es)
one_more k e es one f i j v p q = let o = one i j v in let fi = f i v in let fj = f j v in grind arith

pub written_base : (keys : ℕ) (a : About) (w : Way) (t d s : ℕ) (x y : Part) → Writes keys (there a w t d) s x y → Always keys x → (s ≡ 0 → NoneTo keys x) → Base a x → Base a y
written_base keys a w t d s x y (writes k r l ok) b zero-none (own, one) =
    let e = after s (x.rows k) r (x.entries k) (own k) (λ z. zero-none z k l) in (
      (λ j v q. let o = own j v in grind arith),
      (λ u. one_more k _ x.entries (one u) (λ j v p q.
          let f : 2 ≤ s → r ≡ Some v → j ≡ k = λ z c. free keys (there a w t d) s k r x.entries (λ j l. (b j l).1) ok u z j v c q in grind arith)),
    )

pub filled : (keys : ℕ) (a : About) (w : Way) (t d k : ℕ) (x y : Part) → Fills keys (there a w t d) k x y → k < keys → Always keys x → Base a x → AllTo a k x → Always keys y × Base a y × AllTo a (k + 1) y
filled keys a w t d k x y (fills ok) l b (own, one) all = (
  (λ j q. let o = b j q in grind arith),
  (
    (λ j v q. let o = own j v in grind arith),
    (λ u. one_more k _ x.entries (one u) (λ j v p q.
        let f = free keys (there a w t d) 2 k (x.rows k) x.entries (λ j l. (b j l).1) ok u (omega arith) j v in let o = own k v in grind arith)),
  ),
  (λ j q. let o : j < k → x.entries j ≡ x.rows j = all j in let e = own j in grind arith),
)

pub cleared : (keys : ℕ) (a : About) (k : ℕ) (x y : Part) → Clears k x y → k < keys → Always keys x → Base a x → NoneTo k x → Always keys y × Base a y × NoneTo (k + 1) y
cleared keys a k x y clears l b (own, one) none = (
  (λ j q. let o = b j q in grind arith),
  ((λ j v q. let o = own j v in grind arith), (λ u i j v p q. let o = one u i j v in grind arith)),
  (λ j q. let o : j < k → x.entries j ≡ None = none j in grind arith),
)

-- below the bound and beyond it
pub empty : (keys : ℕ) (x : Part) → Always keys x → NoneTo keys x → (k : ℕ) → x.entries k ≡ None
empty keys x b none k = let p : k < keys → x.entries k ≡ None = none k in let q = b k in grind arith

pub made : (keys : ℕ) (a : About) (x : Part) → Always keys x → NoneTo keys x → Base a x
made keys a x b none = let z = empty keys x b none in ((λ k v e. let o = z k in grind arith), (λ u k j v p q. let o = z k in grind arith))

abbrev pub kind : (keys : ℕ) → Kind keys About Part
kind keys = record {
  Always = Always keys;
  Base = Base;
  NoneTo = NoneTo;
  AllTo = AllTo;
  Writes = Writes keys;
  Fills = Fills keys;
  Clears = Clears;
  none_to_0 = λ x k l. absurd (omega arith);
  all_to_0 = λ a x k l. absurd (omega arith);
  made = made keys;
  written_always = written_always keys;
  written_none = written_none keys;
  written_all = written_all keys;
  written_base = written_base keys;
  filled = filled keys;
  cleared = cleared keys;
}
