-- The book of leases as one is noted.
use Rattle.std.proofs.Common.{◌≡◌, ℕ, Bool, true, false, ◌⊎◌, List, [], ◌∷◌, sym, refl, subst, inl, inr, arith, filter}
use Rattle.std.specs.List.{list_any, list_all}
use Rattle.std.specs.Cmp.Lexicographic.{same_text}
use Rattle.std.proofs.lemmas.Bool.{cases_Bool}
use Rattle.std.proofs.lemmas.Cmp.{nat_list_eq_equiv}
use mathlib.Core.Bool.{false≢true}
use mathlib.Core.List.Memᴰ
use Rattle.lease.specs.Leases.{Lease, stage_at, runs, same_list, is_of, stands, holds, is_at, all_at, stays, left_beside, Among, BookTells, Once, NotedOnce}

is_of_lem : (o : ℕ) (ss : List ℕ) (l : Lease) → is_of o ss l ≡ true → (l.office ≡ o) × (l.stages ≡ ss)
is_of_lem o ss l e = let h : (l.office ≡ o) × (same_list l.stages ss ≡ true) = grind arith in (h.0, same_text l.stages ss (sym h.1))

of_is : (o : ℕ) (ss : List ℕ) (l : Lease) → l.office ≡ o → l.stages ≡ ss → is_of o ss l ≡ true
of_is o ss l e f = let s : same_list l.stages ss ≡ true = subst (λ z. same_list l.stages z ≡ true) f (nat_list_eq_equiv.refl l.stages) in grind arith

-- whoever holds has such a lease in the book
pub is_held : (long t o : ℕ) (ss : List ℕ) (ls : List Lease) → holds long t o ss ls ≡ true → (l : Lease) × Among l ls × (runs long t l ≡ true) × (l.stages ≡ ss)
is_held long t o ss [] e = absurd (false≢true e)
is_held long t o ss (l ∷ ls) e = elim (cases_Bool (stands long t o ss l)) [
  | inl q ↦ (l, Memᴰ.head refl, (grind arith), (is_of_lem o ss l (grind arith)).1)
  | inr q ↦ (let (k, a, r, f) = is_held long t o ss ls (grind arith) in (k, Memᴰ.tail a, r, f))
]

-- and the other way round
pub held_in : (long t o : ℕ) (ss : List ℕ) (l : Lease) (ls : List Lease) → Among l ls → runs long t l ≡ true → l.office ≡ o → l.stages ≡ ss → holds long t o ss ls ≡ true
held_in long t o ss l [] a r e f = absurd (Memᴰ.not-nil a)
held_in long t o ss l (k ∷ ls) a r e f = elim (Memᴰ.cases_cons a) [
  | inl q ↦ grind (arith, of_is)
  | inr b ↦ (let h = held_in long t o ss l ls b r e f in grind arith)
]

pub all_at_lem : (long t i s : ℕ) (l : Lease) (ls : List Lease) → all_at long t i s ls ≡ true → Among l ls → runs long t l ≡ true → stage_at l.stages i ≡ s
all_at_lem long t i s l [] e a r = absurd (Memᴰ.not-nil a)
all_at_lem long t i s l (k ∷ ls) e a r = elim (Memᴰ.cases_cons a) [ inl q ↦ grind arith | inr b ↦ all_at_lem long t i s l ls (grind arith) b r ]

pub all_over : (long t i s : ℕ) (ls : List Lease) → ((l : Lease) → Among l ls → runs long t l ≡ false) → all_at long t i s ls ≡ true
all_over long t i s [] f = refl
all_over long t i s (l ∷ ls) f = let a = f l (Memᴰ.head refl) in let b = all_over long t i s ls (λ k q. f k (Memᴰ.tail q)) in grind arith

-- what is left of a list was in it, and passes
pub among_left : (p : Lease → Bool) (l : Lease) (ls : List Lease) → Among l (filter p ls) → Among l ls × (p l ≡ true)
among_left p l [] a = absurd (Memᴰ.not-nil a)
among_left p l (k ∷ ls) a = elim (cases_Bool (p k)) [
  | inl e ↦ elim (Memᴰ.cases_cons (rw e at a)) [ inl q ↦ (Memᴰ.head q, rw q e) | inr b ↦ (let (c, d) = among_left p l ls b in (Memᴰ.tail c, d)) ]
  | inr e ↦ (let (c, d) = among_left p l ls (rw e at a) in (Memᴰ.tail c, d))
]

-- and what was in it and passes is left
left_among : (p : Lease → Bool) (l : Lease) (ls : List Lease) → Among l ls → p l ≡ true → Among l (filter p ls)
left_among p l [] a e = a
left_among p l (k ∷ ls) a e = elim (Memᴰ.cases_cons a) [
  | inl q ↦ (let h : p k ≡ true = rw (sym q) e in rw h (Memᴰ.head q))
  | inr b ↦ (let c = left_among p l ls b e in elim (cases_Bool (p k)) [ inl h ↦ rw h (Memᴰ.tail c) | inr h ↦ rw h c ])
]

pub left_once : (p : Lease → Bool) (ls : List Lease) → Once ls → Once (filter p ls)
left_once p [] o = tt
left_once p (l ∷ ls) o = elim (cases_Bool (p l)) [ inl h ↦ rw h ((λ k a. o.0 k (among_left p k ls a).0), left_once p ls o.1) | inr h ↦ rw h (left_once p ls o.1) ]

-- what stays beside a new lease was there, runs, and is another
pub left_was : (long : ℕ) (n l : Lease) (ls : List Lease) → Among l (left_beside long n ls) → Among l ls × (stays long n l ≡ true)
left_was long n l ls a = among_left (stays long n) l ls a

-- a lease that runs stays, or the new one is of the same office and stages
pub left_or : (long : ℕ) (n l : Lease) (ls : List Lease) → Among l ls → runs long n.since l ≡ true → Among l (left_beside long n ls) ⊎ ((l.office ≡ n.office) × (l.stages ≡ n.stages))
left_or long n l ls a r = grind (arith, is_of_lem, left_among)

pub noted_once : NotedOnce
noted_once long n ls o = ((λ k a e f. let h = (left_was long n k ls a).1 in grind (arith, of_is)), left_once (stays long n) ls o)

-- what is left out makes no difference to a test that it passes only where the first passes it, or fails only where the first fails it
module _ (p q : Lease → Bool) (n : Lease) where
  any_left : (ls : List Lease) → ((l : Lease) → Among l ls → p l ≡ false → q l ≡ true → q n ≡ true) → list_any q (n ∷ filter p ls) ≡ list_any q (n ∷ ls)
  any_left [] f = refl
  any_left (l ∷ ls) f = let ih = any_left ls (λ k a. f k (Memᴰ.tail a)) in let g = f l (Memᴰ.head refl) in grind arith

  all_left : (ls : List Lease) → ((l : Lease) → Among l ls → p l ≡ false → q n ≡ true → q l ≡ true) → list_all q (n ∷ filter p ls) ≡ list_all q (n ∷ ls)
  all_left [] f = refl
  all_left (l ∷ ls) f = let ih = all_left ls (λ k a. f k (Memᴰ.tail a)) in let g = f l (Memᴰ.head refl) in grind arith

-- nothing is forgotten: a lease that goes is over, or of the new one's office and stages
pub book_tells : BookTells
book_tells long n ls old t after = (
  (λ o ss. any_left (stays long n) (stands long t o ss) n ls (λ l a e f. let g = old l a in grind (arith, is_of_lem, of_is))),
  (λ i s. all_left (stays long n) (is_at long t i s) n ls (λ l a e f. let g = old l a in grind (arith, is_of_lem))),
)
