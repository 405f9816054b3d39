-- The book stays small.
use Rattle.std.proofs.Common.{◌≡◌, ℕ, zero, suc, ◌+◌, ◌*◌, ◌^◌, ◌<◌, ◌≤◌, Bool, true, not, eqb, List, [], ◌∷◌, length, filter, sym, refl, ◌∙◌, pow-suc, arith}
use Rattle.std.proofs.lemmas.List.Filters.{length-filter_both}
use Rattle.std.proofs.lemmas.Grind.{same_number_lists}
use mathlib.Core.List.Memᴰ
use lib.ListN.{get_or-eq_default}
use Rattle.lease.specs.Leases.{Lease, stage_at, Among, Once, OneApart, InRange, BookSmall}
use Rattle.lease.proofs.Books.{among_left, left_once}

-- of one office and the same stages there is one
one_at_most : (ls : List Lease) → Once ls → ((l k : Lease) → Among l ls → Among k ls → (l.office ≡ k.office) × (l.stages ≡ k.stages)) → length ls ≤ 1
one_at_most [] o same = omega arith
one_at_most (l ∷ []) o same = omega arith
one_at_most (l ∷ k ∷ ls) o same = absurd (let h = same k l (Memᴰ.tail (Memᴰ.head refl)) (Memᴰ.head refl) in o.0 k (Memᴰ.head refl) h.0 h.1)

-- of the same stages there is one for each office
by_office_lem : (offices : ℕ) (ls : List Lease) → Once ls → ((l : Lease) → Among l ls → l.office < offices) → ((l k : Lease) → Among l ls → Among k ls → l.stages ≡ k.stages) → length ls ≤ offices
by_office_lem zero [] o low same = omega arith
by_office_lem zero (l ∷ ls) o low same = absurd (let h = low l (Memᴰ.head refl) in omega arith)
by_office_lem (suc n) ls o low same =
    let last : Lease → Bool = λ l. eqb l.office n in
    let other : Lease → Bool = λ l. not (last l) in
    let one = one_at_most (filter last ls) (left_once last ls o)
    (λ l k a b. let (al, e) = among_left last l ls a in let (bk, f) = among_left last k ls b in ((grind arith), same l k al bk)) in
    let rest = by_office_lem n (filter other ls) (left_once other ls o)
    (λ l a. let (al, e) = among_left other l ls a in let f = low l al in grind arith)
    (λ l k a b. same l k (among_left other l ls a).0 (among_left other k ls b).0) in
    let all = length-filter_both last other (λ l. refl) ls in
    omega arith

module _ (offices indexes : ℕ) where
  -- leases that are the same from index n on
  by_stages : (n : ℕ) (ls : List Lease) → Once ls → OneApart ls → ((l : Lease) → Among l ls → InRange offices indexes l)
      → ((l k : Lease) → Among l ls → Among k ls → (i : ℕ) → n ≤ i → stage_at l.stages i ≡ stage_at k.stages i) → length ls ≤ offices * 2 ^ n
  by_stages zero ls o apart range same =
      let h = by_office_lem offices ls o (λ l a. (range l a).0) (λ l k a b. same_number_lists l.stages k.stages ((range l a).1 ∙ sym (range k b).1) (λ i q. same l k a b i (omega arith))) in
      grind arith
  by_stages (suc n) [] o apart range same = omega arith
  by_stages (suc n) (f ∷ fs) o apart range same =
      let ls = f ∷ fs in
      let s = stage_at f.stages n in
      let near : (l : Lease) → Among l ls → (stage_at l.stages n ≤ s + 1) × (s ≤ stage_at l.stages n + 1) = λ l a. (apart l f a (Memᴰ.head refl) n, apart f l (Memᴰ.head refl) a n) in
      let half : (p : Lease → Bool) → ((l k : Lease) → Among l ls → Among k ls → p l ≡ true → p k ≡ true → stage_at l.stages n ≡ stage_at k.stages n) → length (filter p ls) ≤ offices * 2 ^ n
      = λ p alike. by_stages n (filter p ls) (left_once p ls o)
      (λ l k a b. apart l k (among_left p l ls a).0 (among_left p k ls b).0) (λ l a. range l (among_left p l ls a).0)
      (λ l k a b i q. let (al, pl) = among_left p l ls a in let (bk, pk) = among_left p k ls b in let here = alike l k al bk pl pk in let above = same l k al bk i in grind arith) in
      let this : Lease → Bool = λ l. eqb (stage_at l.stages n) s in
      let x = half this (λ l k a b e g. grind arith) in
      let y = half (λ l. not (this l)) (λ l k a b e g. let u = near l a in let v = near k b in let c = apart l k a b n in let d = apart k l b a n in grind arith) in
      let all = length-filter_both this (λ l. not (this l)) (λ l. refl) ls in
      rw pow-suc (grind arith)

pub book_small_lem : BookSmall
book_small_lem offices indexes ls o apart range = by_stages offices indexes indexes ls o apart range (λ l k a b i q. let (_, f) = range l a in let (_, g) = range k b in grind (arith, get_or-eq_default))
