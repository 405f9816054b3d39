-- Numbers and rows among bytes.
use Rattle.std.proofs.Common.{◌≡◌, ℕ, zero, suc, ◌+◌, ◌*◌, ◌/◌, ◌%◌, ◌^◌, ◌<◌, ◌≤◌, List, [], ◌∷◌, ◌++◌, length, get_or, take, drop, ⊎_elim, sym, refl, ap, ◌∙◌, arith}
use Rattle.std.specs.Int.{w32, from_be_bytes}
use Rattle.std.specs.Simd.{first_chunks}
use Rattle.std.proofs.lemmas.Bool.{cases_lt}
use Rattle.std.proofs.lemmas.List.{get_or-drop, get_or-take, get_or_past, length-drop, length-take, length-take-le, take-append-drop}
use Rattle.std.proofs.lemmas.Nat.{be_bytes_4}
use native.Mathlib.Nat.{div-div-eq-div-mul}
use Rattle.journal.specs.Bytes.{two, four, fours, Columns}

pub unique_two : (k l : ℕ) (r s : List ℕ) → k < 65536 → l < 65536 → two k ++ r ≡ two l ++ s → (k ≡ l) × (r ≡ s)
unique_two k l r s p q e =
    let x : k / 256 % 256 ≡ l / 256 % 256 = cc in
    let y : k % 256 ≡ l % 256 = cc in
    (omega arith, cc)

digits : (n q1 q2 q3 r0 r1 r2 : ℕ) → n ≡ 256 * q1 + r0 → q1 ≡ 256 * q2 + r1 → q2 ≡ 256 * q3 + r2 → n ≡ q3 * 16777216 + r2 * 65536 + r1 * 256 + r0
digits n q1 q2 q3 r0 r1 r2 a b c = omega arith

-- a number by its four bytes
by_four : (n : ℕ) → n < 2 ^ 32 → n ≡ (n / 16777216 % 256) * 16777216 + (n / 65536 % 256) * 65536 + (n / 256 % 256) * 256 + n % 256
by_four n h =
    let d2 : n / 256 / 256 ≡ n / 65536 = div-div-eq-div-mul n 256 256 in
    let d3 : n / 65536 / 256 ≡ n / 16777216 = div-div-eq-div-mul n 65536 256 in
    let m : n / 16777216 % 256 ≡ n / 16777216 = omega arith in
    let a : n ≡ 256 * (n / 256) + n % 256 = omega arith in
    let b : n / 256 ≡ 256 * (n / 65536) + n / 256 % 256 = omega arith in
    let c : n / 65536 ≡ 256 * (n / 16777216) + n / 65536 % 256 = omega arith in
    digits n (n / 256) (n / 65536) (n / 16777216) (n % 256) (n / 256 % 256) (n / 65536 % 256) a b c
    ∙ ap (λ (x : ℕ). x * 16777216 + (n / 65536 % 256) * 65536 + (n / 256 % 256) * 256 + n % 256) (sym m)

unique_four : (k l : ℕ) (r s : List ℕ) → k < 2 ^ 32 → l < 2 ^ 32 → four k ++ r ≡ four l ++ s → (k ≡ l) × (r ≡ s)
unique_four k l r s p q e =
    let w : k / 16777216 % 256 ≡ l / 16777216 % 256 = cc in
    let x : k / 65536 % 256 ≡ l / 65536 % 256 = cc in
    let y : k / 256 % 256 ≡ l / 256 % 256 = cc in
    let z : k % 256 ≡ l % 256 = cc in
    let a = by_four k p in
    let b = by_four l q in
    (cc, cc)

unique_fours : (cs ds r s : List ℕ) → length cs ≡ length ds → ((i : ℕ) → get_or cs i 0 < 2 ^ 32) → ((i : ℕ) → get_or ds i 0 < 2 ^ 32) → fours cs ++ r ≡ fours ds ++ s → (cs ≡ ds) × (r ≡ s)
unique_fours [] [] r s n p q e = (refl, e)
unique_fours [] (d ∷ ds) r s n p q e = absurd (omega arith)
unique_fours (c ∷ cs) [] r s n p q e = absurd (omega arith)
unique_fours (c ∷ cs) (d ∷ ds) r s n p q e =
    let (a, f) = unique_four c d (fours cs ++ r) (fours ds ++ s) (p 0) (q 0) e in
    let (b, g) = unique_fours cs ds r s (omega arith) (λ i. p (suc i)) (λ i. q (suc i)) f in
    (cc, g)

pub unique_columns : (cs ds r s : List ℕ) → Columns cs → Columns ds → fours cs ++ r ≡ fours ds ++ s → (cs ≡ ds) × (r ≡ s)
unique_columns cs ds r s p q e = unique_fours cs ds r s (p.eight ∙ sym q.eight) p.fit q.fit e

fit_drop : (n : ℕ) (bs : List ℕ) (i : ℕ) → ((i : ℕ) → get_or bs i 0 < 256) → get_or (drop n bs) i 0 < 256
fit_drop n bs i fit = rw get_or-drop (fit (n + i))

fit_take : (n : ℕ) (bs : List ℕ) (i : ℕ) → ((i : ℕ) → get_or bs i 0 < 256) → get_or (take n bs) i 0 < 256
fit_take n bs i fit =
    ⊎_elim
    (λ (h : i < n). rw get_or-take (fit i))
    (λ (h : n ≤ i). let past : length (take n bs) ≤ i = simp length-take (omega arith) in rw get_or_past (omega arith))
    (cases_lt i n)

-- numbers of four bytes each, one after the other
pub fours_read : (n : ℕ) (bs cs : List ℕ) (chunks : List (List ℕ)) → length bs ≡ 4 * n → length cs ≡ n → chunks ≡ first_chunks 4 n bs → ((i : ℕ) → get_or bs i 0 < 256) → ((i : ℕ) → i < n → get_or cs i 0 ≡ from_be_bytes w32 (get_or chunks i [])) → bs ≡ fours cs
fours_read zero [] [] chunks h l q fit each = refl
fours_read zero (b ∷ bs) cs chunks h l q fit each = absurd (omega arith)
fours_read zero [] (c ∷ cs) chunks h l q fit each = absurd (omega arith)
fours_read (suc n) bs [] chunks h l q fit each = absurd (omega arith)
fours_read (suc n) bs (c ∷ cs) chunks h l q fit each =
    let number : (i : ℕ) → i < suc n → get_or (c ∷ cs) i 0 ≡ from_be_bytes w32 (get_or (first_chunks 4 (suc n) bs) i []) = λ i k. each i k ∙ ap (λ z. from_be_bytes w32 (get_or z i [])) q in
    let first : four c ≡ take 4 bs = be_bytes_4 (take 4 bs) c (length-take-le 4 bs (omega arith)) (λ i. fit_take 4 bs i fit) (number 0 (omega arith)) in
    let rest = fours_read n (drop 4 bs) cs (first_chunks 4 n (drop 4 bs)) (length-drop 4 bs ∙ omega arith) (omega arith) refl (λ i. fit_drop 4 bs i fit) (λ i k. number (suc i) (omega arith)) in
    sym (take-append-drop 4 bs) ∙ (λ j. sym first j ++ rest j)

-- what holds of each of eight
pub eight_cases : (P : ℕ → Type 0) → P 0 → P 1 → P 2 → P 3 → P 4 → P 5 → P 6 → P 7 → (i : ℕ) → i < 8 → P i
eight_cases P a b c d e f g h zero l = a
eight_cases P a b c d e f g h (suc zero) l = b
eight_cases P a b c d e f g h (suc (suc zero)) l = c
eight_cases P a b c d e f g h (suc (suc (suc zero))) l = d
eight_cases P a b c d e f g h (suc (suc (suc (suc zero)))) l = e
eight_cases P a b c d e f g h (suc (suc (suc (suc (suc zero))))) l = f
eight_cases P a b c d e f g h (suc (suc (suc (suc (suc (suc zero)))))) l = g
eight_cases P a b c d e f g h (suc (suc (suc (suc (suc (suc (suc zero))))))) l = h
eight_cases P a b c d e f g h (suc (suc (suc (suc (suc (suc (suc (suc i)))))))) l = absurd (omega arith)
