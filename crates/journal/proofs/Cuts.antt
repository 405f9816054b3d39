-- The bytes of records, cut off somewhere.
use Rattle.std.proofs.Common.{◌≡◌, ℕ, zero, suc, ◌+◌, ◌-◌, ◌*◌, ◌<◌, ◌≤◌, true, cond, ltb, leb, List, [], ◌∷◌, ◌++◌, length, get_or, take, Some, None, sym, refl, ap, ◌∙◌, ⊎_elim, append_assoc, arith, length-append, lt-ltb}
use lib.Seq.{take-append-le}
use Rattle.std.proofs.lemmas.List.{get_or_at, get_or-take, length-take-le}
use Rattle.std.proofs.lemmas.Bool.{cases_lt}
use Rattle.register.specs.Registers.{Record, put, removed, made, went_up, turned, went_down, filled, cleared, came_up}
use Rattle.journal.specs.Bytes.{two, fours, known, pairs, stage_bytes, bytes_of, all_bytes, Writable, AllWritable, size_with, below, is_part}
use Rattle.journal.specs.Laws.{CutAnywhere, CutBehind}
use Rattle.journal.proofs.Sizes.{length_fours, length_pairs, few_stages, size_with_lem}

-- fewer bytes than a record with stages has
with_part : (n there count m : ℕ) → there < m → (n ≤ there → (count ≤ 8) × (n + 2 * count ≡ m)) → below there (size_with n there count) ≡ true
with_part n there count m h full =
    ⊎_elim
    (λ (l : there < n). ap (λ b. below there (cond b (Some n) (cond (leb count 8) (Some (n + 2 * count)) None))) (lt-ltb there n l) ∙ lt-ltb there n l)
    (λ (l : n ≤ there). let (a, b) = full l in ap (below there) (size_with_lem n there count m l a b) ∙ lt-ltb there m h)
    (cases_lt there n)

-- fewer bytes than a record has whose length its first byte tells
fixed_part : (m j : ℕ) (body : List ℕ) → suc j < m → j ≤ length body → ltb (suc (length (take j body))) m ≡ true
fixed_part m j body h l = lt-ltb (suc (length (take j body))) m (omega (arith, length-take-le j body l))

-- a first part of a record's bytes is a part
first_part : (x : Record) (m : ℕ) → Writable x → m < length (bytes_of x) → is_part (take m (bytes_of x)) ≡ true
first_part x zero w h = refl
first_part (put k n ss) (suc j) w h =
    let cs = n.columns in
    let body = two k ++ (fours cs ++ stage_bytes ss) in
    let f = length_fours cs in
    let p = length_pairs 0 ss in
    let eight = w.1.eight in
    let l = length-append (fours cs) (stage_bytes ss) in
    let t : length (take j body) ≡ j = length-take-le j body (omega arith) in
    with_part 36 (suc (length (take j body))) (get_or (take j body) 34 0) (36 + 2 * known ss) (omega arith) (λ r.
    let c : get_or (take j body) 34 0 ≡ known ss = get_or-take j body 34 0 (omega arith) ∙ get_or_at (fours cs) (known ss) (pairs 0 ss) 0 32 (omega arith) in
    let few = few_stages ss w.2 in
    (omega arith, omega arith))
first_part (removed k ss) (suc j) w h =
    let body = two k ++ stage_bytes ss in
    let p = length_pairs 0 ss in
    let t : length (take j body) ≡ j = length-take-le j body (omega arith) in
    with_part 4 (suc (length (take j body))) (get_or (take j body) 2 0) (4 + 2 * known ss) (omega arith) (λ r.
    let c : get_or (take j body) 2 0 ≡ known ss = get_or-take j body 2 0 (omega arith) in
    let few = few_stages ss w.1 in
    (omega arith, omega arith))
first_part (made i c u) (suc j) w h = fixed_part 4 j _ (omega arith) (omega arith)
first_part (went_up i) (suc j) w h = fixed_part 2 j _ (omega arith) (omega arith)
first_part (turned i) (suc j) w h = fixed_part 2 j _ (omega arith) (omega arith)
first_part (went_down i) (suc j) w h = fixed_part 2 j _ (omega arith) (omega arith)
first_part (filled i k) (suc j) w h = fixed_part 4 j _ (omega arith) (omega arith)
first_part (cleared i k) (suc j) w h = fixed_part 4 j _ (omega arith) (omega arith)
first_part came_up (suc j) w h = fixed_part 1 j _ (omega arith) (omega arith)

take_behind : (front bs : List ℕ) (n : ℕ) → length front ≤ n → take n (front ++ bs) ≡ front ++ take (n - length front) bs
take_behind [] bs n h = ap (λ (k : ℕ). take k bs) (omega arith)
take_behind (a ∷ front) bs zero h = absurd (omega arith)
take_behind (a ∷ front) bs (suc n) h = ap (λ l. a ∷ l) (take_behind front bs n (omega arith) ∙ ap (λ (k : ℕ). front ++ take k bs) (omega arith))

pub all_append : (xs ys : List Record) → all_bytes (xs ++ ys) ≡ all_bytes xs ++ all_bytes ys
unfolding all_bytes
all_append [] ys = refl
all_append (x ∷ xs) ys = ap (λ l. bytes_of x ++ l) (all_append xs ys) ∙ sym (append_assoc (bytes_of x) (all_bytes xs) (all_bytes ys))

take_none : (n : ℕ) → take {A = ℕ} n [] ≡ []
take_none zero = refl
take_none (suc n) = refl

pub cut_anywhere : CutAnywhere
unfolding all_bytes AllWritable
cut_anywhere [] n w = (0, [], 0, take_none n, refl, refl)
cut_anywhere (x ∷ xs) n w =
    let B = bytes_of x in
    ⊎_elim
    (λ (h : n < length B).
    let e = take-append-le n B (all_bytes xs) (omega arith) in
    (0, take n B, n, e, first_part x n w.0 h, sym e))
    (λ (h : length B ≤ n).
    let (k, part, m, e, p, f) = cut_anywhere xs (n - length B) w.1 in
    (suc k, part, m, take_behind B (all_bytes xs) n h ∙ ap (λ l. B ++ l) e ∙ sym (append_assoc B (all_bytes (take k xs)) part), p, f))
    (cases_lt n (length B))

pub cut_behind : CutBehind
cut_behind xs ys n w h =
    let A = all_bytes xs in
    let (k, part, m, e, p, f) = cut_anywhere ys (n - length A) w in
    let cut = ap (take n) (all_append xs ys) ∙ take_behind A (all_bytes ys) n h ∙ ap (λ l. A ++ l) e ∙ sym (append_assoc A (all_bytes (take k ys)) part) in
    (k, part, cut ∙ ap (λ l. l ++ part) (sym (all_append xs (take k ys))), p)
