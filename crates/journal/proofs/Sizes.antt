-- How long records are, and where there is only a part of one.
use Rattle.std.proofs.Common.{◌≡◌, ℕ, zero, suc, ◌+◌, ◌-◌, ◌*◌, ◌<◌, ◌≤◌, ◌≢◌, true, false, cond, eqb, ltb, leb, List, [], ◌∷◌, ◌++◌, length, get_or, take, drop, Some, None, Option, sym, refl, ap, ap₂, ◌∙◌, append_assoc, arith, length-append, le-ltb, lt-ltb}
use Rattle.std.proofs.lemmas.List.{take_at, get_or_at, get_or-drop, drop-drop, take-append-drop}
use Rattle.std.proofs.lemmas.Bool.Decides.{nat_tests}
use Rattle.register.specs.Registers.{Record, put, removed, made, went_up, turned, went_down, filled, cleared, came_up, are_stages}
use Rattle.journal.specs.Bytes.{fours, known, pairs, stage_bytes, bytes_of, Writable, size_with, size_by, size_of, below, is_part}
use Rattle.journal.specs.Reads.{Refused}

-- the size by what stands at three places
pub size_read : (bs : List ℕ) (k : ℕ) (r : Option ℕ) → 0 < length bs → k ≡ get_or bs 0 0 → r ≡ size_by k (length bs) (get_or bs 35 0) (get_or bs 3 0) → size_of bs ≡ r
size_read [] k r h e f = absurd (omega arith)
size_read (b ∷ bs) k r h e f = ap (λ (n : ℕ). size_by n (length (b ∷ bs)) (get_or (b ∷ bs) 35 0) (get_or (b ∷ bs) 3 0)) (sym e) ∙ sym f

pub length_fours : (cs : List ℕ) → length (fours cs) ≡ 4 * length cs
length_fours [] = refl
length_fours (c ∷ cs) = omega (arith, length_fours cs)

pub length_pairs : (i : ℕ) (ss : List ℕ) → length (pairs i ss) ≡ 2 * known ss
length_pairs i [] = refl
length_pairs i (s ∷ ss) =
    let ih = length_pairs (i + 1) ss in
    elim (eqb s 0) as (λ b. length (cond b (pairs (i + 1) ss) (i ∷ s ∷ pairs (i + 1) ss)) ≡ 2 * (cond b 0 1 + known ss)) [ true ↦ omega arith | false ↦ omega arith ]

known_few : (ss : List ℕ) → known ss ≤ length ss
known_few [] = omega arith
known_few (s ∷ ss) =
    let ih = known_few ss in
    elim (eqb s 0) as (λ b. cond b 0 1 + known ss ≤ suc (length ss)) [ true ↦ omega arith | false ↦ omega arith ]

pub few_stages : (ss : List ℕ) → are_stages 8 ss ≡ true → known ss ≤ 8
few_stages ss h = let l : length ss ≡ 8 = grind (arith, nat_tests) in let k = known_few ss in omega arith

-- a count behind so many bytes
pub size_with_lem : (n there count m : ℕ) → n ≤ there → count ≤ 8 → n + 2 * count ≡ m → size_with n there count ≡ Some m
size_with_lem n there count m h c e =
    let a : ltb there n ≡ false = le-ltb there n h in
    let b : leb count 8 ≡ true = grind (arith, nat_tests) in
    (λ j. cond (a j) (Some n) (cond (b j) (Some (n + 2 * count)) None)) ∙ ap Some e

-- the size is that of the record
pub size_is : (y : Record) (rest : List ℕ) → Writable y → size_of (bytes_of y ++ rest) ≡ Some (length (bytes_of y))
size_is (put k n ss) rest w =
    let cs = n.columns in
    let f = length_fours cs in
    let p = length_pairs 0 ss in
    let eight = w.1.eight in
    let l : length (fours cs ++ stage_bytes ss) ≡ 33 + 2 * known ss = length-append (fours cs) (stage_bytes ss) ∙ omega arith in
    let r : length ((fours cs ++ stage_bytes ss) ++ rest) ≡ 33 + 2 * known ss + length rest = length-append (fours cs ++ stage_bytes ss) rest ∙ ap (λ (m : ℕ). m + length rest) l in
    let c : get_or ((fours cs ++ stage_bytes ss) ++ rest) 32 0 ≡ known ss = ap (λ v. get_or v 32 0) (append_assoc (fours cs) (stage_bytes ss) rest) ∙ get_or_at (fours cs) (known ss) (pairs 0 ss ++ rest) 0 32 (omega arith) in
    ap (λ (m : ℕ). size_with 36 (suc (suc (suc (length ((fours cs ++ stage_bytes ss) ++ rest))))) m) c ∙ size_with_lem 36 _ (known ss) _ (omega arith) (few_stages ss w.2) (omega arith)
size_is (removed k ss) rest w =
    let p = length_pairs 0 ss in
    size_with_lem 4 _ (known ss) _ (omega arith) (few_stages ss w.1) (omega arith)
size_is (made i c u) rest w = refl
size_is (went_up i) rest w = refl
size_is (turned i) rest w = refl
size_is (went_down i) rest w = refl
size_is (filled i k) rest w = refl
size_is (cleared i k) rest w = refl
size_is came_up rest w = refl

-- a record and what is behind it is no part of one
pub whole_no_part : (y : Record) (rest : List ℕ) → Writable y → is_part (bytes_of y ++ rest) ≡ false
whole_no_part y rest w = ap (below (length (bytes_of y ++ rest))) (size_is y rest w) ∙ le-ltb (length (bytes_of y ++ rest)) (length (bytes_of y)) (let l = length-append (bytes_of y) rest in omega arith)

-- what begins with a byte of no kind
pub size_none : (bs : List ℕ) → size_of bs ≡ None → Refused bs
size_none bs e = (
  ap (below (length bs)) e,
  λ y rest w f.
      let g : ◌≡◌ {A = Option ℕ} None (Some (length (bytes_of y))) = sym e ∙ ap size_of f ∙ size_is y rest w in
      cc,
)

-- what has the size of a record is none where it is not the bytes of one
pub size_only : (bs : List ℕ) (n : ℕ) → size_of bs ≡ Some n → n ≤ length bs → ((y : Record) → Writable y → take n bs ≢ bytes_of y) → Refused bs
size_only bs n e l none = (
  ap (below (length bs)) e ∙ le-ltb (length bs) n l,
  λ y rest w f.
      let g : ◌≡◌ {A = Option ℕ} (Some n) (Some (length (bytes_of y))) = sym e ∙ ap size_of f ∙ size_is y rest w in
      let m : n ≡ length (bytes_of y) = cc in
      none y w (ap (take n) f ∙ take_at (bytes_of y) rest n (sym m)),
)

-- fewer bytes than a record has
pub size_more : (bs : List ℕ) (n : ℕ) → size_of bs ≡ Some n → length bs < n → is_part bs ≡ true
size_more bs n e l = ap (below (length bs)) e ∙ lt-ltb (length bs) n l

-- every record has a byte
pub size_some : (bs : List ℕ) (n : ℕ) → size_of bs ≡ Some n → 1 ≤ n
size_some [] n e = grind arith
size_some (b ∷ bs) n e = grind (arith, nat_tests)

-- the first byte, and those behind it
pub front_read : (bs : List ℕ) (n k : ℕ) → 1 ≤ n → 0 < length bs → k ≡ get_or bs 0 0 → k ∷ take (n - 1) (drop 1 bs) ≡ take n bs
front_read [] n k h l e = absurd (omega arith)
front_read (b ∷ bs) zero k h l e = absurd (omega arith)
front_read (b ∷ bs) (suc n) k h l e = let m : suc n - 1 ≡ n = omega arith in λ j. e j ∷ take (m j) bs

-- the bytes from a place on
module _ (bs : List ℕ) (at : ℕ) where
  pub place_read : (k : ℕ) → k ≡ get_or bs at 0 → k ≡ get_or (drop at bs) 0 0
  place_read k e = e ∙ sym (get_or-drop at bs 0 0 ∙ ap (λ (i : ℕ). get_or bs i 0) (omega arith))

  -- what stands there, and what is behind it
  pub stands_there : (n : ℕ) (x : List ℕ) → take n (drop at bs) ≡ x → drop at bs ≡ x ++ drop (at + n) bs
  stands_there n x e = sym (take-append-drop n (drop at bs)) ∙ ap₂ (λ a b. a ++ b) e (drop-drop n at bs)
