-- Stages among bytes.
use Rattle.std.proofs.Common.{◌≡◌, ℕ, zero, suc, ◌+◌, ◌*◌, ◌<◌, ◌≤◌, ◌≢◌, true, false, cond, List, [], ◌∷◌, ◌++◌, length, get_or, take, drop, set, Some, None, Option, sym, refl, ap, ◌∙◌, subst, append_assoc, append-nil, arith, eqb, length-append, length-set, get_or-set_other, ne_eqb, take_all}
use Rattle.std.specs.Bool.{◌==◌, then_some}
use Rattle.std.specs.Option.{option_map}
use Rattle.std.proofs.lemmas.Bool.Decides.{nat_tests}
use Rattle.std.proofs.lemmas.List.{map_more, map_push, take_more_set, length-map, length-take-le}
use Rattle.stage.specs.declared.kinds.Stage.{Stage}
use Rattle.stage.specs.declared.kinds.Stage.TheVariants.{Absent, DeleteOnly, WriteOnly, Public}
use Rattle.stage.specs.Stages.{rank, ranks}
use Rattle.register.specs.Registers.{all_stages, are_stages}
use Rattle.journal.specs.Bytes.{known, pairs, stage_bytes}
use Rattle.journal.specs.Reads.{ReadOf, IsWritten}
use Rattle.journal.proofs.Sizes.{length_pairs}

eight_of : (ss : List ℕ) → are_stages 8 ss ≡ true → (length ss ≡ 8) × (all_stages ss ≡ true)
eight_of ss h = (grind (arith, nat_tests), grind (arith, nat_tests))

eight_stages : (ss : List ℕ) → length ss ≡ 8 → all_stages ss ≡ true → are_stages 8 ss ≡ true
eight_stages ss p q = grind (arith, nat_tests)

all_stages_lem : (ss : List Stage) → all_stages (ranks ss) ≡ true
unfolding all_stages
all_stages_lem [] = refl
all_stages_lem (Absent ∷ ss) = all_stages_lem ss
all_stages_lem (DeleteOnly ∷ ss) = all_stages_lem ss
all_stages_lem (WriteOnly ∷ ss) = all_stages_lem ss
all_stages_lem (Public ∷ ss) = all_stages_lem ss

pub eight_ranks : (ss : List Stage) → length ss ≡ 8 → are_stages 8 (ranks ss) ≡ true
eight_ranks ss h = eight_stages (ranks ss) (length-map ss rank ∙ h) (all_stages_lem ss)

-- a stage that is there has a pair
pairs_suc : (i s : ℕ) (ss : List ℕ) → pairs i (suc s ∷ ss) ≡ i ∷ suc s ∷ pairs (i + 1) ss
pairs_suc i s ss = ap (λ b. cond b (pairs (i + 1) ss) (i ∷ suc s ∷ pairs (i + 1) ss)) (ne_eqb (suc s) 0 (λ e. omega arith))

known_suc : (s : ℕ) (ss : List ℕ) → known (suc s ∷ ss) ≡ 1 + known ss
known_suc s ss = ap (λ b. cond b 0 1 + known ss) (ne_eqb (suc s) 0 (λ e. omega arith))

-- the first pair is of this index or a later one
first_pair : (i : ℕ) (ss rest : List ℕ) → 0 < known ss → i ≤ get_or (pairs i ss ++ rest) 0 0
first_pair i [] rest h = absurd (omega arith)
first_pair i (zero ∷ ss) rest h = let more = first_pair (i + 1) ss rest (omega arith) in omega arith
first_pair i (suc s ∷ ss) rest h = rw pairs_suc (omega arith)

-- as many pairs are of the same stages, and the same is behind them
unique_pairs : (i : ℕ) (ss ts r s : List ℕ) → length ss ≡ length ts → known ss ≡ known ts → pairs i ss ++ r ≡ pairs i ts ++ s → (ss ≡ ts) × (r ≡ s)
unique_pairs i [] [] r s l k e = (refl, e)
unique_pairs i [] (b ∷ ts) r s l k e = absurd (omega arith)
unique_pairs i (a ∷ ss) [] r s l k e = absurd (omega arith)
unique_pairs i (zero ∷ ss) (zero ∷ ts) r s l k e = let (p, q) = unique_pairs (i + 1) ss ts r s (omega arith) (omega arith) e in (ap (λ l. 0 ∷ l) p, q)
unique_pairs i (zero ∷ ss) (suc b ∷ ts) r s l k e =
    let first = first_pair (i + 1) ss r (omega (arith, known_suc b ts)) in
    let f = e ∙ ap (λ l. l ++ s) (pairs_suc i b ts) in
    absurd (omega (arith, ap (λ l. get_or l 0 0) f))
unique_pairs i (suc a ∷ ss) (zero ∷ ts) r s l k e =
    let first = first_pair (i + 1) ts s (omega (arith, known_suc a ss)) in
    let f = sym e ∙ ap (λ l. l ++ r) (pairs_suc i a ss) in
    absurd (omega (arith, ap (λ l. get_or l 0 0) f))
unique_pairs i (suc a ∷ ss) (suc b ∷ ts) r s l k e =
    let f : i ∷ suc a ∷ (pairs (i + 1) ss ++ r) ≡ i ∷ suc b ∷ (pairs (i + 1) ts ++ s) = sym (ap (λ l. l ++ r) (pairs_suc i a ss)) ∙ e ∙ ap (λ l. l ++ s) (pairs_suc i b ts) in
    let (p, q) = unique_pairs (i + 1) ss ts r s (omega arith) (omega (arith, known_suc a ss, known_suc b ts)) (cc) in
    (cc, q)

pub unique_stages : (ss ts r s : List ℕ) → are_stages 8 ss ≡ true → are_stages 8 ts ≡ true → stage_bytes ss ++ r ≡ stage_bytes ts ++ s → (ss ≡ ts) × (r ≡ s)
unique_stages ss ts r s p q e =
    let k : known ss ≡ known ts = cc in
    let f : pairs 0 ss ++ r ≡ pairs 0 ts ++ s = cc in
    unique_pairs 0 ss ts r s ((eight_of ss p).0 ∙ sym (eight_of ts q).0) k f

pub pairs_push : (i : ℕ) (xs : List ℕ) (s : ℕ) → pairs i (xs ++ (s ∷ [])) ≡ pairs i xs ++ pairs (i + length xs) (s ∷ [])
pairs_push i [] s = ap (λ (k : ℕ). pairs k (s ∷ [])) (omega arith)
pairs_push i (zero ∷ xs) s = pairs_push (i + 1) xs s ∙ ap (λ (k : ℕ). pairs (i + 1) xs ++ pairs k (s ∷ [])) (omega arith)
pairs_push i (suc x ∷ xs) s =
    let more = pairs_push (i + 1) xs s ∙ ap (λ (k : ℕ). pairs (i + 1) xs ++ pairs k (s ∷ [])) (omega arith) in
    pairs_suc i x (xs ++ (s ∷ [])) ∙ ap (λ l. i ∷ suc x ∷ l) more ∙ sym (ap (λ l. l ++ pairs (i + suc (length xs)) (s ∷ [])) (pairs_suc i x xs))

-- the stages that were read of pairs, and the pairs that are left; whatever stages have all these pairs begin so
pub record ReadSoFar (bs rest ss : List ℕ) : Type 0 where
  pub stand : bs ≡ pairs 0 ss ++ rest
  pub only : (ts : List ℕ) → length ss ≤ length ts → bs ≡ pairs 0 ts → (more : List ℕ) × (ts ≡ ss ++ more) × (rest ≡ pairs (length ss) more)

pub none_yet : (bs : List ℕ) → ReadSoFar bs bs []
none_yet bs = record { stand = refl; only = λ ts l e. (ts, refl, e) }

push_length : (ss : List ℕ) (s : ℕ) → length (ss ++ (s ∷ [])) ≡ length ss + 1
push_length ss s = length-append ss (s ∷ []) ∙ omega arith

-- what is behind some stages, of which the next is absent
behind_absent : (ss ts rest more : List ℕ) → ((s : ℕ) (tl : List ℕ) → rest ≢ length ss ∷ s ∷ tl) → length ss + 1 ≤ length ts → ts ≡ ss ++ more → rest ≡ pairs (length ss) more
    → (tl : List ℕ) × (ts ≡ (ss ++ (0 ∷ [])) ++ tl) × (rest ≡ pairs (length (ss ++ (0 ∷ []))) tl)
behind_absent ss ts rest [] none l p q = absurd (omega (arith, ap length p, length-append ss []))
behind_absent ss ts rest (zero ∷ tl) none l p q = (tl, p ∙ sym (append_assoc ss (0 ∷ []) tl), q ∙ ap (λ (k : ℕ). pairs k tl) (sym (push_length ss 0)))
behind_absent ss ts rest (suc s ∷ tl) none l p q = absurd (none (suc s) (pairs (length ss + 1) tl) (q ∙ pairs_suc (length ss) s tl))

-- an index without a pair is absent
pub absent_next : (bs rest ss : List ℕ) → ReadSoFar bs rest ss → ((s : ℕ) (tl : List ℕ) → rest ≢ length ss ∷ s ∷ tl) → ReadSoFar bs rest (ss ++ (0 ∷ []))
absent_next bs rest ss r none = record {
  stand = r.stand ∙ ap (λ l. l ++ rest) (sym (pairs_push 0 ss 0 ∙ append-nil (pairs 0 ss)));
  only = λ ts l e.
      let m : length ss + 1 ≤ length ts = omega (arith, push_length ss 0) in
      let (more, p, q) = r.only ts (omega arith) e in
      behind_absent ss ts rest more none m p q;
}

-- what is behind some stages, of which the next has a pair
behind_pair : (ss ts tl more : List ℕ) (s : ℕ) → length ss + 1 ≤ length ts → ts ≡ ss ++ more → length ss ∷ s ∷ tl ≡ pairs (length ss) more
    → (end : List ℕ) × (0 < s) × (ts ≡ (ss ++ (s ∷ [])) ++ end) × (tl ≡ pairs (length (ss ++ (s ∷ []))) end)
behind_pair ss ts tl [] s l p q = absurd (omega (arith, ap length p, length-append ss []))
behind_pair ss ts tl (zero ∷ end) s l p q =
    let first = first_pair (length ss + 1) end [] (omega (arith, length_pairs (length ss + 1) end, ap length q)) in
    let e : length ss ≡ get_or (pairs (length ss + 1) end ++ []) 0 0 = ap (λ l. get_or l 0 0) (q ∙ sym (append-nil (pairs (length ss + 1) end))) in
    absurd (omega arith)
behind_pair ss ts tl (suc t ∷ end) s l p q =
    let f : length ss ∷ s ∷ tl ≡ length ss ∷ suc t ∷ pairs (length ss + 1) end = q ∙ pairs_suc (length ss) t end in
    let e : suc t ≡ s = cc in
    let g : tl ≡ pairs (length ss + 1) end = cc in
    (end, omega arith, p ∙ ap (λ (k : ℕ). ss ++ (k ∷ end)) e ∙ sym (append_assoc ss (s ∷ []) end), g ∙ ap (λ (k : ℕ). pairs k end) (sym (push_length ss s)))

-- a stage that is there adds a pair
push_pair : (ss : List ℕ) (s : ℕ) → 0 < s → pairs 0 (ss ++ (s ∷ [])) ≡ pairs 0 ss ++ (length ss ∷ s ∷ [])
push_pair ss zero h = absurd (omega arith)
push_pair ss (suc s) h =
    let one : pairs (0 + length ss) (suc s ∷ []) ≡ length ss ∷ suc s ∷ [] = pairs_suc (0 + length ss) s [] ∙ ap (λ (k : ℕ). k ∷ suc s ∷ []) (omega arith) in
    pairs_push 0 ss (suc s) ∙ ap (λ l. pairs 0 ss ++ l) one

-- an index with a pair has its stage
pub pair_next : (bs tl ss : List ℕ) (s : ℕ) → ReadSoFar bs (length ss ∷ s ∷ tl) ss → 0 < s → ReadSoFar bs tl (ss ++ (s ∷ []))
pair_next bs tl ss s r l = record {
  stand = r.stand ∙ sym (append_assoc (pairs 0 ss) (length ss ∷ s ∷ []) tl) ∙ ap (λ z. z ++ tl) (sym (push_pair ss s l));
  only = λ ts h e.
      let m : length ss + 1 ≤ length ts = omega (arith, push_length ss s) in
      let (more, p, q) = r.only ts (omega arith) e in
      let (end, there, f, g) = behind_pair ss ts tl more s m p q in
      (end, f, g);
}

-- each stage is one
is_stage : (xs ys : List ℕ) (s : ℕ) → all_stages ((xs ++ (s ∷ [])) ++ ys) ≡ true → s ≤ 3
unfolding all_stages
is_stage [] ys s h = grind (arith, nat_tests)
is_stage (x ∷ xs) ys s h = is_stage xs ys s (grind (arith, nat_tests))

-- a pair whose stage is not written is of no stages
pub no_stage : (bs tl ss : List ℕ) (s : ℕ) → ReadSoFar bs (length ss ∷ s ∷ tl) ss → length ss < 8 → (IsWritten s → ⊥) → (ts : List ℕ) → are_stages 8 ts ≡ true → bs ≢ pairs 0 ts
no_stage bs tl ss s r l none ts w e =
    let (eight, all) = eight_of ts w in
    let (more, p, q) = r.only ts (omega arith) e in
    let (end, there, f, g) = behind_pair ss ts tl more s (omega arith) p q in
    let small = is_stage ss end s (ap all_stages (sym f) ∙ all) in
    none (there, small)

-- all pairs are read
pub all_read : (bs ss : List ℕ) → ReadSoFar bs [] ss → bs ≡ pairs 0 ss
all_read bs ss r = r.stand ∙ append-nil (pairs 0 ss)

no_more : (ss ts rest more : List ℕ) → length ts ≤ length ss → ts ≡ ss ++ more → rest ≡ pairs (length ss) more → rest ≡ []
no_more ss ts rest [] l p q = q
no_more ss ts rest (s ∷ more) l p q = absurd (omega (arith, ap length p, length-append ss (s ∷ more)))

-- pairs that are left belong to no stages
pub pairs_left : (bs rest ss : List ℕ) → ReadSoFar bs rest ss → length ss ≡ 8 → rest ≢ [] → (ts : List ℕ) → are_stages 8 ts ≡ true → bs ≢ pairs 0 ts
pairs_left bs rest ss r h none ts w e =
    let (eight, all) = eight_of ts w in
    let (more, p, q) = r.only ts (omega arith) e in
    none (no_more ss ts rest more (omega arith) p q)

-- stages behind their count
pub counted : (n : ℕ) (bs : List ℕ) (r : Option (List ℕ)) → length bs ≡ 2 * n → ReadOf (pairs 0) (λ ss. are_stages 8 ss ≡ true) bs r → ReadOf stage_bytes (λ ss. are_stages 8 ss ≡ true) (n ∷ bs) r
counted n bs None h none = λ ss w e. none ss w (cc)
counted n bs (Some ss) h (w, e) =
    let k : n ≡ known ss = omega (arith, length_pairs 0 ss, ap length e) in
    (w, cc)

pub miscounted : (n : ℕ) (bs ss : List ℕ) → length bs ≢ 2 * n → n ∷ bs ≢ stage_bytes ss
miscounted n bs ss h e =
    let k : n ≡ known ss = cc in
    let f : bs ≡ pairs 0 ss = cc in
    h (ap length f ∙ length_pairs 0 ss ∙ ap (λ (m : ℕ). 2 * m) (sym k))

two_first : (bs : List ℕ) → 2 ≤ length bs → bs ≡ get_or bs 0 0 ∷ get_or bs 1 0 ∷ drop 2 bs
two_first [] h = absurd (omega arith)
two_first (a ∷ []) h = absurd (omega arith)
two_first (a ∷ b ∷ bs) h = refl

-- the stages of these many of eight indexes were read, and the others are absent
pub record StagesSoFar (bs rest : List ℕ) (ss : List Stage) (i : ℕ) : Type 0 where
  pub long : length ss ≡ 8
  pub read : ReadSoFar bs rest (ranks (take i ss))
  pub absent : (k : ℕ) → i ≤ k → get_or ss k Absent ≡ Absent

module _ (bs rest : List ℕ) (ss : List Stage) (i : ℕ) (so : StagesSoFar bs rest ss i) (below : i < 8) where
  so_many : length (ranks (take i ss)) ≡ i
  so_many = length-map (take i ss) rank ∙ length-take-le i ss (omega (arith, so.long))

  -- no pair of this index comes next
  pub no_pair_here : (2 ≤ length rest → get_or rest 0 0 ≢ i) → StagesSoFar bs rest ss (i + 1)
  no_pair_here none =
      let more : ranks (take (i + 1) ss) ≡ ranks (take i ss) ++ (0 ∷ []) = map_more rank ss i Absent (omega (arith, so.long)) ∙ ap (λ s. ranks (take i ss) ++ (rank s ∷ [])) (so.absent i (omega arith)) in
      record {
        long = so.long;
        read = subst (ReadSoFar bs rest) (sym more) (absent_next bs rest _ so.read (λ s tl e. none (omega (arith, ap length e)) (ap (λ l. get_or l 0 0) e ∙ so_many)));
        absent = λ k h. so.absent k (omega arith);
      }

  module _ (there : 2 ≤ length rest) (of : get_or rest 0 0 ≡ i) where
    split : rest ≡ length (ranks (take i ss)) ∷ get_or rest 1 0 ∷ drop 2 rest
    split = two_first rest there ∙ ap (λ (k : ℕ). k ∷ get_or rest 1 0 ∷ drop 2 rest) (of ∙ sym so_many)

    read_on : ReadSoFar bs (length (ranks (take i ss)) ∷ get_or rest 1 0 ∷ drop 2 rest) (ranks (take i ss))
    read_on = subst (λ l. ReadSoFar bs l (ranks (take i ss))) split so.read

    -- the pair of this index comes next
    pub pair_here : (s : Stage) → 0 < rank s → get_or rest 1 0 ∷ [] ≡ rank s ∷ [] → StagesSoFar bs (drop 2 rest) (set ss i s) (i + 1)
    pair_here s h e =
        let number : get_or rest 1 0 ≡ rank s = cc in
        let more : ranks (take i ss) ++ (get_or rest 1 0 ∷ []) ≡ ranks (take (i + 1) (set ss i s)) = ap (λ l. ranks (take i ss) ++ l) e ∙ sym (ap ranks (take_more_set ss i s (omega (arith, so.long))) ∙ map_push rank (take i ss) s) in
        record {
          long = length-set ss i s ∙ so.long;
          read = subst (ReadSoFar bs (drop 2 rest)) more (pair_next bs (drop 2 rest) _ _ read_on (omega arith));
          absent = λ k g. get_or-set_other ss i k s Absent (λ z. omega arith) ∙ so.absent k (omega arith);
        }

    -- it comes next, and its stage is not written
    pub no_stage_here : ((s : ℕ) → IsWritten s → get_or rest 1 0 ∷ [] ≢ s ∷ []) → ReadOf (pairs 0) (λ ts. are_stages 8 ts ≡ true) bs None
    no_stage_here none = no_stage bs (drop 2 rest) _ _ read_on (omega (arith, so_many)) (λ w. none _ w refl)

-- the stages of all indexes were read
pub stages_read : (bs rest : List ℕ) (ss : List Stage) (i : ℕ) → StagesSoFar bs rest ss i → 8 ≤ i → ReadOf (pairs 0) (λ ts. are_stages 8 ts ≡ true) bs (option_map ranks (then_some (length rest == 0) ss))
stages_read bs [] ss i so h = (eight_ranks ss so.long, all_read bs (ranks ss) (subst (λ l. ReadSoFar bs [] (ranks l)) (take_all i ss (omega (arith, so.long))) so.read))
stages_read bs (b ∷ rest) ss i so h =
    let all = subst (λ l. ReadSoFar bs (b ∷ rest) (ranks l)) (take_all i ss (omega (arith, so.long))) so.read in
    let left : eqb (length (b ∷ rest)) 0 ≡ false = ne_eqb _ 0 (λ z. omega arith) in
    subst (λ t. ReadOf (pairs 0) (λ ts. are_stages 8 ts ≡ true) bs (option_map ranks (then_some t ss))) (sym left) (pairs_left bs (b ∷ rest) (ranks ss) all (length-map ss rank ∙ so.long) (λ e. omega (arith, ap length e)))
