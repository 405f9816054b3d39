-- Bytes added behind others.
use Rattle.std.proofs.Common.{◌≡◌, ℕ, ◌+◌, ◌<◌, true, List, [], ◌∷◌, ◌++◌, length, get_or, take, is_err, cond, nat_lt, Ok, Err, Result, refl, ap, ◌∙◌, append_assoc, arith}
use Rattle.std.specs.List.{count_by}
use Rattle.std.proofs.lemmas.List.{map_more, take_more, length-map, length-take-le}
use Rattle.std.proofs.lemmas.List.Recursion.{is_count_by}
use Rattle.stage.specs.declared.kinds.Stage.{Stage}
use Rattle.stage.specs.declared.kinds.Stage.TheVariants.{Absent, DeleteOnly, WriteOnly, Public}
use Rattle.stage.specs.Stages.{rank, ranks}
use Rattle.journal.specs.Bytes.{four, fours, known, pairs}
use Rattle.journal.specs.Writes.{Added}
use Rattle.journal.proofs.Pairs.{pairs_push}

-- some bytes are added, and then memory is short for others
pub added_short : {X Y : Type 0} (r : Result X Y) (a b old mid new : List ℕ) → is_err r ≡ true → mid ≡ old ++ a → ((more : List ℕ) × (new ≡ mid ++ more)) → Added r b old new
added_short (Ok u) a b old mid new z e h = cc
added_short (Err u) a b old mid new z e h = let (more, f) = h in (a ++ more, f ∙ ap (λ l. l ++ more) e ∙ append_assoc old a more)

known_one : (s : Stage) (ss : List Stage) → known (ranks (s ∷ ss)) ≡ cond (nat_lt 0 (rank s)) (1 + known (ranks ss)) (known (ranks ss))
known_one Absent ss = omega arith
known_one DeleteOnly ss = refl
known_one WriteOnly ss = refl
known_one Public ss = refl

-- how many stages are there
pub known_count : (ss : List Stage) → known (ranks ss) ≡ count_by (λ s. nat_lt 0 (rank s)) ss
known_count = is_count_by (λ ss. known (ranks ss)) (λ s. nat_lt 0 (rank s)) refl known_one

fours_push : (xs : List ℕ) (c : ℕ) → fours (xs ++ (c ∷ [])) ≡ fours xs ++ four c
fours_push [] c = refl
fours_push (x ∷ xs) c = ap (λ l. four x ++ l) (fours_push xs c)

-- the pairs of one stage more
pub pairs_more : (ss : List Stage) (i : ℕ) (s : Stage) → i < length ss → pairs 0 (ranks (take (i + 1) ss)) ≡ pairs 0 (ranks (take i ss)) ++ pairs i (rank (get_or ss i s) ∷ [])
pairs_more ss i s h =
    let l : length (ranks (take i ss)) ≡ i = length-map (take i ss) rank ∙ length-take-le i ss (omega arith) in
    ap (pairs 0) (map_more rank ss i s h) ∙ pairs_push 0 (ranks (take i ss)) (rank (get_or ss i s)) ∙ ap (λ (k : ℕ). pairs 0 (ranks (take i ss)) ++ pairs k (rank (get_or ss i s) ∷ [])) (omega arith)

pub fours_more : (cs : List ℕ) (i : ℕ) → i < length cs → fours (take (i + 1) cs) ≡ fours (take i cs) ++ four (get_or cs i 0)
fours_more cs i h = ap fours (take_more cs i 0 h) ∙ fours_push (take i cs) (get_or cs i 0)
