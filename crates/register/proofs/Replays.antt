-- Records done one after the other.
use Rattle.std.proofs.Common.{◌≡◌, ℕ, ◌≤◌, true, List, [], ◌∷◌, ◌++◌, refl, ap, ◌∙◌, arith}
use Rattle.register.specs.Registers.{Register, Record, put, removed, made, went_up, turned, went_down, filled, cleared, came_up, applied, replayed, doable, all_doable, row_by, row_after, ReplayedInParts, RowsReplayed}

pub in_parts : ReplayedInParts
unfolding replayed
in_parts [] ys r = refl
in_parts (x ∷ xs) ys r = in_parts xs ys (applied x r)

row_by_lem : (k : ℕ) (x : Record) (r : Register) → (applied x r).row k ≡ row_by k x (r.row k)
row_by_lem k (put j n ss) r = refl
row_by_lem k (removed j ss) r = refl
row_by_lem k (made i c u) r = refl
row_by_lem k (went_up i) r = refl
row_by_lem k (turned i) r = refl
row_by_lem k (went_down i) r = refl
row_by_lem k (filled i j) r = refl
row_by_lem k (cleared i j) r = refl
row_by_lem k came_up r = refl

pub rows_replayed : RowsReplayed
unfolding replayed row_after
rows_replayed [] r k = refl
rows_replayed (x ∷ xs) r k = rows_replayed xs (applied x r) k ∙ ap (row_after k xs) (row_by_lem k x r)

epoch_grows_by : (x : Record) (r : Register) → r.epoch ≤ (applied x r).epoch
epoch_grows_by (put k n ss) r = omega arith
epoch_grows_by (removed k ss) r = omega arith
epoch_grows_by (made i c u) r = omega arith
epoch_grows_by (went_up i) r = omega arith
epoch_grows_by (turned i) r = omega arith
epoch_grows_by (went_down i) r = omega arith
epoch_grows_by (filled i k) r = omega arith
epoch_grows_by (cleared i k) r = omega arith
epoch_grows_by came_up r = omega arith

pub epoch_grows : (xs ys : List Record) (r : Register) → (replayed xs r).epoch ≤ (replayed (xs ++ ys) r).epoch
unfolding replayed
epoch_grows [] [] r = omega arith
epoch_grows [] (y ∷ ys) r = let a = epoch_grows_by y r in let b = epoch_grows [] ys (applied y r) in omega arith
epoch_grows (x ∷ xs) ys r = epoch_grows xs ys (applied x r)

-- one more record that can be done
pub one_doable_more : (keys indexes columns : ℕ) (xs : List Record) (x : Record) (r : Register) → all_doable keys indexes columns xs r ≡ true → doable keys indexes columns x (replayed xs r) ≡ true → all_doable keys indexes columns (xs ++ (x ∷ [])) r ≡ true
unfolding replayed all_doable
one_doable_more keys indexes columns [] x r e f = grind arith
one_doable_more keys indexes columns (y ∷ ys) x r e f = let ih = one_doable_more keys indexes columns ys x (applied y r) in grind arith
