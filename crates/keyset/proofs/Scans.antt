-- A scan over the numbers below a bound, one number more at a time.
use Rattle.std.proofs.Common.{◌≡◌, ℕ, zero, suc, ◌+◌, ◌<◌, Bool, true, false, cond, ◌||◌, List, [], ◌∷◌, ◌++◌, sym, refl, ap, ◌∙◌, ⊎_elim, append-nil, add-one, zero-add, arith}
use Rattle.std.specs.List.{list_any, filter, range_with_len}
use Rattle.std.proofs.Math.Bool.{or-false}
use Rattle.std.proofs.lemmas.Bool.{cases_eq, or_left, or_right, or_from}
use Rattle.std.proofs.lemmas.List.{map-id}
use Rattle.std.proofs.lemmas.List.Elements.{filter-append}
use Rattle.std.proofs.lemmas.List.Folds.{list_any-append}
use Rattle.std.proofs.lemmas.List.FromFn.{map-range_with_len_more}
use Rattle.keyset.specs.Sets.{any_below, keys_below}

pub any_none : (f : ℕ → Bool) (n : ℕ) → ((k : ℕ) → k < n → f k ≡ false) → any_below f n ≡ false
unfolding any_below
any_none f zero h = refl
any_none f (suc n) h = or_from (any_below f n) (f n) (any_none f n (λ k l. h k (omega arith))) (h n (omega arith))

pub any_some : (f : ℕ → Bool) (n k : ℕ) → k < n → f k ≡ true → any_below f n ≡ true
unfolding any_below
any_some f zero k l e = absurd (omega arith)
any_some f (suc n) k l e =
    ⊎_elim (λ q. or_right (any_below f n) (f n) (ap f (sym q) ∙ e))
    (λ q. or_left (any_below f n) (f n) (any_some f n k (omega arith) e)) (cases_eq k n)

pub keys_none : (f : ℕ → Bool) → keys_below f 0 ≡ []
unfolding keys_below
keys_none f = refl

pub keys_more : (f : ℕ → Bool) (n : ℕ) → keys_below f (n + 1) ≡ keys_below f n ++ cond (f n) (n ∷ []) []
unfolding keys_below
keys_more f n = ap (keys_below f) (add-one n)

pub keys_in : (f : ℕ → Bool) (n : ℕ) → true ≡ f n → keys_below f (n + 1) ≡ keys_below f n ++ n ∷ []
keys_in f n e = keys_more f n ∙ ap (λ (b : Bool). keys_below f n ++ cond b (n ∷ []) []) (sym e)

pub keys_out : (f : ℕ → Bool) (n : ℕ) → false ≡ f n → keys_below f (n + 1) ≡ keys_below f n
keys_out f n e = keys_more f n ∙ ap (λ (b : Bool). keys_below f n ++ cond b (n ∷ []) []) (sym e) ∙ append-nil (keys_below f n)

-- the numbers below n + 1 are those below n, and n
one_more : (n : ℕ) → range_with_len 0 (n + 1) ≡ range_with_len 0 n ++ n ∷ []
one_more n =
    sym (map-id (range_with_len 0 (n + 1))) ∙ map-range_with_len_more (λ (k : ℕ). k) 0 n n (zero-add n)
    ∙ ap (λ (ks : List ℕ). ks ++ n ∷ []) (map-id (range_with_len 0 n))

-- whether a number of a range passes the test, and those that do
pub any_in_range : (f : ℕ → Bool) (n : ℕ) → list_any f (range_with_len 0 n) ≡ any_below f n
unfolding any_below
any_in_range f zero = refl
any_in_range f (suc n) =
    ap (λ (m : ℕ). list_any f (range_with_len 0 m)) (sym (add-one n)) ∙ ap (list_any f) (one_more n) ∙ list_any-append f (range_with_len 0 n) (n ∷ [])
    ∙ ap (λ (b : Bool). b || (f n || false)) (any_in_range f n) ∙ ap (λ (b : Bool). any_below f n || b) (or-false (f n))

pub keys_in_range : (f : ℕ → Bool) (n : ℕ) → filter f (range_with_len 0 n) ≡ keys_below f n
unfolding keys_below
keys_in_range f zero = refl
keys_in_range f (suc n) =
    ap (λ (m : ℕ). filter f (range_with_len 0 m)) (sym (add-one n)) ∙ ap (filter f) (one_more n) ∙ filter-append f (range_with_len 0 n) (n ∷ [])
    ∙ ap (λ (ks : List ℕ). ks ++ cond (f n) (n ∷ []) []) (keys_in_range f n)
