-- A row's values, read one by one.
use Rattle.std.proofs.Common.{◌≡◌, ℕ, suc, ◌+◌, ◌-◌, ◌<◌, List, [], ◌∷◌, ◌++◌, length, take, drop, set, Some, None, Option, sym, refl, ap, append_assoc, append-nil, arith}
use Rattle.std.specs.Option.{option_map}
use Rattle.std.proofs.lemmas.List.{take_more_set, take_all}
use Rattle.words.specs.Numbers.{first_number}
use Rattle.lines.specs.Asks.{values_in, in_front}

-- of so many columns the first is the next word
one : (n : ℕ) (ws : List (List ℕ)) (v : Option ℕ) → v ≡ first_number 4294967295 ws → values_in (suc n) ws ≡ in_front v (values_in n (drop 1 ws))
unfolding values_in
one n ws v f = ap (λ x. in_front x (values_in n (drop 1 ws))) (sym f)

-- a value behind those that are there
joined : (front : List ℕ) (v : ℕ) (x : Option (List ℕ)) → option_map (λ vs. front ++ vs) (in_front (Some v) x) ≡ option_map (λ vs. (front ++ v ∷ []) ++ vs) x
joined front v None = refl
joined front v (Some vs) = ap Some (sym (append_assoc front (v ∷ []) vs))

pub next_value : (all : Option (List ℕ)) (i v : ℕ) (cs : List ℕ) (ws rest : List (List ℕ)) → i < 8 → length cs ≡ 8 → all ≡ option_map (λ vs. take i cs ++ vs) (values_in (8 - i) ws) → Some v ≡ first_number 4294967295 ws → rest ≡ drop 1 ws → all ≡ option_map (λ vs. take (i + 1) (set cs i v) ++ vs) (values_in (8 - (i + 1)) rest)
next_value all i v cs ws rest lt long a f r =
    let less : i < length cs = omega arith in
    let e : 8 - i ≡ suc (8 - (i + 1)) = omega arith in
    let n : ℕ = 8 - (i + 1) in
    rw (a, e, one n ws (Some v) f, r, take_more_set cs i v less) (joined (take i cs) v (values_in n (drop 1 ws)))

pub no_value : {A : Type 0} (g : List ℕ → A) (f : List ℕ → List ℕ) (all : Option (List ℕ)) (i : ℕ) (ws : List (List ℕ)) → i < 8 → all ≡ option_map f (values_in (8 - i) ws) → None ≡ first_number 4294967295 ws → None ≡ option_map g all
no_value g f all i ws lt a n =
    let e : 8 - i ≡ suc (8 - (i + 1)) = omega arith in
    rw (a, e, one (8 - (i + 1)) ws None n) refl

pub all_values : {A : Type 0} (g : List ℕ → A) (all : Option (List ℕ)) (i : ℕ) (cs : List ℕ) (ws : List (List ℕ)) → i ≡ 8 → length cs ≡ 8 → all ≡ option_map (λ vs. take i cs ++ vs) (values_in (8 - i) ws) → Some (g cs) ≡ option_map g all
unfolding values_in
all_values g all i cs ws e long a =
    let none : 8 - i ≡ 0 = omega arith in
    rw (a, none, append-nil (take i cs), take_all i cs (omega arith)) refl
