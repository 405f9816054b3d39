-- What replay of the records that are left does, one record more.
use Rattle.std.proofs.Common.{◌≡◌, ℕ, ◌+◌, ◌<◌, ◌≤◌, true, false, ◌&&◌, List, map, length, get_or, drop, is_ok, Ok, Err, MatchResult, Result, sym, ap, ◌∙◌, ap₂, arith}
use Rattle.std.specs.Result.{IsErrAnd}
use Rattle.std.proofs.lemmas.Result.{err_from_is_err_and}
use Rattle.std.proofs.lemmas.List.{at_drop_more, at_drop_all}
use Rattle.register.specs.declared.kinds.Record as codes
use Rattle.register.specs.Registers.{Register, Record, applied, replayed}
use Rattle.register.specs.Held.{record_of, can_do, can_do_all, Applied}

-- after n records, what is left decides of all
pub record Left (xs : List codes.Record) (n : ℕ) (from now : Register) : Type 0 where
  pub can : can_do_all (map record_of xs) from ≡ can_do_all (map record_of (drop n xs)) now
  pub did : replayed (map record_of xs) from ≡ replayed (map record_of (drop n xs)) now

module _ (xs : List codes.Record) (n : ℕ) (R S : Register) (left : Left xs n R S) where
  module _ (x : codes.Record) (l : n < length xs) (is : x ≡ get_or xs n x) where
    next_can : can_do_all (map record_of xs) R ≡ can_do (record_of x) S && can_do_all (map record_of (drop (n + 1) xs)) (applied (record_of x) S)
    unfolding can_do_all
    next_can =
        left.can ∙ at_drop_more (λ (ys : List codes.Record). can_do_all (map record_of ys) S) xs n x l
        ∙ ap (λ y. can_do (record_of y) S && can_do_all (map record_of (drop (n + 1) xs)) (applied (record_of y) S)) (sym is)

    next_did : replayed (map record_of xs) R ≡ replayed (map record_of (drop (n + 1) xs)) (applied (record_of x) S)
    unfolding replayed
    next_did =
        left.did ∙ at_drop_more (λ (ys : List codes.Record). replayed (map record_of ys) S) xs n x l
        ∙ ap (λ y. replayed (map record_of (drop (n + 1) xs)) (applied (record_of y) S)) (sym is)

    -- one record more
    pub Left-more : (T : Register) → (can_do (record_of x) S ≡ true) × (T ≡ applied (record_of x) S) → Left xs (n + 1) R T
    Left-more T (can, did) = record {
      can = next_can ∙ ap₂ (λ b U. b && can_do_all (map record_of (drop (n + 1) xs)) U) can (sym did);
      did = next_did ∙ ap (λ U. replayed (map record_of (drop (n + 1) xs)) U) (sym did);
    }

    -- a record that cannot be done
    pub refused : can_do (record_of x) S ≡ false → can_do_all (map record_of xs) R ≡ false
    refused cannot = next_can ∙ ap (λ b. b && can_do_all (map record_of (drop (n + 1) xs)) (applied (record_of x) S)) cannot

  -- all records
  pub Left-all : length xs ≤ n → (can_do_all (map record_of xs) R ≡ true) × (S ≡ replayed (map record_of xs) R)
  unfolding can_do_all replayed
  Left-all l = (
    left.can ∙ at_drop_all (λ (ys : List codes.Record). can_do_all (map record_of ys) S) xs n l,
    sym (left.did ∙ at_drop_all (λ (ys : List codes.Record). replayed (map record_of ys) S) xs n l),
  )

-- what a record did, and what it did not
pub was_done : {X Y : Type 0} (r : Result X Y) (x : Record) (R S : Register) → is_ok r ≡ true → Applied r x R S → (can_do x R ≡ true) × (S ≡ applied x R)
was_done (Ok u) x R S e a = a
was_done (Err u) x R S e a = absurd (grind arith)

pub was_refused : {X Y : Type 0} (r : Result X Y) (x : Record) (R S : Register) → is_ok r ≡ false → Applied r x R S → can_do x R ≡ false
was_refused (Ok u) x R S e a = absurd (grind arith)
was_refused (Err u) x R S e a = a.0

-- what every refusal is turned into
pub turned_into : {X E F : Type 0} (r : Result X E) (m : Result X F) (P : E → F → Type 0) (to : F) → ((e : E) (f : F) → P e f → f ≡ to) → MatchResult r (λ x. m ≡ Ok x) (λ e. IsErrAnd m (P e)) → (f : F) → m ≡ Err f → f ≡ to
turned_into (Ok x) m P to all told f is = absurd (cc)
turned_into (Err y) m P to all told f is = let (d, e, p) = err_from_is_err_and m told in let same : d ≡ f = cc in sym same ∙ all y d p
