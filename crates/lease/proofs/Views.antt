-- What is asked of the code's stages and leases is what the rules ask of them as they see them.
use Rattle.std.proofs.Common.{◌≡◌, ℕ, Bool, ◌&&◌, ◌||◌, List, [], ◌∷◌, map, filter, find, nat_eq, refl, ap, ◌∙◌, sym, Option, arith}
use Rattle.std.specs.List.{list_any}
use Rattle.std.specs.Option.{option_map}
use Rattle.std.specs.Cmp.Lexicographic.{pointwise}
use Rattle.stage.specs.declared.kinds.Stage.{Stage}
use Rattle.stage.specs.Stages.{rank, ranks}
use Rattle.lease.specs.declared.lease.Lease.{Lease}
use Rattle.lease.specs.Leases as seen
use Rattle.lease.specs.Leases.{stays, noted}
use Rattle.lease.specs.Books.{lease_of, book_of, newest_of}

-- stages are compared as their numbers are
pub same_ranks : (E : Stage → Stage → Bool) → ((a b : Stage) → E a b ≡ nat_eq (rank a) (rank b)) → (xs ys : List Stage) → pointwise E xs ys ≡ pointwise nat_eq (ranks xs) (ranks ys)
same_ranks E e [] [] = refl
same_ranks E e [] (y ∷ ys) = refl
same_ranks E e (x ∷ xs) [] = refl
same_ranks E e (x ∷ xs) (y ∷ ys) = λ i. e x y i && same_ranks E e xs ys i

module _ {X Y : Type 0} (h : X → Y) (p : Y → Bool) where
  pub list_any-map : (xs : List X) → list_any p (map h xs) ≡ list_any (λ x. p (h x)) xs
  list_any-map [] = refl
  list_any-map (x ∷ xs) = ap (λ r. p (h x) || r) (list_any-map xs)

  pub filter-map : (xs : List X) → filter p (map h xs) ≡ map h (filter (λ x. p (h x)) xs)
  filter-map [] = refl
  filter-map (x ∷ xs) = let ih = filter-map xs in grind arith

  pub find-map : {Z : Type 0} (g : Y → Z) (xs : List X) → option_map g (find p (map h xs)) ≡ option_map (λ x. g (h x)) (find (λ x. p (h x)) xs)
  find-map g [] = refl
  find-map g (x ∷ xs) = let ih = find-map g xs in grind arith

-- the book, once what stays is kept behind the new lease
pub noted_view : (long : ℕ) (n : Lease) (ls vs : List Lease) → vs ≡ n ∷ filter (λ l. stays long (lease_of n) (lease_of l)) ls → book_of vs ≡ noted long (lease_of n) (book_of ls)
noted_view long n ls vs e = ap book_of e ∙ ap (λ (xs : List seen.Lease). lease_of n ∷ xs) (sym (filter-map lease_of (stays long (lease_of n)) ls))

-- the stages of an office's newest lease, once it is found
pub newest_found : (o : ℕ) (ls : List Lease) (r : Option Lease) → r ≡ find (λ (l : Lease). nat_eq l.office o) ls → option_map (λ (l : Lease). ranks l.stages) r ≡ newest_of o (book_of ls)
newest_found o ls r e = ap (option_map (λ (l : Lease). ranks l.stages)) e ∙ sym (find-map lease_of (λ l. nat_eq l.office o) (λ l. l.stages) ls)
