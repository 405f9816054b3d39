-- The store's book of leases.
use Rattle.std.specs.Prelude.{◌≡◌, ℕ, ◌+◌, ◌*◌, ◌^◌, ◌<◌, ◌≤◌, Bool, not, ◌&&◌, ◌||◌, List, [], ◌∷◌, length, ◌==◌, ◌≢◌, nat_eq, nat_lt, slice_index, filter}
use Rattle.std.specs.List.{list_any, list_all}
use Rattle.std.specs.Cmp.Lexicographic.{pointwise}
use mathlib.Core.List.{Memᴰ}

-- a lease: the stages that an office was told, one for each index, and the store's clock when it was noted
pub record Lease : Type 0 where
  pub office : ℕ
  pub stages : List ℕ
  pub since : ℕ

-- the stage of an index among stages; an index that was made later counts as absent
abbrev pub stage_at : (stages : List ℕ) → (index : ℕ) → ℕ
stage_at ss i = slice_index ss i

-- does a lease run at a reading of the store's clock
abbrev pub runs : (long reading : ℕ) → Lease → Bool
runs long t l = nat_lt t (l.since + long)

-- are these the same stages
abbrev pub same_list : List ℕ → List ℕ → Bool
same_list xs ys = pointwise nat_eq xs ys

-- is a lease of that office and these stages
abbrev pub is_of : (office : ℕ) → (stages : List ℕ) → Lease → Bool
is_of o ss l = l.office == o && same_list l.stages ss

-- does a lease run, and is it of that office and these stages
abbrev pub stands : (long reading office : ℕ) → (stages : List ℕ) → Lease → Bool
stands long t o ss l = runs long t l && is_of o ss l

-- has an office a lease that runs, of these stages
abbrev pub holds : (long reading office : ℕ) → (stages : List ℕ) → List Lease → Bool
holds long t o ss ls = list_any (stands long t o ss) ls

-- is a lease over, or of that stage of an index
abbrev pub is_at : (long reading index stage : ℕ) → Lease → Bool
is_at long t i s l = not (runs long t l) || stage_at l.stages i == s

-- is every lease that runs of that stage of an index
abbrev pub all_at : (long reading index stage : ℕ) → List Lease → Bool
all_at long t i s ls = list_all (is_at long t i s) ls

-- does a lease stay beside a new one: it still runs, and is of another office or other stages
abbrev pub stays : (long : ℕ) → (new : Lease) → Lease → Bool
stays long n l = runs long n.since l && not (is_of n.office n.stages l)

-- what stays in the book beside a new lease
abbrev pub left_beside : (long : ℕ) → (new : Lease) → List Lease → List Lease
left_beside long n ls = filter (stays long n) ls

-- the book once a lease is noted
abbrev pub noted : (long : ℕ) → (new : Lease) → List Lease → List Lease
noted long n ls = n ∷ left_beside long n ls

-- it is one of the list
abbrev pub Among : {A : Type 0} → A → List A → Type 0
Among x xs = Memᴰ x xs

-- the book tells, at every later reading, what one that forgets nothing would tell
abbrev pub BookTells : Type 0
BookTells = (long : ℕ) (n : Lease) (ls : List Lease) → ((l : Lease) → Among l ls → l.since ≤ n.since) → (t : ℕ) → n.since ≤ t →
    ((o : ℕ) (ss : List ℕ) → holds long t o ss (noted long n ls) ≡ holds long t o ss (n ∷ ls)) × ((i s : ℕ) → all_at long t i s (noted long n ls) ≡ all_at long t i s (n ∷ ls))

-- no office has two leases of the same stages
abbrev pub Once : List Lease → Type 0
Once [] = Unit {0}
Once (l ∷ ls) = ((k : Lease) → Among k ls → k.office ≡ l.office → k.stages ≢ l.stages) × Once ls

-- any two leases are at most one stage apart in every index
abbrev pub OneApart : List Lease → Type 0
OneApart ls = (l k : Lease) → Among l ls → Among k ls → (i : ℕ) → stage_at l.stages i ≤ stage_at k.stages i + 1

-- a lease is of an office in range, and of one stage for each index
abbrev pub InRange : (offices indexes : ℕ) → Lease → Type 0
InRange offices indexes l = (l.office < offices) × (length l.stages ≡ indexes)

-- noting a lease leaves no two of one office and the same stages
abbrev pub NotedOnce : Type 0
NotedOnce = (long : ℕ) (n : Lease) (ls : List Lease) → Once ls → Once (noted long n ls)

-- a book of leases that are at most one stage apart, none of them twice, is no longer than this
abbrev pub BookSmall : Type 0
BookSmall = (offices indexes : ℕ) (ls : List Lease) → Once ls → OneApart ls → ((l : Lease) → Among l ls → InRange offices indexes l) → length ls ≤ offices * 2 ^ indexes
