-- Functions from keys, changed at one key, and gone through from key 0 up.
use Rattle.std.specs.Prelude.{ℕ, Bool, false, cond, not, ◌&&◌, List, Some, None, Option, ◌==◌}
use Rattle.keyset.specs.Sets.{any_below, keys_below}

-- a function with another value at one place
abbrev pub update : {A : Type 0} → ℕ → A → (ℕ → A) → ℕ → A
update k x f j = cond (j == k) x (f j)

-- whether it is there, and is that value
abbrev pub is_for : Option ℕ → ℕ → Bool
is_for None v = false
is_for (Some x) v = x == v

-- whether another key than k has that value
abbrev pub by_other : (ℕ → Option ℕ) → (value k : ℕ) → ℕ → Bool
by_other f v k j = not (j == k) && is_for (f j) v

-- whether another key below the bound than k has that value
abbrev pub taken_by_other : (bound : ℕ) → (ℕ → Option ℕ) → (value k : ℕ) → Bool
taken_by_other n f v k = any_below (by_other f v k) n

-- the keys below the bound that have that value, rising
abbrev pub keys_for : (bound : ℕ) → (ℕ → Option ℕ) → (value : ℕ) → List ℕ
keys_for n f v = keys_below (λ k. is_for (f k) v) n
