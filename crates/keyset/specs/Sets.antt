-- A set of keys as bits of words: k is in it where bit k % 32 of word k / 32 is 1.
use Rattle.std.specs.Prelude.{ℕ, zero, suc, ◌*◌, ◌/◌, ◌%◌, ◌^◌, Bool, false, cond, ◌||◌, List, [], ◌∷◌, ◌++◌, length, ◌==◌, nat_lt, slice_index}

-- whether bit k of a word is 1
unfoldable pub bit : ℕ → ℕ → Bool
bit w k = w / 2 ^ k % 2 == 1

-- whether k is in the set
unfoldable pub has : List ℕ → ℕ → Bool
has ws k = bit (slice_index ws (k / 32)) (k % 32)

-- whether the words have a place for k
abbrev pub places : List ℕ → ℕ → Bool
places ws k = nat_lt k (32 * length ws)

-- whether some number below n passes the test
unfoldable pub any_below : (ℕ → Bool) → ℕ → Bool
any_below f zero = false
any_below f (suc n) = any_below f n || f n

-- the numbers below n that pass the test, rising
unfoldable pub keys_below : (ℕ → Bool) → ℕ → List ℕ
keys_below f zero = []
keys_below f (suc n) = keys_below f n ++ cond (f n) (n ∷ []) []
