-- The bits of a word after a bit is set or cleared, and of a list of words.
use Rattle.std.proofs.Common.{◌≡◌, ℕ, zero, suc, ◌+◌, ◌-◌, ◌*◌, ◌/◌, ◌%◌, ◌^◌, ◌<◌, ◌≤◌, Bool, true, false, cond, ◌&&◌, eqb, ltb, ◌≢◌, List, length, get_or, set, refl, ap, ◌∙◌, ⊎_elim, arith, get_or-set_other, get_or-set_same, pow_pos, pow-add}
use native.Mathlib.Nat.{pow-succ', mul-mod_right, div-eq_of_lt, div_self, zero-div}
use lib.ListN.{get_or-eq_default}
use lib.Bits.{bit_and, bit_or, bit_xor, or_shr, or_mod, and_shr, and_mod, xor_shr, xor_mod, xor_add_and, and_mask}
use lib.Pow.{pow-lt, shl-shr, ones_split, high, ones_lt}
use Rattle.std.proofs.lemmas.Bool.{cases_eq, cases_order, eq-eqb, ne_eqb}
use Rattle.std.proofs.lemmas.Bool.Decides.{nat_tests}
use Rattle.std.proofs.lemmas.Nat.{one_shl}
use Rattle.keyset.specs.Sets.{bit, has, places}

-- one more than a number, doubled
even_pow : (m : ℕ) → 2 ^ suc m % 2 ≡ 0
even_pow m = ap (λ (x : ℕ). x % 2) (pow-succ' 2 m) ∙ mul-mod_right 2 (2 ^ m)

-- the bits of a power of two
pow_same : (k : ℕ) → 2 ^ k / 2 ^ k % 2 ≡ 1
pow_same k = ap (λ (x : ℕ). x % 2) (div_self (pow_pos k))

pow_above : (d j : ℕ) → 2 ^ (suc d + j) / 2 ^ j % 2 ≡ 0
pow_above d j = ap (λ (x : ℕ). x / 2 ^ j % 2) (pow-add 2 (suc d) j) ∙ ap (λ (x : ℕ). x % 2) (shl-shr (2 ^ suc d) j) ∙ even_pow d

pow_other : (k j : ℕ) → j ≢ k → 2 ^ k / 2 ^ j % 2 ≡ 0
pow_other k j ne =
    ⊎_elim (λ e. absurd (ne e)) (⊎_elim
    (λ lt. let e : k ≡ suc (k - suc j) + j = omega arith in
    ap (λ (x : ℕ). 2 ^ x / 2 ^ j % 2) e ∙ pow_above (k - suc j) j)
    (λ lt. ap (λ (x : ℕ). x % 2) (div-eq_of_lt (pow-lt lt))))
    (cases_order j k)

-- bits by twos
or_one : (b : ℕ) → b < 2 → bit_or b 1 ≡ 1
or_one zero h = refl
or_one (suc zero) h = refl
or_one (suc (suc n)) h = absurd (omega arith)

or_none : (b : ℕ) → b < 2 → bit_or b 0 ≡ b
or_none zero h = refl
or_none (suc zero) h = refl
or_none (suc (suc n)) h = absurd (omega arith)

and_one : (b : ℕ) → b < 2 → bit_and b 1 ≡ b
and_one zero h = refl
and_one (suc zero) h = refl
and_one (suc (suc n)) h = absurd (omega arith)

and_none : (b : ℕ) → b < 2 → bit_and b 0 ≡ 0
and_none zero h = refl
and_none (suc zero) h = refl
and_none (suc (suc n)) h = absurd (omega arith)

or_bit : (w v j : ℕ) → bit_or w v / 2 ^ j % 2 ≡ bit_or (w / 2 ^ j % 2) (v / 2 ^ j % 2)
or_bit w v j = ap (λ (x : ℕ). x % 2) (or_shr w v j) ∙ or_mod (w / 2 ^ j) (v / 2 ^ j) 1

and_bit : (w v j : ℕ) → bit_and w v / 2 ^ j % 2 ≡ bit_and (w / 2 ^ j % 2) (v / 2 ^ j % 2)
and_bit w v j = ap (λ (x : ℕ). x % 2) (and_shr w v j) ∙ and_mod (w / 2 ^ j) (v / 2 ^ j) 1

xor_bit : (w v j : ℕ) → bit_xor w v / 2 ^ j % 2 ≡ bit_xor (w / 2 ^ j % 2) (v / 2 ^ j % 2)
xor_bit w v j = ap (λ (x : ℕ). x % 2) (xor_shr w v j) ∙ xor_mod (w / 2 ^ j) (v / 2 ^ j) 1

-- the bits of all ones, and of a complement
ones_bit : (d j : ℕ) → (2 ^ (suc d + j) - 1) / 2 ^ j % 2 ≡ 1
ones_bit d j =
    let e : (2 ^ (suc d + j) - 1) / 2 ^ j ≡ 2 ^ suc d - 1
    = ap (λ (x : ℕ). x / 2 ^ j) (ones_split (suc d) j) ∙ high (2 ^ suc d - 1) j (ones_lt j) in
    let z : 2 ^ suc d % 2 ≡ 0 = even_pow d in
    let p : zero < 2 ^ suc d = pow_pos (suc d) in
    ap (λ (x : ℕ). x % 2) e ∙ omega arith

all_bit : (j : ℕ) → j < 32 → 4294967295 / 2 ^ j % 2 ≡ 1
all_bit j h =
    let e : 32 ≡ suc (31 - j) + j = omega arith in
    ap (λ (x : ℕ). (2 ^ x - 1) / 2 ^ j % 2) e ∙ ones_bit (31 - j) j

not_xor : (a : ℕ) → a < 4294967296 → 4294967295 - a ≡ bit_xor a 4294967295
not_xor a h =
    let m : bit_and a 4294967295 ≡ a % 4294967296 = and_mask a 32 in
    omega (arith, xor_add_and a 4294967295)

xor_one_one : bit_xor 1 1 ≡ 0
xor_one_one = refl

not_bit : (k j : ℕ) → k < 32 → j < 32 → (4294967295 - 2 ^ k) / 2 ^ j % 2 ≡ bit_xor (2 ^ k / 2 ^ j % 2) 1
not_bit k j hk hj =
    let p : 2 ^ k < 2 ^ 32 = pow-lt hk in
    ap (λ (x : ℕ). x / 2 ^ j % 2) (not_xor (2 ^ k) p) ∙ xor_bit (2 ^ k) 4294967295 j
    ∙ ap (λ (x : ℕ). bit_xor (2 ^ k / 2 ^ j % 2) x) (all_bit j hj)

-- a word with bit k set
pub bit_set : (w k j : ℕ) → bit (bit_or w (2 ^ k)) j ≡ cond (eqb j k) true (bit w j)
unfolding bit
bit_set w k j =
    let b : w / 2 ^ j % 2 < 2 = omega arith in
    ⊎_elim
    (λ e. let s : 2 ^ k / 2 ^ j % 2 ≡ 1 = ap (λ (x : ℕ). 2 ^ k / 2 ^ x % 2) e ∙ pow_same k in
    let r : bit_or w (2 ^ k) / 2 ^ j % 2 ≡ 1
    = or_bit w (2 ^ k) j ∙ ap (λ (x : ℕ). bit_or (w / 2 ^ j % 2) x) s ∙ or_one (w / 2 ^ j % 2) b in
    rw (eq-eqb j k e) (ap (λ (x : ℕ). eqb x 1) r))
    (λ ne. let s : 2 ^ k / 2 ^ j % 2 ≡ 0 = pow_other k j ne in
    let r : bit_or w (2 ^ k) / 2 ^ j % 2 ≡ w / 2 ^ j % 2
    = or_bit w (2 ^ k) j ∙ ap (λ (x : ℕ). bit_or (w / 2 ^ j % 2) x) s ∙ or_none (w / 2 ^ j % 2) b in
    rw (ne_eqb j k ne) (ap (λ (x : ℕ). eqb x 1) r))
    (cases_eq j k)

-- a word with bit k cleared
pub bit_clear : (w k j : ℕ) → k < 32 → j < 32 → bit (bit_and w (4294967295 - 2 ^ k)) j ≡ cond (eqb j k) false (bit w j)
unfolding bit
bit_clear w k j hk hj =
    let b : w / 2 ^ j % 2 < 2 = omega arith in
    ⊎_elim
    (λ e. let s : (4294967295 - 2 ^ k) / 2 ^ j % 2 ≡ 0
    = not_bit k j hk hj ∙ ap (λ (x : ℕ). bit_xor x 1) (ap (λ (x : ℕ). 2 ^ k / 2 ^ x % 2) e ∙ pow_same k) in
    let r : bit_and w (4294967295 - 2 ^ k) / 2 ^ j % 2 ≡ 0
    = and_bit w (4294967295 - 2 ^ k) j ∙ ap (λ (x : ℕ). bit_and (w / 2 ^ j % 2) x) s ∙ and_none (w / 2 ^ j % 2) b in
    rw (eq-eqb j k e) (ap (λ (x : ℕ). eqb x 1) r))
    (λ ne. let s : (4294967295 - 2 ^ k) / 2 ^ j % 2 ≡ 1
    = not_bit k j hk hj ∙ ap (λ (x : ℕ). bit_xor x 1) (pow_other k j ne) in
    let r : bit_and w (4294967295 - 2 ^ k) / 2 ^ j % 2 ≡ w / 2 ^ j % 2
    = and_bit w (4294967295 - 2 ^ k) j ∙ ap (λ (x : ℕ). bit_and (w / 2 ^ j % 2) x) s ∙ and_one (w / 2 ^ j % 2) b in
    rw (ne_eqb j k ne) (ap (λ (x : ℕ). eqb x 1) r))
    (cases_eq j k)

-- the set, once the word of k is v, which differs from the old one at k's bit alone
pub has_after : (ws : List ℕ) (k v : ℕ) (b : Bool) → k / 32 < length ws
    → ((i : ℕ) → i < 32 → bit v i ≡ cond (eqb i (k % 32)) b (bit (get_or ws (k / 32) 0) i))
    → (j : ℕ) → has (set ws (k / 32) v) j ≡ cond (eqb j k) b (has ws j)
unfolding has
has_after ws k v b lt f j =
    let m : j % 32 < 32 = omega arith in
    ⊎_elim
    (λ e. let g = f (j % 32) m in
    let s = get_or-set_same ws (k / 32) v 0 lt in
    rw e (grind (arith, nat_tests)))
    (λ n. let o = get_or-set_other ws (k / 32) (j / 32) v 0 n in grind (arith, nat_tests))
    (cases_eq (j / 32) (k / 32))

-- a number that has no place in the words is not in the set
pub has_past : (ws : List ℕ) (k : ℕ) → length ws ≤ k / 32 → has ws k ≡ false
unfolding has bit
has_past ws k h = ap (λ (x : ℕ). eqb (x / 2 ^ (k % 32) % 2) 1) (get_or-eq_default ws 0 h) ∙ ap (λ (x : ℕ). eqb (x % 2) 1) (zero-div (2 ^ (k % 32)))

placed : (k j n : ℕ) (b : Bool) → k < n → cond (eqb j k) true b ≡ cond (eqb j k && ltb j n) true b
placed k j n b h = grind (arith, nat_tests)

-- the set, once k is put in or taken out by changing its word
pub has_set : (ws : List ℕ) (k : ℕ) → k / 32 < length ws
    → (j : ℕ) → has (set ws (k / 32) (bit_or (get_or ws (k / 32) 0) (1 * 2 ^ (k % 32) % 4294967296))) j ≡ cond (eqb j k && places ws j) true (has ws j)
has_set ws k lt j =
    let m : k % 32 < 32 = omega arith in
    let w = get_or ws (k / 32) 0 in
    let p : k < 32 * length ws = omega arith in
    has_after ws k _ true lt (λ i h. ap (λ (x : ℕ). bit (bit_or w x) i) (one_shl (k % 32) 32 m) ∙ bit_set w (k % 32) i) j
    ∙ placed k j (32 * length ws) (has ws j) p

pub has_cleared : (ws : List ℕ) (k : ℕ) → k / 32 < length ws
    → (j : ℕ) → has (set ws (k / 32) (bit_and (get_or ws (k / 32) 0) (4294967295 - 1 * 2 ^ (k % 32) % 4294967296))) j ≡ cond (eqb j k) false (has ws j)
has_cleared ws k lt j =
    let m : k % 32 < 32 = omega arith in
    let w = get_or ws (k / 32) 0 in
    has_after ws k _ false lt (λ i h. ap (λ (x : ℕ). bit (bit_and w (4294967295 - x)) i) (one_shl (k % 32) 32 m) ∙ bit_clear w (k % 32) i m h) j

-- taking out a number that has no place changes nothing
pub without_past : (ws : List ℕ) (k : ℕ) → length ws ≤ k / 32 → (j : ℕ) → has ws j ≡ cond (eqb j k) false (has ws j)
without_past ws k h j =
    ⊎_elim (λ e. rw (eq-eqb j k e) (ap (has ws) e ∙ has_past ws k h)) (λ ne. rw (ne_eqb j k ne)) (cases_eq j k)
