-- A lease that an office still acts on, by its own clock, has not run out by the store's.
use Rattle.std.proofs.Common.{◌≡◌, ℕ, zero, suc, ◌+◌, ◌-◌, ◌*◌, ◌≤◌, ◌⊎◌, inl, inr, mul-le-mul_left, mul-zero, mul-suc, arith, leb-true}
use native.Mathlib.Nat.{le_of_mul-le-mul_left}
use native.Mathlib.Decide.{dec_lt}
use Rattle.lease.specs.Clocks.{Times, Fit, StillRuns, StillQuiet, ClockLaw}

-- U: how far ahead, D: how far behind, G: a millisecond in the clocks' units
numbers : (U D G S L x y : ℕ) → 1 ≤ G → x ≤ y → D * y ≤ G * (S + 1) → G * L ≤ U * x → (S + 1) * U + 2000000 ≤ L * D → ⊥
numbers U D G S L x y g xy slow fast fits =
    let a : D * (G * L) ≤ D * (U * x) = mul-le-mul_left D fast in
    let b : U * (D * y) ≤ U * (G * (S + 1)) = mul-le-mul_left U slow in
    let c : D * (U * x) ≤ D * (U * y) = mul-le-mul_left D (mul-le-mul_left U xy) in
    let k : G * (L * D) ≤ G * ((S + 1) * U) = grind arith in
    let l : L * D ≤ (S + 1) * U = le_of_mul-le-mul_left k g in
    omega arith

one_less : (g l : ℕ) → (g * l ≡ g * (l - 1) + g) ⊎ (g * (l - 1) ≡ 0)
one_less g zero = inr (mul-zero g)
one_less g (suc l) = let e : suc l - 1 ≡ l = omega arith in inl (rw (e, mul-suc))

module _ (long : ℕ) (p : Times) (fit : Fit long p) where
  pub still_runs : StillRuns long p
  still_runs office store u a b c co cs ub ab bc act = elim (dec_lt (store c) (store b + long)) [ yes h ↦ h | no h ↦ absurd (late (omega arith)) ]
    where
      late : store b + long ≤ store c → ⊥
      late h =
          let g = p.grain in
          let ac : a ≤ c = omega arith in
          let s1 = co.not_slow a c (omega arith) ac in
          let s2 : g * office c ≤ g * (office a + p.short) = mul-le-mul_left g (leb-true (office c) (office a + p.short) act) in
          let f1 = cs.not_fast b c ub bc in
          let f2 : g * (store b + long) ≤ g * store c = mul-le-mul_left g h in
          let one = one_less g long in
          let g1 = fit.some_grain in
          numbers (1000000 + p.rate) (1000000 - p.rate) (1000000 * g) p.short (long - 1) (c - b) (c - a) (omega arith) (omega arith) (grind arith) (grind arith) fit.within

  -- a coming up is like a grant at a clock of 0
  still_quiet : StillQuiet long p
  still_quiet office store a u c co cs at-0 au uc act = let z = still_runs office store u a u c co cs (omega arith) au uc act in omega arith

pub clock_law : ClockLaw
clock_law long p fit = (still_runs long p fit, still_quiet long p fit)
