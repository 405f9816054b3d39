-- The clocks of the store and the offices, and why a lease that an office acts on has not run out.
use Rattle.std.specs.Prelude.{◌≡◌, ℕ, ◌+◌, ◌-◌, ◌*◌, ◌<◌, ◌≤◌, Bool, true, nat_le}

-- short: how long an office acts on a lease by its own clock; rate: by how many millionths a clock may be off; grain: how many moments make a millisecond
pub record Times : Type 0 where
  pub short : ℕ
  pub rate : ℕ
  pub grain : ℕ

-- from a moment on a clock counts milliseconds: it never goes back, and what it counts between two moments is off by at most `rate` millionths of the time between them, and one
pub record Counts (p : Times) (from : ℕ) (clock : ℕ → ℕ) : Type 0 where
  pub rises : (a b : ℕ) → from ≤ a → a ≤ b → clock a ≤ clock b
  pub not_fast : (a b : ℕ) → from ≤ a → a ≤ b → 1000000 * (p.grain * clock b) ≤ 1000000 * (p.grain * clock a) + (1000000 + p.rate) * (b - a) + 1000000 * p.grain
  pub not_slow : (a b : ℕ) → from ≤ a → a ≤ b → (1000000 - p.rate) * (b - a) + 1000000 * (p.grain * clock a) ≤ 1000000 * (p.grain * clock b) + 1000000 * p.grain

-- these times fit: an office with a slow clock is done with a lease before it has run out by the fast clock of a store
abbrev pub Fits : (long short rate : ℕ) → Type 0
Fits long short rate = (short + 1) * (1000000 + rate) + 2000000 ≤ (long - 1) * (1000000 - rate)

-- how long leases run by the store's clock fits how long offices act on them by theirs
pub record Fit (long : ℕ) (p : Times) : Type 0 where
  pub some_grain : 1 ≤ p.grain
  pub within : Fits long p.short p.rate

-- does an office act on a lease: what its own clock shows now, and what it showed when it asked
abbrev pub acts : (short asked own : ℕ) → Bool
acts short asked own = nat_le own (asked + short)

-- an office asked at moment a and acts at moment c; what it was granted at moment b, by a store up since moment u, still runs
abbrev pub StillRuns : (long : ℕ) → Times → Type 0
StillRuns long p = (office store : ℕ → ℕ) (u a b c : ℕ) → Counts p 0 office → Counts p u store → u ≤ b → a ≤ b → b ≤ c → acts p.short (office a) (office c) ≡ true → store c < store b + long

-- an office asked at moment a and acts at moment c; a store that came up again at a moment u between them, its clock at 0, is still quiet
abbrev pub StillQuiet : (long : ℕ) → Times → Type 0
StillQuiet long p = (office store : ℕ → ℕ) (a u c : ℕ) → Counts p 0 office → Counts p u store → store u ≡ 0 → a ≤ u → u ≤ c → acts p.short (office a) (office c) ≡ true → store c < long

-- the law of clocks
abbrev pub ClockLaw : Type 0
ClockLaw = (long : ℕ) (p : Times) → Fit long p → StillRuns long p × StillQuiet long p
