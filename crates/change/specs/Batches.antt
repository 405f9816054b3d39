-- Backfill and cleanup of many keys at once are those of one key, again and again.
use Rattle.std.specs.Prelude.{◌≡◌, ℕ, zero, suc, ◌+◌, ◌≤◌, Bool, true, cond, replicate, Option}
use Rattle.change.specs.Protocol.{Head, may_fill, may_clear, onward, done_of}
use Rattle.change.specs.Index.{About, head_filled, entries_filled, cleaned_up}
use Rattle.change.specs.OneChange.{State, alone, Step, fills, clears, after_all, may_all}

-- what backfill and cleanup change: the head and the entries
pub record Work : Type 0 where
  pub head : Head About
  pub entries : ℕ → Option ℕ

-- a step done n times, or as often as it may be
unfoldable pub repeated : {X : Type 0} → (may : X → Bool) → (step : X → X) → ℕ → X → X
repeated may step zero x = x
repeated may step (suc n) x = cond (may x) (repeated may step n (step x)) x

-- backfill of the next key; the change turns where its value is taken
abbrev pub filled : (keys : ℕ) → (rows : ℕ → Option ℕ) → Work → Work
filled keys rows x = record { head = head_filled keys rows x.entries x.head; entries = entries_filled keys rows x.entries x.head }

-- cleanup of the next key
abbrev pub cleared : Work → Work
cleared x = record { head = onward x.head; entries = cleaned_up (done_of x.head) x.entries }

-- backfill of the next n keys, until the change turns or all keys are done
abbrev pub filled_n : (keys : ℕ) → (rows : ℕ → Option ℕ) → ℕ → Work → Work
filled_n keys rows = repeated (λ x. may_fill keys x.head) (filled keys rows)

-- cleanup of the next n keys, until all keys are done
abbrev pub cleared_n : (keys : ℕ) → ℕ → Work → Work
cleared_n keys = repeated (λ x. may_clear keys x.head) cleared

-- backfill of m keys and then of n is that of m + n
abbrev pub FilledInParts : Type 0
FilledInParts = (keys : ℕ) (rows : ℕ → Option ℕ) (m n : ℕ) (x : Work) → filled_n keys rows (m + n) x ≡ filled_n keys rows n (filled_n keys rows m x)

-- cleanup of m keys and then of n is that of m + n
abbrev pub ClearedInParts : Type 0
ClearedInParts = (keys m n : ℕ) (x : Work) → cleared_n keys (m + n) x ≡ cleared_n keys n (cleared_n keys m x)

-- what backfill and cleanup change of a state
abbrev pub work_of : State → Work
work_of w = record { head = w.head; entries = w.entries }

-- work in a state is a step, taken at most n times and never refused
abbrev pub IsSteps : (keys : ℕ) → Step → ℕ → State → Work → Type 0
IsSteps keys s n w x = (m : ℕ) × (m ≤ n) × (may_all keys (replicate m s) w ≡ true) × (work_of (after_all keys (replicate m s) w) ≡ x)

-- backfill of n keys, where all hold the change's own stage, is the step `fills`
abbrev pub FilledBySteps : Type 0
FilledBySteps = (keys n : ℕ) (w : State) → alone w ≡ true → IsSteps keys fills n w (filled_n keys w.rows n (work_of w))

-- cleanup of n keys, where all hold the change's own stage, is the step `clears`
abbrev pub ClearedBySteps : Type 0
ClearedBySteps = (keys n : ℕ) (w : State) → alone w ≡ true → IsSteps keys clears n w (cleared_n keys n (work_of w))
