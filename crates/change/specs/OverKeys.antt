-- Work over keys, be it backfill or cleanup, by the way and stage at which it is done.
use Rattle.std.specs.Prelude.{◌≡◌, ℕ, Bool, cond, not, ◌&&◌, Some, None, Option, ◌==◌, nat_lt}
use Rattle.keyset.specs.declared.key.OfRow.{OfRow}
use Rattle.keyset.specs.declared.number.Number.{Number}
use Rattle.stage.specs.Stages.{rank}
use Rattle.change.specs.declared.kinds.Way.{Way}
use Rattle.change.specs.declared.kinds.Way.TheVariants.{Up, Down}
use Rattle.change.specs.declared.kinds.Index.{Index}
use Rattle.change.specs.Protocol.{Head, stage_of, done_of, going_up, going_down, held_up}
use Rattle.change.specs.Index.{About}
use Rattle.change.specs.Batches.{Work}
use Rattle.change.specs.Heads.{work_on}

-- has a change come to this way and stage
abbrev pub is_at : Way → Head About → Bool
is_at (Up s) h = going_up h && stage_of h == rank s
is_at (Down s) h = going_down h && stage_of h == rank s

-- is there a key left for the work that is done there
abbrev pub may_work : (keys : ℕ) → Way → Head About → Bool
may_work keys at h = is_at at h && nat_lt (done_of h) keys

-- why that work may not go on: 5 held up; 7 not this way and stage, or all keys are done
abbrev pub why_no_work : (keys : ℕ) → Way → (alone : Bool) → Head About → Option ℕ
why_no_work keys at alone h = cond (held_up alone h) (Some 5) (cond (not (may_work keys at h)) (Some 7) None)

-- is this the next key for that work
abbrev pub IsNext : Way → Index → Number OfRow 4096 → Type 0
IsNext at x k = (x.way ≡ at) × (k.number ≡ x.done)

-- is what is done to the next key, by the head and the entries that it may leave (post), this step
abbrev pub DoesStep : {E : Type 0} → Way → (post : Index → E → Number OfRow 4096 → Index → E → Type 0) → (view : E → ℕ → Option ℕ) → (Work → Work) → Type 0
DoesStep at post view step = (x y : Index) (e f : _) (k : Number OfRow 4096) → IsNext at x k → post x e k y f → work_on y (view f) ≡ step (work_on x (view e))
