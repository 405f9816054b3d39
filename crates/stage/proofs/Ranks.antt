-- The stage of one index among several.
use Rattle.std.proofs.Common.{◌≡◌, ℕ, zero, suc, List, [], ◌∷◌, get_or, refl}
use Rattle.stage.specs.declared.kinds.Stage.{Stage}
use Rattle.stage.specs.declared.kinds.Stage.TheVariants.{Absent}
use Rattle.stage.specs.Stages.{rank, ranks}

pub rank_at : (ss : List Stage) (i : ℕ) → get_or (ranks ss) i 0 ≡ rank (get_or ss i Absent)
rank_at [] i = refl
rank_at (s ∷ ss) zero = refl
rank_at (s ∷ ss) (suc i) = rank_at ss i
