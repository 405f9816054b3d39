use Rattle.change.proofs.Batches.{filled_in_parts, cleared_in_parts, filled_by_steps, cleared_by_steps}
use Rattle.change.proofs.theorems.batches_are_steps.Goals as goal

pub returns : goal.returns
returns c = record { filled = filled_in_parts; cleared = cleared_in_parts; fills = filled_by_steps; clears = cleared_by_steps }
