use Rattle.journal.proofs.Codes.{unknown_refused}
use Rattle.journal.proofs.Cuts.{cut_anywhere, cut_behind}
use Rattle.journal.proofs.theorems.cut_leaves_records.Goals as goal

pub returns : goal.returns
returns c = record { anywhere = cut_anywhere; behind = cut_behind; unknown = unknown_refused }
