use Rattle.std.proofs.Common.{rules}
use Rattle.journal.proofs.Shapes.{no_filled, no_cleared}
use Rattle.journal.proofs.records.record.Goals as goal

pub returns-in_err-index-in-Filled : goal.returns-in_err-index-in-Filled
returns-in_err-index-in-Filled c = let none = no_filled c.args.body.now c.in_err-index-in-Filled.ensures in search rules

pub returns-in_err-index-in-Cleared : goal.returns-in_err-index-in-Cleared
returns-in_err-index-in-Cleared c = let none = no_cleared c.args.body.now c.in_err-index-in-Cleared.ensures in search rules
