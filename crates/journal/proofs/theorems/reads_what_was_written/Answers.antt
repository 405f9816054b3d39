use Rattle.journal.proofs.Codes.{no_two, read_back}
use Rattle.journal.proofs.theorems.reads_what_was_written.Goals as goal

pub returns : goal.returns
returns c = record { two = no_two; back = read_back }
