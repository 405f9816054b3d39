use Rattle.lease.proofs.Books.{book_tells}
use Rattle.lease.proofs.theorems.book_tells.Goals as goal

pub returns : goal.returns
returns c = book_tells
