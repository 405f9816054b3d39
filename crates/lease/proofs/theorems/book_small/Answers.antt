use Rattle.lease.proofs.Books.{noted_once}
use Rattle.lease.proofs.Sizes.{book_small_lem}
use Rattle.lease.proofs.theorems.book_small.Goals as goal

pub returns : goal.returns
returns c = record { once = noted_once; small = book_small_lem }
