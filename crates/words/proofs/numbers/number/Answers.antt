use Rattle.std.proofs.Common.{rules}
use Rattle.std.proofs.lemmas.Iterator.{YieldsList-from_slice}
use Rattle.words.proofs.Tried.{tried_over}
use Rattle.words.proofs.Read.{with_digit, number_read}
use Rattle.words.proofs.numbers.number.Goals as goal

pub returns : goal.returns
returns c =
    let tried = tried_over (λ x. x.now) _ _ (with_digit c.args.most) (λ n x r q k. search rules) (YieldsList-from_slice c.args.word.now cc) _ 0 c.try_fold.result _ c.try_fold.ensures.ran in
    let read = number_read c.args.most c.args.word.now _ c.if-is_empty.ensures tried in
    record { value = read.0; bound = read.1 }
