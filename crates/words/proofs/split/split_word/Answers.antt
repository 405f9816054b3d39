use Rattle.std.proofs.Common.{length, not, rules, tests, arith}
use Rattle.std.proofs.lemmas.Iterator.{YieldsList-from_slice}
use Rattle.std.proofs.lemmas.Iterator.Search.{position_from_yields_List}
use Rattle.std.proofs.lemmas.Slice.{between_to_end}
use Rattle.words.proofs.Pieces.{is_space, no_word, first_word}
use Rattle.words.proofs.split.split_word.Goals as goal

pub returns-in_err-start : goal.returns-in_err-start
returns-in_err-start c =
    let start = position_from_yields_List (λ b. not (is_space b)) _ _ c.position.result c.position.ensures.ran (YieldsList-from_slice c.args.text.now cc) (λ x b q k. search (rules, tests)) in
    rw c.from_residual.ensures (no_word c.args.text.now _ start c.in_err-start.was)

pub returns : goal.returns
returns c =
    let text = c.args.text.now in
    let start = position_from_yields_List (λ b. not (is_space b)) _ _ c.position.result c.position.ensures.ran (YieldsList-from_slice text cc) (λ x b q k. search (rules, tests)) in
    let end = position_from_yields_List is_space _ _ c.position-2.result c.position-2.ensures.ran (YieldsList-from_slice _ c.iter-2.ensures.rest) (λ x b q k. search (rules, tests)) in
    rw (c.split_at.ensures.front, c.split_at.ensures.back)
    (first_word text _ _ _ _ _ start c.in_ok-start.was (between_to_end text c.in_ok-start.start (length text) (omega arith)) end (search rules))
