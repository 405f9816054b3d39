use Rattle.std.proofs.Common.{◌+◌, length, Some, sym, ap, ◌∙◌, rules, tests, arith}
use Rattle.std.proofs.lemmas.Iterator.{YieldsList-from_slice}
use Rattle.std.proofs.lemmas.Iterator.Search.{position_from_yields_List}
use Rattle.std.proofs.lemmas.Slice.{between_to_end}
use Rattle.lines.proofs.Pairs.{is_equals, no_equals, equals_at}
use Rattle.lines.proofs.stages.split_at_equals.Goals as goal

pub returns-in_err-at : goal.returns-in_err-at
returns-in_err-at c =
    let at = position_from_yields_List is_equals _ _ c.position.result c.position.ensures.ran (YieldsList-from_slice c.args.word.now cc) (λ x b q k. search (rules, tests)) in
    rw c.from_residual.ensures (no_equals c.args.word.now _ at c.in_err-at.was)

pub returns : goal.returns
returns c =
    let word = c.args.word.now in
    let at = position_from_yields_List is_equals _ _ c.position.result c.position.ensures.ran (YieldsList-from_slice word cc) (λ x b q k. search (rules, tests)) in
    let cut = equals_at word _ _ at c.in_ok-at.was in
    (cut.0, cut.1 ∙ ap Some (sym (between_to_end word (c.in_ok-at.at + 1) (length word) (omega arith))))
