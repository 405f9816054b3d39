use Rattle.std.proofs.Common.{◌≡◌, ◌+◌, ◌<◌, ◌∷◌, length, take, drop, sym, ap, ◌∙◌, subst, arith}
use Rattle.std.specs.Option.{option_map}
use Rattle.register.specs.Held.{record_of}
use Rattle.journal.specs.Bytes.{bytes_of, Writable}
use Rattle.journal.specs.Reads.{ReadOf}
use Rattle.journal.proofs.Shapes.{put_short, put_unread, put_parts}
use Rattle.journal.proofs.records.put.Goals as goal

pub returns-in_err-columns : goal.returns-in_err-columns
returns-in_err-columns c =
    let body = c.args.body.now in
    let rest : length c.in_ok-number.body.now + 2 ≡ length body = c.in_ok-number.ensures.cases.2 in
    let few : length c.in_ok-number.body.now < 32 = c.in_err-columns.ensures.cases in
    subst (λ r. ReadOf bytes_of Writable (1 ∷ body) (option_map record_of r)) (sym c.from_residual-in_err-columns.ensures) (put_short body (omega arith))

pub returns-in_err-stages : goal.returns-in_err-stages
returns-in_err-stages c =
    let body = c.args.body.now in
    let stages : c.in_ok-columns.body.now ≡ drop 32 (drop 2 body) = c.in_ok-columns.ensures.cases.1 ∙ ap (drop 32) c.in_ok-number.ensures.cases.1 in
    subst (λ r. ReadOf bytes_of Writable (1 ∷ body) (option_map record_of r)) (sym c.from_residual-in_err-stages.ensures) (put_unread body (λ ss w e. c.in_err-stages.ensures ss w (stages ∙ e)))

pub returns : goal.returns
returns c =
    let body = c.args.body.now in
    let (small, key) = c.in_ok-key.ensures in
    let (are, stages) = c.in_ok-stages.ensures in
    let number : c.in_ok-number.number.now ≡ take 2 body = c.in_ok-number.ensures.cases.0 in
    let rest : c.in_ok-number.body.now ≡ drop 2 body = c.in_ok-number.ensures.cases.1 in
    let columns : c.in_ok-columns.columns.now ≡ take 32 (drop 2 body) = c.in_ok-columns.ensures.cases.0 ∙ ap (take 32) rest in
    let behind : c.in_ok-columns.body.now ≡ drop 32 (drop 2 body) = c.in_ok-columns.ensures.cases.1 ∙ ap (drop 32) rest in
    ((small, c.row.ensures.fit, are), ap (λ b. 1 ∷ b) (put_parts body _ _ _ (sym number ∙ key) (sym columns ∙ c.row.ensures.columns) (sym behind ∙ stages)))
