use Rattle.std.proofs.Common.{◌≡◌, nat_lt, sym, ◌∙◌, rules}
use Rattle.std.specs.List.{count_by}
use Rattle.stage.specs.Stages.{rank}
use Rattle.journal.proofs.Adds.{known_count}
use Rattle.journal.proofs.write.count.Goals as goal

pub returns : goal.returns
returns c =
    let counted : c.count.result ≡ count_by (λ s. nat_lt 0 (rank s)) c.args.stages.now = search rules in
    counted ∙ sym (known_count c.args.stages.now)
