use Rattle.std.proofs.Common.{rules}
use Rattle.answers.proofs.Texts.{appended}
use Rattle.answers.proofs.writer.put.Goals as goal

pub returns : goal.returns
returns g c =
    appended (λ s. s.0.ghost_name) (λ s. s.0.now.items) _ _ _ c.write.result c.map_err.result _ c.map_err.ensures.variant
    (λ text same more. search rules) c.write.ensures.writes
