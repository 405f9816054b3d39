use Rattle.std.proofs.Common.{ap, ◌∙◌}
use Rattle.register.proofs.owner.Register.entry.Goals as goal

pub returns : goal.returns
returns c = c.get.ensures ∙ ap (λ f. f c.args.key.number) c.place.ensures.entries
