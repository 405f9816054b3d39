use Rattle.keyset.proofs.Words.{has_set}
use Rattle.keyset.proofs.insert.Goals as goal

pub returns-then-at-words : goal.returns-then-at-words
returns-then-at-words c j =
    rw (← c.number-k.ensures) (has_set c.args.words.now c.number-k.result c.if-at-words.true j)
