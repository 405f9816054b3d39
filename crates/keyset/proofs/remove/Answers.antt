use Rattle.keyset.proofs.Words.{has_cleared, without_past}
use Rattle.keyset.proofs.remove.Goals as goal

pub returns-then-at-words : goal.returns-then-at-words
returns-then-at-words c j =
    rw (← c.number-k.ensures) (has_cleared c.args.words.now c.number-k.result c.if-at-words.true j)

pub returns-else-at-words : goal.returns-else-at-words
returns-else-at-words c j =
    rw (← c.number-k.ensures) (without_past c.args.words.now c.number-k.result c.if-at-words.false j)
