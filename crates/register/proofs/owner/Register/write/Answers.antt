use Rattle.std.proofs.Common.{sym, ap, ◌∙◌, arith, rules}
use Rattle.table.specs.Held.{row_of}
use Rattle.table.specs.Update.{update}
use Rattle.stage.specs.Stages.{written}
use Rattle.register.proofs.Follows.{GoneOver-more, one_followed, all_written}
use Rattle.register.proofs.owner.Register.write.Goals as goal

pub loop-i-preserved : goal.loop-i-preserved
loop-i-preserved c =
    let g = c.loop-i.invariant in
    let new = one_followed c.args.self.now c.args.key.number (written c.args.write) c.args.stages.now _ _ _ c.place-item.result g c.loop-i-test.true (search rules) in
    GoneOver-more _ _ _ _ g c.place-item.result c.follow.new.self c.loop-i-test.true c.follow.ensures.head (λ j. c.follow.ensures.entries j ∙ new j)

pub returns-in-Put : goal.returns-in-Put
returns-in-Put c =
    let s = c.args.self.now in
    all_written s c.args.key.number (written c.args.write) c.args.stages.now c.loop-i.place-items c.loop-i.i (row_of c.put.new.self) c.told-stages c.loop-i.invariant (omega arith)
    (λ j. c.put.ensures j ∙ ap (λ w. update c.args.key.number (written w) (row_of s.rows) j) (sym c.in-Put.is))

pub returns-in-Take : goal.returns-in-Take
returns-in-Take c =
    let s = c.args.self.now in
    all_written s c.args.key.number (written c.args.write) c.args.stages.now c.loop-i.place-items c.loop-i.i (row_of c.take.new.self) c.told-stages c.loop-i.invariant (omega arith)
    (λ j. c.take.ensures j ∙ ap (λ w. update c.args.key.number (written w) (row_of s.rows) j) (sym c.in-Take.is))
