use Rattle.std.proofs.Common.{◌≡◌, ℕ, true, false, Some, None, inl, inr, arith}
use Rattle.change.specs.Protocol.{Head}
use Rattle.change.specs.Index.{About}
use Rattle.change.specs.declared.kinds.Way.{Way}
use Rattle.change.specs.Heads.{head_of}
use Rattle.change.specs.OverKeys.{why_no_work, may_work}
use Rattle.change.proofs.Batches.{one_more, no_more}
use Rattle.change.proofs.batch.work.Goals as goal
use Rattle.change.proofs.batch.work.Goals.{else-loop-test, then-loop-test+in_default}

goes_on : (at : Way) (h : Head About) → why_no_work 4096 at true h ≡ None → may_work 4096 at h ≡ true
goes_on at h e = grind arith

ends : (at : Way) (h : Head About) (n : ℕ) → why_no_work 4096 at true h ≡ Some n → may_work 4096 at h ≡ false
ends at h n e = grind arith

pub loop-preserved : goal.loop-preserved
loop-preserved g c step does =
    one_more _ step _ _ _ _ (c.loop.invariant step does) _ c.loop-test.true (goes_on c.args.at (head_of c.loop.head) c.in-Ok.ensures.0) (does _ _ _ _ _ c.in-Ok.ensures.1 c.one-head.ensures)

pub returns : goal.returns
returns g c step does = (
  c.in_ok-next_key.ensures.0,
  no_more _ step _ _ _ _ (c.loop.invariant step does)
      (elim c.loop-test.branch [
        | else-loop-test w ↦ inl w.loop-test.false
        | then-loop-test+in_default w ↦ inr (ends c.args.at (head_of c.loop.head) _ w.in_default.ensures)
      ]),
)
