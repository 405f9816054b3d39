use Rattle.std.proofs.Common.{◌≡◌, ◌-◌}
use Rattle.table.specs.Held.{entry_of}
use Rattle.change.specs.Heads.{work_on}
use Rattle.change.specs.OverKeys.{may_work, DoesStep}
use Rattle.change.specs.Batches.{Work, repeated}
use Rattle.change.proofs.batch.work.Given as goal

abbrev pub invariant-loop : goal.invariant-loop
invariant-loop g l =
    (step : Work → Work) → DoesStep l.at (goal.F-post g l.one) (λ e. entry_of e.now) step
    → repeated (λ x. may_work 4096 l.at x.head) step (l.count - l.counter) (work_on l.head (entry_of l.entries)) ≡ repeated (λ x. may_work 4096 l.at x.head) step l.count (work_on l.fn.head (entry_of l.fn.entries))
