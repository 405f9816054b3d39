use Rattle.change.specs.Protocol.{why_not_up, why_not_turn, why_not_down, why_not_fill, why_not_clear}
use Rattle.service.proofs.owner.State.granted.Given as goal

-- by which number each step refuses
abbrev pub ghost-check_step : goal.ghost-check_step
ghost-check_step a = why_not_up 4096

abbrev pub ghost-check_step-2 : goal.ghost-check_step-2
ghost-check_step-2 a = why_not_turn

abbrev pub ghost-check_step-3 : goal.ghost-check_step-3
ghost-check_step-3 a = why_not_down 4096

abbrev pub ghost-check_step-4 : goal.ghost-check_step-4
ghost-check_step-4 a = why_not_fill 4096

abbrev pub ghost-check_step-5 : goal.ghost-check_step-5
ghost-check_step-5 a = why_not_clear 4096
