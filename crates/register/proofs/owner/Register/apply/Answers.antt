use Rattle.std.proofs.Common.{ap}
use Rattle.register.specs.Held.{record_of}
use Rattle.register.proofs.Records.{made_is, went_up_is, turned_is, went_down_is, filled_is, cleared_is}
use Rattle.register.proofs.owner.Register.apply.Goals as goal

pub returns-in-Made : goal.returns-in-Made
returns-in-Made c = made_is c.args.self.now _ _ c.number.ensures c.in-Made.index.small c.index-self-number.result c.make.new.self c.make.result _ c.in-Made.column.number c.in-Made.unique c.in-Made.column.small (ap record_of c.in-Made.is) c.make.ensures

pub returns-in-WentUp : goal.returns-in-WentUp
returns-in-WentUp c = went_up_is c.args.self.now _ _ c.number-in-WentUp.ensures c.in-WentUp.index.small c.index-self-number-in-WentUp.result c.raise.new.self c.raise.result _ (ap record_of c.in-WentUp.is) c.raise.ensures

pub returns-in-Turned : goal.returns-in-Turned
returns-in-Turned c = turned_is c.args.self.now _ _ c.number-in-Turned.ensures c.in-Turned.index.small c.index-self-number-in-Turned.result c.turn.new.self c.turn.result _ (ap record_of c.in-Turned.is) c.turn.ensures

pub returns-in-WentDown : goal.returns-in-WentDown
returns-in-WentDown c = went_down_is c.args.self.now _ _ c.number-in-WentDown.ensures c.in-WentDown.index.small c.index-self-number-in-WentDown.result c.lower.new.self c.lower.result _ (ap record_of c.in-WentDown.is) c.lower.ensures

pub returns-in-Filled : goal.returns-in-Filled
returns-in-Filled c = filled_is c.args.self.now _ _ c.number-in-Filled.ensures c.in-Filled.index.small c.index-self-number-in-Filled.result c.fill.new.self c.fill.result _ c.in-Filled.key.number (ap record_of c.in-Filled.is) c.fill.ensures

pub returns-in-Cleared : goal.returns-in-Cleared
returns-in-Cleared c = cleared_is c.args.self.now _ _ c.number-in-Cleared.ensures c.in-Cleared.index.small c.index-self-number-in-Cleared.result c.clear.new.self c.clear.result _ c.in-Cleared.key.number (ap record_of c.in-Cleared.is) c.clear.ensures
