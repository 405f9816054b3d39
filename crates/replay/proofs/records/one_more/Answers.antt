use Rattle.std.proofs.Common.{◌≡◌, true, rules}
use Rattle.register.specs.Registers.{applied}
use Rattle.register.specs.Held.{register_of, record_of, can_do}
use Rattle.replay.proofs.Windows.{further}
use Rattle.replay.proofs.records.one_more.Goals as goal

pub returns : goal.returns
returns c =
    let x = record_of c.in-Ok.whole.0 in
    let end = c.in-Ok.whole.1 in
    let (writable, stands, within) = c.in-Ok.ensures in
    let done : (can_do x (register_of c.args.register.now) ≡ true) × (register_of c.apply.new.self ≡ applied x (register_of c.args.register.now)) = search rules in
    (x, writable, stands, further c.args.bytes.now c.args.at end x stands within, within, done.0, done.1)
