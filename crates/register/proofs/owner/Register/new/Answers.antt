use Rattle.std.proofs.Common.{◌≡◌, ℕ, get_or, None, rules, arith}
use Rattle.table.specs.Held.{entry_of}
use Rattle.register.proofs.Parts.{all_bare}
use Rattle.register.proofs.owner.Register.new.Goals as goal

pub returns : goal.returns
returns c =
    let ps = c.in_ok-try_from_fn.field-0 in
    let made = c.in_ok-try_from_fn.ensures.ok in
    all_bare c.in_ok-new.field-0 ps c.in_ok-new.ensures (λ i p l.
    let (f, g, h) = made.at i p (omega (arith, made.long)) in
    let bare : ((get_or ps i p).head ≡ None) × ((j : ℕ) → entry_of (get_or ps i p).entries j ≡ None) = search rules in
    record { head = bare.0; entries = bare.1 })
