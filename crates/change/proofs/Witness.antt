-- The examples, by computation.
use Rattle.std.proofs.Common.{refl}
use Rattle.keyset.specs.Sets.{any_below, keys_below}
use Rattle.change.specs.Examples.{to_public, to_gone, CanBePublic, CanBeGone}

pub can_be_public : CanBePublic
unfolding any_below keys_below
can_be_public = record { reach = (to_public, refl, refl); head = refl; holders = refl; found = refl; old = refl; taken = refl }

pub can_be_gone : CanBeGone
unfolding any_below
can_be_gone = record { reach = (to_gone, refl, refl); head = refl; rows = (refl, refl); entries = (refl, refl) }
