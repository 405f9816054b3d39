-- The example, by computation.
use Rattle.std.proofs.Common.{ℕ, refl, arith}
use mathlib.Core.List.Memᴰ
use Rattle.keyset.specs.Sets.{any_below, keys_below}
use Rattle.register.specs.Registers.{replayed, all_stages, stages_now}
use Rattle.lease.specs.Clocks.{Counts}
use Rattle.service.specs.Calls.{}
use Rattle.service.specs.World.{Possible, none_yet, one_more, after_all}
use Rattle.service.specs.Promise.{by_own}
use Rattle.service.specs.Examples.{small, times, since, three, to_public, CanRun}

good_since : (u : ℕ) → Counts times u (since u)
good_since u = record { rises = λ a b f l. omega arith; not_fast = λ a b f l. omega arith; not_slow = λ a b f l. omega arith }

public_possible : Possible small times to_public
unfolding after_all stages_now any_below all_stages replayed
public_possible =
    one_more _ _ (one_more _ _ (one_more _ _ (one_more _ _ (one_more _ _
    (one_more _ _ (one_more _ _ (one_more _ _ (one_more _ _ (one_more _ _ (one_more _ _ (one_more _ _
    (one_more _ _ (one_more _ _ (one_more _ _ none_yet tt) (refl, good_since 5, refl)) tt)
    (refl, omega arith)) (refl, omega arith)) (refl, omega arith)) (refl, omega arith)) (refl, omega arith)) (refl, omega arith)) refl)
    tt) (refl, omega arith)) (refl, omega arith)) tt) refl

pub can_run : CanRun
unfolding after_all stages_now any_below keys_below all_stages replayed
can_run = record {
  fits = record { some_grain = omega arith; within = omega arith };
  counts = λ o. record { rises = λ a b f l. l; not_fast = λ a b f l. omega arith; not_slow = λ a b f l. omega arith };
  possible =
      one_more _ _ (one_more _ _ (one_more _ _ (one_more _ _
      (one_more _ _ (one_more _ _ (one_more _ _ (one_more _ _ public_possible
      (refl, omega arith)) (refl, omega arith)) (refl, omega arith)) (refl, omega arith))
      tt) tt) tt) (refl, good_since 33, refl);
  told = Memᴰ.tail (Memᴰ.head refl);
  acts = refl;
  epoch = refl;
  wrote = refl;
  taken = refl;
  left = refl;
  head = refl;
  rows = (refl, refl);
  found = (refl, refl, refl);
  in_public = by_own 0 31 three (Memᴰ.tail (Memᴰ.head refl)) refl refl;
}
