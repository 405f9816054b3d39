-- Running stores go on, and have the promises.
use Rattle.std.proofs.Common.{◌≡◌, ℕ, ◌-◌, ◌*◌, ◌≤◌, List, [], ◌∷◌, IfOk, Ok, Err, Result, sym, refl, ap, ◌∙◌, subst, ap₂, mul-le-mul_right, add-mul, arith, lit≤, MatchResult}
use mathlib.Core.Logic.{∥∥₁_elim, ∥∥₁_map}
use mathlib.Core.List.{is_set}
use native.Mathlib.Nat.{ℕ_set}
use Rattle.std.specs.declared.alloc.AllocError.{AllocError}
use Rattle.register.specs.Held.{register_of}
use Rattle.lease.specs.Clocks.{Counts, Fit, Fits}
use Rattle.register.specs.Registers.{Register, bare, applied, came_up, replayed, rows_of}
use Rattle.table.specs.Update.{keys_for}
use Rattle.service.specs.Calls.{Store, Claim, Call, look, found, answered, after}
use Rattle.service.specs.World.{World, Event, passes, calls, comes_up, none_yet, one_more, after_all, says}
use Rattle.service.specs.declared.kinds.Call as codes
use Rattle.service.specs.declared.owner.State.{State}
use Rattle.service.specs.declared.pending.Pending.{Pending}
use Rattle.service.specs.Held.{limits, store_of, call_of, answer_of, Called}
use Rattle.service.specs.Reached.{times_of, Reached, HasPromises}
use Rattle.service.proofs.Promises as promises

-- a clock that counts exactly
exact : (short rate since : ℕ) → Counts (times_of short rate) since (λ t. t - since)
exact short rate since = record {
  rises = λ a b h k. omega arith;
  not_fast = λ a b h k. let d = add-mul 1000000 rate (b - a) in omega arith;
  not_slow = λ a b h k. let d : (1000000 - rate) * (b - a) ≤ 1000000 * (b - a) = mul-le-mul_right (b - a) (omega arith) in omega arith;
}

module _ (long short rate : ℕ) where
  abbrev at : List Event → World
  at es = after_all (limits long) (times_of short rate) es

  -- the store comes up for the first time
  pub first_up : Reached long short rate (record { register = applied came_up bare; leases = [] }) 0
  unfolding after_all replayed
  first_up = record {
    events = comes_up (λ t. t - 0) ∷ [];
    possible = one_more (comes_up (λ t. t - 0)) [] none_yet (refl, exact short rate 0, refl);
    up = refl;
    store = refl;
    since = 0;
    clock = refl;
    moment = refl;
  }

  -- time passes
  pub later : (s : Store) (n m : ℕ) → n ≤ m → Reached long short rate s n → Reached long short rate s m
  unfolding after_all
  later s n m h r = record {
    events = passes (m - n) ∷ r.events;
    possible = one_more (passes (m - n)) r.events r.possible tt;
    up = r.up;
    store = r.store;
    since = r.since;
    clock = r.clock;
    moment = let e = r.moment in omega arith;
  }

  shows : (s : Store) (n : ℕ) (r : Reached long short rate s n) → (at r.events).clock (at r.events).moment ≡ n
  shows s n r = ap (λ (f : ℕ → ℕ). f (at r.events).moment) r.clock ∙ (let e = r.moment in omega arith)

  -- a call comes
  at_call : (s : Store) (n : ℕ) (c : Call) → Reached long short rate s n → Reached long short rate (after (limits long) s n c) n
  unfolding after_all
  at_call s n c r =
      let w = at r.events in
      record {
        events = calls w.moment c ∷ r.events;
        possible = one_more (calls w.moment c) r.events r.possible (r.up, omega arith);
        up = refl;
        store = ap (λ (x : ℕ). after (limits long) w.store x c) (shows s n r) ∙ ap (λ (x : Store). after (limits long) x n c) r.store;
        since = r.since;
        clock = r.clock;
        moment = r.moment;
      }

  pub called : (s s' : Store) (n m : ℕ) (c : Call) → n ≤ m → s' ≡ after (limits long) s m c → ∥ Reached long short rate s n ∥₁ → ∥ Reached long short rate s' m ∥₁
  called s s' n m c h e r = ∥∥₁_map r (λ x. subst (λ z. Reached long short rate z m) (sym e) (at_call s m c (later s n m h x)))

  pub waited : (s s' : Store) (n m : ℕ) → n ≤ m → s' ≡ s → ∥ Reached long short rate s n ∥₁ → ∥ Reached long short rate s' m ∥₁
  waited s s' n m h e r = ∥∥₁_map r (λ x. subst (λ z. Reached long short rate z m) (sym e) (later s n m h x))

  fit : Fits long short rate → Fit long (times_of short rate)
  fit f = record { some_grain = lit≤ tt; within = f }

  -- it has the promises
  pub has_promises : Fits long short rate → (s : Store) (n : ℕ) → ∥ Reached long short rate s n ∥₁ → HasPromises long short rate s n
  has_promises f s n r clocks counts = ∥∥₁_map r (λ x.
      let (promise, ends) = promises.keeps (limits long) (times_of short rate) clocks (fit f) counts x.events x.possible in
      record { events = x.events; possible = x.possible; up = x.up; store = x.store; reads = shows s n x; promise = promise; can_end = ends })

  -- whoever may look up by an index finds what a look through all rows finds
  pub looks : Fits long short rate → (s : Store) (n : ℕ) → ∥ Reached long short rate s n ∥₁ → (o : ℕ) (c : Claim) (i v : ℕ) (ks : List ℕ) → answered (limits long) s n (look o c i v) ≡ found ks → ks ≡ keys_for 4096 (rows_of i s.register) v
  looks f s n r o c i v ks e = ∥∥₁_elim r (is_set ℕ_set _ _) (λ x.
      let w = at x.events in
      let promise = (promises.keeps (limits long) (times_of short rate) (λ o t. t - 0) (fit f) (λ o. exact short rate 0) x.events x.possible).0 in
      let same : says w ≡ s.register = sym (promise.lasts x.up) ∙ ap (λ (z : Store). z.register) x.store in
      let q : answered (limits long) w.store (w.clock w.moment) (look o c i v) ≡ found ks =
      ap₂ (λ z t. answered (limits long) z t (look o c i v)) x.store (shows s n x) ∙ e in
      (promise.answers x.up).looking o c i v ks q ∙ ap (λ (z : Register). keys_for 4096 (rows_of i z) v) same)

-- a call of the code's own, at a later reading
module _ (x y : State) (same : y.times ≡ x.times) (n t : ℕ) (h : n ≤ t) (call : codes.Call) (reached : ∥ Reached x.times.long x.times.short x.times.rate (store_of x) n ∥₁) where
  abbrev Did : Result Pending AllocError → Type 0
  Did r = MatchResult r (λ p. Called x.times.long (store_of x) (store_of y) t call p.answer p.what) (λ _. store_of y ≡ store_of x)

  stays_reached : (r : Result Pending AllocError) → Did r → ∥ Reached x.times.long x.times.short x.times.rate (store_of y) t ∥₁
  stays_reached (Ok p) d = called x.times.long x.times.short x.times.rate (store_of x) (store_of y) n t (call_of call) h d.leaves reached
  stays_reached (Err e) d = waited x.times.long x.times.short x.times.rate (store_of x) (store_of y) n t h d reached

  pub goes_on : (r : Result Pending AllocError) → Did r → ∥ Reached y.times.long y.times.short y.times.rate (store_of y) t ∥₁
  goes_on r d = rw same (stays_reached r d)

  pub finds : (r : Result Pending AllocError) → Did r
      → IfOk r (λ p. (o : ℕ) (c : Claim) (i v : ℕ) (ks : List ℕ) → call_of call ≡ look o c i v → answer_of p.answer ≡ found ks → ks ≡ keys_for 4096 (rows_of i (register_of x.register)) v)
  finds (Ok p) d = λ o c i v ks is e.
      looks x.times.long x.times.short x.times.rate x.times.fits (store_of x) t (waited x.times.long x.times.short x.times.rate (store_of x) (store_of x) n t h refl reached) o c i v ks
      (ap (answered (limits x.times.long) (store_of x) t) (sym is) ∙ sym d.answers ∙ e)
  finds (Err e) d = tt
