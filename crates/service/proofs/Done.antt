-- A call that is granted leaves the store that the rules say.
use Rattle.std.proofs.Common.{◌≡◌, ℕ, ◌≤◌, Bool, true, false, cond, List, Some, None, Option, sym, refl, ap, ◌∙◌, subst, ap₂, arith}
use Rattle.std.proofs.lemmas.Bool.{and_from}
use Rattle.change.specs.Protocol.{gone, done_of}
use Rattle.register.specs.Registers.{Register, Record, turned, filled, doable}
use Rattle.register.specs.Held.{counts, can_do}
use Rattle.lease.specs.Leases.{Lease}
use Rattle.service.specs.Calls.{Store, Call, write, take_away, read, look, loan, make, raise, turn, lower, fill, clear, by_all_rows, why_not, record_of, record_by, recorded, leases_after, applied_maybe, after, turns_back}
use Rattle.service.specs.Held.{limits, Carried}
use Rattle.service.proofs.Records.{Held, record-can}

module _ (long : ℕ) (s : Store) (t : ℕ) (c : Call) (beyond : (i : ℕ) → 8 ≤ i → s.register.head i ≡ gone) (why : why_not (limits long) s t c ≡ None) where
  -- no call is a coming up
  same_counts : (z y : Record) → Some z ≡ Some y → counts z s.register ≡ true → counts y s.register ≡ true
  same_counts z y e h = let q : z ≡ y = cc in subst (λ x. counts x s.register ≡ true) q h

  fill_counts : (b : Bool) (i k : ℕ) → counts (cond b (turned i) (filled i k)) s.register ≡ true
  fill_counts true i k = refl
  fill_counts false i k = refl

  call_counts : (c : Call) (y : Record) → record_of (limits long) s t c ≡ Some y → counts y s.register ≡ true
  call_counts (write o a k n) y e = same_counts _ y e refl
  call_counts (take_away o a k) y e = same_counts _ y e refl
  call_counts (make i a u) y e = same_counts _ y e refl
  call_counts (raise i) y e = same_counts _ y e refl
  call_counts (turn i) y e = same_counts _ y e refl
  call_counts (lower i) y e = same_counts _ y e refl
  call_counts (fill i) y e = same_counts _ y e (fill_counts (turns_back (limits long) s t i) i (done_of (s.register.head i)))
  call_counts (clear i) y e = same_counts _ y e refl
  call_counts (read o k) y e = absurd (grind arith)
  call_counts (look o a i v) y e = absurd (grind arith)
  call_counts (loan o) y e = absurd (grind arith)
  call_counts (by_all_rows i v) y e = absurd (grind arith)

  is_recorded : (x : Option Record) → x ≡ record_of (limits long) s t c → recorded (limits long) s t c ≡ x
  is_recorded x e = ap₂ record_by why (sym e)

  -- its record can be done
  can : (y : Record) → Some y ≡ record_of (limits long) s t c → can_do y s.register ≡ true
  can y e =
      and_from (doable 4096 8 8 y s.register) (counts y s.register)
      (record-can (limits long) s t (Held (limits long) s t) (λ l a r i. record { lease = l; among = a; running = r; stage = refl }) (λ loud i x h. h) beyond c y (is_recorded (Some y) e)).0
      (call_counts c y (sym e))

  carried : (x : Option Record) (r : Register) → x ≡ record_of (limits long) s t c → Carried x s.register r → r ≡ applied_maybe (limits long) s t x
  carried None r e f = f
  carried (Some y) r e f = f (can y e)

  pub did : (x : Option Record) (r : Register) (ls : List Lease) → x ≡ record_of (limits long) s t c → Carried x s.register r → ls ≡ leases_after (limits long) s t c
      → ◌≡◌ {A = Store} (record { register = r; leases = ls }) (after (limits long) s t c)
  did x r ls e f g =
      let q = carried x r e f ∙ sym (ap (applied_maybe (limits long) s t) (is_recorded x e)) in
      λ i. record { register = q i; leases = g i }
