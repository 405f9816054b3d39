-- A change can always be brought to its end.
use Rattle.std.proofs.Common.{◌≡◌, ℕ, zero, suc, ◌+◌, ◌-◌, ◌*◌, ◌/◌, ◌<◌, ◌≤◌, Bool, true, false, ltb, ◌⊎◌, List, [], ◌∷◌, ◌++◌, Some, Option, sym, refl, ap, ◌∙◌, subst, inl, inr, true≢false, append_assoc, append-nil, mul-le-mul_right, mul_comm, add-mul, one-mul, mul-zero, le-div_iff_mul-le, mul-one, mul-add, arith, ltb-false, le-ltb, eq-eqb}
use mathlib.Core.Path.{subst⁻¹}
use mathlib.Core.List.Memᴰ
use native.Mathlib.Nat.{le_of_mul-le-mul_left, mul-div-le, lt-mul-div-succ, zero-div}
use Rattle.table.specs.declared.row.Row.{Row}
use Rattle.table.specs.Update.{update}
use Rattle.table.specs.Columns.{value_in}
use Rattle.stage.specs.Stages.{value_taken}
use Rattle.change.specs.Protocol.{Way, up, down, Head, gone, there, raised, turned_down, lowered, onward}
use Rattle.change.specs.Index.{About, must_turn, NoOrphan}
use Rattle.change.proofs.Kept as kept
use Rattle.register.specs.Registers.{Register, Record, went_up, turned, went_down, filled, cleared, came_up, applied, replayed, bare, cell_of, rows_of}
use Rattle.register.proofs.Goods.{Fine}
use Rattle.lease.specs.Leases.{Lease, runs, Among}
use Rattle.lease.specs.Clocks.{Times, Counts, Fit}
use Rattle.lease.proofs.Books.{all_over}
use Rattle.service.specs.Calls.{Limits, Store, Call, raise, turn, lower, fill, clear, recorded, applied_maybe, leases_after, turns_back}
use Rattle.service.specs.World.{World, written, says, Event, passes, calls, syncs, comes_up, after_all, Possible, one_more}
use Rattle.service.specs.Promise.{In, Alike, Public, Gone, Serves, ServesBy, Leads}
use Rattle.service.proofs.Worlds.{Inv, Up, one_record_more, invariant, only_noted}
use Rattle.service.proofs.Answered.{value_taken_lem}

-- no lease runs, and the store is no longer quiet
pub record Idle (m : Limits) (s : Store) (t : ℕ) : Type 0 where
  pub over : (l : Lease) → Among l s.leases → runs m.long t l ≡ false
  pub loud : ltb t m.long ≡ false

module _ (m : Limits) (s : Store) (t i : ℕ) (idle : Idle m s t) (l : ltb i m.indexes ≡ true) (a : About) (st d : ℕ) where
  raise_done : s.register.head i ≡ there a up st d → st < 3 → (st ≡ 2 → d ≡ m.keys) → recorded m s t (raise i) ≡ Some (went_up i)
  raise_done e f g = let all = all_over m.long t i st s.leases idle.over in let b = idle.loud in grind arith

  turn_done : s.register.head i ≡ there a up st d → recorded m s t (turn i) ≡ Some (turned i)
  turn_done e = let all = all_over m.long t i st s.leases idle.over in let b = idle.loud in grind arith

  lower_done : s.register.head i ≡ there a down st d → (st ≡ 1 → d ≡ m.keys) → recorded m s t (lower i) ≡ Some (went_down i)
  lower_done e g = let all = all_over m.long t i st s.leases idle.over in let b = idle.loud in grind arith

  clear_done : s.register.head i ≡ there a down 1 d → d < m.keys → recorded m s t (clear i) ≡ Some (cleared i d)
  clear_done e g = let all = all_over m.long t i 1 s.leases idle.over in let b = idle.loud in grind arith

  fill_done : s.register.head i ≡ there a up 2 d → d < m.keys → turns_back m s t i ≡ false → recorded m s t (fill i) ≡ Some (filled i d)
  fill_done e g h = let all = all_over m.long t i 2 s.leases idle.over in let b = idle.loud in grind arith

-- the store's clock gets as far as one likes
far : (long : ℕ) (p : Times) → Fit long p → (clock : ℕ → ℕ) (b : ℕ) → Counts p b clock → (a : ℕ) → b ≤ a → (t : ℕ) × (clock a + long ≤ clock (a + t))
far long p fit clock b c a l = (t, le_of_mul-le-mul_left all fit.some_grain)
  where
    t : ℕ
    t = 1000000 * (p.grain * (long + 1))

    some-speed : (x : ℕ) → 1000000 - p.rate ≡ x → 1 ≤ x
    some-speed zero e = absurd (let f = fit.within in let g : (long - 1) * (1000000 - p.rate) ≡ 0 = ap (λ z. (long - 1) * z) e ∙ mul-zero (long - 1) in omega arith)
    some-speed (suc x) e = omega arith

    all : p.grain * (clock a + long) ≤ p.grain * clock (a + t)
    all =
        let slow = c.not_slow a (a + t) l (omega arith) in
        let time : a + t - a ≡ t = omega arith in
        let fast : 1 * t ≤ (1000000 - p.rate) * t = mul-le-mul_right t (some-speed (1000000 - p.rate) refl) in
        let same : (1000000 - p.rate) * (a + t - a) ≡ (1000000 - p.rate) * t = ap (λ z. (1000000 - p.rate) * z) time in
        let one = one-mul t in
        let x = mul-add p.grain (clock a) long in
        let y = mul-add p.grain long 1 in
        let z = mul-one p.grain in
        omega arith

-- a clock that counts, from a moment on
clock_from : (p : Times) → 1 ≤ p.grain → (b : ℕ) → Counts p b (λ t. (t - b) / p.grain)
clock_from p g b = record {
  rises = λ x y f l. (le-div_iff_mul-le g).1 (let a = mul-div-le (x - b) p.grain in let c = mul_comm ((x - b) / p.grain) p.grain in omega arith);
  not_fast = λ x y f l. let a = facts x in let c = facts y in let d = add-mul 1000000 p.rate (y - x) in omega arith;
  not_slow = λ x y f l. let a = facts x in let c = facts y in let d : (1000000 - p.rate) * (y - x) ≤ 1000000 * (y - x) = mul-le-mul_right (y - x) (omega arith) in omega arith;
}
  where
    facts : (x : ℕ) → (p.grain * ((x - b) / p.grain) ≤ x - b) × (x - b < p.grain * ((x - b) / p.grain) + p.grain)
    facts x = let a = lt-mul-div-succ (x - b) g in let c = mul-add p.grain ((x - b) / p.grain) 1 in let d = mul-one p.grain in (mul-div-le (x - b) p.grain, omega arith)

module _ (m : Limits) (p : Times) (clocks : ℕ → ℕ → ℕ) where
  abbrev pub Ways : List Event → Type 0
  Ways es = (i : ℕ) (a : About) (x : Way) (s d : ℕ) → (says (after_all m p es)).head i ≡ there a x s d →
      (x ≡ up → Leads m p clocks es (Public m p clocks i a) ⊎ ((a.unique ≡ true) × Alike (says (after_all m p es)) i)) × Leads m p clocks es (Gone m p clocks i)

  -- one event more
  leads_by : (P : World → Type 0) (e : Event) (es : List Event) → Serves e → (says (after_all m p (e ∷ es))).row ≡ (says (after_all m p es)).row → Leads m p clocks (e ∷ es) P → Leads m p clocks es P
  leads_by P e es serves same (more, all, possible, (rows, synced, good)) =
      let q : more ++ (e ∷ es) ≡ (more ++ (e ∷ [])) ++ es = sym (append_assoc more (e ∷ []) es) in (
        more ++ (e ∷ []),
        (λ x a. elim (Memᴰ.append_cases more a) [ inl b ↦ all x b | inr b ↦ elim (Memᴰ.cases_cons b) [ inl z ↦ subst⁻¹ (λ y. Serves y) z serves | inr z ↦ absurd (Memᴰ.not-nil z) ] ]),
        subst (λ z. Possible m p z) q possible,
        subst (λ z. ((says (after_all m p z)).row ≡ (says (after_all m p es)).row) × ((after_all m p z).pending ≡ []) × P (after_all m p z)) q (rows ∙ same, synced, good),
      )

module _ (m : Limits) (p : Times) (clocks : ℕ → ℕ → ℕ) (fit : Fit m.long p) (counts : (o : ℕ) → Counts p 0 (clocks o)) (i : ℕ) where
  abbrev at : List Event → World
  at es = after_all m p es

  abbrev clock_at : List Event → ℕ
  clock_at es = (at es).clock (at es).moment

  -- a moment at which nothing hinders the change, with its head
  record Stands (es : List Event) (h : Head About) : Type 0 where
    pub possible : Possible m p es
    pub is_up : (at es).is_up ≡ true
    pub idle : Idle m (at es).store (clock_at es)
    pub head : (at es).store.register.head i ≡ h

  inv : {es : List Event} {h : Head About} → Stands es h → Inv m p clocks (at es)
  inv {es} st = invariant m p clocks fit counts es st.possible

  said : {es : List Event} {h : Head About} → Stands es h → (at es).store.register ≡ says (at es)
  said st = ((inv st).up st.is_up).lasts

  -- nobody is in any stage
  nobody : {es : List Event} {h : Head About} → Stands es h → (j s : ℕ) → In m p clocks (at es) j s → ⊥
  nobody {es} st j s x = let h = only_noted m p clocks fit counts (at es) ((inv st).up st.is_up) st.idle.loud j s x in true≢false (sym h.running ∙ st.idle.over h.lease h.among)

  -- one call more
  stands_by : (es : List Event) (h k : Head About) (c : Call) (x : Record) → (st : Stands es h) → recorded m (at es).store (clock_at es) c ≡ Some x → leases_after m (at es).store (clock_at es) c ≡ (at es).store.leases
      → (applied x (at es).store.register).head i ≡ k → Stands (calls 0 c ∷ es) k
  unfolding after_all
  stands_by es h k c x st e f g = record {
    possible = one_more _ _ st.possible (st.is_up, omega arith);
    is_up = refl;
    idle = record { over = λ l a. st.idle.over l (subst (λ z. Among l z) f a); loud = st.idle.loud };
    head = ap (λ z. (applied_maybe m (at es).store (clock_at es) z).head i) e ∙ g;
  }

  goes_by : (P : World → Type 0) (es : List Event) (h k : Head About) (c : Call) (x : Record) → ServesBy c → (st : Stands es h) → recorded m (at es).store (clock_at es) c ≡ Some x → leases_after m (at es).store (clock_at es) c ≡ (at es).store.leases
      → (applied x (at es).store.register).head i ≡ k → (applied x (at es).store.register).row ≡ (at es).store.register.row → (Stands (calls 0 c ∷ es) k → Leads m p clocks (calls 0 c ∷ es) P) → Leads m p clocks es P
  unfolding after_all
  goes_by P es h k c x serves st e f g rows next =
      let new = stands_by es h k c x st e f g in
      leads_by m p clocks P (calls 0 c) es serves
      (ap (λ (r : Register). r.row) (sym (said new)) ∙ after-rows ∙ rows ∙ ap (λ (r : Register). r.row) (said st)) (next new)
    where
      after-rows : (at (calls 0 c ∷ es)).store.register.row ≡ (applied x (at es).store.register).row
      after-rows = ap (λ z. (applied_maybe m (at es).store (clock_at es) z).row) e

  -- the end: all is synced
  ends : (P : World → Type 0) (es : List Event) (h : Head About) → Stands es h → (Stands (syncs ∷ es) h → (says (at (syncs ∷ es))).head i ≡ h → P (at (syncs ∷ es))) → Leads m p clocks es P
  unfolding after_all
  ends P es h st f =
      let same : says (at (syncs ∷ es)) ≡ says (at es) = ap (λ z. replayed z bare) (append-nil (written (at es))) in
      let new : Stands (syncs ∷ es) h = record { possible = one_more _ _ st.possible st.is_up; is_up = refl; idle = st.idle; head = st.head } in (
        syncs ∷ [],
        (λ e a. elim (Memᴰ.cases_cons a) [ inl z ↦ subst⁻¹ (λ y. Serves y) z tt | inr z ↦ absurd (Memᴰ.not-nil z) ]),
        new.possible,
        (ap (λ (r : Register). r.row) same, refl, f new (ap (λ (r : Register). r.head i) (same ∙ sym (said st)) ∙ st.head)),
      )

  -- the head, as a step leaves it
  stepped : (es : List Event) (h : Head About) (f : Head About → Head About) → Stands es h → update i (f ((at es).store.register.head i)) (at es).store.register.head i ≡ f h
  stepped es h f st = rw (eq-eqb i i refl, st.head)

  head_says : {es : List Event} {h : Head About} → Stands es h → (says (at es)).head i ≡ h
  head_says st = ap (λ (r : Register). r.head i) (sym (said st)) ∙ st.head

  -- what holds of the change
  fine : (es : List Event) (h : Head About) → Stands es h → Fine m.keys h (In m p clocks (at es) i) (says (at es)).row ((says (at es)).entry i)
  fine es h st = subst (λ h. Fine m.keys h (In m p clocks (at es) i) (says (at es)).row ((says (at es)).entry i)) (head_says st) ((inv st).good.sound i)

  module _ (a : About) where
    bounds : (es : List Event) (x : Way) (s d : ℕ) → Stands es (there a x s d) → (s ≤ 3) × (d ≤ m.keys)
    bounds es x s d st = let b = (fine es (there a x s d) st).by_head in (b.0, b.1)

    inside : (es : List Event) (x : Way) (s d : ℕ) → Stands es (there a x s d) → ltb i m.indexes ≡ true
    inside es x s d st = go (ltb i m.indexes) refl
      where
        go : (b : Bool) → ltb i m.indexes ≡ b → b ≡ true
        go true e = refl
        go false e = absurd (let f = (inv st).good.no_index i (ltb-false i m.indexes e) in let g = head_says st in let z : ◌≡◌ {A = ℕ} 0 1 = cc in omega arith)

    abbrev GoneAt : World → Type 0
    GoneAt = Gone m p clocks i

    -- down
    down_0 : (es : List Event) (d : ℕ) → Stands es (there a down 0 d) → Leads m p clocks es GoneAt
    down_0 es d st = goes_by GoneAt es _ gone (lower i) (went_down i) tt st (lower_done m (at es).store (clock_at es) i st.idle (inside es down 0 d st) a 0 d st.head (λ z. absurd (omega arith))) refl
        (stepped es _ lowered st) refl (λ new. ends GoneAt _ gone new (λ s e. (e, kept.gone_empty m.keys (fine _ gone s))))

    down_1 : (left : ℕ) (es : List Event) (d : ℕ) → d + left ≡ m.keys → Stands es (there a down 1 d) → Leads m p clocks es GoneAt
    down_1 zero es d e st = goes_by GoneAt es _ (there a down 0 0) (lower i) (went_down i) tt st (lower_done m (at es).store (clock_at es) i st.idle (inside es down 1 d st) a 1 d st.head (λ z. omega arith)) refl
        (stepped es _ lowered st) refl (λ new. down_0 _ 0 new)
    down_1 (suc left) es d e st = goes_by GoneAt es _ (there a down 1 (d + 1)) (clear i) (cleared i d) tt st (clear_done m (at es).store (clock_at es) i st.idle (inside es down 1 d st) a 1 d st.head (omega arith)) refl
        (stepped es _ onward st) refl (λ new. down_1 left _ (d + 1) (omega arith) new)

    down_2 : (es : List Event) (d : ℕ) → Stands es (there a down 2 d) → Leads m p clocks es GoneAt
    down_2 es d st = goes_by GoneAt es _ (there a down 1 0) (lower i) (went_down i) tt st (lower_done m (at es).store (clock_at es) i st.idle (inside es down 2 d st) a 2 d st.head (λ z. absurd (omega arith))) refl
        (stepped es _ lowered st) refl (λ new. down_1 m.keys _ 0 (omega arith) new)

    down_3 : (es : List Event) (d : ℕ) → Stands es (there a down 3 d) → Leads m p clocks es GoneAt
    down_3 es d st = goes_by GoneAt es _ (there a down 2 0) (lower i) (went_down i) tt st (lower_done m (at es).store (clock_at es) i st.idle (inside es down 3 d st) a 3 d st.head (λ z. absurd (omega arith))) refl
        (stepped es _ lowered st) refl (λ new. down_2 _ 0 new)

    down_any : (s : ℕ) (es : List Event) (d : ℕ) → Stands es (there a down s d) → Leads m p clocks es GoneAt
    down_any zero es d st = down_0 es d st
    down_any (suc zero) es d st = let b = bounds es down 1 d st in down_1 (m.keys - d) es d (omega arith) st
    down_any (suc (suc zero)) es d st = down_2 es d st
    down_any (suc (suc (suc zero))) es d st = down_3 es d st
    down_any (suc (suc (suc (suc s)))) es d st = absurd (let b = bounds es down _ d st in omega arith)

    goes : (x : Way) (s : ℕ) (es : List Event) (d : ℕ) → Stands es (there a x s d) → Leads m p clocks es GoneAt
    goes down s es d st = down_any s es d st
    goes up s es d st = goes_by GoneAt es _ (there a down s 0) (turn i) (turned i) tt st (turn_done m (at es).store (clock_at es) i st.idle (inside es up s d st) a s d st.head) refl
        (stepped es _ turned_down st) refl (λ new. down_any s _ 0 new)

    -- up
    abbrev PublicAt : World → Type 0
    PublicAt = Public m p clocks i a

    abbrev Twins : (ℕ → Option Row) → Type 0
    Twins row = (k j v : ℕ) × (k ≡ j → ⊥) × (value_in a.column (row k) ≡ Some v) × (value_in a.column (row j) ≡ Some v)

    abbrev Ends : List Event → Type 0
    Ends es = Leads m p clocks es PublicAt ⊎ ((a.unique ≡ true) × Twins (at es).store.register.row)

    ends_by : (es : List Event) (h k : Head About) (f : Call) (x : Record) → ServesBy f → (st : Stands es h) → recorded m (at es).store (clock_at es) f ≡ Some x → leases_after m (at es).store (clock_at es) f ≡ (at es).store.leases
        → (applied x (at es).store.register).head i ≡ k → (applied x (at es).store.register).row ≡ (at es).store.register.row → (Stands (calls 0 f ∷ es) k → Ends (calls 0 f ∷ es)) → Ends es
    unfolding after_all
    ends_by es h k f x serves st e l g rows next = elim (next (stands_by es h k f x st e l g)) [
      | inl r ↦ inl (goes_by PublicAt es h k f x serves st e l g rows (λ new. r))
      | inr t ↦ inr (t.0, subst (λ z. Twins z) (ap (λ z. (applied_maybe m (at es).store (clock_at es) z).row) e ∙ rows) t.1)
    ]

    up_3 : (es : List Event) (d : ℕ) → Stands es (there a up 3 d) → Ends es
    up_3 es d st = inl (ends PublicAt es _ st (λ new e. (d, e, λ s x. absurd (nobody new i s x))))

    -- backfill finds a value taken: another row has it
    twins : (es : List Event) (d : ℕ) → Stands es (there a up 2 d) → turns_back m (at es).store (clock_at es) i ≡ true → (a.unique ≡ true) × Twins (at es).store.register.row
    twins es d st e =
        let f : must_turn m.keys (rows_of i (says (at es))) ((says (at es)).entry i) ((says (at es)).head i) ≡ true = subst (λ r. must_turn m.keys (rows_of i r) (r.entry i) (r.head i) ≡ true) (said st) e in
        let g : must_turn m.keys (λ k. value_in a.column ((says (at es)).row k)) ((says (at es)).entry i) (there a up 2 d) ≡ true =
        subst (λ h. must_turn m.keys (λ k. cell_of h ((says (at es)).row k)) ((says (at es)).entry i) h ≡ true) (head_says st) f in
        let own : NoOrphan (λ k. value_in a.column ((says (at es)).row k)) ((says (at es)).entry i) = kept.no_orphan_lem m.keys (there a up 2 d) (fine es (there a up 2 d) st) in
        let (one, taken) : (a.unique ≡ true) × (value_taken m.keys ((says (at es)).entry i) d (value_in a.column ((says (at es)).row d)) ≡ true) = grind arith in
        let (j, v, other, has, value) = value_taken_lem m.keys d (λ k. value_in a.column ((says (at es)).row k)) ((says (at es)).entry i) (value_in a.column ((says (at es)).row d)) own taken in
        (one, subst⁻¹ (λ (r : Register). Twins r.row) (said st) (j, d, v, other, has, value))

    up_2 : (left : ℕ) (es : List Event) (d : ℕ) → d + left ≡ m.keys → Stands es (there a up 2 d) → Ends es
    up_2 zero es d e st = ends_by es _ (there a up 3 0) (raise i) (went_up i) tt st (raise_done m (at es).store (clock_at es) i st.idle (inside es up 2 d st) a 2 d st.head (omega arith) (λ z. omega arith)) refl
        (stepped es _ raised st) refl (λ new. up_3 _ 0 new)
    up_2 (suc left) es d e st = go (turns_back m (at es).store (clock_at es) i) refl (λ new. up_2 left (calls 0 (fill i) ∷ es) (d + 1) (omega arith) new)
      where
        go : (b : Bool) → turns_back m (at es).store (clock_at es) i ≡ b → (Stands (calls 0 (fill i) ∷ es) (there a up 2 (d + 1)) → Ends (calls 0 (fill i) ∷ es)) → Ends es
        go true q next = inr (twins es d st q)
        go false q next = ends_by es (there a up 2 d) (there a up 2 (d + 1)) (fill i) (filled i d) tt st (fill_done m (at es).store (clock_at es) i st.idle (inside es up 2 d st) a 2 d st.head (omega arith) q) refl
            (stepped es (there a up 2 d) onward st) refl next

    up_1 : (es : List Event) (d : ℕ) → Stands es (there a up 1 d) → Ends es
    up_1 es d st = ends_by es _ (there a up 2 0) (raise i) (went_up i) tt st (raise_done m (at es).store (clock_at es) i st.idle (inside es up 1 d st) a 1 d st.head (omega arith) (λ z. absurd (omega arith))) refl
        (stepped es _ raised st) refl (λ new. up_2 m.keys _ 0 (omega arith) new)

    up_0 : (es : List Event) (d : ℕ) → Stands es (there a up 0 d) → Ends es
    up_0 es d st = ends_by es _ (there a up 1 0) (raise i) (went_up i) tt st (raise_done m (at es).store (clock_at es) i st.idle (inside es up 0 d st) a 0 d st.head (omega arith) (λ z. absurd (omega arith))) refl
        (stepped es _ raised st) refl (λ new. up_1 _ 0 new)

    up_any : (s : ℕ) (es : List Event) (d : ℕ) → Stands es (there a up s d) → Ends es
    up_any zero es d st = up_0 es d st
    up_any (suc zero) es d st = up_1 es d st
    up_any (suc (suc zero)) es d st = let b = bounds es up 2 d st in up_2 (m.keys - d) es d (omega arith) st
    up_any (suc (suc (suc zero))) es d st = up_3 es d st
    up_any (suc (suc (suc (suc s)))) es d st = absurd (let b = bounds es up _ d st in omega arith)

-- let all leases run out first
module _ (m : Limits) (p : Times) (clocks : ℕ → ℕ → ℕ) (fit : Fit m.long p) (counts : (o : ℕ) → Counts p 0 (clocks o)) (es : List Event) (q : Possible m p es) (u : (after_all m p es).is_up ≡ true) where
  abbrev w : World
  w = after_all m p es

  abbrev v : Up m p clocks w
  v = (invariant m p clocks fit counts es q).up u

  abbrev wait : ℕ
  wait = (far m.long p fit w.clock v.since v.counts w.moment v.before).0

  waits : w.clock w.moment + m.long ≤ w.clock (w.moment + wait)
  waits = (far m.long p fit w.clock v.since v.counts w.moment v.before).1

  rests : (i : ℕ) (h : Head About) → (says w).head i ≡ h → Stands m p clocks fit counts i (passes wait ∷ es) h
  unfolding after_all
  rests i h e = record {
    possible = one_more _ _ q tt;
    is_up = u;
    idle = record { over = λ l a. le-ltb _ _ (let x = v.past l a in let y = waits in omega arith); loud = le-ltb _ _ (let y = waits in omega arith) };
    head = ap (λ (r : Register). r.head i) v.lasts ∙ e;
  }

  -- what backfill found holds of the rows as they were
  alike : (i : ℕ) (a : About) (s d : ℕ) → (says w).head i ≡ there a up s d → Ends m p clocks fit counts i a (passes wait ∷ es) → Leads m p clocks es (Public m p clocks i a) ⊎ ((a.unique ≡ true) × Alike (says w) i)
  unfolding after_all
  alike i a s d e (inl l) = inl (leads_by m p clocks (Public m p clocks i a) (passes wait) es tt refl l)
  alike i a s d e (inr (one, (k, j, x, other, f, g))) =
      let r = subst (λ z. (value_in a.column (z.row k) ≡ Some x) × (value_in a.column (z.row j) ≡ Some x)) v.lasts (f, g) in
      let q = subst⁻¹ (λ h. (cell_of h ((says w).row k) ≡ Some x) × (cell_of h ((says w).row j) ≡ Some x)) e r in
      inr (one, (k, j, x, other, q.0, q.1))

  can_end_up : Ways m p clocks es
  unfolding after_all
  can_end_up i a x s d e = (
    (λ way. let f : (says w).head i ≡ there a up s d = e ∙ ap (λ z. there a z s d) way in
        alike i a s d f (up_any m p clocks fit counts i a s (passes wait ∷ es) d (rests i (there a up s d) f))),
    leads_by m p clocks (Gone m p clocks i) (passes wait) es tt refl (goes m p clocks fit counts i a x s (passes wait ∷ es) d (rests i (there a x s d) e)),
  )

-- a store that is down comes up first
module _ (m : Limits) (p : Times) (clocks : ℕ → ℕ → ℕ) (fit : Fit m.long p) (counts : (o : ℕ) → Counts p 0 (clocks o)) (es : List Event) (q : Possible m p es) where
  abbrev rising : Event
  rising = comes_up (λ t. (t - (after_all m p es).moment) / p.grain)

  can_rise : (after_all m p es).is_up ≡ false → Possible m p (rising ∷ es)
  can_rise d = one_more _ _ q (d, clock_from p fit.some_grain (after_all m p es).moment, (let z : (after_all m p es).moment - (after_all m p es).moment ≡ 0 = omega arith in ap (λ x. x / p.grain) z ∙ zero-div p.grain))

  same_but_epoch : says (after_all m p (rising ∷ es)) ≡ applied came_up (says (after_all m p es))
  unfolding after_all
  same_but_epoch = let w = after_all m p es in
      ap (λ z. replayed z bare) (sym (append_assoc w.journal w.pending (came_up ∷ []))) ∙ one_record_more (written w) came_up bare

  pub ways : Ways m p clocks es
  ways i a x s d e = go (after_all m p es).is_up refl
    where
      w : World
      w = after_all m p es

      go : (b : Bool) → w.is_up ≡ b → (x ≡ up → Leads m p clocks es (Public m p clocks i a) ⊎ ((a.unique ≡ true) × Alike (says w) i)) × Leads m p clocks es (Gone m p clocks i)
      go true u = can_end_up m p clocks fit counts es q u i a x s d e
      go false u =
          let same = same_but_epoch in
          let f = can_end_up m p clocks fit counts (rising ∷ es) (can_rise u) (unfold after_all in refl) i a x s d (ap (λ (r : Register). r.head i) same ∙ e) in
          let rows = ap (λ (r : Register). r.row) same in
          ((λ way. elim (f.0 way) [ inl l ↦ inl (leads_by m p clocks (Public m p clocks i a) rising es tt rows l) | inr t ↦ inr (t.0, subst (λ r. Alike r i) same t.1) ]), leads_by m p clocks (Gone m p clocks i) rising es tt rows f.1)
