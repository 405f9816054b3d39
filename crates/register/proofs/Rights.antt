-- A register is whole where every key of every index is right, and only there.
use Rattle.std.proofs.Common.{◌≡◌, ℕ, ◌<◌, ◌≤◌, Bool, true, false, not, ◌&&◌, length, get_or, Some, None, Option, sym, refl, ap, ◌∙◌, subst, ⊎_elim, MatchBool, zero-add, arith}
use Rattle.std.specs.List.{slice_get, range_with_len, AllWithin, HoldsAt}
use Rattle.std.specs.Option.{option_and_then}
use Rattle.std.proofs.lemmas.Option.{slice_get_cases}
use Rattle.std.proofs.lemmas.Bool.{cases_lt}
use Rattle.std.proofs.lemmas.List.FromFn.{length-range_with_len, get_or-range_with_len}
use Rattle.table.specs.declared.row.Row.{Row}
use Rattle.table.specs.Held.{row_of, entry_of}
use Rattle.table.specs.Update.{by_other, taken_by_other}
use Rattle.table.proofs.Past.{no_row_past, no_entry_past}
use Rattle.stage.specs.declared.kinds.Stage.{Stage}
use Rattle.stage.specs.declared.kinds.Stage.TheVariants.{Absent, DeleteOnly, WriteOnly, Public}
use Rattle.stage.specs.Stages.{rank, value_taken}
use Rattle.change.specs.declared.kinds.Way.{Way}
use Rattle.change.specs.declared.kinds.Way.TheVariants.{Up, Down}
use Rattle.change.specs.declared.kinds.Index.{Index}
use Rattle.change.specs.Protocol.{Head, gone, there, stage_of, done_of}
use Rattle.change.specs.Index.{About, unique_of}
use Rattle.change.specs.Heads.{head_by, about_of, slot_of}
use Rattle.change.proofs.IndexKind.{none_below, some_below}
use Rattle.register.specs.declared.place.Place.{Place}
use Rattle.register.specs.declared.owner.Register as codes
use Rattle.register.specs.Registers.{Register, cell_of}
use Rattle.register.specs.Held.{entry_in, head_in, register_of}
use Rattle.register.specs.Whole.{Whole, Tells, empty_to, full_to}
use Rattle.register.specs.Right.{EntryRight, KeyRight, IndexRight}
use Rattle.register.proofs.Parts.{head_read, entry_read, no_head_past, no_entries_past}

-- a key is right where its entry is, unless the index is unique and another key has the entry's value
module _ (h : Head About) (row : Option Row) (es : ℕ → Option ℕ) (k : ℕ) (past : (j : ℕ) → 4096 ≤ j → es j ≡ None) (right : EntryRight k (es k) (cell_of h row) (empty_to 4096 h) (full_to 4096 h)) where
  repeated : (v : ℕ) → es k ≡ Some v → unique_of h ≡ true → taken_by_other 4096 es v k ≡ true → KeyRight 4096 h row es k → ⊥
  repeated v is u e w =
      let (j, l, o) = some_below (by_other es v k) 4096 e in
      let same = w.once u j v is in
      grind arith

  alone : (unique_of h ≡ true → (v : ℕ) → es k ≡ Some v → taken_by_other 4096 es v k ≡ false) → KeyRight 4096 h row es k
  alone free = record {
    right = right;
    once = λ u j v p q.
        let l : j < 4096 = let z = past j in grind arith in
        let o = none_below (by_other es v k) 4096 (free u v p) j l in
        grind arith;
  }

  pub once_told : (b : Bool) → b ≡ unique_of h && value_taken 4096 es k (es k) → Tells (not b) (KeyRight 4096 h row es k)
  once_told true e = λ w. by (es k) refl e w
    where
      by : (o : Option ℕ) → es k ≡ o → true ≡ unique_of h && value_taken 4096 es k o → KeyRight 4096 h row es k → ⊥
      by None is e = absurd (grind arith)
      by (Some v) is e = repeated v is (grind arith) (grind arith)
  once_told false e = alone (λ u v is. let z = e ∙ ap (λ o. unique_of h && value_taken 4096 es k o) is in grind arith)

-- one index, by what is read of it
moved : {h g : Head About} {row : ℕ → Option Row} {es fs : ℕ → Option ℕ} → h ≡ g → es ≡ fs → IndexRight 4096 h row es → IndexRight 4096 g row fs
moved {h = h} {row = row} {fs = fs} p q x = subst (λ a. IndexRight 4096 a row fs) p (subst (λ a. IndexRight 4096 h row a) q x)

no_cell : (h : Head About) → None ≡ cell_of h None
no_cell gone = refl
no_cell (there a w s d) = refl

module _ (keys indexes : ℕ) (r : Register) where
  whole_rights : Whole keys indexes r → (i : ℕ) → IndexRight keys (r.head i) r.row (r.entry i)
  whole_rights w i = record {
    done = w.done i;
    keyed = λ k l. record { right = record { own = w.no_orphan i k; none = w.empty i k; all = w.full i k }; once = λ u j v p q. w.one_each i u k j v p q };
  }

  gone_right : (i : ℕ) → r.head i ≡ gone → ((k : ℕ) → r.entry i k ≡ None) → IndexRight keys (r.head i) r.row (r.entry i)
  gone_right i g none = record {
    done = grind arith;
    keyed = λ k l. let z = none k in record { right = record { own = λ v e. absurd (grind arith); none = λ _. z; all = λ _. grind arith }; once = λ u j v e f. absurd (grind arith) };
  }

  rights_whole : ((k : ℕ) → keys ≤ k → r.row k ≡ None) → ((i : ℕ) → indexes ≤ i → r.head i ≡ gone) → ((i k : ℕ) → keys ≤ k → r.entry i k ≡ None) → ((i k : ℕ) → indexes ≤ i → r.entry i k ≡ None)
      → ((i : ℕ) → stage_of (r.head i) ≤ 3) → ((i : ℕ) → i < indexes → IndexRight keys (r.head i) r.row (r.entry i)) → Whole keys indexes r
  rights_whole row index entry other stage some =
      let all : (i : ℕ) → IndexRight keys (r.head i) r.row (r.entry i) = λ i. ⊎_elim (some i) (λ l. gone_right i (index i l) (λ k. other i k l)) (cases_lt i indexes) in
      let inside : (i k v : ℕ) → r.entry i k ≡ Some v → k < keys = λ i k v e. let z = entry i k in grind arith in record {
        no_row = row;
        no_index = index;
        no_entry = entry;
        stage = stage;
        done = λ i. (all i).done;
        no_orphan = λ i k v e. ((all i).keyed k (inside i k v e)).right.own v e;
        one_each = λ i u k j v p. ((all i).keyed k (inside i k v p)).once u j v p;
        empty = λ i k l. ⊎_elim (λ q. ((all i).keyed k q).right.none l) (entry i k) (cases_lt k keys);
        full = λ i k l. ⊎_elim (λ q. ((all i).keyed k q).right.all l) (λ q. entry i k q ∙ no_cell (r.head i) ∙ ap (cell_of (r.head i)) (sym (row k q))) (cases_lt k keys);
      }

low : (s : Stage) → rank s ≤ 3
low Absent = omega arith
low DeleteOnly = omega arith
low WriteOnly = omega arith
low Public = omega arith

low_stage : (x : Option Index) → stage_of (slot_of x) ≤ 3
low_stage None = omega arith
low_stage (Some x) = by x.way
  where
    by : (w : Way) → stage_of (head_by (about_of x.column x.unique) x.done w) ≤ 3
    by (Up s) = low s
    by (Down s) = low s

entry_end : (o : Option Place) (k : ℕ) → 4096 ≤ k → option_and_then (λ (p : Place). entry_of p.entries k) o ≡ None
entry_end None k l = refl
entry_end (Some p) k l = no_entry_past p.entries k l

-- the code's register
module _ (s : codes.Register) where
  inside : (i : ℕ) → i < 8 → i < length s.places
  inside i l = let z = s.places_long in omega arith

  -- the place of an index
  place_at : (i : ℕ) → i < 8 → Place
  place_at i l = ⊎_elim (λ h. h.0) (λ h. let n = inside i l in absurd (omega (arith, h.0))) (slice_get_cases s.places i).1

  abbrev pub right : Place → Type 0
  right p = IndexRight 4096 (slot_of p.head) (row_of s.rows) (entry_of p.entries)

  from_read : (i : ℕ) (p : Place) → i < 8 → right (get_or s.places i p) → IndexRight 4096 (head_in s.places i) (row_of s.rows) (entry_in s.places i)
  from_read i p l = moved (head_read s.places i p (inside i l)) (entry_read s.places i p (inside i l))

  to_read : (i : ℕ) (p : Place) → i < 8 → IndexRight 4096 (head_in s.places i) (row_of s.rows) (entry_in s.places i) → right (get_or s.places i p)
  to_read i p l = moved (sym (head_read s.places i p (inside i l))) (sym (entry_read s.places i p (inside i l)))

  whole_is : ((i : ℕ) → i < 8 → IndexRight 4096 (head_in s.places i) (row_of s.rows) (entry_in s.places i)) → Whole 4096 8 (register_of s)
  whole_is = rights_whole 4096 8 (register_of s) (no_row_past s.rows) (no_head_past s)
      (λ i k. entry_end (slice_get s.places i) k) (λ i k l. no_entries_past s i l k) (λ i. low_stage (option_and_then (λ (p : Place). p.head) (slice_get s.places i)))

  pub whole_told : (b : Bool) → MatchBool b (AllWithin right s.places 0 (length s.places)) ((i : ℕ) × (i < length s.places) × HoldsAt (λ p. right p → ⊥) s.places i) → Tells b (Whole 4096 8 (register_of s))
  whole_told true all = whole_is (λ i l. from_read i (place_at i l) l (all i (place_at i l) (omega arith) (inside i l)))
  whole_told false (i, l, wrong) = λ w. let l : i < 8 = let z = s.places_long in omega arith in wrong (place_at i l) (to_read i (place_at i l) l (whole_rights 4096 8 (register_of s) w i))

-- the keys of an index
pub index_told : (h : Head About) (row : ℕ → Option Row) (es : ℕ → Option ℕ) (b : Bool) → done_of h ≤ 4096
    → MatchBool b (AllWithin (λ k. k < 4096 → KeyRight 4096 h (row k) es k) (range_with_len 0 4096) 0 (length (range_with_len 0 4096))) ((k : ℕ) × (k < length (range_with_len 0 4096)) × HoldsAt (λ k. KeyRight 4096 h (row k) es k → ⊥) (range_with_len 0 4096) k)
    → Tells b (IndexRight 4096 h row es)
index_told h row es true d all = record {
  done = d;
  keyed = λ k l.
      let e : get_or (range_with_len 0 4096) k 0 ≡ k = get_or-range_with_len 0 4096 k 0 l ∙ zero-add k in
      subst (λ j. j < 4096 → KeyRight 4096 h (row j) es j) e (all k 0 (omega arith) (subst (λ n. k < n) (sym (length-range_with_len 0 4096)) l)) l;
}
index_told h row es false d (k, l, wrong) = λ w.
    let small : k < 4096 = subst (λ n. k < n) (length-range_with_len 0 4096) l in
    let e : get_or (range_with_len 0 4096) k 0 ≡ k = get_or-range_with_len 0 4096 k 0 small ∙ zero-add k in
    subst (λ j. KeyRight 4096 h (row j) es j → ⊥) e (wrong 0) (w.keyed k small)
