-- The places of all indexes: what is read of them, what is there once one is another, and the stages that they tell.
use Rattle.std.proofs.Common.{◌≡◌, ℕ, zero, suc, ◌<◌, ◌≤◌, true, eqb, leb, List, [], ◌∷◌, ◌++◌, map, length, get_or, set, Some, None, Option, sym, refl, ap, ◌∙◌, subst, ⊎_elim, add-one, zero-add, arith, Bor}
use mathlib.Core.Path.{fun_ext}
use Rattle.std.specs.List.{slice_get, range_with_len}
use Rattle.std.specs.Option.{option_and_then}
use Rattle.std.proofs.lemmas.Grind.{common_steps}
use Rattle.std.proofs.lemmas.Option.{gets, slice_get_past, slice_get_within, get_or_from_slice_get}
use Rattle.std.proofs.lemmas.List.{length-map}
use Rattle.std.proofs.Math.ListN.{get_or-map}
use Rattle.std.proofs.lemmas.List.FromFn.{fill_by_all, map-range_with_len_more}
use Rattle.std.proofs.lemmas.Bool.{cases_eq, eq-eqb, ne_eqb, and_from}
use Rattle.table.specs.declared.row.Row.{Row}
use Rattle.table.specs.declared.table.Table.{Table}
use Rattle.table.specs.Held.{entry_of, row_of}
use Rattle.table.specs.Update.{update}
use Rattle.stage.specs.declared.kinds.Stage.{Stage}
use Rattle.stage.specs.declared.kinds.Stage.TheVariants.{Absent, DeleteOnly, WriteOnly, Public}
use Rattle.stage.specs.Stages.{rank, ranks}
use Rattle.stage.proofs.Ranks.{rank_at}
use Rattle.change.specs.Heads.{slot_of}
use Rattle.change.specs.Protocol.{gone, stage_of}
use Rattle.register.specs.declared.place.Place.{Place}
use Rattle.register.specs.declared.owner.Register as codes
use Rattle.register.specs.Registers.{Register, bare, all_stages, are_stages, stages_now}
use Rattle.register.specs.Held.{entry_in, head_in}

-- nothing else is at a place
pub update_same : {A : Type 0} (i : ℕ) (f : ℕ → A) → update i (f i) f ≡ f
update_same i f = fun_ext (λ j. ⊎_elim (λ e. rw (eq-eqb j i e) (ap f (sym e))) (λ ne. rw (ne_eqb j i ne)) (cases_eq j i))

module _ (ps : List Place) (i : ℕ) (p : Place) (inside : i < length ps) where
  -- what is read of a place is what the register has of its index
  pub head_read : slot_of (get_or ps i p).head ≡ head_in ps i
  head_read = grind (arith, common_steps, gets)

  pub entry_read : entry_of (get_or ps i p).entries ≡ entry_in ps i
  entry_read = fun_ext (λ j. grind (arith, common_steps, gets))

  -- what is there once this is the place of the index
  pub head_set : (n : ℕ) → head_in (set ps i p) n ≡ update i (slot_of p.head) (head_in ps) n
  head_set n = grind (arith, common_steps, gets)

  pub entry_set : (n j : ℕ) → entry_in (set ps i p) n j ≡ update i (entry_of p.entries) (entry_in ps) n j
  entry_set n j = grind (arith, common_steps, gets)

-- past the last place there is nothing
module _ (s : codes.Register) (i : ℕ) (beyond : 8 ≤ i) where
  none_past : slice_get s.places i ≡ None
  none_past = slice_get_past s.places i (let z = s.places_long in omega arith)

  pub no_head_past : head_in s.places i ≡ gone
  no_head_past = ap (λ (o : Option Place). slot_of (option_and_then (λ (p : Place). p.head) o)) none_past

  pub no_entries_past : (k : ℕ) → entry_in s.places i k ≡ None
  no_entries_past k = ap (option_and_then (λ (p : Place). entry_of p.entries k)) none_past

-- stages of the code's own are stages, one for each index
low : (s : Stage) → leb (rank s) 3 ≡ true
low Absent = refl
low DeleteOnly = refl
low WriteOnly = refl
low Public = refl

all_low : (ss : List Stage) → all_stages (ranks ss) ≡ true
unfolding all_stages
all_low [] = refl
all_low (s ∷ ss) = rw (low s) (all_low ss)

pub are_stages_lem : (n : ℕ) (ss : List Stage) → length ss ≡ n → are_stages n (ranks ss) ≡ true
are_stages_lem n ss e = and_from (eqb (length (ranks ss)) n) (all_stages (ranks ss)) (eq-eqb (length (ranks ss)) n (length-map ss rank ∙ e)) (all_low ss)

-- the place of an index that is not there
pub record IsBare (p : Place) : Type 0 where
  pub head : p.head ≡ None
  pub entries : (j : ℕ) → entry_of p.entries j ≡ None

no_entry : (j : ℕ) (o : Option Place) → ((p : Place) → o ≡ Some p → IsBare p) → option_and_then (λ (p : Place). entry_of p.entries j) o ≡ None
no_entry j None b = refl
no_entry j (Some p) b = (b p refl).entries j

no_head : (o : Option Place) → ((p : Place) → o ≡ Some p → IsBare p) → slot_of (option_and_then (λ (p : Place). p.head) o) ≡ gone
no_head None b = refl
no_head (Some p) b = ap slot_of (b p refl).head

pub all_bare : (rows : Table Row) (ps : List Place) → ((j : ℕ) → row_of rows j ≡ None) → ((i : ℕ) (p : Place) → i < length ps → IsBare (get_or ps i p))
    → ◌≡◌ {A = Register} (record { row = row_of rows; entry = entry_in ps; head = head_in ps; epoch = 0 }) bare
all_bare rows ps r b =
    let at : (i : ℕ) (p : Place) → slice_get ps i ≡ Some p → IsBare p = λ i p e. subst IsBare (get_or_from_slice_get ps i p p e) (b i p (slice_get_within ps i p e)) in
    λ t. record {
      row = fun_ext r t;
      entry = fun_ext (λ i. fun_ext (λ j. no_entry j (slice_get ps i) (at i))) t;
      head = fun_ext (λ i. no_head (slice_get ps i) (at i)) t;
      epoch = 0;
    }

-- the stages of all indexes, read one by one
stages-at : (n : ℕ) (r : Register) → stages_now n r ≡ map (λ i. stage_of (r.head i)) (range_with_len 0 n)
unfolding stages_now
stages-at zero r = refl
stages-at (suc n) r = ap (λ ss. ss ++ (stage_of (r.head n) ∷ [])) (stages-at n r) ∙ sym (map-range_with_len_more (λ i. stage_of (r.head i)) 0 n n (zero-add n)) ∙ ap (λ m. map (λ i. stage_of (r.head i)) (range_with_len 0 m)) (add-one n)

pub stages_told : (ss : List Stage) (n : ℕ) (r : Register) → length ss ≡ n → ((i : ℕ) → i < n → rank (get_or ss i Absent) ≡ stage_of (r.head i)) → ranks ss ≡ stages_now n r
stages_told ss n r long each = fill_by_all (λ i. stage_of (r.head i)) (ranks ss) n 0 (length-map ss rank ∙ long) (λ i l. rank_at ss i ∙ each i l) ∙ sym (stages-at n r)

-- what is read of a place through a reference to it
pub head_lent : (refs : List (Bor Place)) (ps : List Place) → map (λ r. r.now) refs ≡ ps → (i : ℕ) (d : Bor Place) → i < length ps → slot_of (get_or refs i d).now.head ≡ head_in ps i
head_lent refs ps e i d l = ap (λ (p : Place). slot_of p.head) (sym (get_or-map (λ (r : Bor Place). r.now) refs i d) ∙ ap (λ xs. get_or xs i d.now) e) ∙ head_read ps i d.now l
