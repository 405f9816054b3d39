-- A row is written, and what follows from it to the places of all indexes, one after the other.
use Rattle.std.proofs.Common.{◌≡◌, ℕ, ◌+◌, ◌<◌, ◌≤◌, List, length, get_or, set, Option, sym, ap, ◌∙◌, ⊎_elim, arith, length-set}
use mathlib.Core.Path.{fun_ext}
use lib.ListN.{get_or-eq_default}
use Rattle.std.proofs.lemmas.Bool.{cases_lt}
use Rattle.table.specs.declared.row.Row.{Row}
use Rattle.table.specs.Held.{row_of, entry_of}
use Rattle.table.specs.Update.{update}
use Rattle.stage.specs.declared.kinds.Stage.{Stage}
use Rattle.stage.specs.declared.kinds.Stage.TheVariants.{Absent}
use Rattle.stage.specs.Stages.{rank, ranks, entry_after}
use Rattle.stage.proofs.Ranks.{rank_at}
use Rattle.change.specs.Heads.{slot_of}
use Rattle.register.specs.declared.place.Place.{Place}
use Rattle.register.specs.declared.owner.Register as codes
use Rattle.register.specs.Registers.{Register, cell_of, wrote}
use Rattle.register.specs.Held.{register_of, entry_in, head_in}
use Rattle.register.proofs.Parts.{entry_read, head_read, entry_set, head_set, update_same}

-- the places of which those below n are gone over: the heads are as before, and the entries of those below n become these
pub record GoneOver (before after : List Place) (entries : (index key : ℕ) → Option ℕ) (n : ℕ) : Type 0 where
  pub long : length after ≡ 8
  pub heads : (i : ℕ) → head_in after i ≡ head_in before i
  pub done : (i j : ℕ) → i < n → entry_in after i j ≡ entries i j
  pub left : (i j : ℕ) → n ≤ i → entry_in after i j ≡ entry_in before i j

module _ (os ps : List Place) (es : (index key : ℕ) → Option ℕ) (n : ℕ) (g : GoneOver os ps es n) where
  -- one place more
  pub GoneOver-more : (p q : Place) → n < 8 → q.head ≡ (get_or ps n p).head → ((j : ℕ) → entry_of q.entries j ≡ es n j) → GoneOver os (set ps n q) es (n + 1)
  GoneOver-more p q l same new =
      let inside : n < length ps = let z = g.long in omega arith in
      let read = ap slot_of same ∙ head_read ps n p inside in
      record {
        long = length-set ps n q ∙ g.long;
        heads = λ i. let z = head_set ps n q inside i in let h = g.heads i in grind arith;
        done = λ i j h. let z = entry_set ps n q inside i j in let e = new j in let d = g.done i j in grind arith;
        left = λ i j h. let z = entry_set ps n q inside i j in let e = g.left i j in grind arith;
      }

  -- all places
  pub GoneOver-all : n ≡ 8 → ((i j : ℕ) → 8 ≤ i → entry_in os i j ≡ es i j) → (i j : ℕ) → entry_in ps i j ≡ es i j
  GoneOver-all l past i j = ⊎_elim (λ h. g.done i j (omega arith)) (λ h. g.left i j (omega arith) ∙ past i j h) (cases_lt i 8)

-- whoever writes a row knows these stages
module _ (s : codes.Register) (k : ℕ) (new : Option Row) (ss : List Stage) where
  abbrev pub written_by : Register
  written_by = wrote k new (ranks ss) (register_of s)

  -- what is done to the place of one index
  pub one_followed : (ps : List Place) (n : ℕ) (old : Option Row) (p : Place) → GoneOver s.places ps written_by.entry n → n < 8 → old ≡ row_of s.rows k → (j : ℕ)
      → update k (entry_after (rank (get_or ss n Absent)) (cell_of (slot_of (get_or ps n p).head) old) (cell_of (slot_of (get_or ps n p).head) new) (entry_of (get_or ps n p).entries k)) (entry_of (get_or ps n p).entries) j ≡ written_by.entry n j
  one_followed ps n old p g l is j = λ t. update k (entry_after (stage t) (cell_of (head t) (is t)) (cell_of (head t) new) (entries t k)) (entries t) j
    where
      inside : n < length ps
      inside = let z = g.long in omega arith

      stage : rank (get_or ss n Absent) ≡ get_or (ranks ss) n 0
      stage = sym (rank_at ss n)

      head : slot_of (get_or ps n p).head ≡ head_in s.places n
      head = head_read ps n p inside ∙ g.heads n

      entries : entry_of (get_or ps n p).entries ≡ entry_in s.places n
      entries = entry_read ps n p inside ∙ fun_ext (λ j. g.left n j (omega arith))

  -- no stage is known past the last index, so nothing is done there
  past : length ss ≡ 8 → (i j : ℕ) → 8 ≤ i → entry_in s.places i j ≡ written_by.entry i j
  past long i j h =
      let none : get_or (ranks ss) i 0 ≡ 0 = rank_at ss i ∙ ap rank (get_or-eq_default ss Absent (omega arith)) in
      ap (λ (f : ℕ → Option ℕ). f j) (sym (update_same k (entry_in s.places i))) ∙ ap (λ z. update k (entry_after z (cell_of (head_in s.places i) (row_of s.rows k)) (cell_of (head_in s.places i) new) (entry_in s.places i k)) (entry_in s.places i) j) (sym none)

  -- all of it
  pub all_written : (ps : List Place) (n : ℕ) (row : ℕ → Option Row) → length ss ≡ 8 → GoneOver s.places ps written_by.entry n → n ≡ 8 → ((j : ℕ) → row j ≡ update k new (row_of s.rows) j)
      → ◌≡◌ {A = Register} (record { row = row; entry = entry_in ps; head = head_in ps; epoch = s.epoch }) written_by
  all_written ps n row long g l is = λ t. record {
    row = fun_ext is t;
    entry = fun_ext (λ i. fun_ext (GoneOver-all s.places ps written_by.entry n g l (past long) i)) t;
    head = fun_ext g.heads t;
    epoch = s.epoch;
  }
