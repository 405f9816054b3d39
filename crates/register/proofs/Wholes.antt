-- A register in which nothing is wrong is a good one with nobody in any stage, and a good one is whole, whoever is in a stage.
use Rattle.std.proofs.Common.{◌≡◌, ℕ, ◌<◌, ◌≤◌, true, None, Option, refl, ap, arith}
use Rattle.table.specs.declared.row.Row.{Row}
use Rattle.table.specs.Columns.{value_in}
use Rattle.change.specs.Protocol.{Way, Head, gone, there, up, down, stage_of, done_of, ByStage}
use Rattle.change.specs.Index.{About, unique_of, NoOrphan, NoneTwice}
use Rattle.change.proofs.IndexKind.{empty, kind}
use Rattle.register.specs.Registers.{Register, cell_of}
use Rattle.register.specs.Whole.{empty_to, full_to, Whole}
use Rattle.register.proofs.Goods.{part_by, Fine, Good}

-- what is whole of one index
record WholeOne (keys : ℕ) (h : Head About) (row : ℕ → Option Row) (es : ℕ → Option ℕ) : Type 0 where
  no_entry : (k : ℕ) → keys ≤ k → es k ≡ None
  stage : stage_of h ≤ 3
  done : done_of h ≤ keys
  no_orphan : NoOrphan (λ k. cell_of h (row k)) es
  one_each : unique_of h ≡ true → NoneTwice es
  empty : (k : ℕ) → k < empty_to keys h → es k ≡ None
  full : (k : ℕ) → k < full_to keys h → es k ≡ cell_of h (row k)

module _ (keys : ℕ) (row : ℕ → Option Row) (es : ℕ → Option ℕ) where
  -- an index that is there, by what its way and stage say
  there_fine : (a : About) (w : Way) (s d : ℕ) → ((k : ℕ) → keys ≤ k → row k ≡ None) → WholeOne keys (there a w s d) row es → ByStage (kind keys) a w s d (λ s. ⊥) (part_by (there a w s d) row es)
      → Fine keys (there a w s d) (λ s. ⊥) row es
  there_fine a w s d none x by = record {
    always = λ k l. (ap (value_in a.column) (none k l), x.no_entry k l);
    near = λ s b. absurd b;
    by_head = (x.stage, x.done, (x.no_orphan, x.one_each), (λ b. absurd b), by);
  }

  one_fine : (h : Head About) → ((k : ℕ) → keys ≤ k → row k ≡ None) → WholeOne keys h row es → Fine keys h (λ s. ⊥) row es
  one_fine gone none x = record { always = λ k l. (refl, x.no_entry k l); near = λ s b. absurd b; by_head = x.empty }
  one_fine (there a up s d) none x =
      there_fine a up s d none x ((λ q k l. x.empty k (grind arith)), (λ q. ((λ k l. x.full k (grind arith)), (λ _ h b. absurd b))), (λ q k l. x.full k (grind arith)))
  one_fine (there a down s d) none x =
      there_fine a down s d none x ((λ q k l. x.empty k (grind arith)), (λ q. ((λ k l. x.empty k (grind arith)), (λ _ h b. absurd b))), (λ q k l. x.full k (grind arith)))

  there_whole : (a : About) (w : Way) (s d : ℕ) (hs : ℕ → Type 0) → Fine keys (there a w s d) hs row es → ((k : ℕ) → k < empty_to keys (there a w s d) → es k ≡ None)
      → ((k : ℕ) → k < full_to keys (there a w s d) → es k ≡ value_in a.column (row k)) → WholeOne keys (there a w s d) row es
  there_whole a w s d hs f none all = record {
    no_entry = λ k l. (f.always k l).1;
    stage = f.by_head.0;
    done = f.by_head.1;
    no_orphan = f.by_head.2.0;
    one_each = f.by_head.2.1;
    empty = none;
    full = all;
  }

  one_whole : (h : Head About) (hs : ℕ → Type 0) → Fine keys h hs row es → WholeOne keys h row es
  one_whole gone hs f = record {
    no_entry = λ k l. (f.always k l).1;
    stage = omega arith;
    done = omega arith;
    no_orphan = λ k v e. absurd (let z = empty keys (part_by gone row es) f.always f.by_head k in grind arith);
    one_each = λ u. absurd (grind arith);
    empty = f.by_head;
    full = λ k l. absurd (omega arith);
  }
  one_whole (there a up s d) hs f = there_whole a up s d hs f (λ k l. grind arith) (λ k l. grind arith)
  one_whole (there a down s d) hs f = there_whole a down s d hs f (λ k l. grind arith) (λ k l. grind arith)

module _ (keys indexes : ℕ) where
  pub whole_good : (r : Register) → Whole keys indexes r → Good keys indexes (λ i s. ⊥) r
  whole_good r w = record {
    no_index = w.no_index;
    no_row = w.no_row;
    sound = λ i. one_fine keys r.row (r.entry i) (r.head i) w.no_row (record {
      no_entry = w.no_entry i;
      stage = w.stage i;
      done = w.done i;
      no_orphan = w.no_orphan i;
      one_each = w.one_each i;
      empty = w.empty i;
      full = w.full i;
    });
  }

  pub good_whole : (hs : ℕ → ℕ → Type 0) (r : Register) → Good keys indexes hs r → Whole keys indexes r
  good_whole hs r g =
      let one : (i : ℕ) → WholeOne keys (r.head i) r.row (r.entry i) = λ i. one_whole keys r.row (r.entry i) (r.head i) (hs i) (g.sound i) in record {
        no_row = g.no_row;
        no_index = g.no_index;
        no_entry = λ i. (one i).no_entry;
        stage = λ i. (one i).stage;
        done = λ i. (one i).done;
        no_orphan = λ i. (one i).no_orphan;
        one_each = λ i. (one i).one_each;
        empty = λ i. (one i).empty;
        full = λ i. (one i).full;
      }
