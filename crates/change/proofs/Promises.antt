-- The theorem of one change.
use Rattle.std.proofs.Common.{subst, inl, arith}
use Rattle.change.specs.Protocol.{Sound}
use Rattle.change.specs.Promises.{OneChange, FillTurns}
use Rattle.change.specs.Index.{entries_filled}
use Rattle.change.specs.OneChange.{alone}
use Rattle.change.proofs.Protocol as protocol
use Rattle.change.proofs.IndexKind.{kind, other_row}
use Rattle.change.proofs.Steps.{Held, part_of, reach_fine}
use Rattle.change.proofs.Kept as kept
use Rattle.change.proofs.Ends.{can_end_lem, not_both_lem, can_turn_lem, can_undo_lem}

pub one_change : OneChange
one_change keys w r =
    let g = reach_fine keys w r in
    let hs = Held w.holders in
    let x = part_of w in
    record {
      one_apart = λ s t a b. protocol.one_apart_lem w.head s t (g.near s a) (g.near t b);
      no_orphan = kept.no_orphan_lem keys w.head g;
      looks_right = λ three. kept.looks_right_lem keys w.head (inl three) g;
      one_number = λ u three. kept.one_number_lem keys w.head u three g;
      refused_rightly = λ s k v e. other_row keys k v w.rows w.entries (kept.no_orphan_lem keys w.head g) (grind arith);
      leaves_nothing = λ e. kept.gone_empty keys (subst (λ h. Sound (kind keys) h hs x) e g);
      can_end = λ a s d e. can_end_lem keys w a s d e g;
      not_both = λ a. not_both_lem keys w a g;
      can_turn = λ a s d e. can_turn_lem keys w a s d e g;
      can_undo = λ a s d e. can_undo_lem keys w a s d e g;
    }

pub fill_turns : FillTurns
fill_turns keys w e t = (protocol.fill_turn keys (alone w) w.head e, simp (entries_filled, t))
