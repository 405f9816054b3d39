-- Every step keeps the change sound.
use Rattle.std.proofs.Common.{◌≡◌, ℕ, zero, suc, ◌<◌, Bool, true, false, cond, List, [], ◌∷◌, None, Option, refl, subst, inr, arith}
use Rattle.change.specs.Protocol.{Head, done_of, AllAt, Sound}
use Rattle.change.specs.Index as index
use Rattle.change.specs.Index.{About, Part, refuses, backfilled, must_turn}
use Rattle.change.specs.OneChange.{State, empty, holds, all_at, without, alone, Step, writes, joins, leaves, made, goes_up, turns, goes_down, fills, clears, why_not, after, after_all, may_all, Reach}
use Rattle.change.proofs.Protocol as protocol
use Rattle.change.proofs.IndexKind.{kind}

abbrev pub Held : List ℕ → ℕ → Type 0
Held hs s = holds s hs ≡ true

abbrev pub part_of : State → Part
part_of w = record { rows = w.rows; entries = w.entries }

abbrev pub Fine : ℕ → State → Type 0
Fine keys w = Sound (kind keys) w.head (Held w.holders) (part_of w)

all_at_lem : (s : ℕ) (hs : List ℕ) → all_at s hs ≡ true → AllAt s (Held hs)
all_at_lem s [] e h i = absurd (grind arith)
all_at_lem s (x ∷ hs) e h i = let ih : all_at s hs ≡ true → holds h hs ≡ true → h ≡ s = λ z. all_at_lem s hs z h in grind arith

stayed : (n : ℕ) (hs : List ℕ) (s : ℕ) → holds s (without n hs) ≡ true → holds s hs ≡ true
stayed n [] s e = e
stayed zero (h ∷ hs) s e = grind arith
stayed (suc n) (h ∷ hs) s e = let ih = stayed n hs s in grind arith

write_told : (keys s k : ℕ) (r : Option ℕ) (w : State) → why_not keys (writes s k r) w ≡ None → (k < keys) × (holds s w.holders ≡ true) × (refuses keys w.head s k r w.entries ≡ false)
write_told keys s k r w e = grind arith

-- backfill turns the change, or puts an entry in
pub fill_either : (b : Bool) (h t : Head About) (es fs : ℕ → Option ℕ) (P : Head About → (ℕ → Option ℕ) → Type 0) → (b ≡ true → P h es) → (b ≡ false → P t fs) → P (cond b h t) (λ k. cond b (es k) (fs k))
fill_either true h t es fs P f g = f refl
fill_either false h t es fs P f g = g refl

pub step_fine : (keys : ℕ) (s : Step) (w : State) → why_not keys s w ≡ None → Fine keys w → Fine keys (after keys s w)
step_fine keys (writes s k r) w e g =
    let t = write_told keys s k r w e in
    protocol.write (kind keys) _ w.head s t.1 (index.writes k r t.0 t.2) g
step_fine keys joins w e g = protocol.held (kind keys) w.head (λ s i. grind arith) g
step_fine keys (leaves n) w e g = protocol.held (kind keys) w.head (λ s i. inr (stayed n w.holders s i)) g
step_fine keys (made a) w e g =
    let none = protocol.gone_none (kind keys) w.head e g in
    protocol.make (kind keys) w.head a (part_of w) e g.always none g
step_fine keys goes_up w e g = protocol.raise (kind keys) (alone w) w.head e (all_at_lem _ w.holders) g
step_fine keys turns w e g = protocol.turn (kind keys) (alone w) w.head e (all_at_lem _ w.holders) g
step_fine keys goes_down w e g = protocol.lower (kind keys) (alone w) w.head e (all_at_lem _ w.holders) g
step_fine keys fills w e g =
    fill_either (must_turn keys w.rows w.entries w.head) _ _ w.entries (backfilled (done_of w.head) w.rows w.entries)
    (λ h es. Sound (kind keys) h (Held w.holders) (record { rows = w.rows; entries = es }))
    (λ z. protocol.turn (kind keys) (alone w) w.head (protocol.fill_turn keys (alone w) w.head e) (all_at_lem _ w.holders) g)
    (λ z. protocol.fill (kind keys) (alone w) _ w.head e (all_at_lem _ w.holders) (index.fills z) g)
step_fine keys clears w e g = protocol.clear (kind keys) (alone w) _ w.head e (all_at_lem _ w.holders) index.clears g

pub steps_fine : (keys : ℕ) (ss : List Step) (w : State) → may_all keys ss w ≡ true → Fine keys w → Fine keys (after_all keys ss w)
steps_fine keys [] w e g = g
steps_fine keys (s ∷ ss) w e g = steps_fine keys ss (after keys s w) (grind arith) (step_fine keys s w (grind arith) g)

empty_fine : (keys : ℕ) → Fine keys empty
empty_fine keys = record { always = λ k l. (refl, refl); near = λ s i. grind arith; by_head = λ k l. refl }

pub reach_fine : (keys : ℕ) (w : State) → Reach keys w → Fine keys w
reach_fine keys w (ss, may, e) = subst (λ w. Fine keys w) e (steps_fine keys ss empty may (empty_fine keys))
