-- The stages that a change goes through, up and down, whatever it is about: 0 absent, 1 delete-only, 2 write-only, 3 public.
use Rattle.std.specs.Prelude.{◌≡◌, ℕ, zero, suc, ◌+◌, ◌<◌, ◌≤◌, Bool, true, false, cond, not, ◌&&◌, ◌||◌, ◌⊎◌, Some, None, Option, ◌==◌, nat_lt}

-- which way a change goes
pub data Way : Type 0 where
  up : Way
  down : Way

-- how far a change has come; done: over how many keys, from 0, backfill or cleanup has gone in this stage
pub data Head (A : Type 0) : Type 0 where
  gone : Head A
  there : (about : A) (way : Way) (stage done : ℕ) → Head A

module _ {A : Type 0} where
  -- the change's own stage
  abbrev pub stage_of : Head A → ℕ
  stage_of gone = 0
  stage_of (there a w s d) = s

  -- over how many keys backfill or cleanup has gone
  abbrev pub done_of : Head A → ℕ
  done_of gone = 0
  done_of (there a w s d) = d

  -- is there no such change
  abbrev pub is_gone : Head A → Bool
  is_gone gone = true
  is_gone (there a w s d) = false

  -- is there a change that goes up
  abbrev pub going_up : Head A → Bool
  going_up gone = false
  going_up (there a up s d) = true
  going_up (there a down s d) = false

  -- is there a change that goes down
  abbrev pub going_down : Head A → Bool
  going_down gone = false
  going_down (there a up s d) = false
  going_down (there a down s d) = true

  -- the head a stage further up
  abbrev pub raised : Head A → Head A
  raised gone = gone
  raised (there a w s d) = there a w (s + 1) 0

  -- the head turned to go down
  abbrev pub turned_down : Head A → Head A
  turned_down gone = gone
  turned_down (there a w s d) = there a down s 0

  -- the head a stage further down; below stage 0 the change is gone
  abbrev pub lowered : Head A → Head A
  lowered gone = gone
  lowered (there a w zero d) = gone
  lowered (there a w (suc s) d) = there a w s 0

  -- the head with one more key done
  abbrev pub onward : Head A → Head A
  onward gone = gone
  onward (there a w s d) = there a w s (d + 1)

  -- is there a change, and somebody who holds another stage than its own (alone: nobody does)
  abbrev pub held_up : (alone : Bool) → Head A → Bool
  held_up alone h = not (is_gone h) && not alone

  -- is this the stage and way of backfill
  abbrev pub backfills : Head A → Bool
  backfills h = going_up h && stage_of h == 2

  -- is this the stage and way of cleanup
  abbrev pub cleans_up : Head A → Bool
  cleans_up h = going_down h && stage_of h == 1

  module _ (keys : ℕ) where
    -- is there a key left to backfill
    abbrev pub may_fill : Head A → Bool
    may_fill h = backfills h && nat_lt (done_of h) keys

    -- is there a key left to clean up
    abbrev pub may_clear : Head A → Bool
    may_clear h = cleans_up h && nat_lt (done_of h) keys

    -- why a change may not go up: 5 held up, or backfill is not done; 6 it does not go up, or no further
    abbrev pub why_not_up : (alone : Bool) → Head A → Option ℕ
    why_not_up alone h = cond (held_up alone h || backfills h && not (done_of h == keys)) (Some 5) (cond (not (going_up h && nat_lt (stage_of h) 3)) (Some 6) None)

    -- why a change may not go down: 5 held up, or cleanup is not done; 6 it does not go down
    abbrev pub why_not_down : (alone : Bool) → Head A → Option ℕ
    why_not_down alone h = cond (held_up alone h || cleans_up h && not (done_of h == keys)) (Some 5) (cond (not (going_down h)) (Some 6) None)

    -- why no key may be backfilled: 5 held up; 7 not this stage and way, or all keys are done
    abbrev pub why_not_fill : (alone : Bool) → Head A → Option ℕ
    why_not_fill alone h = cond (held_up alone h) (Some 5) (cond (not (may_fill h)) (Some 7) None)

    -- why no key may be cleaned up: 5 held up; 7 not this stage and way, or all keys are done
    abbrev pub why_not_clear : (alone : Bool) → Head A → Option ℕ
    why_not_clear alone h = cond (held_up alone h) (Some 5) (cond (not (may_clear h)) (Some 7) None)

  -- why no change may be made: 6 it is there already
  abbrev pub why_not_make : Head A → Option ℕ
  why_not_make h = cond (not (is_gone h)) (Some 6) None

  -- why a change may not turn: 5 held up; 6 it does not go up
  abbrev pub why_not_turn : (alone : Bool) → Head A → Option ℕ
  why_not_turn alone h = cond (held_up alone h) (Some 5) (cond (not (going_up h)) (Some 6) None)

  -- a holder's stage is the change's own, or the one that it came from
  abbrev pub Near : Head A → ℕ → Type 0
  Near gone h = h ≡ 0
  Near (there a up s d) h = (h ≡ s) ⊎ (h + 1 ≡ s)
  Near (there a down s d) h = (h ≡ s) ⊎ (h ≡ s + 1)

-- every holder is in that stage (hs: which stages somebody holds)
abbrev pub AllAt : ℕ → (ℕ → Type 0) → Type 0
AllAt s hs = (h : ℕ) → hs h → h ≡ s

-- a kind of change: what it is about (A), what it changes (X), and what has to hold of the two
pub record Kind (keys : ℕ) (A X : Type 0) : Type 1 where
  -- holds always
  pub Always : X → Type 0
  -- holds while the change is there
  pub Base : A → X → Type 0
  -- nothing of it is there for the keys below a bound
  pub NoneTo : ℕ → X → Type 0
  -- all of it is there for the keys below a bound
  pub AllTo : A → ℕ → X → Type 0
  -- what somebody in a stage may write
  pub Writes : Head A → ℕ → X → X → Type 0
  -- what backfill does at a key
  pub Fills : Head A → ℕ → X → X → Type 0
  -- what cleanup does at a key
  pub Clears : ℕ → X → X → Type 0
  -- below 0 there is nothing
  pub none_to_0 : (x : X) → NoneTo 0 x
  -- below 0 there is nothing that could be missing
  pub all_to_0 : (a : A) (x : X) → AllTo a 0 x
  -- where nothing is there, a change can begin
  pub made : (a : A) (x : X) → Always x → NoneTo keys x → Base a x
  -- a write keeps what holds always
  pub written_always : (h : Head A) (s : ℕ) (x y : X) → Writes h s x y → Always x → Always y
  -- whoever is absent or delete-only puts nothing there
  pub written_none : (h : Head A) (s : ℕ) (x y : X) → Writes h s x y → s ≤ 1 → (n : ℕ) → NoneTo n x → NoneTo n y
  -- whoever is write-only or public leaves nothing missing
  pub written_all : (a : A) (w : Way) (t d s : ℕ) (x y : X) → Writes (there a w t d) s x y → 2 ≤ s → (n : ℕ) → AllTo a n x → AllTo a n y
  -- a write keeps what holds while the change is there; whoever is absent writes only where nothing is there
  pub written_base : (a : A) (w : Way) (t d s : ℕ) (x y : X) → Writes (there a w t d) s x y → Always x → (s ≡ 0 → NoneTo keys x) → Base a x → Base a y
  -- backfill goes one key further
  pub filled : (a : A) (w : Way) (t d k : ℕ) (x y : X) → Fills (there a w t d) k x y → k < keys → Always x → Base a x → AllTo a k x → Always y × Base a y × AllTo a (k + 1) y
  -- cleanup goes one key further
  pub cleared : (a : A) (k : ℕ) (x y : X) → Clears k x y → k < keys → Always x → Base a x → NoneTo k x → Always y × Base a y × NoneTo (k + 1) y

module _ {keys : ℕ} {A X : Type 0} (K : Kind keys A X) where
  -- what is known of a change that is there, by its way and stage
  abbrev pub ByStage : A → Way → (stage done : ℕ) → (ℕ → Type 0) → X → Type 0
  ByStage a up s d hs x = (s ≤ 1 → K.NoneTo keys x) × (s ≡ 2 → K.AllTo a d x × (0 < d → AllAt 2 hs)) × (s ≡ 3 → K.AllTo a keys x)
  ByStage a down s d hs x = (s ≡ 0 → K.NoneTo keys x) × (s ≡ 1 → K.NoneTo d x × (0 < d → AllAt 1 hs)) × (s ≡ 3 → K.AllTo a keys x)

  -- what is known by the head
  abbrev pub ByHead : Head A → (ℕ → Type 0) → X → Type 0
  ByHead gone hs x = K.NoneTo keys x
  ByHead (there a w s d) hs x = (s ≤ 3) × (d ≤ keys) × K.Base a x × (hs 3 → K.AllTo a keys x) × ByStage a w s d hs x

  -- what holds at every moment of a change, its holders and what it changes: holders are near, and what is there fits the head
  pub record Sound (h : Head A) (hs : ℕ → Type 0) (x : X) : Type 0 where
    pub always : K.Always x
    pub near : (s : ℕ) → hs s → Near h s
    pub by_head : ByHead h hs x
