-- The stage protocol, proved once for any kind of change.
use Rattle.std.proofs.Common.{◌≡◌, ℕ, ◌+◌, ◌<◌, ◌≤◌, Bool, true, ◌⊎◌, None, arith}
use Rattle.change.specs.Protocol.{Way, up, down, Head, gone, there, stage_of, done_of, raised, turned_down, lowered, onward, why_not_make, why_not_up, why_not_turn, why_not_down, why_not_fill, why_not_clear, Near, AllAt, Kind, Sound}

-- two holders are at most one stage apart
pub one_apart_lem : {A : Type 0} (h : Head A) (s t : ℕ) → Near h s → Near h t → s ≤ t + 1
one_apart_lem h s t a b = grind arith

-- where a key may be backfilled the change may turn
pub fill_turn : {A : Type 0} (keys : ℕ) (alone : Bool) (h : Head A) → why_not_fill keys alone h ≡ None → why_not_turn alone h ≡ None
fill_turn keys alone h e = grind arith

module _ {keys : ℕ} {A X : Type 0} (K : Kind keys A X) where
  -- whoever comes to hold a stage holds the change's own
  pub held : (h : Head A) {hs fs : ℕ → Type 0} {x : X} → ((s : ℕ) → fs s → (s ≡ stage_of h) ⊎ hs s) → Sound K h hs x → Sound K h fs x
  held h f g = grind arith

  module _ {hs : ℕ → Type 0} {x : X} where
    pub gone_none : (h : Head A) → why_not_make h ≡ None → Sound K h hs x → K.NoneTo keys x
    gone_none h e g = grind arith

    -- in stage 3, or with somebody in it, all of it is there
    pub full : (a : A) (w : Way) (s d : ℕ) → hs 3 ⊎ (s ≡ 3) → Sound K (there a w s d) hs x → K.AllTo a keys x
    full a w s d three g = grind arith

    -- what is seen once the change is there may be another part, with nothing of it there
    pub make : (h : Head A) (a : A) (y : X) → why_not_make h ≡ None → K.Always y → K.NoneTo keys y → Sound K h hs x → Sound K (there a up 0 0) hs y
    make h a y e always none g = grind (arith, K.made a y)

    -- a step that is not refused, where all hold the change's own stage if the test says so
    module _ (alone : Bool) where
      pub raise : (h : Head A) → why_not_up keys alone h ≡ None → (alone ≡ true → AllAt (stage_of h) hs) → Sound K h hs x → Sound K (raised h) hs x
      raise h e all g = grind (arith, K.all_to_0)

      pub turn : (h : Head A) → why_not_turn alone h ≡ None → (alone ≡ true → AllAt (stage_of h) hs) → Sound K h hs x → Sound K (turned_down h) hs x
      turn h e all g = grind (arith, K.none_to_0)

      pub lower : (h : Head A) → why_not_down keys alone h ≡ None → (alone ≡ true → AllAt (stage_of h) hs) → Sound K h hs x → Sound K (lowered h) hs x
      lower h e all g = grind (arith, K.none_to_0)

      module _ (y : X) where
        pub fill : (h : Head A) → why_not_fill keys alone h ≡ None → (alone ≡ true → AllAt (stage_of h) hs) → K.Fills h (done_of h) x y → Sound K h hs x → Sound K (onward h) hs y
        fill gone e all f g = absurd (grind arith)
        fill (there a up s d) e all f g =
            let two : s ≡ 2 = grind arith in
            let inside : d < keys = grind arith in
            let r = K.filled a up s d d x y f inside g.always g.by_head.2 (g.by_head.4.1 two).0 in
            grind arith
        fill (there a down s d) e all f g = absurd (grind arith)

        pub clear : (h : Head A) → why_not_clear keys alone h ≡ None → (alone ≡ true → AllAt (stage_of h) hs) → K.Clears (done_of h) x y → Sound K h hs x → Sound K (onward h) hs y
        clear gone e all f g = absurd (grind arith)
        clear (there a up s d) e all f g = absurd (grind arith)
        clear (there a down s d) e all f g =
            let one : s ≡ 1 = grind arith in
            let inside : d < keys = grind arith in
            let r = K.cleared a d x y f inside g.always g.by_head.2 (g.by_head.4.1 one).0 in
            grind arith

    module _ (y : X) where
      -- whoever holds stage 0 sees nothing there; while somebody holds 3, whoever writes puts all of it
      pub write : (h : Head A) (s : ℕ) → hs s → K.Writes h s x y → Sound K h hs x → Sound K h hs y
      write gone s i f g =
          let low : s ≤ 1 = let z = g.near s i in omega arith in
          record { always = K.written_always gone s x y f g.always; near = g.near; by_head = K.written_none gone s x y f low keys g.by_head }
      write (there a w t d) s i f g =
          let n = g.near s i in
          let zero-none : s ≡ 0 → K.NoneTo keys x = λ z. grind arith in
          let b = K.written_base a w t d s x y f g.always zero-none g.by_head.2 in
          let none = K.written_none (there a w t d) s x y f in
          let all = K.written_all a w t d s x y f in
          let first : d ≡ 0 → K.AllTo a d y × K.NoneTo d y = λ z. rw z (K.all_to_0 a y, K.none_to_0 y) in
          let always = K.written_always (there a w t d) s x y f g.always in
          grind arith
