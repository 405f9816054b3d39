-- Records by their bytes.
use Rattle.std.proofs.Common.{◌≡◌, ℕ, ◌-◌, ◌≤◌, Bool, true, false, List, ◌∷◌, ◌++◌, length, drop, Ok, Err, sym, refl, ap, ◌∙◌, subst, ⊎_elim, append_assoc, arith, length-append}
use Rattle.std.proofs.lemmas.List.{drop_at, length-drop}
use Rattle.std.proofs.lemmas.Bool.Decides.{nat_tests}
use Rattle.table.specs.declared.row.Row.{Row}
use Rattle.register.specs.Registers.{Record, put, removed, made, went_up, turned, went_down, filled, cleared, came_up}
use Rattle.register.specs.Held.{record_of}
use Rattle.journal.specs.declared.error.Unread.TheVariants.{Part, Bad}
use Rattle.journal.specs.Bytes.{two, fours, stage_bytes, flag, kind_of, body_of, bytes_of, Writable, is_part}
use Rattle.journal.specs.Laws.{NoTwo, ReadBack, UnknownRefused}
use Rattle.journal.proofs.Numbers.{unique_two, unique_columns}
use Rattle.journal.proofs.Pairs.{unique_stages}
use Rattle.journal.proofs.Sizes.{whole_no_part}
use Rattle.journal.proofs.Shapes.{Shape, shape}

flag_tells : (u v : Bool) → flag u ≡ flag v → u ≡ v
flag_tells true true e = refl
flag_tells true false e = absurd (omega arith)
flag_tells false true e = absurd (omega arith)
flag_tells false false e = refl

same_rows : (m n : Row) → m.columns ≡ n.columns → m ≡ n
same_rows m n e = λ j. record { columns = e j }

-- two records of one kind, by their bodies
same_bodies : (x y : Record) (r s : List ℕ) → Writable x → Writable y → Shape (kind_of x) y → body_of x ++ r ≡ body_of y ++ s → (x ≡ y) × (r ≡ s)
unfolding Shape
same_bodies (put k m ss) y r s v w h e =
    let (l, n, ts, q) = h in
    let u = subst Writable q w in
    let f : body_of (put k m ss) ++ r ≡ body_of (put l n ts) ++ s = e ∙ ap (λ z. body_of z ++ s) q in
    let (a, g) = unique_two k l ((fours m.columns ++ stage_bytes ss) ++ r) ((fours n.columns ++ stage_bytes ts) ++ s) (omega (arith, v.0)) (omega (arith, u.0)) f in
    let g' = sym (append_assoc (fours m.columns) (stage_bytes ss) r) ∙ g ∙ append_assoc (fours n.columns) (stage_bytes ts) s in
    let (b, i) = unique_columns m.columns n.columns (stage_bytes ss ++ r) (stage_bytes ts ++ s) v.1 u.1 g' in
    let (c, j) = unique_stages ss ts r s v.2 u.2 i in
    ((λ t. put (a t) (same_rows m n b t) (c t)) ∙ sym q, j)
same_bodies (removed k ss) y r s v w h e =
    let (l, ts, q) = h in
    let u = subst Writable q w in
    let f : body_of (removed k ss) ++ r ≡ body_of (removed l ts) ++ s = e ∙ ap (λ z. body_of z ++ s) q in
    let (a, g) = unique_two k l (stage_bytes ss ++ r) (stage_bytes ts ++ s) (omega (arith, v.0)) (omega (arith, u.0)) f in
    let (c, j) = unique_stages ss ts r s v.1 u.1 g in
    ((λ t. removed (a t) (c t)) ∙ sym q, j)
same_bodies (made i c u) y r s v w h e =
    let (j, d, o, q) = h in
    let f : i ∷ c ∷ flag u ∷ r ≡ j ∷ d ∷ flag o ∷ s = e ∙ ap (λ z. body_of z ++ s) q in
    let a : i ≡ j = cc in
    let b : c ≡ d = cc in
    let g : flag u ≡ flag o = cc in
    ((λ t. made (a t) (b t) (flag_tells u o g t)) ∙ sym q, cc)
same_bodies (went_up i) y r s v w h e =
    let (j, q) = h in
    let f : i ∷ r ≡ j ∷ s = e ∙ ap (λ z. body_of z ++ s) q in
    let a : i ≡ j = cc in
    (ap went_up a ∙ sym q, cc)
same_bodies (turned i) y r s v w h e =
    let (j, q) = h in
    let f : i ∷ r ≡ j ∷ s = e ∙ ap (λ z. body_of z ++ s) q in
    let a : i ≡ j = cc in
    (ap turned a ∙ sym q, cc)
same_bodies (went_down i) y r s v w h e =
    let (j, q) = h in
    let f : i ∷ r ≡ j ∷ s = e ∙ ap (λ z. body_of z ++ s) q in
    let a : i ≡ j = cc in
    (ap went_down a ∙ sym q, cc)
same_bodies (filled i k) y r s v w h e =
    let (j, l, q) = h in
    let u = subst Writable q w in
    let f : i ∷ (two k ++ r) ≡ j ∷ (two l ++ s) = e ∙ ap (λ z. body_of z ++ s) q in
    let a : i ≡ j = cc in
    let (b, g) = unique_two k l r s (omega (arith, v.1)) (omega (arith, u.1)) (cc) in
    ((λ t. filled (a t) (b t)) ∙ sym q, g)
same_bodies (cleared i k) y r s v w h e =
    let (j, l, q) = h in
    let u = subst Writable q w in
    let f : i ∷ (two k ++ r) ≡ j ∷ (two l ++ s) = e ∙ ap (λ z. body_of z ++ s) q in
    let a : i ≡ j = cc in
    let (b, g) = unique_two k l r s (omega (arith, v.1)) (omega (arith, u.1)) (cc) in
    ((λ t. cleared (a t) (b t)) ∙ sym q, g)
same_bodies came_up y r s v w h e = (sym h, e ∙ ap (λ z. body_of z ++ s) h)

pub no_two : NoTwo
no_two x y r s v w e =
    let k : kind_of y ≡ kind_of x = cc in
    let b : body_of x ++ r ≡ body_of y ++ s = cc in
    same_bodies x y r s v w (subst (λ n. Shape n y) k (shape y)) b

pub read_back : ReadBack
read_back x before rest (Ok (y, e)) w (v, f, l) =
    let bs = before ++ (bytes_of x ++ rest) in
    let d : drop (length before) bs ≡ bytes_of x ++ rest = drop_at before (bytes_of x ++ rest) (length before) refl in
    let (a, b) = no_two (record_of y) x (drop e bs) rest v w (sym f ∙ d) in
    let m = length-append before (bytes_of x ++ rest) in
    let n = length-append (bytes_of x) rest in
    let o : length bs - e ≡ length rest = sym (length-drop e bs) ∙ ap length b in
    (y, e, refl, a, omega arith)
read_back x before rest (Err Part) w h =
    let d : drop (length before) (before ++ (bytes_of x ++ rest)) ≡ bytes_of x ++ rest = drop_at before (bytes_of x ++ rest) (length before) refl in
    let z : true ≡ false = sym h ∙ ap is_part d ∙ whole_no_part x rest w in
    cc
read_back x before rest (Err Bad) w (p, none) = absurd (none x rest w (drop_at before (bytes_of x ++ rest) (length before) refl))

kinds : (x : Record) → (1 ≤ kind_of x) × (kind_of x ≤ 9)
kinds (put k n ss) = (omega arith, omega arith)
kinds (removed k ss) = (omega arith, omega arith)
kinds (made i c u) = (omega arith, omega arith)
kinds (went_up i) = (omega arith, omega arith)
kinds (turned i) = (omega arith, omega arith)
kinds (went_down i) = (omega arith, omega arith)
kinds (filled i k) = (omega arith, omega arith)
kinds (cleared i k) = (omega arith, omega arith)
kinds came_up = (omega arith, omega arith)

pub unknown_refused : UnknownRefused
unknown_refused k bs h = (
  ⊎_elim (λ (z : k ≡ 0). grind (arith, nat_tests)) (λ (z : 10 ≤ k). grind (arith, nat_tests)) h,
  λ x rest w e.
      let f : k ≡ kind_of x = cc in
      let (a, b) = kinds x in
      ⊎_elim (λ (z : k ≡ 0). omega arith) (λ (z : 10 ≤ k). omega arith) h,
)
