-- Texts one after another.
use Rattle.std.proofs.Common.{◌≡◌, ℕ, ◌+◌, ◌<◌, List, [], ◌∷◌, ◌++◌, length, get_or, take, drop, decimal, Option, Some, None, IfSome, Result, Ok, Err, is_ok, OnOk, subst, true, false, not, sym, refl, ap, ◌∙◌, append_assoc, append-nil, add-one}
use Rattle.std.proofs.Math.Seq.{take-suc}
use Rattle.std.proofs.Output.{then_text_assoc}
use Rattle.std.proofs.lemmas.List.{drop_more}
use Rattle.std.specs.Fmt.{◌++?◌, WritesText}
use Rattle.std.specs.List.{FoldsTo, concat}
use denote.Enum.Bare.{sameb}
use Rattle.stage.specs.contracts.kinds.Stage.{the_type}
use Rattle.stage.specs.declared.kinds.Stage.{Stage}
use Rattle.stage.specs.declared.kinds.Stage.TheVariants.{Absent, DeleteOnly, WriteOnly, Public}
use Rattle.stage.specs.Stages.{rank, ranks}
use Rattle.answers.specs.Texts.{spaced_texts, spaced, stage_word, stage_list}

nothing_before : (o : Option (List ℕ)) → Some [] ++? o ≡ o
nothing_before None = refl
nothing_before (Some a) = refl

nothing_behind : (o : Option (List ℕ)) → o ++? Some [] ≡ o
nothing_behind None = refl
nothing_behind (Some a) = ap (λ (l : List ℕ). Some l) (append-nil a)

spaced_texts-append : {X : Type 0} (text : X → Option (List ℕ)) (xs ys : List X) → spaced_texts text (xs ++ ys) ≡ spaced_texts text xs ++? spaced_texts text ys
spaced_texts-append text [] ys = sym (nothing_before (spaced_texts text ys))
spaced_texts-append text (x ∷ xs) ys =
    ap (λ o. (Some (32 ∷ []) ++? text x) ++? o) (spaced_texts-append text xs ys)
    ∙ sym (then_text_assoc (Some (32 ∷ []) ++? text x) (spaced_texts text xs) (spaced_texts text ys))

-- one text more
pub spaced_texts-take : {X : Type 0} (text : X → Option (List ℕ)) (xs : List X) (i : ℕ) (y : X) → i < length xs → y ≡ get_or xs i y → spaced_texts text (take i xs) ++? (Some (32 ∷ []) ++? text y) ≡ spaced_texts text (take (i + 1) xs)
spaced_texts-take text xs i y lt e =
    rw (add-one, take-suc xs i y lt, ← e, spaced_texts-append text (take i xs) (y ∷ []), nothing_behind (Some (32 ∷ []) ++? text y))

-- the text of each number is known
pub spaced_decimals : (ns : List ℕ) → spaced_texts (λ n. Some (decimal n)) ns ≡ Some (spaced ns)
spaced_decimals [] = refl
spaced_decimals (n ∷ ns) = rw (spaced_decimals ns)

-- a stage that is there is a word, and `Absent` is none
pub word_of : (i m : ℕ) (s : Stage) → not (sameb the_type s Absent) ≡ true → m ≡ rank s → 32 ∷ (decimal i ++ (61 ∷ decimal m)) ≡ stage_word i (rank s)
word_of i m Absent there e = cc
word_of i m DeleteOnly there e = rw e
word_of i m WriteOnly there e = rw e
word_of i m Public there e = rw e

pub no_word : (i : ℕ) (s : Stage) → not (sameb the_type s Absent) ≡ false → [] ≡ stage_word i (rank s)
no_word i Absent none = refl
no_word i DeleteOnly none = cc
no_word i WriteOnly none = cc
no_word i Public none = cc

-- the stage of one index more
pub stage_list-drop : (all done : List ℕ) (ss : List Stage) (i : ℕ) (d : Stage) → i < length ss → all ≡ done ++ stage_list i (ranks (drop i ss)) → all ≡ (done ++ stage_word i (rank (get_or ss i d))) ++ stage_list (i + 1) (ranks (drop (i + 1) ss))
stage_list-drop all done ss i d lt so_far =
    so_far ∙ ap (λ l. done ++ stage_list i (ranks l)) (drop_more ss i d lt)
    ∙ sym (append_assoc done (stage_word i (rank (get_or ss i d))) (stage_list (i + 1) (ranks (drop (i + 1) ss))))

-- calls of `write_str` that each keep the name of a loan and append to its bytes do so together
module _ {W N : Type 0} (name : W → N) (items : W → List ℕ) where
  abbrev Takes : W → List ℕ → W → Type 0
  Takes s bs t = (name t ≡ name s) × (items t ≡ items s ++ bs)

  taken : (s : W) (parts : List (List ℕ)) (t : W) → FoldsTo Takes s parts t → Takes s (concat parts) t
  taken s [] t p = (ap name (sym p), ap items (sym p) ∙ sym (append-nil (items s)))
  taken s (x ∷ xs) t p =
      let rest = taken p.0 xs t p.2 in
      (rest.0 ∙ p.1.0, rest.1 ∙ ap (λ (l : List ℕ). l ++ concat xs) p.1.1 ∙ append_assoc (items s) x (concat xs))

  -- the same of a text, where writing it succeeds
  pub appended : {X Y E F : Type 0} (s t : W) (o : Option (List ℕ)) (r : Result X E) (q : Result Y F) (P : List ℕ → Type 0) → is_ok q ≡ is_ok r
      → ((bs : List ℕ) → name t ≡ name s → items t ≡ items s ++ bs → P bs) → OnOk r (WritesText Takes s o t) → OnOk q (IfSome o P)
  appended s t None r (Ok y) P same last p = tt
  appended s t None r (Err e) P same last p = tt
  appended s t (Some bs) (Ok x) (Ok y) P same last p =
      let both = subst (λ l. Takes s l t) p.whole (taken s p.parts t p.calls) in last bs both.0 both.1
  appended s t (Some bs) (Err d) (Ok y) P same last p = cc
  appended s t (Some bs) r (Err e) P same last p = tt
