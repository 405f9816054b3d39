-- What `try_fold` returns, where the closure computes an `Option`.
use Rattle.std.proofs.Common.{◌≡◌, ◌+◌, List, [], ◌∷◌, ◌++◌, length, drop, map, Some, None, Option, refl, sym, ap, ◌∙◌, subst, append-nil}
use Rattle.std.specs.Iterator.{YieldsThen, TryFoldsItems}
use Rattle.std.specs.List.{FoldsTo}
use Rattle.std.specs.Option.{MatchOption, option_and_then}
use Rattle.std.specs.ControlFlow.{continue_value}
use Rattle.std.specs.Fn.{Called, Mut}
use Rattle.std.proofs.lemmas.List.{drop_more, take-append-drop}
use Rattle.std.proofs.lemmas.Iterator.{YieldsList}
use Rattle.std.proofs.lemmas.Iterator.Consumers.{YieldsList-so_far, YieldsList-turn, YieldsList-end}

-- the steps one after another, up to the first that gives nothing
abbrev pub tried : {B C : Type 0} → (C → B → Option C) → C → List B → Option C
tried step c [] = Some c
tried step c (y ∷ ys) = option_and_then (λ d. tried step d ys) (step c y)

module _ {A B C F : Type 0} (v : A → B) (g : Mut F (C × (A × Unit {0})) (Option C)) (f : F) (step : C → B → Option C) (acts : (c : C) (x : A) (r : Option C) (q : F) → Called g f (c, (x, tt)) r q → (q ≡ f) × (r ≡ step c (v x))) where
  -- a turn that goes on
  abbrev Turn : F × C → A → F × C → Type 0
  Turn p x q = (r : Option C) × Called g p.0 (p.1, (x, tt)) r q.0 × (r ≡ Some q.1)

  went : (xs : List A) (ys : List B) (c d : C) (q : F) → FoldsTo {P = F × C} Turn (f, c) xs (q, d) → (q ≡ f) × (tried step c (map v xs ++ ys) ≡ tried step d ys)
  went [] ys c d q t = (sym (ap (λ (p : F × C). p.0) t), ap (λ k. tried step k ys) (ap (λ (p : F × C). p.1) t))
  went (x ∷ xs) ys c d q t =
      let here : (t.0.0 ≡ f) × (t.1.0 ≡ step c (v x)) = acts c x t.1.0 t.0.0 t.1.1 in
      let later = went xs ys t.0.1 d q (subst (λ k. FoldsTo {P = F × C} Turn (k, t.0.1) xs (q, d)) here.0 t.2) in
      (later.0, ap (option_and_then (λ k. tried step k (map v xs ++ ys))) (sym here.1 ∙ t.1.2) ∙ later.1)

  module _ {S : Type 0} {steps : S → Option A → S → Type 0} {s : S} {all : List B} (e : YieldsList steps v s all) (u : S) (c : C) (r : Option C) where
    ended : (xs : List A) (q : F) (d : C) → YieldsThen steps s xs None u → FoldsTo {P = F × C} Turn (f, c) xs (q, d) → r ≡ Some d → r ≡ tried step c all
    ended xs q d y t h =
        let whole = YieldsList-end e xs y.0 y.1 None u refl y.2 in
        h ∙ sym (went xs [] c d q t).1 ∙ ap (tried step c) (append-nil (map v xs) ∙ whole.0)

    broke : (xs : List A) (x : A) (q j : F) (d : C) (w : Option C) → YieldsThen steps s xs (Some x) u → FoldsTo {P = F × C} Turn (f, c) xs (q, d) → Called g q (d, (x, tt)) w j → w ≡ None → r ≡ None → r ≡ tried step c all
    broke xs x q j d w y t k none h =
        let n = length xs in
        let turn = YieldsList-turn e xs y.0 y.1 (Some x) u x refl y.2 in
        let before = went xs (drop n all) c d q t in
        let here = acts d x w j (subst (λ p. Called g p (d, (x, tt)) w j) before.0 k) in
        let rest : drop n all ≡ v x ∷ drop (n + 1) all = drop_more all n (v x) turn.0 ∙ ap (λ z. z ∷ drop (n + 1) all) (sym turn.1) in
        let apart : map v xs ++ drop n all ≡ all = ap (λ l. l ++ drop n all) (YieldsList-so_far e xs y.0 y.1) ∙ take-append-drop n all in
        h ∙ sym (ap (option_and_then (λ z. tried step z (drop (n + 1) all))) (sym here.1 ∙ none)) ∙ ap (tried step d) (sym rest) ∙ sym before.1 ∙ ap (tried step c) apart

    by_end : (E : Type 0) (xs : List A) (o : Option A) (q : F) (d : C) → YieldsThen steps s xs o u → FoldsTo {P = F × C} Turn (f, c) xs (q, d) → MatchOption o (r ≡ Some d) (λ x. (w : Option C) × (j : F) × E × Called g q (d, (x, tt)) w j × (w ≡ None) × (r ≡ None)) → r ≡ tried step c all
    by_end E xs None q d y t h = ended xs q d y t h
    by_end E xs (Some x) q d y t h = broke xs x q h.1 d h.0 y t h.3 h.4 h.5

    pub tried_over : (E : Type 0) → TryFoldsItems steps g (λ w k. w ≡ continue_value k) (λ (b : E) w. w ≡ None) s f c r u → r ≡ tried step c all
    tried_over E t = by_end E t.0 t.1 t.2 t.3 t.4 t.5 t.6
