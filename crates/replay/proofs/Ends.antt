-- The same bytes have one end.
use Rattle.std.proofs.Common.{◌≡◌, ℕ, true, List, [], ◌∷◌, ◌++◌, Err, sym, refl, ap, ◌∙◌, subst, inl, inr, true≢false, append_assoc, arith}
use Rattle.register.specs.Registers.{Register, Record, applied, replayed}
use Rattle.register.specs.Held.{can_do, can_do_all}
use Rattle.journal.specs.declared.error.Unread.TheVariants.{Part}
use Rattle.journal.specs.Bytes.{bytes_of, all_bytes, Writable, AllWritable, is_part}
use Rattle.journal.proofs.Codes.{no_two, read_back}
use Rattle.replay.specs.Laws.{Ended, OneEnd}

-- a whole record is no part of one
pub no_part : (x : Record) (more : List ℕ) → Writable x → is_part (bytes_of x ++ more) ≡ true → ⊥
no_part x more w e = let (y, n, is, which, end) = read_back x [] more (Err Part) w e in cc

-- where a record stands that can be done it is not the end
no_end : (bs more : List ℕ) (r : Register) (x : Record) → Writable x → bs ≡ bytes_of x ++ more → can_do x r ≡ true → Ended bs r → ⊥
no_end bs more r x w e can (inl part) = no_part x more w (subst (λ z. is_part z ≡ true) e part)
no_end bs more r x w e can (inr (inl none)) = none.1 x more w e
no_end bs more r x w e can (inr (inr (y, rest, v, f, cannot))) =
    let (same, _) = no_two x y more rest w v (sym e ∙ f) in
    true≢false (sym can ∙ ap (λ z. can_do z r) same ∙ cannot)

one_end : (xs ys : List Record) (rest rest' : List ℕ) (r : Register) → AllWritable xs → AllWritable ys → all_bytes xs ++ rest ≡ all_bytes ys ++ rest' → can_do_all xs r ≡ true → can_do_all ys r ≡ true
    → Ended rest (replayed xs r) → Ended rest' (replayed ys r) → (rest ≡ rest') × (replayed xs r ≡ replayed ys r)
unfolding all_bytes AllWritable can_do_all replayed
one_end [] [] rest rest' r f g e can can' end end' = (e, refl)
one_end [] (y ∷ ys) rest rest' r f (w, g) e can can' end end' =
    absurd (no_end rest (all_bytes ys ++ rest') r y w (e ∙ append_assoc (bytes_of y) (all_bytes ys) rest') (grind arith) end)
one_end (x ∷ xs) [] rest rest' r (w, f) g e can can' end end' =
    absurd (no_end rest' (all_bytes xs ++ rest) r x w (sym e ∙ append_assoc (bytes_of x) (all_bytes xs) rest) (grind arith) end')
one_end (x ∷ xs) (y ∷ ys) rest rest' r (v, f) (w, g) e can can' end end' =
    let (same, more) = no_two x y (all_bytes xs ++ rest) (all_bytes ys ++ rest') v w (sym (append_assoc (bytes_of x) (all_bytes xs) rest) ∙ e ∙ append_assoc (bytes_of y) (all_bytes ys) rest') in
    let next : applied y r ≡ applied x r = ap (λ z. applied z r) (sym same) in
    let can-x : can_do_all xs (applied x r) ≡ true = grind arith in
    let can-y : can_do_all ys (applied y r) ≡ true = grind arith in
    let (a, b) = one_end xs ys rest rest' (applied x r) f g more can-x (subst (λ z. can_do_all ys z ≡ true) next can-y) end (subst (λ z. Ended rest' (replayed ys z)) next end') in
    (a, b ∙ ap (replayed ys) (sym next))

pub ends_once : OneEnd
ends_once bs rest rest' r s s' p end q end' =
    let (a, b) = one_end p.records q.records rest rest' r p.writable q.writable (sym p.begin ∙ q.begin) p.can q.can (subst (λ z. Ended rest z) p.did end) (subst (λ z. Ended rest' z) q.did end') in
    (a, p.did ∙ b ∙ sym q.did)
