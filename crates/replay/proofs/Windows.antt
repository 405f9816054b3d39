-- Records of one slice and of the next.
use Rattle.std.proofs.Common.{◌≡◌, ℕ, ◌<◌, ◌≤◌, true, List, [], ◌∷◌, ◌++◌, length, drop, sym, refl, ap, ◌∙◌, subst, append_assoc, append-nil, arith, length-append, length-drop}
use Rattle.register.specs.Registers.{Register, Record, applied, replayed}
use Rattle.register.specs.Held.{can_do, can_do_all}
use Rattle.register.proofs.Replays.{in_parts}
use Rattle.journal.specs.Bytes.{bytes_of, all_bytes, Writable, AllWritable}
use Rattle.journal.proofs.Cuts.{all_append}
use Rattle.replay.specs.Played.{Played}
use Rattle.replay.specs.Laws.{WindowsAgree}

all_writable : (xs ys : List Record) → AllWritable xs → AllWritable ys → AllWritable (xs ++ ys)
unfolding AllWritable
all_writable [] ys f g = g
all_writable (x ∷ xs) ys (f, fs) g = (f, all_writable xs ys fs g)

can_both : (xs ys : List Record) (r : Register) → can_do_all xs r ≡ true → can_do_all ys (replayed xs r) ≡ true → can_do_all (xs ++ ys) r ≡ true
unfolding can_do_all replayed
can_both [] ys r e f = f
can_both (x ∷ xs) ys r e f = let ih = can_both xs ys (applied x r) in grind arith

-- nothing read, nothing done
pub none_yet : (bs : List ℕ) (r : Register) → Played bs r bs r
unfolding all_bytes AllWritable can_do_all replayed
none_yet bs r = record { records = []; writable = tt; begin = refl; can = refl; did = refl }

-- one record
one_record : (x : Record) (rest : List ℕ) (r s : Register) → Writable x → can_do x r ≡ true → s ≡ applied x r → Played (bytes_of x ++ rest) r rest s
unfolding all_bytes AllWritable can_do_all replayed
one_record x rest r s w can did = record { records = x ∷ []; writable = (w, tt); begin = ap (λ bs. bs ++ rest) (sym (append-nil (bytes_of x))); can = rw can; did = did }

-- what is left is read on
on : (bs rest rest' : List ℕ) (r s t : Register) → Played bs r rest s → Played rest s rest' t → Played bs r rest' t
on bs rest rest' r s t p q = record {
  records = p.records ++ q.records;
  writable = all_writable p.records q.records p.writable q.writable;
  begin = p.begin ∙ ap (λ z. all_bytes p.records ++ z) q.begin ∙ sym (append_assoc (all_bytes p.records) (all_bytes q.records) rest') ∙ ap (λ z. z ++ rest') (sym (all_append p.records q.records));
  can = can_both p.records q.records r p.can (ap (can_do_all q.records) (sym p.did) ∙ q.can);
  did = q.did ∙ ap (replayed q.records) p.did ∙ sym (in_parts p.records q.records r);
}

-- one record more
pub one_more : (bs rest rest' : List ℕ) (r s t : Register) (x : Record) → Played bs r rest s → rest ≡ bytes_of x ++ rest' → Writable x → can_do x s ≡ true → t ≡ applied x s → Played bs r rest' t
one_more bs rest rest' r s t x p e w can did = on bs rest rest' r s t p (subst (λ z. Played z s rest' t) (sym e) (one_record x rest' s t w can did))

-- a record ends behind the place at which it begins
pub further : (bs : List ℕ) (at e : ℕ) (x : Record) → drop at bs ≡ bytes_of x ++ drop e bs → e ≤ length bs → at < e
further bs at e x q l =
    let a = length-drop at bs in
    let b = length-drop e bs in
    let c : length (drop at bs) ≡ length (bytes_of x ++ drop e bs) = ap length q in
    let d = length-append (bytes_of x) (drop e bs) in
    omega arith

-- more bytes behind
behind : (bs more rest : List ℕ) (r s : Register) → Played bs r rest s → Played (bs ++ more) r (rest ++ more) s
behind bs more rest r s p = record {
  records = p.records;
  writable = p.writable;
  begin = ap (λ z. z ++ more) p.begin ∙ append_assoc (all_bytes p.records) rest more;
  can = p.can;
  did = p.did;
}

pub windows_agree : WindowsAgree
windows_agree bs more rest rest' r s t p q = on (bs ++ more) (rest ++ more) rest' r s t (behind bs more rest r s p) q
