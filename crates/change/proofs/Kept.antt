-- What a sound state promises whoever uses its index.
use Rattle.std.proofs.Common.{◌≡◌, ℕ, zero, suc, ◌<◌, Bool, true, ◌⊎◌, None, refl, arith}
use Rattle.keyset.specs.Sets.{keys_below}
use Rattle.table.specs.Update.{keys_for}
use Rattle.change.specs.Protocol.{Head, gone, there, stage_of, Sound}
use Rattle.change.specs.Index.{About, Part, unique_of, NoOrphan, NoneTwice}
use Rattle.change.proofs.Protocol as protocol
use Rattle.change.proofs.IndexKind.{kind, empty}

-- the same test, the same keys
same_keys : (f g : ℕ → Bool) → ((k : ℕ) → f k ≡ g k) → (n : ℕ) → keys_below f n ≡ keys_below g n
unfolding keys_below
same_keys f g e zero = refl
same_keys f g e (suc n) = rw (same_keys f g e n, e n)

module _ (keys : ℕ) {hs : ℕ → Type 0} {x : Part} where
  pub gone_empty : Sound (kind keys) gone hs x → (k : ℕ) → x.entries k ≡ None
  gone_empty g = empty keys x g.always g.by_head

  pub no_orphan_lem : (h : Head About) → Sound (kind keys) h hs x → NoOrphan x.rows x.entries
  no_orphan_lem gone g k v e = let z = gone_empty g k in grind arith
  no_orphan_lem (there a w s d) g k v e = g.by_head.2.0 k v e

  -- in stage 3, or with somebody in it, each key has its row's entry
  pub full : (h : Head About) → hs 3 ⊎ (stage_of h ≡ 3) → Sound (kind keys) h hs x → (k : ℕ) → x.entries k ≡ x.rows k
  full gone three g k = absurd (let n = g.near 3 in grind arith)
  full (there a w s d) three g k =
      let below : k < keys → x.entries k ≡ x.rows k = protocol.full (kind keys) a w s d three g k in
      let beyond = g.always k in
      grind arith

  pub looks_right_lem : (h : Head About) → hs 3 ⊎ (stage_of h ≡ 3) → Sound (kind keys) h hs x → (v : ℕ) → keys_for keys x.entries v ≡ keys_for keys x.rows v
  looks_right_lem h three g v = same_keys _ _ (λ k. let e = full h three g k in cc) keys

  pub one_number_lem : (h : Head About) → unique_of h ≡ true → hs 3 ⊎ (stage_of h ≡ 3) → Sound (kind keys) h hs x → NoneTwice x.rows
  one_number_lem gone u three g k j v p q = absurd (grind arith)
  one_number_lem (there a w s d) u three g k j v p q =
      let ek = full (there a w s d) three g k in let ej = full (there a w s d) three g j in
      g.by_head.2.1 u k j v (cc) (cc)
