-- Steps that can be taken, with two keys: what is promised is not promised of nothing.
use Rattle.std.specs.Prelude.{◌≡◌, true, List, [], ◌∷◌, Some, None}
use Rattle.table.specs.Update.{keys_for}
use Rattle.change.specs.Protocol.{gone, there, up}
use Rattle.change.specs.Index.{About}
use Rattle.change.specs.OneChange.{State, empty, Step, writes, joins, leaves, made, goes_up, fills, clears, goes_down, why_not, after_all, Reach}

-- a unique index
abbrev pub unique_index : About
unique_index = record { column = 0; unique = true }

-- a unique index is brought to public, and rows are written in every stage, by holders one stage apart
abbrev pub to_public : List Step
to_public =
    joins ∷ writes 0 0 (Some 7) ∷ made unique_index ∷ writes 0 1 (Some 8) ∷ goes_up
    ∷ joins ∷ writes 1 0 (Some 5) ∷ writes 0 1 (Some 6) ∷ leaves 1 ∷ goes_up
    ∷ joins ∷ writes 2 0 (Some 4) ∷ writes 1 0 (Some 3) ∷ leaves 1 ∷ fills ∷ fills ∷ goes_up
    ∷ joins ∷ writes 3 0 (Some 9) ∷ writes 2 1 (Some 2) ∷ []

-- two rows have one value: backfill turns the change, and it is cleaned up until it is gone
abbrev pub to_gone : List Step
to_gone = joins ∷ writes 0 0 (Some 7) ∷ writes 0 1 (Some 7) ∷ leaves 0 ∷ made unique_index ∷ goes_up ∷ goes_up ∷ fills ∷ fills ∷ goes_down ∷ clears ∷ clears ∷ goes_down ∷ goes_down ∷ []

-- the state that the first steps lead to
abbrev pub public : State
public = after_all 2 to_public empty

-- the state that the second steps lead to
abbrev pub gone_again : State
gone_again = after_all 2 to_gone empty

-- the first can be taken, and lead to public, where the index finds what is there and refuses what is taken
pub record CanBePublic : Type 0 where
  pub reach : Reach 2 public
  pub head : public.head ≡ there unique_index up 3 0
  pub holders : public.holders ≡ 3 ∷ 2 ∷ []
  pub found : keys_for 2 public.entries 9 ≡ 0 ∷ []
  pub old : keys_for 2 public.entries 6 ≡ []
  pub taken : why_not 2 (writes 2 1 (Some 9)) public ≡ Some 4

-- the second can be taken, and lead back to gone, with the rows as they were and no entry
pub record CanBeGone : Type 0 where
  pub reach : Reach 2 gone_again
  pub head : gone_again.head ≡ gone
  pub rows : (gone_again.rows 0 ≡ Some 7) × (gone_again.rows 1 ≡ Some 7)
  pub entries : (gone_again.entries 0 ≡ None) × (gone_again.entries 1 ≡ None)
