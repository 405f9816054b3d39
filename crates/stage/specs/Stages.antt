-- What is done to an index in which stage, when a row is put, changed or taken away.
use Rattle.std.specs.Prelude.{ℕ, Bool, false, cond, ◌&&◌, List, map, Some, None, Option, nat_le}
use Rattle.table.specs.declared.row.Row.{Row}
use Rattle.table.specs.Update.{is_for, taken_by_other}
use Rattle.stage.specs.declared.kinds.Stage.{Stage}
use Rattle.stage.specs.declared.kinds.Stage.TheVariants.{Absent, DeleteOnly, WriteOnly, Public}
use Rattle.stage.specs.declared.kinds.Write.{Write}
use Rattle.stage.specs.declared.kinds.Write.TheVariants.{Put, Take}

-- the stages by number
abbrev pub rank : Stage → ℕ
rank Absent = 0
rank DeleteOnly = 1
rank WriteOnly = 2
rank Public = 3

-- stages of several indexes, by number
abbrev pub ranks : List Stage → List ℕ
ranks ss = map rank ss

-- the row that a key has once this is written
abbrev pub written : Write → Option Row
written (Put r) = Some r
written Take = None

-- from stage 1 on the old row's entry is taken out
abbrev pub takes_out : (stage : ℕ) → Bool
takes_out s = nat_le 1 s

-- from stage 2 on the new row's entry is put in
abbrev pub puts_in : (stage : ℕ) → Bool
puts_in s = nat_le 2 s

-- a key's entry once the entry of a row is taken out
abbrev pub taken_out : (row entry : Option ℕ) → Option ℕ
taken_out None e = e
taken_out (Some v) e = cond (is_for e v) None e

-- a key's entry once the entry of a row is put in
abbrev pub put_in : (row entry : Option ℕ) → Option ℕ
put_in None e = e
put_in (Some v) e = Some v

-- a key's entry once somebody in a stage has changed the key's row
abbrev pub entry_after : (stage : ℕ) → (old new entry : Option ℕ) → Option ℕ
entry_after s old new e = cond (puts_in s) (put_in new (taken_out old e)) (cond (takes_out s) (taken_out old e) e)

-- another key than k has an entry for a row's value
abbrev pub value_taken : (keys : ℕ) → (ℕ → Option ℕ) → (k : ℕ) → (row : Option ℕ) → Bool
value_taken n f k None = false
value_taken n f k (Some v) = taken_by_other n f v k

-- a unique index refuses a row, for whoever is in stage 2 or 3, whose value another key has an entry for
abbrev pub refused_by : (keys : ℕ) → (unique : Bool) → (stage : ℕ) → (ℕ → Option ℕ) → (k : ℕ) → (row : Option ℕ) → Bool
refused_by n u s f k r = u && (puts_in s && value_taken n f k r)
