use Rattle.std.proofs.Common.{◌≡◌, ℕ, Bool, cond, Option, rules, arith}
use Rattle.table.specs.Held.{row_of, entry_of}
use Rattle.table.specs.Columns.{value_in}
use Rattle.change.specs.Protocol.{Head, gone, there, turned_down, onward, may_fill}
use Rattle.change.specs.Index.{About}
use Rattle.change.specs.declared.kinds.Index.{Index}
use Rattle.change.specs.Heads.{head_of, work_on}
use Rattle.change.specs.Batches.{filled}
use Rattle.change.proofs.Batches.{by-first}
use Rattle.change.proofs.batch.fill.Goals as goal

abbrev column_of : Head About → ℕ
column_of gone = 0
column_of (there a w s d) = a.column

column_stays : (b : Bool) (h : Head About) → column_of (cond b (turned_down h) (onward h)) ≡ column_of h
column_stays b h = grind arith

column_there : (x : Index) → column_of (head_of x) ≡ x.column.number
column_there x = grind arith

pub returns : goal.returns
returns c =
    let rows : ℕ → ℕ → Option ℕ = λ i k. value_in i (row_of c.args.rows.now k) in
    let did = c.work.ensures (λ x. filled 4096 (rows (column_of x.head)) x)
    (λ h r e f k next met. let one : work_on r (entry_of f.now) ≡ filled 4096 (rows h.column.number) (work_on h (entry_of e.now)) = search rules in rw (column_there h) one) in
    rw (← by-first (λ x. may_fill 4096 x.head) (λ x. column_of x.head) (λ i. filled 4096 (rows i)) (λ i x. column_stays _ x.head) c.args.count (work_on c.args.head (entry_of c.args.entries.now)) c.args.head.column.number (column_there c.args.head)) did
