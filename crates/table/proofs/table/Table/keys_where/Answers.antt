use Rattle.std.proofs.Common.{rules, ◌≡◌, sym, ◌∙◌}
use Rattle.std.proofs.lemmas.List.{get_or_read_under}
use Rattle.keyset.proofs.Scans.{keys_none, keys_in, keys_out}
use Rattle.table.specs.Held.{cell_of}
use Rattle.table.proofs.table.Table.keys_where.Goals as goal
use Rattle.table.proofs.table.Table.keys_where.Goals.{then-test+in_ok-push, else-test}

pub loop-k-init : goal.loop-k-init
loop-k-init g c f h = c.new-found.ensures.items ∙ sym (keys_none f)

pub loop-k-preserved : goal.loop-k-preserved
loop-k-preserved g c f h =
    let read : c.cell-item.result ≡ cell_of c.args.self.now c.loop-k.k = search (rules, get_or_read_under) in
    let told = h c.loop-k.k c.test.result (rw (← read) c.test.ensures) in
    let before = c.loop-k.invariant f h in
    elim c.if-test.branch [
      | then-test+in_ok-push w ↦
          let e = keys_in f c.loop-k.k (sym w.if-test.true ∙ told) in
          let p = w.in_ok-push.ensures.items in cc
      | else-test w ↦ let e = keys_out f c.loop-k.k (sym w.if-test.false ∙ told) in cc
    ]

pub returns : goal.returns
returns g c f h =
    let all : c.loop-k.k ≡ 4096 = search rules in
    rw (← all) (c.loop-k.invariant f h)
