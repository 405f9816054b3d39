use Rattle.std.proofs.Common.{vec_items, ap, ◌∙◌, subst}
use Rattle.register.specs.Held.{register_of}
use Rattle.register.proofs.Parts.{no_head_past}
use Rattle.lease.specs.declared.book.Book.{Book}
use Rattle.lease.specs.Books.{book_of}
use Rattle.service.specs.Held.{store_of, call_of, record_in, Carried}
use Rattle.service.proofs.Done.{did}
use Rattle.service.proofs.owner.State.call.Goals as goal

pub returns-in_ok-lend-in-Ok-clause-called : goal.returns-in_ok-lend-in-Ok-clause-called
returns-in_ok-lend-in-Ok-clause-called c =
    let s = c.args.self.now in
    let found = c.in-Ok.ensures in
    record {
      answers = rw found.allowed found.answers;
      writes = rw found.allowed found.writes;
      leaves = did s.times.long (store_of s) c.args.reading (call_of c.args.call) (no_head_past s.register) found.allowed
          (record_in c.in-Ok.what) (register_of c.carry_out.new.self.register) _ found.writes
          (subst (λ g. Carried (record_in c.in-Ok.what) (register_of g) (register_of c.carry_out.new.self.register)) c.lend.ensures.register c.carry_out.ensures.register)
          (ap (λ (b : Book). book_of (vec_items b.leases)) c.carry_out.ensures.book ∙ c.in_ok-lend-in-Ok.ensures.book);
    }
