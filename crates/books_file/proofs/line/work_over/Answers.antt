use Rattle.std.proofs.Common.{inl, inr, refl, ap, Err}
use Rattle.sqlite.specs.Files.{over_files}
use Rattle.books_schema.specs.declared.ready_connection.Leftover.TheVariants.{Connection}
use Rattle.line_work.proofs.NotBegun.{clean_before}
use Rattle.books_file.proofs.line.work_over.Goals as goal

pub returns-in-Ok-close_files-clause-done : goal.returns-in-Ok-close_files-clause-done
returns-in-Ok-close_files-clause-done g c =
    let first = c.in-Ok.ensures in
    let then = c.in-Ok-do_work.ensures in
    record {
      opened = c.in-Ok.conn;
      closed = c.in-Ok-do_work.conn;
      done = record {
        found = λ clean. (first.opened (then.clean clean), first.found (then.clean clean));
        judged = then.judged;
        worked = then.worked;
        told = then.told;
        kept = then.beside;
        lines = then.lines;
      };
      copied = c.in-Ok-close_files.ensures.copied;
    }

pub returns-in-Err-close_files-clause-done : goal.returns-in-Err-close_files-clause-done
returns-in-Err-close_files-clause-done g c =
    let first = c.in-Ok.ensures in
    let then = c.in-Ok-do_work.ensures in
    record {
      opened = c.in-Ok.conn;
      left = Connection c.in-Ok-do_work.conn;
      how = inr (
          record {
            closed = c.in-Ok-do_work.conn;
            is = refl;
            work_end = c.in-Ok-do_work.end;
            done = record {
              found = λ clean. (first.opened (then.clean clean), first.found (then.clean clean));
              judged = then.judged;
              worked = then.worked;
              told = then.told;
              kept = then.beside;
              lines = then.lines;
            };
            ended = ap Err c.closing_fault.ensures;
          }
          );
      is_store = c.in-Err-close_files.ensures.err.0.quiet;
    }

pub returns-in-Err-clause-done : goal.returns-in-Err-clause-done
returns-in-Err-clause-done g c =
    let first = c.in-Ok.ensures in
    let then = c.in-Err.ensures in
    record {
      opened = c.in-Ok.conn;
      left = c.in-Err.left;
      how = inl (
          record {
            fault = c.in-Err.fault;
            ended = refl;
            found = λ clean. let was = clean_before over_files c.in-Ok.conn c.args.work.now c.in-Err.left c.in-Err.fault then.left clean in (first.opened was, first.found was);
            judged = then.judged;
            idle = then.left;
            silent = (ap g.W.Write.contents (then.silent refl), ap g.L.Write.contents (then.unlogged refl));
            unused = then.unused refl;
          }
          );
      is_store = c.store_of.ensures;
    }

pub returns-in-Err-Failed-clause-done : goal.returns-in-Err-Failed-clause-done
returns-in-Err-Failed-clause-done g c = (refl, (refl, refl, refl), rw c.in-Err-Failed.field-0-is at c.in-Err-Failed.ensures.failed)
