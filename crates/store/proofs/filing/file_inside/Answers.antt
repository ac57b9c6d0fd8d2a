use Rattle.store.proofs.Words.{subst, sym, arith, HasCleanDisk, state, IsReady, kept_unchanged, kept_then, inside_then, rows_of}
use Rattle.store.proofs.ActsInside.{books_kept}
use Rattle.store.proofs.FilesInside.{filed_from}
use Rattle.store.proofs.KnownKept.{known_kept, goes_known_from}
use Rattle.store.proofs.filing.file_inside.Goals as goal

pub returns-in-Ok-clause-files : goal.returns-in-Ok-clause-files
returns-in-Ok-clause-files g c =
    let old = state g.S.Store c.args.tx.now.conn.now in
    let mid = state g.S.Store c.find_open.new.tx.conn.now in
    let new = state g.S.Store c.take_rows.new.tx.conn.now in
    let rows = c.take_rows.ensures.files in
    let same = λ (clean : HasCleanDisk new). c.in-Ok.ensures.open (let was : HasCleanDisk mid = omega (arith, clean, rows.survives.clean) in was) in
    record {
      survives = inside_then old mid new c.find_open.ensures.survives rows.survives;
      does = record {
        filed = λ clean keys first acts history books holds.
            let is = same clean in
            filed_from first acts (rows_of c.args.rows.now) c.args.day c.take_rows.result old mid new is
            ((rows.does is.0.is_open).filed clean keys first acts history (λ _. books_kept first acts old mid is (books is.0.was_open)) (λ _. known_kept c.args.known.now old mid is (holds is.0.was_open)));
        knows = λ clean ready.
            let is = same clean in
            goes_known_from c.args.known.now c.take_rows.new.known c.take_rows.result old mid new is ((rows.does is.0.is_open).knows clean (λ _. subst IsReady (sym is.0.now_is) (ready is.0.was_open)));
        kept = λ clean ready.
            let is = same clean in
            kept_then old mid new (kept_unchanged old mid is) ((rows.does is.0.is_open).kept clean (λ _. subst IsReady (sym is.0.now_is) (ready is.0.was_open)));
      };
    }

pub returns-in-Err-clause-files : goal.returns-in-Err-clause-files
returns-in-Err-clause-files g c = record {
  survives = c.find_open.ensures.survives;
  does = record { filed = λ clean keys first acts history books holds. tt; knows = λ clean ready. tt; kept = λ clean ready. c.in-Err.ensures.kept clean };
}
