use Rattle.std.proofs.Common.{List, ℕ, ap₂, true, false}
use Rattle.sqlite.specs.Recovery.{Image}
use Rattle.books_file.proofs.Fresh.{seen_held, only_held}
use Rattle.books_file.proofs.opening.open_books.Goals as goal

abbrev image : List ℕ → List ℕ → Image
image log db = record { log = log; db = db }

pub returns-in-Err-default-Some-clause-failed : goal.returns-in-Err-default-Some-clause-failed
returns-in-Err-default-Some-clause-failed g c =
    let cause = rw c.in-Err-default-Some.field-0-1-is at c.in-Err-default-Some.ensures.cause in
    let files = cause.0 in
    let log = cause.1 in
    let db = cause.2 in
    let start = g.S.Start in
    record {
      opened = files;
      found = ap₂ image (seen_held start.log start.db start.is_mixing files.log.is_log true files.log.key _ log.0 log.1) (seen_held start.log start.db start.is_mixing files.db.is_log false files.db.key _ db.0 db.1);
      log_only = only_held start.log start.db start.is_mixing files.log.is_log true files.log.key _ log.0 log.1;
      db_only = only_held start.log start.db start.is_mixing files.db.is_log false files.db.key _ db.0 db.1;
      leaves = λ clean. (cause.3 clean).1;
    }
