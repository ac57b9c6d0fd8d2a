use Rattle.std.proofs.Common.{refl}
use Rattle.books_file.proofs.Listening.{listens_behind}
use Rattle.books_file.proofs.line.line_listened.Goals as goal

pub work_over-requires : goal.work_over-requires
work_over-requires g c = record { listens = listens_behind c.args.work.now c.in-Ok.listener c.as_ref.result c.as_ref.ensures.variant c.in-Ok.ensures.listens }

pub returns-in-Err-clause-done : goal.returns-in-Err-clause-done
returns-in-Err-clause-done g c = (refl, c.in-Err.ensures.server, (refl, refl, refl))
