use Rattle.books_file.proofs.program.run_words.Goals as goal

pub returns-in-Ok-clause-run : goal.returns-in-Ok-clause-run
returns-in-Ok-clause-run g c = rw c.in-Ok.is (rw c.as_slice.ensures.value at c.run.ensures.status)
