use Rattle.audits.proofs.replayed.new_books.Goals as goal

pub returns-in-Ok-clause-books : goal.returns-in-Ok-clause-books
returns-in-Ok-clause-books g c =
    record { keeps = (c.in-Ok.ensures.books (g.met.M.Honest.always_clean c.in-Ok.books.conn.store)).0; day = c.in-Ok.ensures.day }

pub returns-in-Ok-clause-open : goal.returns-in-Ok-clause-open
returns-in-Ok-clause-open g c = (c.in-Ok.ensures.books (g.met.M.Honest.always_clean c.in-Ok.books.conn.store)).1
