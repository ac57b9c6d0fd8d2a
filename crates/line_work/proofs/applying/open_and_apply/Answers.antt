use Rattle.line_work.proofs.applying.open_and_apply.Goals as goal

pub returns-in-Ok-clause-applied : goal.returns-in-Ok-clause-applied
returns-in-Ok-clause-applied g c clean first acts history rows =
    let held = c.in-Ok.ensures.books (c.apply_books.ensures.clean clean) first acts history rows in
    c.apply_books.ensures.applied clean first acts history held.0 held.1

pub returns-in-Ok-clause-told : goal.returns-in-Ok-clause-told
returns-in-Ok-clause-told g c clean first acts history rows =
    let held = c.in-Ok.ensures.books (c.apply_books.ensures.clean clean) first acts history rows in
    c.apply_books.ensures.told clean first acts history held.0 held.1

pub returns-in-Ok-clause-clean : goal.returns-in-Ok-clause-clean
returns-in-Ok-clause-clean g c clean = c.in-Ok.ensures.clean (c.apply_books.ensures.clean clean)
