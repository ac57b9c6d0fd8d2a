use Rattle.service.proofs.books_lines.open_and_print.Goals as goal

pub returns-in-Ok-clause-printed : goal.returns-in-Ok-clause-printed
returns-in-Ok-clause-printed g c clean first acts history rows =
    let held = c.in-Ok.ensures.books (c.print_books.ensures.clean clean) first acts history rows in
    c.print_books.ensures.printed clean first acts history held.0

pub returns-in-Ok-clause-told : goal.returns-in-Ok-clause-told
returns-in-Ok-clause-told g c clean first acts history rows =
    let held = c.in-Ok.ensures.books (c.print_books.ensures.clean clean) first acts history rows in
    c.print_books.ensures.told clean first acts history held.0

pub returns-in-Ok-clause-clean : goal.returns-in-Ok-clause-clean
returns-in-Ok-clause-clean g c clean = c.in-Ok.ensures.clean (c.print_books.ensures.clean clean)
