use Rattle.store.proofs.Words.{[], Err, ap, sym, ◌∙◌, rules, state, TableForeign as ForeignTable, AreBooks, fault_of}
use Rattle.books_schema.specs.declared.ready_connection.Leftover.TheVariants as left
use Rattle.store.proofs.ActsWhole.{kept_acts}
use Rattle.store.proofs.BooksWhole.{known_unread, settled_books}
use Rattle.store.proofs.OpenedBooks.{foreign_if, same_err, either_told, unlimited_books, unlimited_survives}
use Rattle.store.proofs.books.Books.create.Goals as goal

pub returns-clause-books : goal.returns-clause-books
returns-clause-books g c = unlimited_books g.S.Store c.make_tables.new.conn c.set_step_limit.new.self c.args.day c.set_step_limit.ensures c.in-Ok.ensures.made

pub returns-clause-survives : goal.returns-clause-survives
returns-clause-survives g c = unlimited_survives g.S.Store c.args.conn c.make_tables.new.conn c.set_step_limit.new.self (AreBooks c.args.day []) c.set_step_limit.ensures c.make_tables.ensures.survives

pub returns-in-Err-clause-foreign : goal.returns-in-Err-clause-foreign
returns-in-Err-clause-foreign g c =
    (λ is. c.in-Err.ensures.foreign.0 (ap (λ e. Err e) (foreign_if c.in-Err.fault (sym c.from.ensures ∙ is))), λ other. c.from.ensures ∙ ap fault_of (same_err c.in-Err.fault ForeignTable (c.in-Err.ensures.foreign.1 other)))

pub returns-in-Err-clause-unchanged : goal.returns-in-Err-clause-unchanged
returns-in-Err-clause-unchanged g c is = ap (λ h. left.Connection h) (c.in-Err.ensures.unchanged (ap (λ e. Err e) (foreign_if c.in-Err.fault (sym c.from.ensures ∙ is))))

pub returns-in-Err-clause-left : goal.returns-in-Err-clause-left
returns-in-Err-clause-left g c = let made = c.in-Err.ensures in record { outside = made.outside; tables = made.failed; settled = made.settled; survives = made.survives }

pub returns-in-Err-clause-fault : goal.returns-in-Err-clause-fault
returns-in-Err-clause-fault g c = either_told c.in-Err.fault c.from.result c.from.ensures

pub invariant_of-result : goal.invariant_of-result
invariant_of-result g c = (
  search rules,
  known_unread (state g.S.Store c.set_step_limit.new.self)
      (λ clean. settled_books c.args.day [] (state g.S.Store c.set_step_limit.new.self) (unlimited_books g.S.Store c.make_tables.new.conn c.set_step_limit.new.self c.args.day c.set_step_limit.ensures c.in-Ok.ensures.made clean).0),
)

pub returns-clause-settled : goal.returns-clause-settled
returns-clause-settled g c clean =
    settled_books c.args.day [] (state g.S.Store c.set_step_limit.new.self) (unlimited_books g.S.Store c.make_tables.new.conn c.set_step_limit.new.self c.args.day c.set_step_limit.ensures c.in-Ok.ensures.made clean).0

pub returns-clause-kept : goal.returns-clause-kept
returns-clause-kept g c clean =
    let made = unlimited_books g.S.Store c.make_tables.new.conn c.set_step_limit.new.self c.args.day c.set_step_limit.ensures c.in-Ok.ensures.made clean in
    kept_acts g.S.Store c.set_step_limit.new.self c.args.day [] (g.met.S.Store.settled c.set_step_limit.new.self.store) made.1 made.0
