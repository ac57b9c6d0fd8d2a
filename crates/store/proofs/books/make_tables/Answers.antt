use Rattle.store.proofs.Words.{[], state, AreBooks}
use Rattle.store.proofs.EmptyTables.{rows_are, books_made, survives_both}
use Rattle.store.proofs.books.make_tables.Goals as goal

pub returns-clause-made : goal.returns-clause-made
returns-clause-made g c clean =
    let made = c.create.ensures in
    books_made c.create.result c.args.day c.returns.result (state g.S.Store c.create.new.conn) c.returns.ensures (made.open clean) (made.ready clean) (made.tables clean) (made.typed clean) (made.settled clean)

pub returns-clause-survives : goal.returns-clause-survives
returns-clause-survives g c =
    survives_both (state g.S.Store c.args.conn.now) (state g.S.Store c.create.new.conn) _ _ (AreBooks c.args.day [])
    (λ db made tells. record { rows = rows_are c.args.day c.returns.result db c.returns.ensures made.0 made.1; schema = tells }) c.create.ensures.survives c.create.ensures.tells
