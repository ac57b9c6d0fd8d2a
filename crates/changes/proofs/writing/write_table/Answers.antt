use Rattle.changes.proofs.Words.{◌≡◌, ℕ, List, Option, Result, sym, subst, state, State, TableFault, Writes, with_row, writes_first, repeats, Change, TableName, table_made}
use Rattle.changes.proofs.writing.write_table.Goals as goal

-- what is written to the table of this name
named : (c : Change) (filled : Option (List ℕ)) {m n : TableName} {old new : State} {r : Result (Unit {0}) TableFault} → m ≡ n → Writes (table_made c n filled) old new r → Writes (table_made c m filled) old new r
named c filled {m} {n} {old} {new} {r} is h = subst (λ (k : TableName). Writes (table_made c k filled) old new r) (sym is) h

pub returns-in-Items-clause-writes : goal.returns-in-Items-clause-writes
returns-in-Items-clause-writes g c = named c.args.change.now c.args.filled c.in-Items.is c.add_rows.ensures.writes

pub returns-in-Least-clause-writes : goal.returns-in-Least-clause-writes
returns-in-Least-clause-writes g c = named c.args.change.now c.args.filled c.in-Least.is c.put_rows.ensures.writes

pub returns-in-Bins-clause-writes : goal.returns-in-Bins-clause-writes
returns-in-Bins-clause-writes g c = named c.args.change.now c.args.filled c.in-Bins.is c.add_rows-in-Bins.ensures.writes

pub returns-in-Lots-clause-writes : goal.returns-in-Lots-clause-writes
returns-in-Lots-clause-writes g c = named c.args.change.now c.args.filled c.in-Lots.is c.put_rows-in-Lots.ensures.writes

pub returns-in-Recalls-clause-writes : goal.returns-in-Recalls-clause-writes
returns-in-Recalls-clause-writes g c = named c.args.change.now c.args.filled c.in-Recalls.is c.add_rows-in-Recalls.ensures.writes

pub returns-in-Stock-clause-writes : goal.returns-in-Stock-clause-writes
returns-in-Stock-clause-writes g c = named c.args.change.now c.args.filled c.in-Stock.is c.write_rows.ensures.writes

pub returns-in-Orders-clause-writes : goal.returns-in-Orders-clause-writes
returns-in-Orders-clause-writes g c = named c.args.change.now c.args.filled c.in-Orders.is c.put_rows-in-Orders.ensures.writes

pub returns-in-Urgents-clause-writes : goal.returns-in-Urgents-clause-writes
returns-in-Urgents-clause-writes g c = named c.args.change.now c.args.filled c.in-Urgents.is c.add_rows-in-Urgents.ensures.writes

pub returns-in-Shipments-clause-writes : goal.returns-in-Shipments-clause-writes
returns-in-Shipments-clause-writes g c = named c.args.change.now c.args.filled c.in-Shipments.is c.add_rows-in-Shipments.ensures.writes

pub returns-in-Shiplines-clause-writes : goal.returns-in-Shiplines-clause-writes
returns-in-Shiplines-clause-writes g c = named c.args.change.now c.args.filled c.in-Shiplines.is c.add_many_rows.ensures.writes

pub returns-in-Cards-clause-writes : goal.returns-in-Cards-clause-writes
returns-in-Cards-clause-writes g c = named c.args.change.now c.args.filled c.in-Cards.is c.add_many_rows-in-Cards.ensures.writes

pub returns-in-Meta-clause-writes : goal.returns-in-Meta-clause-writes
returns-in-Meta-clause-writes g c = named c.args.change.now c.args.filled c.in-Meta.is c.put.ensures.writes

pub returns-in-Repeats-clause-writes : goal.returns-in-Repeats-clause-writes
returns-in-Repeats-clause-writes g c = named c.args.change.now c.args.filled c.in-Repeats.is (writes_first (with_row repeats) (state g.S.Store c.args.tx.now.conn.now))
