use Rattle.audits.proofs.Words.{state, Lower, Upper, SameHalf}
use Rattle.audits.proofs.InHalves.{both_alike, halves_alike}
use Rattle.audits.proofs.halves.halves_alike.Goals as goal

pub returns-in-Ok-true-clause-tells : goal.returns-in-Ok-true-clause-tells
returns-in-Ok-true-clause-tells g c =
    let d = g.T.Table.table in
    let middle = c.args.middle.now in
    let o = state g.S.Store c.args.books.now.conn.now in
    let m = state g.S.Store c.half_alike.new.books.conn.now in
    let n = state g.S.Store c.half_alike-in-Ok-true.new.books.conn.now in
    let b = state g.M.Store c.args.replayed.now.conn.now in
    let e = state g.M.Store c.half_alike.new.replayed.conn.now in
    let f = state g.M.Store c.half_alike-in-Ok-true.new.replayed.conn.now in
    let r = c.half_alike-in-Ok-true.result in
    halves_alike d g.met.T.Table.laws g.T.Entire.table_name g.met.T.Entire.compared_laws.alike middle o n b f r
    (both_alike (SameHalf d Lower middle) o m b e c.in-Ok-true.field-0 c.in-Ok-true.ensures.tells (SameHalf d Upper middle) n f r c.in-Ok-true.field-0-test c.half_alike-in-Ok-true.ensures.tells)
