use Rattle.whole_tables.proofs.Parting.{alike, first_other, if_some}
use Rattle.whole_tables.proofs.differing.first_difference.Goals as goal

pub returns-clause-none : goal.returns-clause-none
returns-clause-none g c = λ mine theirs none.
    let d = g.T.Table.table in
    let it = g.met.T.Entire.compared_laws in
    alike g.T.Entire.order it.total d.same it.same_is g.met.T.Table.laws.one_key d.key c.args.mine.now c.args.theirs.now c.sort.new.rows c.sort-2.new.rows
    mine theirs c.sort.ensures.permutation c.sort-2.ensures.permutation c.sort.ensures.sorted c.sort-2.ensures.sorted (c.first_apart.ensures.none none)

pub returns-clause-some : goal.returns-clause-some
returns-clause-some g c = λ mine theirs.
    let d = g.T.Table.table in
    let it = g.met.T.Entire.compared_laws in
    if_some c.first_apart.result _ _ (λ row h. (
      h.0,
      h.1,
      first_other g.T.Entire.order it.total d.same it.same_is g.met.T.Table.laws.one_key d.key c.args.mine.now c.args.theirs.now c.sort.new.rows c.sort-2.new.rows h.0
          mine theirs c.sort.ensures.permutation c.sort-2.ensures.permutation c.sort.ensures.sorted c.sort-2.ensures.sorted h.2,
    )) c.first_apart.ensures.some
