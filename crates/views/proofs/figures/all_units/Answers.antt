use Rattle.views.proofs.Words.{ap, sym, arith, total_more}
use Rattle.views.proofs.figures.all_units.Goals as goal

pub loop-row-preserved : goal.loop-row-preserved
loop-row-preserved g c =
    let one = ap g.T.HasUnits.units (sym c.row-item.is) in
    omega (arith, total_more g.T.HasUnits.units c.args.rows.now c.loop-row.row-index c.row-item.result c.loop-row-test.true, c.loop-row.invariant, c.in_ok-units.ensures, c.units.ensures, one)
