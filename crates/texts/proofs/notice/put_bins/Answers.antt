use Rattle.texts.proofs.Words.{flat_map, arith, bin_line}
use Rattle.texts.proofs.Beginnings.{cut_at}
use Rattle.texts.proofs.Looping.{step_written, step_cut}
use Rattle.texts.proofs.notice.put_bins.Goals as goal

pub returns-in_err-put_bin : goal.returns-in_err-put_bin
returns-in_err-put_bin g c =
    let at = g.W.Write.contents in
    let all = c.args.bins.now in
    cut_at c.from_residual.result (at c.args.out.now) (at c.put_bin.new.out) (flat_map bin_line all) c.from_residual.ensures.0
    (step_cut bin_line all c.loop-units.units-index c.units-item.result c.units-item.result (at c.args.out.now) (at c.loop-units.out) (at c.put_bin.new.out) (omega arith) c.units-item.is c.loop-units.invariant c.in_err-put_bin.ensures)

pub loop-units-preserved : goal.loop-units-preserved
loop-units-preserved g c =
    let at = g.W.Write.contents in
    step_written bin_line c.args.bins.now c.loop-units.units-index c.units-item.result c.units-item.result (at c.args.out.now) (at c.loop-units.out) (at c.put_bin.new.out) (omega arith) c.units-item.is c.loop-units.invariant c.in_ok-put_bin.ensures
