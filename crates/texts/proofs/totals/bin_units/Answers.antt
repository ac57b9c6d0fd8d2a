use Rattle.std.proofs.Common.{arith}
use Rattle.texts.proofs.Looping.{total_more}
use Rattle.texts.proofs.totals.bin_units.Goals as goal

pub loop-bin-preserved : goal.loop-bin-preserved
loop-bin-preserved c =
    omega (arith, total_more (λ x. x.qty) c.args.bins.now c.loop-bin.bin-index c.bin-item.result c.bin-item.result (omega arith) c.bin-item.is, c.in_ok-units.ensures)
