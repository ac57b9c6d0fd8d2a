use Rattle.texts.proofs.Words.{◌≡◌, take, total}
use Rattle.texts.proofs.totals.bin_units.Given as goal

abbrev pub invariant-loop-bin : goal.invariant-loop-bin
invariant-loop-bin l = l.units ≡ total (λ s. s.qty) (take l.bin-index l.bins)
