use Rattle.rules.proofs.Words.{corrections, adjust_changes, made_same}
use Rattle.rules.proofs.counts.change_adjust.Goals as goal

pub returns : goal.returns
returns c =
    let s = c.args.slice.now in
    let made = c.adjusted-made.result in
    let is = c.adjusted-made.ensures in
    made_same c.corrections.result (corrections s made.lot made.bin made.change) (adjust_changes s c.args.a.now) c.corrections.ensures
    (λ i. corrections s (is.lot i) (is.bin i) (is.change i))
