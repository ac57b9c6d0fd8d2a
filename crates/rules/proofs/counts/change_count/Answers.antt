use Rattle.rules.proofs.Words.{corrections, count_changes, made_same}
use Rattle.rules.proofs.counts.change_count.Goals as goal

pub returns : goal.returns
returns c =
    let s = c.args.slice.now in
    let made = c.counted-made.result in
    let is = c.counted-made.ensures in
    made_same c.corrections.result (corrections s made.lot made.bin made.change) (count_changes s c.args.c.now) c.corrections.ensures
    (λ i. corrections s (is.lot i) (is.bin i) (is.change i))
