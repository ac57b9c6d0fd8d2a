use Rattle.rules.proofs.Words.{◌∙◌, ap, Option, pos, ◌+ℤ◌, LeastRow, is_past_row, days_in}
use Rattle.rules.proofs.expiring.Outs.is_out.Goals as goal

pub returns : goal.returns
returns c =
    let from = c.earliest_of-from.ensures ∙ ap (λ (row : Option LeastRow). c.args.self.now.day +ℤ pos (days_in row)) c.find.ensures in
    c.is_past.ensures ∙ (λ i. is_past_row (c.find-2.ensures i) (from i))
