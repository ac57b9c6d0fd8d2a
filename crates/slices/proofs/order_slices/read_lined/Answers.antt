use Rattle.slices.proofs.Words.{◌≡◌, inl, inr, [], sym, ◌∙◌, arith, eqb-true, nil_from_length}
use Rattle.slices.proofs.ReadSteps.{has_read, fails_first, fails_later}
use Rattle.slices.proofs.KnowingSteps.{and_known, known_told}
use Rattle.slices.proofs.LinedOrders.{no_lines}
use Rattle.slices.proofs.order_slices.read_lined.Goals as goal

pub returns-in_err-lines-clause-read : goal.returns-in_err-lines-clause-read
returns-in_err-lines-clause-read g c = fails_first c.from_residual.ensures c.in_err-lines.ensures.read

pub returns-in_err-orders-clause-read : goal.returns-in_err-orders-clause-read
returns-in_err-orders-clause-read g c = fails_later (has_read c.in_ok-lines.ensures.read) c.from_residual-in_err-orders.ensures c.in_err-orders.ensures.read

pub returns-then-is_empty-clause-read : goal.returns-then-is_empty-clause-read
returns-then-is_empty-clause-read g c =
    let lines = c.in_ok-lines.lines in
    let none : lines.items ≡ [] = nil_from_length lines.items (omega (arith, lines.ok.0, eqb-true lines.len 0 (sym c.is_empty.ensures ∙ c.if-is_empty.true))) in
    known_told c.in_ok-lines.ensures.read (λ t h. (inl (c.new.ensures.items, no_lines c.args.order.now t lines.items h none), h))

pub returns-clause-read : goal.returns-clause-read
returns-clause-read g c = known_told (and_known c.in_ok-lines.ensures.read c.in_ok-orders.ensures.read) (λ t h. (inr h.1, h.0))
