use Rattle.service.proofs.Words.{ap, notice_shown, notice_text}
use Rattle.service.proofs.Printing.{printed_back}
use Rattle.service.proofs.lot_texts.print_notice.Goals as goal

pub returns-clause-printed : goal.returns-clause-printed
returns-clause-printed g c clean first acts history holds =
    let at = g.W.Write.contents in
    let w = c.write_notice-lent in
    printed_back g.S.Store first acts notice_text (notice_shown first acts c.args.lot.now) c.args.books.now w.new.books _ w.result.0.out.ghost_name (at c.args.out.now) (at w.result.0.out.now) _
    (λ e. ap at (c.out-1.given.1 e)) w.result.1 c.print_result.result (w.ensures.told clean first acts history holds) c.print_result.ensures
