use Rattle.house.proofs.Words.{◌≡◌, ◌⊎◌, List, ℕ, Some, subst, notice_shown, notice_text, no_memory, asked_answer, bytes_of, Tells}
use Rattle.house.proofs.LotShown.{written_told}
use Rattle.house.proofs.showing.show_notice.Goals as goal

pub returns-clause-shown : goal.returns-clause-shown
returns-clause-shown g c clean first acts history holds =
    let shown = notice_shown first acts c.args.lot.now in
    let old = c.args.books.now in
    let new = c.write_notice-text.new.books in
    let end = c.write_notice-text.result.1 in
    let written = c.write_notice-text.result.0.items in
    let bytes = bytes_of c.answer_shown.result in
    written_told g.S.Store first acts history notice_text shown old new end written bytes
    (subst (λ (none : List ℕ). Tells g.S.Store first acts notice_text shown old new (Some none) (Some written) end) c.new.ensures.items (c.write_notice-text.ensures.told clean first acts history holds))
    (subst (λ asked. (bytes ≡ asked_answer asked) ⊎ (bytes ≡ no_memory)) c.text_of.ensures c.answer_shown.ensures.told)

pub returns-clause-as_before : goal.returns-clause-as_before
returns-clause-as_before g c clean = c.write_notice-text.ensures.as_before clean
