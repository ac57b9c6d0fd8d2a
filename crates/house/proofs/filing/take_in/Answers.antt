use Rattle.house.proofs.Words.{◌≡◌, ◌≢◌, ◌∙◌, ap, sym, subst, Ok, All, codes, IsReceipt, today, file_read, state, as_before_itself, status_of}
use Rattle.house.proofs.FileTold.{read_today, not_taken, taken_in, receipts_have_keys}
use Rattle.house.proofs.Unanswered.{file_unanswered}
use Rattle.house.proofs.filing.take_in.Goals as goal

pub returns-in-Ok-clause-acted : goal.returns-in-Ok-clause-acted
returns-in-Ok-clause-acted g c clean first acts history holds =
    let rows = c.as_slice.result.now in
    let same : rows ≡ c.in-Ok.rows = c.as_slice.ensures in
    let keys = receipts_have_keys rows (subst (λ l. All IsReceipt l) (sym same) c.in-Ok.ensures.kinds) in
    let done = c.act_all-done.ensures in
    let read = ap (λ l. Ok l) same ∙ c.in-Ok.ensures.file (λ no. absurd (let it = no in cc)) (λ no. absurd (let it = no in cc)) in
    read_today g.S.Store first acts c.args.books.now c.args.file.now _ (Ok rows) _ _ read (c.day-today.ensures.value ∙ holds.day)
    (taken_in g.S.Store first acts c.args.books.now history holds rows c.act_all-done.new.self clean keys done.survives c.act_all-done.result _ c.tally_block.ensures (done.history keys first acts history)
    (done.filed clean keys first acts history holds) (done.kept clean keys first acts history holds))

pub returns-in-Err-clause-acted : goal.returns-in-Err-clause-acted
returns-in-Err-clause-acted g c clean first acts history holds =
    not_taken g.S.Store first acts c.args.books.now history holds (file_read (today first acts) c.args.file.now) c.in-Err.fault _ c.answer_file_fault.ensures
    (λ memory reader. c.in-Err.ensures.file (λ e. memory (let it = e in cc)) (λ e. reader (let it = e in cc)) ∙ ap (λ t. file_read t c.args.file.now) (c.day-today.ensures.value ∙ holds.day))

pub returns-in-Ok-clause-as_before : goal.returns-in-Ok-clause-as_before
returns-in-Ok-clause-as_before g c clean ne =
    file_unanswered c.act_all-done.result (state g.S.Store c.args.books.now.conn) (state g.S.Store c.act_all-done.new.self.conn) (c.act_all-done.ensures.as_before clean)
    (subst (λ b. status_of b ≢ codes "HTTP/1.1 200") c.tally_block.ensures ne)

pub returns-in-Err-clause-as_before : goal.returns-in-Err-clause-as_before
returns-in-Err-clause-as_before g c clean ne = as_before_itself (state g.S.Store c.args.books.now.conn)
