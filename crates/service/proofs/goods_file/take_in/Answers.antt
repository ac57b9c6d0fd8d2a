use Rattle.service.proofs.Words.{◌≡◌, ◌∙◌, sym, subst, inl, All, IsReceipt, receipts_have_keys, AreRead}
use Rattle.service.proofs.Importing.{read_as, fault_as, leaves_file, taken_by}
use Rattle.service.proofs.goods_file.take_in.Goals as goal

pub returns-in-Ok-clause-taken : goal.returns-in-Ok-clause-taken
returns-in-Ok-clause-taken g c clean first acts history holds =
    let from = g.R.Read.remaining c.args.file in
    let rows = c.as_slice.result.now in
    let same : rows ≡ c.in-Ok.rows = c.as_slice.ensures in
    let keys = receipts_have_keys rows (subst (λ l. All IsReceipt l) (sym same) c.in-Ok.ensures.kinds) in
    let done = c.act_all-done.ensures in
    let read = read_as g.S.Store first acts from _ c.in-Ok.rows (c.day-today.ensures.value ∙ holds.day) c.in-Ok.ensures.file in
    taken_by g.S.Store first acts from c.act_all-done.new.self rows c.act_all-done.result c.import_result.result
    (subst (λ l. AreRead g.S.Store first acts from l) (sym same) read)
    (done.history keys first acts history) (done.filed clean keys first acts history holds) (done.kept clean keys first acts history holds) c.import_result.ensures

pub returns-in-Err-clause-taken : goal.returns-in-Err-clause-taken
returns-in-Err-clause-taken g c clean first acts history holds =
    (fault_as g.S.Store first acts (g.R.Read.remaining c.args.file) _ c.in-Err.fault (c.day-today.ensures.value ∙ holds.day) c.in-Err.ensures.file, holds)

pub returns-in-Ok-clause-leaves : goal.returns-in-Ok-clause-leaves
returns-in-Ok-clause-leaves g c clean first acts history holds leaves =
    let rows = c.as_slice.result.now in
    let same : rows ≡ c.in-Ok.rows = c.as_slice.ensures in
    let keys = receipts_have_keys rows (subst (λ l. All IsReceipt l) (sym same) c.in-Ok.ensures.kinds) in
    let done = c.act_all-done.ensures in
    let from = g.R.Read.remaining c.args.file in
    let read = read_as g.S.Store first acts from _ c.in-Ok.rows (c.day-today.ensures.value ∙ holds.day) c.in-Ok.ensures.file in
    leaves_file g.S.Store first acts from c.args.books.now c.act_all-done.new.self rows (subst (λ l. AreRead g.S.Store first acts from l) (sym same) read) clean keys history holds (done.history keys first acts history) done.survives leaves

pub returns-in-Err-clause-leaves : goal.returns-in-Err-clause-leaves
returns-in-Err-clause-leaves g c clean first acts history holds leaves trees left = inl (leaves trees left)
