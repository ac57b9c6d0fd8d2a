use Rattle.store.proofs.Words.{◌≡◌, OnOk, OnErr, rules, subst, state, State, HasCleanDisk, KeepsCommit, IsSettled, IsKnown}
use Rattle.store.proofs.ActsWhole.{begun_state}
use Rattle.store.proofs.FilesWhole.{FilesInside, FilesWhole, FileSurvives, file_finished, file_stopped}
use Rattle.store.proofs.KnownKept.{holds_begun, kept_finished, known_answered, settled_finished}
use Rattle.store.specs.declared.tally.RowFault.TheVariants.{Store}
use Rattle.store.proofs.filing.file_once.Goals as goal

pub returns-clause-filed : goal.returns-clause-filed
returns-clause-filed g c =
    let rows = c.args.rows.now in
    let old = state g.S.Store c.args.conn.now in
    let begun = state g.S.Store c.transaction-tx.result.conn.now in
    let last = state g.S.Store c.file_inside-filed.new.tx.conn.now in
    let new = state g.S.Store c.finish.new.tx.0 in
    let is = begun_state g.S.Store c.args.conn.now c.transaction-tx.result.conn.now c.transaction-tx.ensures.begun in
    let inside : FilesInside rows c.args.day c.file_inside-filed.result begun last = λ clean keys first acts history books.
    c.file_inside-filed.ensures.files.does.filed clean keys first acts history books (holds_begun old begun last new is c.file_inside-filed.ensures.files.survives c.args.known.now c.requires.known clean) in
    let whole : FilesWhole rows c.args.day c.finish.result old new =
    file_finished rows c.args.day old begun last new is c.file_inside-filed.result c.finish.result inside c.file_inside-filed.ensures.files.does.kept c.finish.ensures.survives c.finish.ensures.ends in
    subst (λ (s : State). FilesWhole rows c.args.day c.finish.result old s) (search rules) whole

pub returns-clause-survives : goal.returns-clause-survives
returns-clause-survives g c =
    let rows = c.args.rows.now in
    let old = state g.S.Store c.args.conn.now in
    let begun = state g.S.Store c.transaction-tx.result.conn.now in
    let last = state g.S.Store c.file_inside-filed.new.tx.conn.now in
    let new = state g.S.Store c.finish.new.tx.0 in
    let is = begun_state g.S.Store c.args.conn.now c.transaction-tx.result.conn.now c.transaction-tx.ensures.begun in
    let inside : FilesInside rows c.args.day c.file_inside-filed.result begun last = λ clean keys first acts history books.
    c.file_inside-filed.ensures.files.does.filed clean keys first acts history books (holds_begun old begun last new is c.file_inside-filed.ensures.files.survives c.args.known.now c.requires.known clean) in
    let whole : FileSurvives rows old new = file_stopped rows c.args.day old begun last new is c.file_inside-filed.result inside c.file_inside-filed.ensures.files.survives c.finish.ensures.survives in
    subst (λ (s : State). FileSurvives rows old s) (search rules) whole

pub returns-clause-as_before : goal.returns-clause-as_before
returns-clause-as_before g c =
    let old = state g.S.Store c.args.conn.now in
    let begun = state g.S.Store c.transaction-tx.result.conn.now in
    let last = state g.S.Store c.file_inside-filed.new.tx.conn.now in
    let new = state g.S.Store c.finish.new.tx.0 in
    let is = begun_state g.S.Store c.args.conn.now c.transaction-tx.result.conn.now c.transaction-tx.ensures.begun in
    let whole : HasCleanDisk new → OnErr c.finish.result (KeepsCommit old new) =
    kept_finished old begun last new is c.file_inside-filed.ensures.files.survives c.args.known.now c.requires.known c.finish.ensures.survives (λ _ e. e ≡ Store) c.file_inside-filed.result c.finish.result c.file_inside-filed.ensures.files.does.kept c.finish.ensures.ends in
    subst (λ (s : State). HasCleanDisk s → OnErr c.finish.result (KeepsCommit old s)) (search rules) whole

pub returns-clause-known : goal.returns-clause-known
returns-clause-known g c =
    let old = state g.S.Store c.args.conn.now in
    let begun = state g.S.Store c.transaction-tx.result.conn.now in
    let last = state g.S.Store c.file_inside-filed.new.tx.conn.now in
    let new = state g.S.Store c.finish.new.tx.0 in
    let is = begun_state g.S.Store c.args.conn.now c.transaction-tx.result.conn.now c.transaction-tx.ensures.begun in
    let whole : OnOk c.finish.result (IsKnown c.file_inside-filed.new.known new) =
    known_answered old begun last new is c.file_inside-filed.ensures.files.survives c.args.known.now c.requires.known c.finish.ensures.survives (λ _ e. e ≡ Store) c.file_inside-filed.result c.finish.result c.file_inside-filed.ensures.files.does.kept c.finish.ensures.ends
    c.file_inside-filed.new.known c.file_inside-filed.ensures.files.does.knows in
    subst (λ (s : State). OnOk c.finish.result (IsKnown c.file_inside-filed.new.known s)) (search rules) whole

pub returns-clause-settled : goal.returns-clause-settled
returns-clause-settled g c =
    let old = state g.S.Store c.args.conn.now in
    let begun = state g.S.Store c.transaction-tx.result.conn.now in
    let last = state g.S.Store c.file_inside-filed.new.tx.conn.now in
    let new = state g.S.Store c.finish.new.tx.0 in
    let is = begun_state g.S.Store c.args.conn.now c.transaction-tx.result.conn.now c.transaction-tx.ensures.begun in
    let whole : HasCleanDisk new → IsSettled new =
    settled_finished old begun last new is c.file_inside-filed.ensures.files.survives c.args.known.now c.requires.known c.finish.ensures.survives (λ _ e. e ≡ Store) c.file_inside-filed.result c.finish.result c.file_inside-filed.ensures.files.does.kept c.finish.ensures.ends
    c.file_inside-filed.new.known c.file_inside-filed.ensures.files.does.knows in
    subst (λ (s : State). HasCleanDisk s → IsSettled s) (search rules) whole
