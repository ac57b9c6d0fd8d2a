use Rattle.command_line.proofs.LineRead.{is_line}
use Rattle.command_line.proofs.words.line_found.Goals as goal

pub returns-in-Some-label-default : goal.returns-in-Some-label-default
returns-in-Some-label-default c =
    let arm = c.in-Some-label-default in
    is_line c.args.matches.now _ _ arm.field-0-0.now c.label_line.result arm.is-label arm.ensures.name arm.ensures.rows c.label_line.ensures

pub returns-in-Some-init-default : goal.returns-in-Some-init-default
returns-in-Some-init-default c =
    let arm = c.in-Some-init-default in
    is_line c.args.matches.now _ _ arm.field-0-0.now c.init_line.result arm.is-init arm.ensures.name arm.ensures.rows c.init_line.ensures

pub returns-in-Some-serve-default : goal.returns-in-Some-serve-default
returns-in-Some-serve-default c =
    let arm = c.in-Some-serve-default in
    is_line c.args.matches.now _ _ arm.field-0-0.now c.serve_line.result arm.is-serve arm.ensures.name arm.ensures.rows c.serve_line.ensures

pub returns-in-Some-import-default : goal.returns-in-Some-import-default
returns-in-Some-import-default c =
    let arm = c.in-Some-import-default in
    is_line c.args.matches.now _ _ arm.field-0-0.now c.import_line.result arm.is-import arm.ensures.name arm.ensures.rows c.import_line.ensures

pub returns-in-Some-card-default : goal.returns-in-Some-card-default
returns-in-Some-card-default c =
    let arm = c.in-Some-card-default in
    is_line c.args.matches.now _ _ arm.field-0-0.now c.card_line.result arm.is-card arm.ensures.name arm.ensures.rows c.card_line.ensures

pub returns-in-Some-notice-default : goal.returns-in-Some-notice-default
returns-in-Some-notice-default c =
    let arm = c.in-Some-notice-default in
    is_line c.args.matches.now _ _ arm.field-0-0.now c.notice_line.result arm.is-notice arm.ensures.name arm.ensures.rows c.notice_line.ensures

pub returns-in-Some-history-default : goal.returns-in-Some-history-default
returns-in-Some-history-default c =
    let arm = c.in-Some-history-default in
    is_line c.args.matches.now _ _ arm.field-0-0.now c.history_line.result arm.is-history arm.ensures.name arm.ensures.rows c.history_line.ensures

pub returns-in-Some-audit-default : goal.returns-in-Some-audit-default
returns-in-Some-audit-default c =
    let arm = c.in-Some-audit-default in
    is_line c.args.matches.now _ _ arm.field-0-0.now c.audit_line.result arm.is-audit arm.ensures.name arm.ensures.rows c.audit_line.ensures

pub returns-in-Some-apply-default : goal.returns-in-Some-apply-default
returns-in-Some-apply-default c =
    let arm = c.in-Some-apply-default in
    is_line c.args.matches.now _ _ arm.field-0-0.now c.apply_line.result arm.is-apply arm.ensures.name arm.ensures.rows c.apply_line.ensures
