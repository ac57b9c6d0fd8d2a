use Rattle.goodsin.proofs.Words.{◌≡◌, true, length, rules, arith, expected_len, fields_of}
use Rattle.goodsin.proofs.RowFacts.{is-receipt, other-row, row-judged, row-over, told-length}
use Rattle.goodsin.proofs.Steps.{begun}
use Rattle.goodsin.proofs.file.next_row.Goals as goal

pub returns-in-Err-clause-fault : goal.returns-in-Err-clause-fault
returns-in-Err-clause-fault g c = λ memory reader text before h.
    let why = c.in-Err.ensures.other reader memory text before h in
    rw why.0 (other-row c.args.today c.args.row text before (expected_len c.args.reader.now) c.requires.seven why.1)

pub returns-then-row-gt-ROWS_MAX-clause-fault : goal.returns-then-row-gt-ROWS_MAX-clause-fault
returns-then-row-gt-ROWS_MAX-clause-fault g c = λ memory reader text before h.
    let flag : c.in-Ok-true.field-0 ≡ true = search rules in
    let seven = told-length (expected_len c.args.reader.now) (length (fields_of c.next_record.new.fields)) c.requires.seven (c.in-Ok-true.ensures.length flag).0 in (
      fields_of c.next_record.new.fields,
      begun g.R.Read.remaining text _ c.next_record.new.reader (c.in-Ok-true.ensures.next flag text before h),
      row-over c.args.today c.args.row _ seven (omega arith),
    )

pub returns-in-Some-clause-kind : goal.returns-in-Some-clause-kind
returns-in-Some-clause-kind g c = is-receipt c.args.today (fields_of c.next_record.new.fields) c.in-Some.receipt c.in-Some.ensures

pub returns-in-Some-clause-row : goal.returns-in-Some-clause-row
returns-in-Some-clause-row g c = λ text before h.
    let flag : c.in-Ok-true.field-0 ≡ true = search rules in
    let seven = told-length (expected_len c.args.reader.now) (length (fields_of c.next_record.new.fields)) c.requires.seven (c.in-Ok-true.ensures.length flag).0 in (
      fields_of c.next_record.new.fields,
      c.in-Ok-true.ensures.next flag text before h,
      row-judged c.args.today c.args.row _ _ seven (omega arith) c.in-Some.ensures,
    )

pub returns-in-None-clause-fault : goal.returns-in-None-clause-fault
returns-in-None-clause-fault g c = λ memory reader text before h.
    let flag : c.in-Ok-true.field-0 ≡ true = search rules in
    let seven = told-length (expected_len c.args.reader.now) (length (fields_of c.next_record.new.fields)) c.requires.seven (c.in-Ok-true.ensures.length flag).0 in (
      fields_of c.next_record.new.fields,
      begun g.R.Read.remaining text _ c.next_record.new.reader (c.in-Ok-true.ensures.next flag text before h),
      row-judged c.args.today c.args.row _ _ seven (omega arith) c.in-None.ensures,
    )
