use Rattle.goodsin.proofs.Words.{◌∙◌, [], sym, fields_of}
use Rattle.std.proofs.lemmas.Result.{err_from_is_err_and}
use Rattle.goodsin.proofs.FileFacts.{no-header, other-header, unexpected}
use Rattle.goodsin.proofs.Steps.{begun}
use Rattle.goodsin.proofs.file.read_header.Goals as goal
use Rattle.goodsin.proofs.file.read_header.Goals.{else-branch-via-then-branch+else-is_header, else-branch-via-else-branch}

pub returns-then-is_header-clause-header : goal.returns-then-is_header-clause-header
returns-then-is_header-clause-header g c = λ text h.
    (fields_of c.next_record.new.fields, c.in_ok-next_record.ensures.next c.if-branch.true text [] h, sym c.is_header.ensures ∙ c.if-is_header.true)

pub returns-else-branch-clause-fault : goal.returns-else-branch-clause-fault
returns-else-branch-clause-fault g c = λ memory reader text today h.
    elim c.else-branch.branch [
      | else-branch-via-then-branch+else-is_header w ↦
          other-header today text (fields_of c.next_record.new.fields)
          (begun g.R.Read.remaining text _ c.next_record.new.reader (c.in_ok-next_record.ensures.next w.if-branch.true text [] h)) (sym w.is_header.ensures ∙ w.if-is_header.false)
      | else-branch-via-else-branch w ↦ no-header today text (c.in_ok-next_record.ensures.end w.if-branch.false text [] h)
    ]

pub returns-in_err-next_record-clause-fault : goal.returns-in_err-next_record-clause-fault
returns-in_err-next_record-clause-fault g c =
    let (fault, is, same) = err_from_is_err_and c.from_residual.result c.from_residual.ensures.1 in
    rw is (rw same (λ memory reader text today h. unexpected _ text [] c.requires.first (c.in_err-next_record.ensures.other reader memory text [] h).1))
