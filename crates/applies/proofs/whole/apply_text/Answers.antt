use Rattle.applies.proofs.Words.{◌≡◌, ◌++◌, [], Ok, Err, refl, ap, sym, subst, inl, inr, ◌∙◌, err_from_is_err_and, survives_weaker, IsApplied, GoesOn, StopsAtLine, Line, Foreign}
use Rattle.applies.proofs.Texts.{told_on, told_weaker}
use Rattle.applies.proofs.Passed.{long_first}
use Rattle.applies.proofs.Walked.{own_fault, read_of}
use Rattle.applies.proofs.Wants.{of_want, want_told}
use Rattle.applies.proofs.Taken.{taken_none_of, taken_long_of}
use Rattle.applies.proofs.whole.apply_text.Goals as goal

pub returns-clause-applied : goal.returns-clause-applied
returns-clause-applied g c clean first acts history holds =
    c.apply_read.ensures.applied clean (g.R.Read.remaining c.args.reader) first acts history holds c.first_line.ensures.bytes
    (read_of c.in_ok-place.place c.first_line.new.line.items (g.R.Read.remaining c.args.reader) (g.R.Read.remaining c.first_line.new.reader) c.in_ok-place.ensures.place (λ e. c.in_ok-place.ensures.whole (ap Ok e)) (λ e. c.in_ok-place.ensures.part (ap Ok e)))

pub returns-clause-survives : goal.returns-clause-survives
returns-clause-survives g c =
    survives_weaker _ _ _ _ (λ clean trees p first acts history holds. p (g.R.Read.remaining c.args.reader) first acts history holds c.first_line.ensures.bytes
    (read_of c.in_ok-place.place c.first_line.new.line.items (g.R.Read.remaining c.args.reader) (g.R.Read.remaining c.first_line.new.reader) c.in_ok-place.ensures.place (λ e. c.in_ok-place.ensures.whole (ap Ok e)) (λ e. c.in_ok-place.ensures.part (ap Ok e)))) c.apply_read.ensures.survives

pub returns-in_err-place-clause-applied : goal.returns-in_err-place-clause-applied
returns-in_err-place-clause-applied g c clean first acts history holds =
    let left = g.R.Read.remaining c.args.reader in
    let books = c.args.books.now in
    let line = c.first_line.new.line.items in
    let (fault, is, same) = err_from_is_err_and c.from_residual.result c.from_residual.ensures.1 in
    rw is (rw same (elim c.in_err-place.ensures.long [
      | inl own ↦
          told_weaker left (λ text. GoesOn g.S.Store first first acts text (Err c.in_err-place.field-0.0) books) (λ text. IsApplied g.S.Store first acts text (Err c.in_err-place.field-0.0) books)
          (own_fault g.S.Store g.R.Read.remaining left first first acts history books holds c.in_err-place.field-0.0 (of_want c.in_err-place.field-0.0 own)) (λ text h. (first, record { history = history; tables = refl }, h))
      | inr long ↦
          told_on left (g.R.Read.remaining c.first_line.new.reader) line (λ text. IsApplied g.S.Store first acts text (Err c.in_err-place.field-0.0) books) c.first_line.ensures.bytes
          (λ rest. (
            first,
            record { history = history; tables = refl },
            record {
              newer = [];
              history = history;
              done = subst (λ f. StopsAtLine first first acts (line ++ rest) [] f) (sym long.0) (long_first first first acts line rest long.1 long.2);
              holds = holds;
              lasts = tt;
            },
          ))
    ]))

pub returns-clause-every : goal.returns-clause-every
returns-clause-every g c clean first acts history holds =
    c.apply_read.ensures.every clean (g.R.Read.remaining c.args.reader) first acts history holds c.first_line.ensures.bytes
    (read_of c.in_ok-place.place c.first_line.new.line.items (g.R.Read.remaining c.args.reader) (g.R.Read.remaining c.first_line.new.reader) c.in_ok-place.ensures.place (λ e. c.in_ok-place.ensures.whole (ap Ok e)) (λ e. c.in_ok-place.ensures.part (ap Ok e)))

pub returns-in_err-place-clause-every : goal.returns-in_err-place-clause-every
returns-in_err-place-clause-every g c clean first acts history holds =
    let left = g.R.Read.remaining c.args.reader in
    let books = c.args.books.now in
    let (fault, is, same) = err_from_is_err_and c.from_residual.result c.from_residual.ensures.1 in
    rw is (rw same (elim c.in_err-place.ensures.long [
      | inl own ↦ taken_none_of g.S.Store left first acts c.in_err-place.field-0.0 books (of_want c.in_err-place.field-0.0 own) holds
      | inr long ↦ taken_long_of g.S.Store left (g.R.Read.remaining c.first_line.new.reader) first acts c.first_line.new.line.items (Err c.in_err-place.field-0.0) books c.first_line.ensures.bytes long.1 long.2
    ]))

pub returns-clause-foreign : goal.returns-clause-foreign
returns-clause-foreign g c clean first acts history holds =
    c.apply_read.ensures.foreign clean (g.R.Read.remaining c.args.reader) first acts history holds c.first_line.ensures.bytes
    (read_of c.in_ok-place.place c.first_line.new.line.items (g.R.Read.remaining c.args.reader) (g.R.Read.remaining c.first_line.new.reader) c.in_ok-place.ensures.place (λ e. c.in_ok-place.ensures.whole (ap Ok e)) (λ e. c.in_ok-place.ensures.part (ap Ok e)))

pub returns-in_err-place-clause-foreign : goal.returns-in_err-place-clause-foreign
returns-in_err-place-clause-foreign g c clean first acts history holds =
    let (fault, is, same) = err_from_is_err_and c.from_residual.result c.from_residual.ensures.1 in
    rw is (rw same (elim c.in_err-place.ensures.long [
      | inl own ↦ want_told g.S.Store c.args.books.now c.in_err-place.field-0.0 own
      | inr long ↦ λ foreign. let no : Line 1 ≡ Foreign = sym long.0 ∙ foreign in absurd cc
    ]))
