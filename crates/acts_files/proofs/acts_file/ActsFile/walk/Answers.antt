use Rattle.acts_files.proofs.Words.{IsTrue, ◌++◌, [], List, append-nil, length, refl, sym, ap, subst, ◌∙◌, Act, IsHistory, HoldsBooks, ActsFile}
use Rattle.acts_files.proofs.Opens.{more_then, none_passed, whole_passed}
use Rattle.acts_files.proofs.Same.{same_then}
use Rattle.acts_files.proofs.Survive.{none_later}
use Rattle.acts_files.proofs.acts_file.ActsFile.walk.Goals as goal

pub returns-clause-walked : goal.returns-clause-walked
returns-clause-walked g c clean first acts history holds start =
    let s = g.S.Store in
    let d = g.D.Disk in
    let zero : ActsFile _ = record c.args.self.now { disk = c.file_len.new.disk } in
    let begun = c.args.self.now.day in
    let mid = c.pass.new.self in
    let soon = c.pass-2.ensures.clean clean in
    let a = c.in_ok-all.ensures.all (c.pass.ensures.clean soon) first acts history holds in
    let nil = sym (append-nil acts) in
    let measured = λ (now : IsTrue (d.is_clean c.file_len.new.disk)). c.in_ok-size.ensures.len now ∙ ap length (sym c.file_len.ensures.same.seen) in
    let one = c.in_ok-pass.ensures.passed soon first begun acts [] (subst (IsHistory first) nil history) (subst (λ (l : List Act). HoldsBooks s first l c.acts_of.new.books) nil a.0) (a.1 ∙ ap length nil) (none_passed d begun zero start.0 start.1 refl) measured in
    let whole = whole_passed d begun acts [] mid one.1.more in
    let same = c.pass.ensures.same in
    let two = c.in_ok-pass-2.ensures.passed clean first begun one.1.more.later (one.1.more.passed ++ []) (subst (IsHistory first) (nil ∙ whole) history) (subst (λ (l : List Act). HoldsBooks s first l c.pass.new.books) whole one.0) (a.1 ∙ ap length (nil ∙ whole)) one.1.more.has
    (λ now. measured (same.clean now) ∙ ap length (sym same.seen)) in (
      subst (λ (l : List Act). HoldsBooks s first l c.pass-2.new.books) (sym (nil ∙ whole)) two.0,
      (a.1, more_then d begun acts [] mid c.pass-2.new.self 1 1_000 one.1 two.1),
    )

pub returns-clause-same : goal.returns-clause-same
returns-clause-same g c = same_then g.D.Disk _ _ _ (same_then g.D.Disk _ _ _ c.file_len.ensures.same c.pass.ensures.same) c.pass-2.ensures.same

pub returns-clause-measured : goal.returns-clause-measured
returns-clause-measured g c clean =
    let one = c.pass.ensures.same in
    let two = c.pass-2.ensures.same in
    c.in_ok-size.ensures.len (one.clean (two.clean clean)) ∙ ap length (sym (two.seen ∙ one.seen ∙ c.file_len.ensures.same.seen))

pub returns-clause-survives : goal.returns-clause-survives
returns-clause-survives g c =
    let s = g.S.Store in
    none_later s c.args.books.now c.pass.new.books c.pass-2.new.books (none_later s c.args.books.now c.acts_of.new.books c.pass.new.books c.acts_of.ensures.survives c.pass.ensures.survives (λ clean first acts history holds. (c.acts_of.ensures.all clean first acts history holds).0))
    c.pass-2.ensures.survives (λ clean first acts history holds. c.pass.ensures.holds clean first acts history (c.acts_of.ensures.all (c.pass.ensures.clean clean) first acts history holds).0)
