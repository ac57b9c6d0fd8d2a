use Rattle.acts_files.proofs.Words.{◌++◌, [], List, append-nil, length, sym, ap, subst, ◌∙◌, err_from_is_err_and, on_err_weaker, on_ok_weaker, IfErr-weaker, Act, IsHistory, HoldsBooks, KeepsActs, LeavesOldest}
use Rattle.acts_files.proofs.Chunks.{on_ok_any, whole_of}
use Rattle.acts_files.proofs.Left.{left_from, left_lacking, left_same, on_err_any}
use Rattle.acts_files.proofs.Opens.{not_opened_as, not_told, opened_as, whole_passed}
use Rattle.acts_files.proofs.Same.{keeps_from, keeps_loses, keeps_on, loses_from, loses_none}
use Rattle.acts_files.proofs.Survive.{none_later}
use Rattle.acts_files.proofs.acts_file.ActsFile.open.Goals as goal

pub returns-clause-kept : goal.returns-clause-kept
returns-clause-kept g c clean first acts history holds start =
    let s = g.S.Store in
    let d = g.D.Disk in
    let begun = c.args.self.now.day in
    let mid = c.walk.new.self in
    let put = c.put_right.new.self in
    let soon = c.bring_up.ensures.clean clean in
    let was = c.put_right.ensures.clean soon in
    let w = c.in_ok-found.ensures.walked was first acts history holds start in
    let h = w.1.1 in
    let older = h.more.passed ++ [] in
    let is = sym (append-nil acts) ∙ whole_passed d begun acts [] mid h.more in
    let low = c.in_ok-found.ensures.within start.0 in
    let p = c.in_ok-put_right.ensures.put soon first begun h.more.later older (subst (IsHistory first) is history) (subst (λ (l : List Act). HoldsBooks s first l c.walk.new.books) is w.0) (w.1.0 ∙ ap length is) h.more.has h.end c.in_ok-found.ensures.measured low in
    let k = p.1.keeps in
    let all = is ∙ whole_of d begun h.more.later older put k in
    let up = c.bring_up.ensures.kept clean first begun k.later (k.added ++ older) (subst (IsHistory first) all history) (subst (λ (l : List Act). HoldsBooks s first l c.put_right.new.books) (whole_of d begun h.more.later older put k) p.0) k.keeps in (
      subst (λ (l : List Act). HoldsBooks s first l c.bring_up.new.books) (sym all) up.0,
      on_ok_weaker c.bring_up.result
          (λ keeps. opened_as d begun acts h.more.later older is c.args.self.now.disk mid c.walk.ensures.same h.more.has put c.bring_up.new.self p.1 c.put_right.ensures.calm c.bring_up.ensures.loses.clean
          (subst (λ (l : List Act). KeepsActs d begun l c.bring_up.new.self) (sym all) keeps)) up.1,
      IfErr-weaker c.bring_up.result _ _ (λ f none. not_told d begun acts c.args.self.now.disk c.bring_up.new.self.disk f f none) c.bring_up.ensures.fault,
    )

pub returns-in_err-put_right-clause-kept : goal.returns-in_err-put_right-clause-kept
returns-in_err-put_right-clause-kept g c clean first acts history holds start =
    let s = g.S.Store in
    let d = g.D.Disk in
    let begun = c.args.self.now.day in
    let mid = c.walk.new.self in
    let was = c.put_right.ensures.clean clean in
    let w = c.in_ok-found.ensures.walked was first acts history holds start in
    let h = w.1.1 in
    let older = h.more.passed ++ [] in
    let is = sym (append-nil acts) ∙ whole_passed d begun acts [] mid h.more in
    let low = c.in_ok-found.ensures.within start.0 in
    let p = c.in_err-put_right.ensures.put clean first begun h.more.later older (subst (IsHistory first) is history) (subst (λ (l : List Act). HoldsBooks s first l c.walk.new.books) is w.0) (w.1.0 ∙ ap length is) h.more.has h.end c.in_ok-found.ensures.measured low in
    let (fault, told, same) = err_from_is_err_and c.from_residual-in_err-put_right.result c.from_residual-in_err-put_right.ensures.1 in
    rw told (rw same (
      subst (λ (l : List Act). HoldsBooks s first l c.put_right.new.books) (sym is) p.0,
      tt,
      not_opened_as d begun acts h.more.later older is c.args.self.now.disk mid c.walk.ensures.same h.more.has c.put_right.new.self c.in_err-put_right.field-0.0 c.in_err-put_right.field-0.0 p.2,
    ))

pub returns-in_err-found-clause-kept : goal.returns-in_err-found-clause-kept
returns-in_err-found-clause-kept g c clean first acts history holds start =
    let (fault, told, same) = err_from_is_err_and c.from_residual.result c.from_residual.ensures.1 in
    rw told (rw same (
      (c.in_err-found.ensures.walked clean first acts history holds start).0,
      tt,
      not_told g.D.Disk c.args.self.now.day acts c.args.self.now.disk c.walk.new.self.disk c.in_err-found.field-0.0 c.in_err-found.field-0.0 c.in_err-found.ensures.fault,
    ))

pub returns-clause-lines : goal.returns-clause-lines
returns-clause-lines g c zero =
    let d = g.D.Disk in
    let put = c.in_ok-put_right.ensures.lines (c.in_ok-found.ensures.within zero) c.in_ok-found.ensures.measured in
    on_ok_any c.bring_up.result (keeps_from d c.args.self.now.disk c.walk.new.self.disk c.bring_up.new.self c.walk.ensures.same (keeps_on d c.walk.new.self.disk c.put_right.new.self c.bring_up.new.self put c.bring_up.ensures.loses))

pub returns-clause-loses : goal.returns-clause-loses
returns-clause-loses g c zero =
    let d = g.D.Disk in
    let put = c.in_ok-put_right.ensures.lines (c.in_ok-found.ensures.within zero) c.in_ok-found.ensures.measured in
    keeps_loses d c.args.self.now.disk c.bring_up.new.self (keeps_from d c.args.self.now.disk c.walk.new.self.disk c.bring_up.new.self c.walk.ensures.same (keeps_on d c.walk.new.self.disk c.put_right.new.self c.bring_up.new.self put c.bring_up.ensures.loses))

pub returns-in_err-put_right-clause-loses : goal.returns-in_err-put_right-clause-loses
returns-in_err-put_right-clause-loses g c zero =
    loses_from g.D.Disk c.args.self.now.disk c.walk.new.self.disk c.put_right.new.self.disk c.walk.ensures.same (c.put_right.ensures.loses (c.in_ok-found.ensures.within zero) c.in_ok-found.ensures.measured)

pub returns-in_err-found-clause-loses : goal.returns-in_err-found-clause-loses
returns-in_err-found-clause-loses g c zero = loses_none g.D.Disk c.args.self.now.disk c.walk.new.self.disk c.walk.ensures.same

pub returns-in_err-put_right-clause-survives : goal.returns-in_err-put_right-clause-survives
returns-in_err-put_right-clause-survives g c =
    none_later g.S.Store c.args.books.now c.walk.new.books c.put_right.new.books c.walk.ensures.survives c.put_right.ensures.survives c.walk.ensures.holds

pub returns-clause-survives : goal.returns-clause-survives
returns-clause-survives g c =
    let s = g.S.Store in
    none_later s c.args.books.now c.put_right.new.books c.bring_up.new.books (none_later s c.args.books.now c.walk.new.books c.put_right.new.books c.walk.ensures.survives c.put_right.ensures.survives c.walk.ensures.holds) c.bring_up.ensures.survives
    (λ clean first acts history holds. c.put_right.ensures.holds clean first acts history (c.walk.ensures.holds (c.put_right.ensures.clean clean) first acts history holds))

pub returns-in_err-found-clause-leaves : goal.returns-in_err-found-clause-leaves
returns-in_err-found-clause-leaves g c clean first acts history holds start =
    on_err_any c.from_residual.result (left_same g.D.Disk c.args.self.now.day acts c.args.self.now.disk c.walk.new.self.disk c.walk.ensures.same)

pub returns-in_err-put_right-clause-leaves : goal.returns-in_err-put_right-clause-leaves
returns-in_err-put_right-clause-leaves g c clean first acts history holds start =
    let s = g.S.Store in
    let d = g.D.Disk in
    let begun = c.args.self.now.day in
    let mid = c.walk.new.self in
    let w = c.in_ok-found.ensures.walked (c.put_right.ensures.clean clean) first acts history holds start in
    let h = w.1.1 in
    let older = h.more.passed ++ [] in
    let is = sym (append-nil acts) ∙ whole_passed d begun acts [] mid h.more in
    let left = c.in_err-put_right.ensures.leaves clean first begun h.more.later older (subst (IsHistory first) is history) (subst (λ (l : List Act). HoldsBooks s first l c.walk.new.books) is w.0) (w.1.0 ∙ ap length is) h.more.has c.in_ok-found.ensures.measured (c.in_ok-found.ensures.within start.0) in
    on_err_any c.from_residual-in_err-put_right.result
    (left_from d begun acts c.args.self.now.disk mid.disk c.put_right.new.self.disk c.walk.ensures.same (subst (λ (l : List Act). LeavesOldest d begun l mid.disk c.put_right.new.self.disk) (sym is) left))

pub returns-clause-leaves : goal.returns-clause-leaves
returns-clause-leaves g c clean first acts history holds start =
    let s = g.S.Store in
    let d = g.D.Disk in
    let begun = c.args.self.now.day in
    let mid = c.walk.new.self in
    let put = c.put_right.new.self in
    let soon = c.bring_up.ensures.clean clean in
    let w = c.in_ok-found.ensures.walked (c.put_right.ensures.clean soon) first acts history holds start in
    let h = w.1.1 in
    let older = h.more.passed ++ [] in
    let is = sym (append-nil acts) ∙ whole_passed d begun acts [] mid h.more in
    let p = c.in_ok-put_right.ensures.put soon first begun h.more.later older (subst (IsHistory first) is history) (subst (λ (l : List Act). HoldsBooks s first l c.walk.new.books) is w.0) (w.1.0 ∙ ap length is) h.more.has h.end c.in_ok-found.ensures.measured (c.in_ok-found.ensures.within start.0) in
    let k = p.1.keeps in
    let all = is ∙ whole_of d begun h.more.later older put k in
    let up = c.bring_up.ensures.kept clean first begun k.later (k.added ++ older) (subst (IsHistory first) all history) (subst (λ (l : List Act). HoldsBooks s first l c.put_right.new.books) (whole_of d begun h.more.later older put k) p.0) k.keeps in
    on_err_weaker c.bring_up.result (λ lacks. left_lacking d begun acts k.later (k.added ++ older) c.args.self.now.disk c.bring_up.new.self.disk all lacks.has) up.2
