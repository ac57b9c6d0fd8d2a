use Rattle.acts_files.proofs.Words.{IsTrue, rules, ◌≡◌, ◌≤◌, ◌<◌, ◌+◌, ◌++◌, true, false, length, length-append, inl, inr, sym, ap, subst, ◌∙◌, arith, OnOk, IfErr, on_ok_weaker, IfErr-weaker, next_number, IsPut, IsNotPut, rest_of, IsLeftOf}
use Rattle.acts_files.proofs.Chunks.{on_ok_any}
use Rattle.acts_files.proofs.Left.{left_put, left_same, left_short, on_err_any}
use Rattle.acts_files.proofs.Opens.{differs, no_longer, no_newer_left, not_put, of_file, put_over}
use Rattle.acts_files.proofs.Same.{keeps_loses, passed_same, put_keeps, same_file}
use Rattle.acts_files.proofs.acts_file.ActsFile.put_right.Goals as goal

pub returns-then-self-all-clause-put : goal.returns-then-self-all-clause-put
returns-then-self-all-clause-put g c clean first begun newer older history holds all was ends measured low =
    let old = c.args.self.now in
    let enough : c.args.all ≤ old.done = search rules in
    let none = no_newer_left g.D.Disk begun newer older old was (omega (arith, enough, all)) in
    let number : c.in-Some.next ≡ next_number older = c.in-Some.ensures.1 ∙ ap (λ n. n + 1) was.done in
    let cut = c.cut_rest.ensures.put begun older number was measured low in (
      holds,
      subst (λ l. OnOk c.cut_rest.result (IsPut g.D.Disk begun l older old c.cut_rest.new.self)) (sym none) cut.0,
      subst (λ l. IfErr c.cut_rest.result (IsNotPut g.D.Disk begun l older old c.cut_rest.new.self)) (sym none) cut.1,
    )

pub returns-then-branch-clause-put : goal.returns-then-branch-clause-put
returns-then-branch-clause-put g c clean first begun newer older history holds all was ends measured low =
    let old = c.args.self.now in
    let mid = c.has_left_of.new.self in
    let told = c.in_ok-lines.ensures.told clean first begun newer older history holds all was.done was.day in
    let l = told.1 in
    let same = c.has_left_of.ensures.same in
    let kept = c.has_left_of.ensures.kept in
    let is : c.in_ok-has_left_of.field-0 ≡ true = search rules in
    let left = λ (now : IsTrue (g.D.Disk.is_clean mid.disk)). (c.in_ok-has_left_of.ensures.left now measured low).0 is in
    let bytes = c.as_slice.ensures.value in (
      told.0,
      on_ok_weaker c.put.result (λ keeps. put_over g.D.Disk begun newer older old c.put.new.self c.in_ok-lines.lines c.as_slice.result.now l bytes (λ now. left (c.put.ensures.loses.clean now)) keeps)
          (c.put.ensures.kept begun l.next older (c.as_slice-then-branch.ensures.value ∙ l.are.text) l.are.done l.are.day (passed_same g.D.Disk begun older old mid was same kept.0 kept.1 kept.2)
          (λ now. no_longer g.D.Disk begun old mid c.as_slice-then-branch.result.now same kept.0 (subst (λ t. IsLeftOf t (rest_of g.D.Disk old)) (bytes ∙ sym c.as_slice-then-branch.ensures.value) (left now)))),
      IfErr-weaker c.put.result _ _ (λ f is. not_put g.D.Disk begun newer older old c.put.new.self f f (of_file f is)) c.put.ensures.fault,
    )

pub returns-then-branch-clause-lines : goal.returns-then-branch-clause-lines
returns-then-branch-clause-lines g c low measured =
    let old = c.args.self.now in
    let is : c.in_ok-has_left_of.field-0 ≡ true = search rules in
    on_ok_any c.put.result (put_keeps g.D.Disk c.args.size old c.has_left_of.new.self c.put.new.self c.has_left_of.ensures.same c.has_left_of.ensures.kept.0 measured low
    (λ now. ((c.in_ok-has_left_of.ensures.left now measured low).0 is).lineless) c.put.ensures.loses)

pub returns-then-branch-clause-loses : goal.returns-then-branch-clause-loses
returns-then-branch-clause-loses g c low measured =
    let old = c.args.self.now in
    let is : c.in_ok-has_left_of.field-0 ≡ true = search rules in
    keeps_loses g.D.Disk old.disk c.put.new.self (put_keeps g.D.Disk c.args.size old c.has_left_of.new.self c.put.new.self c.has_left_of.ensures.same c.has_left_of.ensures.kept.0 measured low
    (λ now. ((c.in_ok-has_left_of.ensures.left now measured low).0 is).lineless) c.put.ensures.loses)

pub returns-clause-put : goal.returns-clause-put
returns-clause-put g c clean first begun newer older history holds all was ends measured low =
    let old = c.args.self.now in
    let mid = c.has_left_of.new.self in
    let told = c.in_ok-lines.ensures.told clean first begun newer older history holds all was.done was.day in
    let l = told.1 in
    let isnt : c.in_ok-has_left_of.field-0 ≡ false = search rules in
    let more : old.done < c.args.all = search rules in
    let number : c.in-Some.next ≡ next_number older = c.in-Some.ensures.1 ∙ ap (λ n. n + 1) was.done in (
      told.0,
      tt,
      elim ends [
        | inl none ↦ let n = length-append newer older in let zero = ap length none in absurd (omega (arith, n, zero, all, more, was.done))
        | inr stops ↦
            differs g.D.Disk begun newer older c.in-Some.next old mid l.next number stops l.are_next c.has_left_of.ensures.same
            (λ now left. let yes = (c.in_ok-has_left_of.ensures.left now measured low).1 (subst (λ t. IsLeftOf t (rest_of g.D.Disk old)) (sym (c.as_slice.ensures.value ∙ l.are.text)) left) in let both : false ≡ true = sym isnt ∙ yes in cc)
      ],
    )

pub returns-then-self-all-clause-leaves : goal.returns-then-self-all-clause-leaves
returns-then-self-all-clause-leaves g c clean first begun newer older history holds all was measured low =
    on_err_any c.cut_rest.result (left_short g.D.Disk begun (newer ++ older) c.args.size c.args.self.now c.cut_rest.new.self c.cut_rest.ensures.calm measured low c.cut_rest.ensures.short)

pub returns-then-branch-clause-leaves : goal.returns-then-branch-clause-leaves
returns-then-branch-clause-leaves g c clean first begun newer older history holds all was measured low =
    let d = g.D.Disk in
    let old = c.args.self.now in
    let mid = c.has_left_of.new.self in
    let l = (c.in_ok-lines.ensures.told clean first begun newer older history holds all was.done was.day).1 in
    let is : c.in_ok-has_left_of.field-0 ≡ true = search rules in
    let bytes = c.as_slice-then-branch.result.now in
    on_err_any c.put.result
    (left_put d begun newer older old mid c.put.new.self l.next bytes was c.has_left_of.ensures.same c.has_left_of.ensures.kept.0 l.are_next (c.as_slice-then-branch.ensures.value ∙ l.are.text) c.put.ensures.loses.clean
    (λ now. (subst (λ t. IsLeftOf t (rest_of d old)) (c.as_slice.ensures.value ∙ sym c.as_slice-then-branch.ensures.value) ((c.in_ok-has_left_of.ensures.left now measured low).0 is)).few) c.put.ensures.few)

pub returns-clause-leaves : goal.returns-clause-leaves
returns-clause-leaves g c clean first begun newer older history holds all was measured low =
    left_same g.D.Disk begun (newer ++ older) c.args.self.now.disk c.has_left_of.new.self.disk c.has_left_of.ensures.same

pub returns-in_default-clause-leaves : goal.returns-in_default-clause-leaves
returns-in_default-clause-leaves g c clean first begun newer older history holds all was measured low =
    left_same g.D.Disk begun (newer ++ older) c.args.self.now.disk c.args.self.now.disk (same_file g.D.Disk c.args.self.now.disk)

pub returns-in_err-has_left_of-clause-leaves : goal.returns-in_err-has_left_of-clause-leaves
returns-in_err-has_left_of-clause-leaves g c clean first begun newer older history holds all was measured low =
    on_err_any c.from_residual-in_err-has_left_of.result (left_same g.D.Disk begun (newer ++ older) c.args.self.now.disk c.has_left_of.new.self.disk c.has_left_of.ensures.same)

pub returns-in_err-lines-clause-leaves : goal.returns-in_err-lines-clause-leaves
returns-in_err-lines-clause-leaves g c clean first begun newer older history holds all was measured low =
    on_err_any c.from_residual.result (left_same g.D.Disk begun (newer ++ older) c.args.self.now.disk c.args.self.now.disk (same_file g.D.Disk c.args.self.now.disk))
