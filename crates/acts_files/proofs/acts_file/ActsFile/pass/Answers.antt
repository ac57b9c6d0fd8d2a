use Rattle.acts_files.proofs.Words.{rules, ◌≡◌, ◌≤◌, ◌++◌, true, false, length, sym, ap, subst, ◌∙◌, arith, err_from_is_err_and, IsHistory, HoldsBooks}
use Rattle.acts_files.proofs.Opens.{passes_none, passes_then, walked_all, walked_on, whole_passed}
use Rattle.acts_files.proofs.Same.{same_file, same_then}
use Rattle.acts_files.proofs.Survive.{none_later, survives_itself}
use Rattle.acts_files.proofs.acts_file.ActsFile.pass.Goals as goal

pub loop-init : goal.loop-init
loop-init g c = record {
  clean = λ clean. clean;
  passed = λ clean first begun newer older history holds all was measured. (holds, passes_none g.D.Disk begun newer older c.args.self.now was);
  same = same_file g.D.Disk c.args.self.now.disk;
  within = λ low. low;
  holds = λ clean first acts history holds. holds;
  survives = survives_itself _ _;
}

pub loop-preserved : goal.loop-preserved
loop-preserved g c =
    let was = c.loop.invariant in
    let next = c.in_ok-pass_next.ensures in
    let is : c.in_ok-pass_next.field-0 ≡ true = search rules in
    record {
      clean = λ clean. was.clean (next.clean clean);
      passed = λ clean first begun newer older history holds all had measured.
          let w = was.passed (next.clean clean) first begun newer older history holds all had measured in
          let whole = whole_passed g.D.Disk begun newer older c.loop.self w.1 in
          let n = next.passed clean first begun w.1.later (w.1.passed ++ older) (subst (IsHistory first) whole history) (subst (λ l. HoldsBooks g.S.Store first l c.loop.books) whole w.0) (all ∙ ap length whole) w.1.has
          (λ now. measured (was.same.clean now) ∙ ap length (sym was.same.seen)) in
          (subst (λ l. HoldsBooks g.S.Store first l c.pass_next.new.books) (sym whole) n.0, passes_then g.D.Disk begun newer older c.loop.self c.pass_next.new.self w.1 (n.1.0 is));
      same = same_then g.D.Disk c.args.self.now.disk c.loop.self.disk c.pass_next.new.self.disk was.same next.same;
      within = λ low. next.within (was.within low);
      holds = λ clean first acts history holds. next.holds clean first acts history (was.holds (next.clean clean) first acts history holds);
      survives = none_later g.S.Store c.args.books.now c.loop.books c.pass_next.new.books was.survives next.survives was.holds;
    }

pub returns-in_err-pass_next-clause-passed : goal.returns-in_err-pass_next-clause-passed
returns-in_err-pass_next-clause-passed g c clean first begun newer older history holds all had measured =
    let was = c.loop.invariant in
    let next = c.pass_next.ensures in
    let p = err_from_is_err_and c.from_residual.result c.from_residual.ensures.1 in
    rw p.1 (next.holds clean first (newer ++ older) history (was.holds (next.clean clean) first (newer ++ older) history holds), tt)

pub returns-in_err-pass_next-clause-survives : goal.returns-in_err-pass_next-clause-survives
returns-in_err-pass_next-clause-survives g c =
    let was = c.loop.invariant in
    none_later g.S.Store c.args.books.now c.loop.books c.pass_next.new.books was.survives c.pass_next.ensures.survives was.holds

pub returns-then-not-branch-clause-passed : goal.returns-then-not-branch-clause-passed
returns-then-not-branch-clause-passed g c clean first begun newer older history holds all had measured =
    let was = c.loop.invariant in
    let next = c.in_ok-pass_next.ensures in
    let isnt : c.in_ok-pass_next.field-0 ≡ false = search rules in
    let w = was.passed (next.clean clean) first begun newer older history holds all had measured in
    let whole = whole_passed g.D.Disk begun newer older c.loop.self w.1 in
    let n = next.passed clean first begun w.1.later (w.1.passed ++ older) (subst (IsHistory first) whole history) (subst (λ l. HoldsBooks g.S.Store first l c.loop.books) whole w.0) (all ∙ ap length whole) w.1.has
    (λ now. measured (was.same.clean now) ∙ ap length (sym was.same.seen)) in
    let end = n.1.1 isnt in
    (subst (λ l. HoldsBooks g.S.Store first l c.pass_next.new.books) (sym whole) n.0, walked_on g.D.Disk begun c.args.most newer older c.loop.self c.pass_next.new.self w.1 end.0 end.1)

pub returns-then-not-branch-clause-survives : goal.returns-then-not-branch-clause-survives
returns-then-not-branch-clause-survives g c =
    let was = c.loop.invariant in
    none_later g.S.Store c.args.books.now c.loop.books c.pass_next.new.books was.survives c.pass_next.ensures.survives was.holds

pub returns-then-self-all-clause-passed : goal.returns-then-self-all-clause-passed
returns-then-self-all-clause-passed g c clean first begun newer older history holds all had measured =
    let was = c.loop.invariant in
    let w = was.passed clean first begun newer older history holds all had measured in
    let enough : c.args.all ≤ c.loop.self.done = search rules in
    (w.0, walked_all g.D.Disk begun c.args.most newer older c.loop.self w.1 (omega (arith, enough, all)))
