use Rattle.acts_files.proofs.Words.{rules, ◌≡◌, ◌++◌, length, refl, ◌∙◌, ap, subst, sym, err_from_is_err_and, IsHistory, HoldsBooks, as_before_itself, as_before_then}
use Rattle.acts_files.proofs.Chunks.{added_then, all_added, lacks_then, lacks_whole, none_added, whole_of}
use Rattle.acts_files.proofs.Same.{keeps_itself, keeps_then}
use Rattle.acts_files.proofs.Survive.{none_later, survives_itself}
use Rattle.acts_files.proofs.acts_file.ActsFile.bring_up.Goals as goal

pub loop-init : goal.loop-init
loop-init g c = record {
  clean = λ clean. clean;
  kept = λ clean first begun newer older history holds all keeps. (holds, none_added g.D.Disk begun newer older c.args.self.now keeps);
  loses = keeps_itself g.D.Disk c.args.self.now;
  steady = refl;
  holds = λ clean first acts history holds. holds;
  as_before = λ clean. as_before_itself _;
  survives = survives_itself _ _;
}

pub loop-preserved : goal.loop-preserved
loop-preserved g c =
    let was = c.loop.invariant in
    let next = c.in_ok-add_next.ensures in
    record {
      clean = λ clean. was.clean (next.clean clean);
      kept = λ clean first begun newer older history holds all keeps.
          let w = was.kept (next.clean clean) first begun newer older history holds all keeps in
          let whole = whole_of g.D.Disk begun newer older c.loop.self w.1 in
          let n = next.kept clean first begun w.1.later (w.1.added ++ older) (subst (IsHistory first) whole history) (subst (λ l. HoldsBooks g.S.Store first l c.loop.books) whole w.0) (all ∙ ap length whole) w.1.keeps in
          (subst (λ l. HoldsBooks g.S.Store first l c.add_next.new.books) (sym whole) n.0, added_then g.D.Disk begun newer older c.loop.self c.add_next.new.self w.1 n.1);
      loses = keeps_then g.D.Disk c.args.self.now c.loop.self c.add_next.new.self was.loses next.loses;
      steady = next.steady ∙ was.steady;
      holds = λ clean first acts history holds. next.holds clean first acts history (was.holds (next.clean clean) first acts history holds);
      as_before = λ clean. as_before_then _ _ _ (was.as_before (next.clean clean)) (next.as_before clean);
      survives = none_later g.S.Store c.acts_of.new.books c.loop.books c.add_next.new.books was.survives next.survives was.holds;
    }

pub returns-in_err-all-clause-kept : goal.returns-in_err-all-clause-kept
returns-in_err-all-clause-kept g c clean first begun newer older history holds keeps =
    let p = err_from_is_err_and c.from_residual.result c.from_residual.ensures.1 in
    rw p.1 ((c.acts_of.ensures.all clean first (newer ++ older) history holds).0, tt, lacks_whole g.D.Disk begun newer older c.args.self.now c.args.self.now (none_added g.D.Disk begun newer older c.args.self.now keeps))

pub returns-in_err-add_next-clause-kept : goal.returns-in_err-add_next-clause-kept
returns-in_err-add_next-clause-kept g c clean first begun newer older history holds keeps =
    let was = c.loop.invariant in
    let next = c.in_err-add_next.ensures in
    let soon = was.clean (next.clean clean) in
    let a = c.in_ok-all.ensures.all soon first (newer ++ older) history holds in
    let w = was.kept (next.clean clean) first begun newer older history a.0 a.1 keeps in
    let whole = whole_of g.D.Disk begun newer older c.loop.self w.1 in
    let n = next.kept clean first begun w.1.later (w.1.added ++ older) (subst (IsHistory first) whole history) (subst (λ l. HoldsBooks g.S.Store first l c.loop.books) whole w.0) (a.1 ∙ ap length whole) w.1.keeps in
    let p = err_from_is_err_and c.from_residual-in_err-add_next.result c.from_residual-in_err-add_next.ensures.1 in
    rw p.1 (
      subst (λ l. HoldsBooks g.S.Store first l c.add_next.new.books) (sym whole) n.0,
      tt,
      lacks_then g.D.Disk begun newer older c.args.self.now c.loop.self c.add_next.new.self was.steady w.1 n.2,
    )

pub returns-then-self-all-clause-kept : goal.returns-then-self-all-clause-kept
returns-then-self-all-clause-kept g c clean first begun newer older history holds keeps =
    let was = c.loop.invariant in
    let a = c.in_ok-all.ensures.all (was.clean clean) first (newer ++ older) history holds in
    let w = was.kept clean first begun newer older history a.0 a.1 keeps in
    let done : c.loop.self.done ≡ c.in_ok-all.all = search rules in
    (w.0, all_added g.D.Disk begun newer older c.loop.self w.1 (done ∙ a.1), tt)

pub returns-else-self-all-clause-kept : goal.returns-else-self-all-clause-kept
returns-else-self-all-clause-kept g c clean first begun newer older history holds keeps =
    let was = c.loop.invariant in
    let a = c.in_ok-all.ensures.all (was.clean clean) first (newer ++ older) history holds in
    let w = was.kept clean first begun newer older history a.0 a.1 keeps in
    (w.0, tt, lacks_whole g.D.Disk begun newer older c.args.self.now c.loop.self w.1)
