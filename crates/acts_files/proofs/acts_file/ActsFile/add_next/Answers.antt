use Rattle.acts_files.proofs.Words.{◌∙◌, err_from_is_err_and, on_ok_weaker, history_text}
use Rattle.acts_files.proofs.Chunks.{none_added, lacks_whole, lacks_lines, on_err_both}
use Rattle.acts_files.proofs.Same.{keeps_itself}
use Rattle.acts_files.proofs.acts_file.ActsFile.add_next.Goals as goal

pub returns-in_err-lines-clause-kept : goal.returns-in_err-lines-clause-kept
returns-in_err-lines-clause-kept g c clean first begun newer older history holds all keeps =
    let p = err_from_is_err_and c.from_residual.result c.from_residual.ensures.1 in
    rw p.1 (
      (c.lines_above.ensures.told clean first begun newer older history holds all keeps.done keeps.day).0,
      tt,
      lacks_whole g.D.Disk begun newer older c.args.self.now c.args.self.now (none_added g.D.Disk begun newer older c.args.self.now keeps),
    )

pub returns-in_err-lines-clause-loses : goal.returns-in_err-lines-clause-loses
returns-in_err-lines-clause-loses g c = keeps_itself g.D.Disk c.args.self.now

pub returns-clause-kept : goal.returns-clause-kept
returns-clause-kept g c clean first begun newer older history holds all keeps =
    let told = c.in_ok-lines.ensures.told clean first begun newer older history holds all keeps.done keeps.day in
    let l = told.1 in (
      told.0,
      on_ok_weaker c.add.result (λ kept. record { later = l.are_next.later; added = l.next; parts = l.are_next.parts; keeps = kept })
          (c.add.ensures.kept begun l.next older (c.as_slice.ensures.value ∙ l.are.text) l.are.done l.are.day keeps),
      on_err_both c.add.result c.add.ensures.same c.add.ensures.fails
          (λ same fails. lacks_lines g.D.Disk begun newer older c.args.self.now c.add.new.self c.as_slice.result.now c.in_ok-lines.lines l c.as_slice.ensures.value keeps same.0 (c.add.ensures.few (history_text begun older) keeps.text) fails),
    )
