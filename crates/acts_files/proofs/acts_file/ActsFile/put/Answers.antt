use Rattle.acts_files.proofs.Words.{◌+◌, ◌++◌, length, sym, subst, ap, ◌∙◌, arith, IsTrue, history_text, HasText}
use Rattle.acts_files.proofs.TextParts.{goes_on}
use Rattle.acts_files.proofs.acts_file.ActsFile.put.Goals as goal

pub returns-clause-kept : goal.returns-clause-kept
returns-clause-kept g c begun newer older is done day was few =
    let whole = ap (λ t. history_text begun older ++ t) is ∙ sym (goes_on begun newer older) in
    record {
      usable = c.in_ok-append.ensures.usable;
      done = done;
      day = day;
      text = λ clean.
          let old = subst IsTrue c.append.ensures.calm clean in
          let has = c.in_ok-append.ensures.kept (history_text begun older) (was.text old) (few old) in
          subst (λ l. HasText g.D.Disk (history_text begun (newer ++ older)) l c.append.new.disk) (sym c.in-Some.ensures.1)
          (subst (λ t. HasText g.D.Disk t (c.args.self.now.len + length c.args.lines.now) c.append.new.disk) whole has);
    }

pub returns-clause-few : goal.returns-clause-few
returns-clause-few g c text has clean =
    let was = has (subst IsTrue c.append.ensures.calm clean) in
    c.append.ensures.few text was.0 was.1

pub returns-in_err-append-clause-few : goal.returns-in_err-append-clause-few
returns-in_err-append-clause-few g c text has clean =
    let was = has (subst IsTrue c.append.ensures.calm clean) in
    c.append.ensures.few text was.0 was.1

pub returns-clause-loses : goal.returns-clause-loses
returns-clause-loses g c = record {
  clean = λ clean. subst IsTrue c.append.ensures.calm clean;
  kept = λ text holds. let low = holds.1 in let more = c.in-Some.ensures.1 in (c.append.ensures.loses text low holds.0, omega (arith, low, more));
}

pub returns-in_err-append-clause-loses : goal.returns-in_err-append-clause-loses
returns-in_err-append-clause-loses g c = record {
  clean = λ clean. subst IsTrue c.append.ensures.calm clean;
  kept = λ text holds. (c.append.ensures.loses text holds.1 holds.0, holds.1);
}
