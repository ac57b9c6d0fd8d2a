use Rattle.acts_files.proofs.Words.{rules, ◌≡◌, true, false, length, refl, sym, ap, ◌∙◌, arith, ActsFile}
use Rattle.acts_files.proofs.Opens.{passes_next, stops_next}
use Rattle.acts_files.proofs.acts_file.ActsFile.pass_next.Goals as goal

pub returns-then-not-branch-clause-passed : goal.returns-then-not-branch-clause-passed
returns-then-not-branch-clause-passed g c clean first begun newer older history holds all was measured =
    let told = c.in_ok-lines.ensures.told clean first begun newer older history holds all was.done was.day in
    let after : ActsFile _ = record c.args.self.now { disk = c.has_there.new.disk } in
    let isnt : c.in_ok-has_there.field-0 ≡ false = search rules in
    let some : length c.in_ok-lines.lines.out.items ≡ 0 → ⊥ = search rules in (
      told.0,
      (
        λ yes. absurd (let both : false ≡ true = yes in cc),
        λ no. stops_next g.D.Disk begun c.args.size c.args.most newer older c.args.self.now after c.in_ok-lines.lines c.as_slice.result.now told.1 c.as_slice.ensures.value was measured c.has_there.ensures.same refl refl refl
            (λ none. some (sym (ap length c.as_slice.ensures.value) ∙ none)) (c.in_ok-has_there.ensures.other isnt),
      ),
    )

pub returns-clause-passed : goal.returns-clause-passed
returns-clause-passed g c clean first begun newer older history holds all was measured =
    let told = c.in_ok-lines.ensures.told clean first begun newer older history holds all was.done was.day in
    let is : c.in_ok-has_there.field-0 ≡ true = search rules in
    let long = ap length c.as_slice.ensures.value in (
      told.0,
      (
        λ yes. passes_next g.D.Disk begun c.args.size c.args.most newer older c.args.self.now _ c.in_ok-lines.lines c.as_slice.result.now told.1 c.as_slice.ensures.value was measured c.has_there.ensures.same
            (omega (arith, c.in-Some.ensures.1, long)) refl refl (c.in_ok-has_there.ensures.there is),
        λ no. absurd (let both : true ≡ false = no in cc),
      ),
    )
