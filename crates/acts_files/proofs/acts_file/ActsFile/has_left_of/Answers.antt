use Rattle.acts_files.proofs.Words.{rules, ◌≡◌, ◌-◌, sym, subst, ◌∙◌, arith, IsTrue, IsLeftOf}
use Rattle.acts_files.proofs.Read.{behind}
use Rattle.acts_files.proofs.acts_file.ActsFile.has_left_of.Goals as goal

pub returns-clause-left : goal.returns-clause-left
returns-clause-left g c clean measured low =
    let seen = g.D.Disk.seen c.args.self.now.disk in
    let at = c.args.self.now.len in
    let size = measured (c.bytes_at.ensures.same.clean clean) in
    let rest : c.saturating_sub-rest.result ≡ c.args.size - at = search rules in
    let long = c.in_ok-found.ensures.long in
    let is = c.as_slice.ensures.value ∙ sym (behind seen c.in_ok-found.found.items at (omega (arith, long, rest, low, size)) (c.in_ok-found.ensures.read clean (omega (arith, rest, low, size)))) in
    subst (λ l. (IsTrue c.is_left_of.result → IsLeftOf c.args.lines.now l) × (IsLeftOf c.args.lines.now l → IsTrue c.is_left_of.result)) is c.is_left_of.ensures
