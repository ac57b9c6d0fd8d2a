use Rattle.acts_files.proofs.Words.{rules, ◌≡◌, ◌≤◌, length, length-append, take, drop, ap, subst, ◌∙◌, arith, min, Holds}
use Rattle.acts_files.proofs.Read.{first_begins, first_taken}
use Rattle.acts_files.proofs.beside.first_line.Goals as goal

pub returns-clause-line : goal.returns-clause-line
returns-clause-line g c clean line more is whole low =
    let seen = g.D.Disk.seen c.args.disk.now in
    let head = c.in_ok-head.head.items in
    let same = c.file_len.ensures.same in
    let size : c.in_ok-size.size ≡ length seen = c.in_ok-size.ensures.len (c.in_ok-head.ensures.same.clean clean) in
    let long : length head ≡ min c.in_ok-size.size 8_192 = search rules in
    let all = ap length same.seen in
    let holds : Holds seen 0 head = subst (λ s. Holds s 0 head) same.seen (c.in_ok-head.ensures.read clean (omega (arith, long, c.in_ok-head.ensures.long, size, all))) in
    let parts = ap length is ∙ length-append line more in
    let under : length line ≤ length head = omega (arith, long, size, parts, low) in
    let at : c.line_len.result ≡ length line =
    c.line_len.ensures line (drop (length line) head) (c.as_slice.ensures.value ∙ first_begins seen head line more holds is under) whole in
    c.truncate.ensures.items ∙ ap (λ k. take k head) at ∙ first_taken seen head line more holds is under
