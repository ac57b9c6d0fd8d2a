use Rattle.queries.proofs.Words.{◌≡◌, ℕ, Option, Some, None, ap, sym, ◌∙◌, if◌then◌else◌, same_Some}
use Rattle.values.specs.Values.{checked, is_line_no}
use Rattle.queries.specs.Traced.{behind_slash}
use Rattle.queries.proofs.Slashes.{note_back, small_line}
use Rattle.queries.proofs.traced.line_named.Goals as goal

pub returns-in-Some : goal.returns-in-Some
returns-in-Some c d n is sound line =
    let text = c.behind_slash.ensures ∙ ap behind_slash is ∙ note_back d n sound in
    let same : c.in-Some.number ≡ n = same_Some c.in-Some.number n (sym c.in-Some.is ∙ c.number_of.ensures n (small_line n line) text) in
    c.new.ensures ∙ ap (checked is_line_no) same ∙ (λ i. if line i then Some n else None)

pub returns-in-None : goal.returns-in-None
returns-in-None c d n is sound line =
    let text = c.behind_slash.ensures ∙ ap behind_slash is ∙ note_back d n sound in
    absurd (let none : ◌≡◌ {A = Option ℕ} None (Some n) = sym c.in-None.is ∙ c.number_of.ensures n (small_line n line) text in cc)
