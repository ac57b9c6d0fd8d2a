use Rattle.views.proofs.Words.{◌≡◌, ap, sym, ◌∙◌, ℕ, map, take, length, nat_lt, NAMES_MAX, named_seen, names_seen}
use Rattle.views.proofs.NamesShown.{names_shown}
use Rattle.views.proofs.item_names.item_names_view.Goals as goal

pub returns-clause-shown : goal.returns-clause-shown
returns-clause-shown c =
    let a = c.args in
    let least = a.least.now in
    let items : c.from_vec.result ≡ map (named_seen least) (take NAMES_MAX a.found.now) = c.from_vec.ensures ∙ c.in_ok-items.ensures ∙ ap (map (named_seen least)) c.front_of.ensures in
    λ first acts last history act found are.
    (λ i. record { act = a.act; items = items i; more = nat_lt NAMES_MAX (length a.found.now) })
    ∙ ap (λ (n : ℕ). names_seen n least a.found.now) (sym act)
    ∙ ap (names_seen (length acts) least) found
    ∙ names_shown first acts history last least are
