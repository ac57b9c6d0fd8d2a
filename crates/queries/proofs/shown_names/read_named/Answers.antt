use Rattle.queries.proofs.Words.{◌≡◌, List, ap, subst, ◌∙◌, take, Tables, ItemRow, NAMES_MAX, KnowsRows, AreLeast, gtins_of, has_read, read_on, fails_first, fails_later, unasked, and_known, known_told}
use Rattle.queries.proofs.shown_names.read_named.Goals as goal

pub returns-in_err-page-clause-read : goal.returns-in_err-page-clause-read
returns-in_err-page-clause-read g c = fails_first c.from_residual.ensures c.in_err-page.ensures.read

pub returns-in_err-least-clause-read : goal.returns-in_err-least-clause-read
returns-in_err-least-clause-read g c = fails_later (has_read c.in_ok-page.ensures.read) c.from_residual-in_err-least.ensures c.in_err-least.ensures.read

pub returns-in_err-meta-clause-read : goal.returns-in_err-meta-clause-read
returns-in_err-meta-clause-read g c = fails_later (read_on (has_read c.in_ok-page.ensures.read) c.in_ok-least.ensures.read) c.from_residual-in_err-meta.ensures c.in_err-meta.ensures.read

pub returns-clause-read : goal.returns-clause-read
returns-clause-read g c =
    let front : c.front_of.result.now ≡ take NAMES_MAX c.in_ok-page.page.items = c.front_of.ensures ∙ ap (take NAMES_MAX) c.as_slice.ensures.value in
    known_told (and_known (and_known (unasked (λ (t : Tables). KnowsRows t c.args.rows.now) c.in_ok-page.ensures.read) c.in_ok-least.ensures.read) c.in_ok-meta.ensures.read)
    (λ t h. record {
      is_page = h.0.0;
      asked = subst (λ (l : List ItemRow). AreLeast (gtins_of l) t c.in_ok-least.least.items) front h.0.1;
      is_meta = h.1;
    })
