use Rattle.queries.proofs.Words.{◌≡◌, ap, ◌∙◌, slice_get, BinKey, same_bin, bin_key, first_row, itself_bytes, fails_first, known_told}
use Rattle.queries.proofs.reading.bin_row.Goals as goal

pub returns-in_err-found-clause-read : goal.returns-in_err-found-clause-read
returns-in_err-found-clause-read g c = fails_first c.from_residual.ensures c.in_err-found.ensures.read

pub returns-clause-read : goal.returns-clause-read
returns-clause-read g c =
    let by = c.args.bin.now in
    let found = c.in_ok-found.found.items in
    let first_is : c.copied.result ≡ slice_get found 0 = c.copied.ensures ∙ c.first.ensures.value ∙ ap (λ l. slice_get l 0) c.as_slice.ensures.value in
    known_told c.in_ok-found.ensures.read (λ t h. first_is ∙ first_row {K = BinKey} same_bin bin_key by t.bin found (itself_bytes by) h)
