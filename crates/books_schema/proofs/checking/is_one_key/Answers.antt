use Rattle.books_schema.proofs.Words.{◌≡◌, [], ◌∷◌, sym, ap, ◌∙◌, arith, rules, only_is}
use Rattle.books_schema.proofs.checking.is_one_key.Goals as goal

pub returns-in-len1 : goal.returns-in-len1
returns-in-len1 c =
    let one = only_is c.as_slice.result.now c.only-item.result (omega (arith, c.in-len1.len_at_least)) (omega (arith, c.in-len1.len_below)) c.only-item.is in (
      λ found.
          let same : c.only-item.result ≡ c.args.places.now = search rules in
          sym c.as_slice.ensures ∙ one ∙ ap (λ x. x ∷ []) same,
      λ same.
          let both : c.only-item.result ∷ [] ≡ c.args.places.now ∷ [] = sym one ∙ c.as_slice.ensures ∙ same in
          let only : c.only-item.result ≡ c.args.places.now = cc in
          let seen : c.as_slice-in-len1.result.now ≡ c.args.places.now = c.as_slice-in-len1.ensures ∙ only in
          search rules,
    )
