use Rattle.row_rules.proofs.Words.{rules, arith, ◌≡◌, ◌++◌, ◌∷◌, [], ◌≤◌, length, ap, decimal, line_room}
use Rattle.row_rules.proofs.cards.line_note.Goals as goal

pub unwrap-requires : goal.unwrap-requires
unwrap-requires c =
    let written : c.as_bytes-2.result.now ≡ c.args.delivery.now ++ 47 ∷ [] ++ decimal c.args.line = search rules in
    let low : c.args.line ≤ 9_999 = omega (arith, c.number.ensures.value, c.number.ensures.limit) in
    let named = rw c.as_bytes.ensures.text at c.as_bytes.ensures.rule in
    let short : length (68 ∷ 47 ∷ c.as_bytes-2.result.now) ≤ 27 =
    line_room (68 ∷ 47 ∷ c.as_bytes-2.result.now) c.args.delivery.now c.args.line (ap (λ s. 68 ∷ 47 ∷ s) written) named low in
    grind (arith, short)
