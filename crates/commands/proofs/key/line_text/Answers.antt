use Rattle.commands.proofs.Below.{rules, arith, ◌≡◌, ◌++◌, ◌∷◌, [], ◌≤◌, length, codes, decimal}
use Rattle.commands.proofs.Digits.{line_room}
use Rattle.commands.proofs.key.line_text.Goals as goal

pub unwrap-requires : goal.unwrap-requires
unwrap-requires c =
    let written : c.as_bytes-2.result.now ≡ codes "D/" ++ c.args.delivery.now ++ 47 ∷ [] ++ decimal c.args.line = search rules in
    let low : c.args.line ≤ 9_999 = omega (arith, c.number.ensures.value, c.number.ensures.limit) in
    let named = rw c.as_bytes.ensures.text at c.as_bytes.ensures.rule in
    let short : length c.as_bytes-2.result.now ≤ 27 = line_room c.as_bytes-2.result.now c.args.delivery.now c.args.line written named low in
    grind (arith, short)
