use Rattle.commands.proofs.Below.{rules, arith, ◌≤◌, ◌<◌, ◌^◌, ap, ◌∙◌, length, length-append, lit<, decimal_digit, decimal_step}
use Rattle.commands.proofs.Digits.{one_more, long_decimal}
use Rattle.commands.proofs.buffer.+decimal_text.Goals as goal

pub returns-then-n-lt10-clause-text : goal.returns-then-n-lt10-clause-text
returns-then-n-lt10-clause-text t c =
    let low = c.if-n-lt10.true in
    rw (decimal_digit c.args.n low) search rules

pub push-requires-2 : goal.push-requires-2
push-requires-2 t c =
    let small : c.args.n < 2 ^ 64 = search rules in
    let large : 10 ≤ c.args.n = search rules in
    (lit< tt, omega (arith, one_more c.args.n large small, long_decimal c.args.n small, ap length c.decimal_text-text.ensures.text))

pub returns-clause-text : goal.returns-clause-text
returns-clause-text t c =
    let small : c.args.n < 2 ^ 64 = search rules in
    let large : 10 ≤ c.args.n = search rules in
    rw (decimal_step c.args.n large small) search rules

pub returns-clause-size : goal.returns-clause-size
returns-clause-size t c =
    let small : c.args.n < 2 ^ 64 = search rules in
    let large : 10 ≤ c.args.n = search rules in
    let more = ap length c.push-2.ensures.text ∙ length-append c.decimal_text-text.result _ in
    omega (arith, more, one_more c.args.n large small, long_decimal c.args.n small, ap length c.decimal_text-text.ensures.text)
