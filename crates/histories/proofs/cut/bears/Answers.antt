use Rattle.std.proofs.Common.{◌≡◌, take, length, eq-eqb, eqb-true, rules}
use Rattle.histories.proofs.Bearing.{front_is, byte_is, bears_it}
use Rattle.histories.proofs.cut.bears.Goals as goal

pub returns-then-ne : goal.returns-then-ne
returns-then-ne c = (λ no. absurd cc, λ b. let is = front_is c.args.text.now c.args.line.now b in let e = c.if-ne.ensures in let f = c.if-ne.true in absurd (search rules))

pub returns : goal.returns
returns c =
    let front : take (length c.args.text.now) c.args.line.now ≡ c.args.text.now = search rules in
    let e = c.if-ne.ensures in (
      λ t. bears_it c.args.text.now c.args.line.now c.if-line-end.false front (eqb-true _ _ t),
      λ b. eq-eqb _ _ (byte_is c.args.text.now c.args.line.now b),
    )
