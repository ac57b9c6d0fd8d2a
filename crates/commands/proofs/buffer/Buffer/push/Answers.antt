use Rattle.commands.proofs.Below.{arith, ℕ, List, ◌≡◌, ◌+◌, ◌++◌, ◌∷◌, [], ◌<◌, ◌≤◌, ◌∙◌, ap, length, length-append, take, set, length-take, take_more_set}
use Rattle.commands.proofs.buffer.Buffer.push.Goals as goal

pushed : (bs : List ℕ) (n x : ℕ) (s : List ℕ) (room : ℕ) → take n bs ≡ s → length bs ≡ room → n ≤ room → length s < room → take (n + 1) (set bs n x) ≡ s ++ x ∷ []
pushed bs n x s room seen long low free =
    take_more_set bs n x (omega (arith, ap length seen, length-take n bs, long, low, free)) ∙ ap (λ t. t ++ x ∷ []) seen

pub returns-clause-text : goal.returns-clause-text
returns-clause-text g c =
    let b = c.self.inside in
    pushed b.bytes b.len c.args.byte c.args.self.now g.row.N c.self.view_is c.self.told c.self.invariant c.requires

pub returns-clause-size : goal.returns-clause-size
returns-clause-size g c =
    let b = c.self.inside in
    let text = pushed b.bytes b.len c.args.byte c.args.self.now g.row.N c.self.view_is c.self.told c.self.invariant c.requires in
    ap length text ∙ length-append c.args.self.now (c.args.byte ∷ [])
