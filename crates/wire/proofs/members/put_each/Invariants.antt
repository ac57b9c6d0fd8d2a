use Rattle.wire.proofs.Words.{◌≡◌, ◌++◌, drop, flat_map, data_tokens}
use Rattle.wire.proofs.members.put_each.Given as goal

-- with the tokens of the items that are left it has those of all of them
abbrev pub invariant-loop-item : goal.invariant-loop-item
invariant-loop-item g l =
    (l.out.before ≡ l.fn.out.before)
    × (l.out.tokens ++ flat_map (λ x. data_tokens (g.T.Member.shown x)) (drop l.item-index l.items) ≡ l.fn.out.tokens ++ flat_map (λ x. data_tokens (g.T.Member.shown x)) l.items)
