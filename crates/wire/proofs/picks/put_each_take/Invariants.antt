use Rattle.wire.proofs.Words.{◌≡◌, ◌++◌, drop, flat_map, data_tokens, take_data}
use Rattle.wire.proofs.picks.put_each_take.Given as goal

-- with the tokens of the lots that are left it has those of all of them
abbrev pub invariant-loop-lot : goal.invariant-loop-lot
invariant-loop-lot l =
    (l.out.before ≡ l.fn.out.before)
    × (l.out.tokens ++ flat_map (λ x. data_tokens (take_data x)) (drop l.lot-index l.lots) ≡ l.fn.out.tokens ++ flat_map (λ x. data_tokens (take_data x)) l.lots)
