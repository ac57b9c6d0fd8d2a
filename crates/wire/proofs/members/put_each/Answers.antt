use Rattle.wire.proofs.Words.{◌≡◌, ◌+◌, ◌∷◌, ◌++◌, [], drop, flat_map, refl, sym, ap, ◌∙◌, append_assoc, append-nil, arith, common_steps, data_tokens}
use Rattle.wire.proofs.members.put_each.Goals as goal

pub loop-item-preserved : goal.loop-item-preserved
loop-item-preserved g c =
    let each = flat_map (λ x. data_tokens (g.T.Member.shown x)) in
    let added = c.in_ok-put.ensures in
    let later = drop (c.loop-item.item-index + 1) c.args.items.now in
    let left : drop c.loop-item.item-index c.args.items.now ≡ c.item-item.result ∷ later = grind (arith, common_steps) in (
      added.before ∙ c.loop-item.invariant.0,
      ap (λ l. l ++ each later) added.tokens ∙ append_assoc c.loop-item.out.tokens (data_tokens (g.T.Member.shown c.item-item.result)) (each later)
          ∙ ap (λ l. c.loop-item.out.tokens ++ each l) (sym left) ∙ c.loop-item.invariant.1,
    )

pub loop-item-init : goal.loop-item-init
loop-item-init g c = (refl, refl)

pub returns : goal.returns
returns g c =
    let each = flat_map (λ x. data_tokens (g.T.Member.shown x)) in
    let none : drop c.loop-item.item-index c.args.items.now ≡ [] = grind (arith, common_steps) in
    record {
      tokens = sym (append-nil c.loop-item.out.tokens) ∙ ap (λ l. c.loop-item.out.tokens ++ each l) (sym none) ∙ c.loop-item.invariant.1;
      before = c.loop-item.invariant.0;
    }
