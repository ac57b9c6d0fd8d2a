use Rattle.wire.proofs.Words.{◌≡◌, ◌+◌, ◌∷◌, ◌++◌, [], List, drop, flat_map, refl, sym, ap, ◌∙◌, append_assoc, append-nil, arith, common_steps, Token, data_tokens, take_data}
use Rattle.commands.specs.declared.views.ReservedLot.{ReservedLot}
use Rattle.wire.proofs.picks.put_each_take.Goals as goal

abbrev each : List ReservedLot → List Token
each = flat_map (λ x. data_tokens (take_data x))

pub loop-lot-preserved : goal.loop-lot-preserved
loop-lot-preserved c =
    let added = c.in_ok-put_take.ensures in
    let later = drop (c.loop-lot.lot-index + 1) c.args.lots.now in
    let left : drop c.loop-lot.lot-index c.args.lots.now ≡ c.lot-item.result ∷ later = grind (arith, common_steps) in (
      added.before ∙ c.loop-lot.invariant.0,
      ap (λ l. l ++ each later) added.tokens ∙ append_assoc c.loop-lot.out.tokens (data_tokens (take_data c.lot-item.result)) (each later)
          ∙ ap (λ l. c.loop-lot.out.tokens ++ each l) (sym left) ∙ c.loop-lot.invariant.1,
    )

pub loop-lot-init : goal.loop-lot-init
loop-lot-init c = (refl, refl)

pub returns : goal.returns
returns c =
    let none : drop c.loop-lot.lot-index c.args.lots.now ≡ [] = grind (arith, common_steps) in
    record {
      tokens = sym (append-nil c.loop-lot.out.tokens) ∙ ap (λ l. c.loop-lot.out.tokens ++ each l) (sym none) ∙ c.loop-lot.invariant.1;
      before = c.loop-lot.invariant.0;
    }
