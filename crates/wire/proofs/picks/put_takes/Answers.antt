use Rattle.wire.proofs.Words.{subst, sym, codes, ◌∷◌, OnOk, Token, Adds, take_data}
use Rattle.wire.proofs.Adding.{one_added, adds_last, list_tokens}
use Rattle.wire.proofs.picks.put_takes.Goals as goal

pub returns : goal.returns
returns c =
    subst (λ l. OnOk c.put_rest_of_takes.result (Adds c.args.out.now c.put_rest_of_takes.new.out (Token.key (codes "take") ∷ Token.begin_array ∷ l))) (sym (list_tokens take_data c.args.lots.now))
    (adds_last c.put_rest_of_takes.result _ _ _ _ _ (one_added _ _ _ _ c.in_ok-key.ensures) (adds_last c.put_rest_of_takes.result _ _ _ _ _ (one_added _ _ _ _ c.in_ok-begin_array.ensures) c.put_rest_of_takes.ensures))
