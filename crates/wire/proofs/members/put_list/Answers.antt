use Rattle.wire.proofs.Words.{subst, sym, ◌∷◌, OnOk, Token, Adds}
use Rattle.wire.proofs.Adding.{one_added, adds_last, list_tokens}
use Rattle.wire.proofs.members.put_list.Goals as goal

pub returns : goal.returns
returns g c =
    subst (λ l. OnOk c.put_rest.result (Adds c.args.out.now c.put_rest.new.out (Token.key c.args.name.now ∷ Token.begin_array ∷ l))) (sym (list_tokens g.T.Member.shown c.args.items.now))
    (adds_last c.put_rest.result _ _ _ _ _ (one_added _ _ _ _ c.in_ok-key.ensures) (adds_last c.put_rest.result _ _ _ _ _ (one_added _ _ _ _ c.in_ok-begin_array.ensures) c.put_rest.ensures))
