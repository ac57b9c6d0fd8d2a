use Rattle.rules.proofs.Words.{◌≡◌, List, [], ◌∷◌, ◌++◌, refl, ap, ◌∙◌, Bool, not, Option, Some, None, is_some, if◌then◌else◌, LotRow, lots_if_new}
use Rattle.rules.proofs.goods.lots_if_new.Goals as goal

if_new : (known : Option LotRow) (row : LotRow) → (if not (is_some known) then row ∷ [] else []) ≡ lots_if_new known row
if_new None row = refl
if_new (Some k) row = refl

pub returns : goal.returns
returns c =
    let row = c.args.row in
    let there : Bool = c.is_some-there.result in
    c.in_ok-push_if.ensures ∙ ap (λ (rows : List LotRow). rows ++ (if not there then row ∷ [] else [])) c.new-rows.ensures.items
    ∙ ap (λ (b : Bool). if not b then row ∷ [] else []) c.is_some-there.ensures ∙ if_new c.args.known row
