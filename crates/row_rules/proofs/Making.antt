-- A result that is one change is another that is equal to it.
use Rattle.row_rules.proofs.Words.{◌≡◌, List, ◌∙◌, Result, Ok, Err, IfOk, Vec}

pub made_same : {X E : Type 0} (result : Result X E) (a b : X) → IfOk result (λ x. x ≡ a) → a ≡ b → IfOk result (λ x. x ≡ b)
made_same (Ok x) a b h e = h ∙ e
made_same (Err f) a b h e = tt

-- and so is a part of it
pub part_same : {X Y E : Type 0} (result : Result X E) (part : X → Y) (a b : Y) → IfOk result (λ x. part x ≡ a) → a ≡ b → IfOk result (λ x. part x ≡ b)
part_same (Ok x) part a b h e = h ∙ e
part_same (Err f) part a b h e = tt

pub same_items : {X A E : Type 0} (result : Result (Vec X A) E) (xs ys : List X) → IfOk result (λ v. v.items ≡ xs) → xs ≡ ys → IfOk result (λ v. v.items ≡ ys)
same_items (Ok v) xs ys h e = h ∙ e
same_items (Err f) xs ys h e = tt
