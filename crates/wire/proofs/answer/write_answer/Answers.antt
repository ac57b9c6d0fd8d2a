use Rattle.wire.proofs.Words.{rules, ◌≡◌, ℕ, List, None, subst, ◌∙◌, IfOk, json_type, answer_text}
use Rattle.wire.proofs.answer.write_answer.Goals as goal

pub returns-in_ok-body-in-Books : goal.returns-in_ok-body-in-Books
returns-in_ok-body-in-Books c =
    rw c.in-Books.is (subst (λ (body : List ℕ). IfOk c.with_head.result (λ b. b.items ≡ answer_text 200 json_type None body)) (c.as_slice.ensures.value ∙ c.in_ok-body-in-Books.ensures) c.with_head.ensures)

pub returns-in_ok-body-in-OpenOrders : goal.returns-in_ok-body-in-OpenOrders
returns-in_ok-body-in-OpenOrders c =
    rw c.in-OpenOrders.is (subst (λ (body : List ℕ). IfOk c.with_head-in-OpenOrders.result (λ b. b.items ≡ answer_text 200 json_type None body)) (c.as_slice-in-OpenOrders.ensures.value ∙ c.in_ok-body-in-OpenOrders.ensures) c.with_head-in-OpenOrders.ensures)

pub returns-in_ok-body-in-ItemNames : goal.returns-in_ok-body-in-ItemNames
returns-in_ok-body-in-ItemNames c =
    rw c.in-ItemNames.is (subst (λ (body : List ℕ). IfOk c.with_head-in-ItemNames.result (λ b. b.items ≡ answer_text 200 json_type None body)) (c.as_slice-in-ItemNames.ensures.value ∙ c.in_ok-body-in-ItemNames.ensures) c.with_head-in-ItemNames.ensures)

pub returns-in_ok-body-in-Expiring : goal.returns-in_ok-body-in-Expiring
returns-in_ok-body-in-Expiring c =
    rw c.in-Expiring.is (subst (λ (body : List ℕ). IfOk c.with_head-in-Expiring.result (λ b. b.items ≡ answer_text 200 json_type None body)) (c.as_slice-in-Expiring.ensures.value ∙ c.in_ok-body-in-Expiring.ensures) c.with_head-in-Expiring.ensures)

pub returns-in_ok-body-in-Bin : goal.returns-in_ok-body-in-Bin
returns-in_ok-body-in-Bin c =
    rw c.in-Bin.is (subst (λ (body : List ℕ). IfOk c.with_head-in-Bin.result (λ b. b.items ≡ answer_text 200 json_type None body)) (c.as_slice-in-Bin.ensures.value ∙ c.in_ok-body-in-Bin.ensures) c.with_head-in-Bin.ensures)

pub returns-in-Text : goal.returns-in-Text
returns-in-Text c = rw c.in-Text.is (search rules)

pub returns-in_ok-body-in-Picks : goal.returns-in_ok-body-in-Picks
returns-in_ok-body-in-Picks c =
    rw c.in-Picks.is (subst (λ (body : List ℕ). IfOk c.with_head-in-Picks.result (λ b. b.items ≡ answer_text 200 json_type None body)) (c.as_slice-in-Picks.ensures.value ∙ c.in_ok-body-in-Picks.ensures) c.with_head-in-Picks.ensures)

pub returns-in_ok-body-in-Figures : goal.returns-in_ok-body-in-Figures
returns-in_ok-body-in-Figures c =
    rw c.in-Figures.is (subst (λ (body : List ℕ). IfOk c.with_head-in-Figures.result (λ b. b.items ≡ answer_text 200 json_type None body)) (c.as_slice-in-Figures.ensures.value ∙ c.in_ok-body-in-Figures.ensures) c.with_head-in-Figures.ensures)
