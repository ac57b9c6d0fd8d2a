use Rattle.acts_files.proofs.Words.{◌≡◌, ◌∙◌, decimal, subst, IsTrue, Begins}
use Rattle.acts_files.proofs.Numbers.{begins_iff}
use Rattle.acts_files.proofs.torn.begins_number.Goals as goal

pub returns : goal.returns
returns c =
    let is : c.as_bytes.result.now ≡ decimal c.args.number = c.as_bytes.ensures ∙ c.decimal_text.ensures.text in
    subst (λ t. (IsTrue c.starts_with.result → Begins c.args.bytes.now t) × (Begins c.args.bytes.now t → IsTrue c.starts_with.result)) is (begins_iff c.as_bytes.result.now c.args.bytes.now c.starts_with.result c.starts_with.ensures.value)
