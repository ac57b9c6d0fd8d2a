-- A match over all commands: what is said of the one that it found is said of the command.
use Rattle.rules.proofs.Words.{◌≡◌, sym, ap, ◌∙◌, subst, Option, Result, IfOk, Key, Refusal, Command, first_refusal, Slice, Change, command_seen, command_changes}

pub judged_as : (s : Slice) (command other : Command) → command ≡ other → (why : Option Refusal) → why ≡ first_refusal (command_seen s other) → why ≡ first_refusal (command_seen s command)
judged_as s command other is why e = e ∙ ap (λ (x : Command). first_refusal (command_seen s x)) (sym is)

pub changed_as : {E : Type 0} (s : Slice) (key : Key) (command other : Command) → command ≡ other → (made : Result Change E) → IfOk made (λ change. change ≡ command_changes s key other) → IfOk made (λ change. change ≡ command_changes s key command)
changed_as s key command other is made e = subst (λ (x : Command). IfOk made (λ change. change ≡ command_changes s key x)) (sym is) e
