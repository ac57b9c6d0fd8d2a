-- A command that plans is no shipment and no pick, and asks for all rows of the items that it touches.
use Rattle.rules.proofs.Words.{◌≡◌, Bool, true, false, ◌&&◌, not, refl, ◌∙◌, ◌||◌, Command, ships, picks, plans, and_both}

pub no_shipment : (command : Command) → plans command ≡ true → not (ships command) ≡ true
no_shipment command planned = (and_both (not (ships command)) (not (picks command)) planned).0

pub no_pick : (command : Command) → plans command ≡ true → not (picks command) ≡ true
no_pick command planned = (and_both (not (ships command)) (not (picks command)) planned).1

-- what is asked for if the command plans
pub asked_if_planned : (command : Command) → plans command ≡ true → (named more : Bool) → named || more ≡ true → named || (plans command && more) ≡ true
asked_if_planned command planned named more e = (λ i. named || (planned i && more)) ∙ e

pub or_grouped : (a b c : Bool) → (a || b) || c ≡ true → a || (b || c) ≡ true
or_grouped true b c e = refl
or_grouped false b c e = e
