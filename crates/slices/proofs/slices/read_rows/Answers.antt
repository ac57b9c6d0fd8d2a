use Rattle.slices.proofs.Words.{◌≡◌, ℕ, List, refl, sym, subst, Tables, Command, Pick, Ship, Picking, Rows, ArePlanned, AreSliced, Known}
use Rattle.slices.proofs.KnowingSteps.{known_as}
use Rattle.slices.proofs.slices.read_rows.Goals as goal

-- those of a command that is no shipment and no pick
planned : (known : Known) (command : Command) (t : Tables) (rows : Rows) → ((order : List ℕ) → command ≡ Ship order → ⊥) → ((p : Picking) → command ≡ Pick p → ⊥) → ArePlanned known command t rows → AreSliced known command t rows
planned known (Ship order) t rows no_shipment no_pick are = absurd (no_shipment order refl)
planned known (Pick p) t rows no_shipment no_pick are = absurd (no_pick p refl)
planned known command t rows no_shipment no_pick are = are

pub returns-in-Ship-clause-read : goal.returns-in-Ship-clause-read
returns-in-Ship-clause-read g c = known_as c.read_shipment.ensures.read (λ t rows are. subst (λ (command : Command). AreSliced c.args.known.now command t rows) (sym c.in-Ship.is) are)

pub returns-in-Pick-clause-read : goal.returns-in-Pick-clause-read
returns-in-Pick-clause-read g c = known_as c.read_pick.ensures.read (λ t rows are. subst (λ (command : Command). AreSliced c.args.known.now command t rows) (sym c.in-Pick.is) are)

pub returns-in_default-clause-read : goal.returns-in_default-clause-read
returns-in_default-clause-read g c = known_as c.read_planned.ensures.read (λ t rows are. planned c.args.known.now c.args.command.now t rows c.in_default.not-Ship c.in_default.not-Pick are)
