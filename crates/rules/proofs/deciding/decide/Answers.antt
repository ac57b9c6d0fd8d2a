use Rattle.rules.proofs.Words.{command_seen, command_changes}
use Rattle.rules.proofs.decided.Decisions.{decided, reserved_rows}
use Rattle.rules.proofs.decided.EveryCommand.{every_right}
use Rattle.rules.proofs.deciding.decide.Goals as goal

pub returns-clause-decides : goal.returns-clause-decides
returns-clause-decides c =
    let key = c.args.key.now in
    let s = c.args.slice.now in
    let command = c.args.command.now in
    let result = c.decision.result in
    λ first acts. decided key s command c.every_key_is_sound.ensures.sound c.every_command_is_sound.ensures.sound (command_seen s command) (command_changes s key command) result c.decision.ensures
    (every_right key s result command) first acts

pub returns-clause-reservations : goal.returns-clause-reservations
returns-clause-reservations c =
    let key = c.args.key.now in
    let s = c.args.slice.now in
    let command = c.args.command.now in
    let result = c.decision.result in
    reserved_rows key s command c.every_key_is_sound.ensures.sound c.every_command_is_sound.ensures.sound (command_seen s command) (command_changes s key command) result c.decision.ensures
    (every_right key s result command)
