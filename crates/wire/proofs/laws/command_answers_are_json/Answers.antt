use Rattle.wire.proofs.ShortTexts as texts
use Rattle.wire.proofs.laws.command_answers_are_json.Goals as goal

pub returns : goal.returns
returns c = texts.command_answers_are_json
