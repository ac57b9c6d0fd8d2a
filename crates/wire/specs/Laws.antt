-- What is true of the answers to commands.
use Rattle.std.specs.Prelude.{◌≡◌, ℕ, Option}
use Rattle.serde_json.specs.Written.{compact_text}
use Rattle.commands.specs.Replies.{reply_text}
use Rattle.commands.specs.declared.replies.ReplyField.{ReplyField}
use Rattle.wire.specs.Shorts.{reply_data}

-- the answer to each command is the compact JSON of an object of `act` and at most one field more
abbrev pub CommandAnswersAreJson : Type 0
CommandAnswersAreJson = (act : ℕ) (field : Option ReplyField) → reply_text act field ≡ compact_text (reply_data act field)
