-- What holds of all commands and keys whose values keep their rules.
use Rattle.std.specs.Prelude.{◌≡◌, IsTrue}
use Rattle.commands.specs.Spelling.{spelling, key_text}
use Rattle.commands.specs.Words.{NamesOne, bin_kind_word, bin_kind_of, order_state_word, order_state_of, card_kind_word, card_kind_of, lot_status_word, lot_status_of}
use Rattle.commands.specs.Sound.{is_sound, is_sound_key}
use Rattle.commands.specs.declared.key.Key.{Key}
use Rattle.commands.specs.declared.command.Command.{Command}

-- two commands with one spelling are one command
abbrev pub OneSpellingACommand : Type 0
OneSpellingACommand = (a b : Command) → IsTrue (is_sound a) → IsTrue (is_sound b) → spelling a ≡ spelling b → a ≡ b

-- two keys with one text are one key
abbrev pub OneTextAKey : Type 0
OneTextAKey = (a b : Key) → IsTrue (is_sound_key a) → IsTrue (is_sound_key b) → key_text a ≡ key_text b → a ≡ b

-- each kind and each state has a word of its own, and no other text is the word of any
abbrev pub BinKindsAreNamed : Type 0
BinKindsAreNamed = NamesOne bin_kind_word bin_kind_of

abbrev pub OrderStatesAreNamed : Type 0
OrderStatesAreNamed = NamesOne order_state_word order_state_of

abbrev pub CardKindsAreNamed : Type 0
CardKindsAreNamed = NamesOne card_kind_word card_kind_of

abbrev pub LotStatusesAreNamed : Type 0
LotStatusesAreNamed = NamesOne lot_status_word lot_status_of
