-- What a row tells.
use Rattle.texts.proofs.Words.{◌≡◌, Option, sym, ap, ◌∙◌, IsTrue, is_sound, spelling, Command, RepeatRow, one_spelling, told_by, Tells, Start}

-- it is what any command tells that the row spells
pub told_as : (row : RepeatRow) (what : Option Start) → Tells row what → (command : Command) → IsTrue (is_sound command) → row.spell ≡ spelling command → what ≡ told_by row.act command
told_as row what one command sound is = one.told ∙ ap (told_by row.act) (one_spelling one.command command one.sound sound (sym one.spelled ∙ is))
