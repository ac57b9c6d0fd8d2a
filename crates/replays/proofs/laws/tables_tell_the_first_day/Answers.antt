use Rattle.replays.proofs.Alike.{still_first}
use Rattle.replays.proofs.FirstDay.{first_day_told}
use Rattle.replays.proofs.EarlierDays.{told_day_stands}
use Rattle.replays.proofs.laws.tables_tell_the_first_day.Goals as goal

pub returns-clause-still : goal.returns-clause-still
returns-clause-still c = still_first

pub returns-clause-told : goal.returns-clause-told
returns-clause-told c = first_day_told

pub returns-clause-stands : goal.returns-clause-stands
returns-clause-stands c = told_day_stands
