-- Rows that are no history.
use Rattle.audits.proofs.Words.{List, ℤ, Err, Ghosts, RepeatRow, Connected, AreRowsReplayed, NotReplayed, AreNone}
use Rattle.replays.specs.declared.fault.NotReplayed.TheVariants as fault

pub none_of : {S : Type 0} (g : Ghosts S) (day : ℤ) (rows : List RepeatRow) (books : Connected S) (e : NotReplayed) → AreRowsReplayed g day rows (Err e) books → AreNone day rows e
none_of g day rows books (fault.Unspelled act) h = h
none_of g day rows books (fault.Refused act why) h = h
none_of g day rows books fault.Store h = tt
none_of g day rows books fault.Foreign h = h
