-- The codes of refusals.
use Rattle.std.specs.Prelude.{ℕ, List, codes}
use Rattle.commands.specs.declared.refusal.Refusal.{Refusal}
use Rattle.commands.specs.declared.refusal.Refusal.TheVariants.{KeyUsed, ActsFull, UnknownItem, UnknownBin, UnknownLot, UnknownOrder, NoSuchLine, ItemExists, BinExists, OrderExists, ItemTwice, OtherExpiry, LotRecalled, LotExpired, LotHeld, LotNotHeld, AlreadyRecalled, NotStoreBin, OrderClosed, StillStaged, NothingStaged, DayNotLater, TooFewDays, NotInBin, OverReserved, OverStaged, SameBin, OverUnits, OverOrdered, NoNotice}

-- a letter and two digits
abbrev pub refusal_code : Refusal → List ℕ
refusal_code KeyUsed = codes "K01"
refusal_code ActsFull = codes "F01"
refusal_code UnknownItem = codes "U01"
refusal_code UnknownBin = codes "U02"
refusal_code UnknownLot = codes "U03"
refusal_code UnknownOrder = codes "U04"
refusal_code NoSuchLine = codes "U05"
refusal_code ItemExists = codes "X01"
refusal_code BinExists = codes "X02"
refusal_code OrderExists = codes "X03"
refusal_code ItemTwice = codes "X04"
refusal_code OtherExpiry = codes "X05"
refusal_code LotRecalled = codes "S01"
refusal_code LotExpired = codes "S02"
refusal_code LotHeld = codes "S03"
refusal_code LotNotHeld = codes "S04"
refusal_code AlreadyRecalled = codes "S05"
refusal_code NotStoreBin = codes "S06"
refusal_code OrderClosed = codes "S07"
refusal_code StillStaged = codes "S08"
refusal_code NothingStaged = codes "S09"
refusal_code DayNotLater = codes "S10"
refusal_code TooFewDays = codes "S11"
refusal_code NotInBin = codes "Q01"
refusal_code OverReserved = codes "Q02"
refusal_code OverStaged = codes "Q03"
refusal_code SameBin = codes "Q04"
refusal_code OverUnits = codes "Q05"
refusal_code OverOrdered = codes "Q06"
refusal_code NoNotice = codes "N01"
