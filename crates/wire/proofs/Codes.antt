-- Every code is a name.
use Rattle.wire.proofs.Words.{refl, IsTrue, is_name, fault_code, LabelFault, BadPrefix, UnknownIdentifier, CutShort, NotADigit, CheckDigit, VariableMeasure, LotEmpty, LotTooLong, LotCharacter, NoSuchDate, IdentifierRepeated, IdentifierMissing, SeparatorMisplaced, OutOfMemory, refusal_code, Refusal, KeyUsed, ActsFull, UnknownItem, UnknownBin, UnknownLot, UnknownOrder, NoSuchLine, ItemExists, BinExists, OrderExists, ItemTwice, OtherExpiry, LotRecalled, LotExpired, LotHeld, LotNotHeld, AlreadyRecalled, NotStoreBin, OrderClosed, StillStaged, NothingStaged, DayNotLater, TooFewDays, NotInBin, OverReserved, OverStaged, SameBin, OverUnits, OverOrdered, NoNotice, wire_code, WireFault, Head, Length, Json, Field, Path, Method, TooLarge, Memory}

pub refusal_is_name : (x : Refusal) → IsTrue (is_name (refusal_code x))
refusal_is_name KeyUsed = refl
refusal_is_name ActsFull = refl
refusal_is_name UnknownItem = refl
refusal_is_name UnknownBin = refl
refusal_is_name UnknownLot = refl
refusal_is_name UnknownOrder = refl
refusal_is_name NoSuchLine = refl
refusal_is_name ItemExists = refl
refusal_is_name BinExists = refl
refusal_is_name OrderExists = refl
refusal_is_name ItemTwice = refl
refusal_is_name OtherExpiry = refl
refusal_is_name LotRecalled = refl
refusal_is_name LotExpired = refl
refusal_is_name LotHeld = refl
refusal_is_name LotNotHeld = refl
refusal_is_name AlreadyRecalled = refl
refusal_is_name NotStoreBin = refl
refusal_is_name OrderClosed = refl
refusal_is_name StillStaged = refl
refusal_is_name NothingStaged = refl
refusal_is_name DayNotLater = refl
refusal_is_name TooFewDays = refl
refusal_is_name NotInBin = refl
refusal_is_name OverReserved = refl
refusal_is_name OverStaged = refl
refusal_is_name SameBin = refl
refusal_is_name OverUnits = refl
refusal_is_name OverOrdered = refl
refusal_is_name NoNotice = refl

pub label_fault_is_name : (x : LabelFault) → IsTrue (is_name (fault_code x))
label_fault_is_name BadPrefix = refl
label_fault_is_name UnknownIdentifier = refl
label_fault_is_name CutShort = refl
label_fault_is_name NotADigit = refl
label_fault_is_name CheckDigit = refl
label_fault_is_name VariableMeasure = refl
label_fault_is_name LotEmpty = refl
label_fault_is_name LotTooLong = refl
label_fault_is_name LotCharacter = refl
label_fault_is_name NoSuchDate = refl
label_fault_is_name IdentifierRepeated = refl
label_fault_is_name IdentifierMissing = refl
label_fault_is_name SeparatorMisplaced = refl
label_fault_is_name OutOfMemory = refl

pub wire_fault_is_name : (x : WireFault) → IsTrue (is_name (wire_code x))
wire_fault_is_name Head = refl
wire_fault_is_name Length = refl
wire_fault_is_name Json = refl
wire_fault_is_name Field = refl
wire_fault_is_name Path = refl
wire_fault_is_name (Method m) = refl
wire_fault_is_name TooLarge = refl
wire_fault_is_name Memory = refl
