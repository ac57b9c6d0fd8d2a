-- How a line ends: what its words come to, and what the side of the books told of its work and left.
use Rattle.std.specs.Prelude.{◌≡◌, ◌⊎◌, ℕ, ℤ, List, [], IsTrue, Option, Some, None, option_map, Result, Ok, Err}
use Rattle.std.specs.Io.KnownBytes.{Keeps}
use Rattle.clap.specs.Faults.{fault_of}
use Rattle.clap.specs.Kinds.{HasKind}
use Rattle.clap.specs.Walk.{Text}
use Rattle.clap.specs.declared.error.Error.{Error}
use Rattle.values.specs.Values.{is_gtin, is_lot_text}
use Rattle.values.specs.declared.lot.LotId.{LotId}
use Rattle.label.specs.Days.{is_business_day, parsed_day}
use Rattle.command_line.specs.Lines.{IsFaultOfWords, IsNoBusinessDay, IsPrinted, IsRefused}
use Rattle.command_line.specs.Statuses.{IsStatusOf, IsOutputOf, IsToldOf}
use Rattle.command_line.specs.Program.{program_app}
use Rattle.command_line.specs.Words.{IsLineRead}
use Rattle.command_line.specs.declared.fault.Fault.{Fault}
use Rattle.command_line.specs.declared.fault.Fault.TheVariants.{Value, Io}
use Rattle.command_line.specs.declared.running.Work.{Work}
use Rattle.command_line.specs.declared.running.Work.TheVariants.{Make, Serve as ServeBooks, Import as ImportFile, Card as CardOf, Notice as NoticeOf, History as HistoryOf, Audit as AuditOf, Apply as ApplyFile}
use Rattle.command_line.specs.declared.words.Line.{Line}
use Rattle.command_line.specs.declared.words.Line.TheVariants.{Label, Init, Serve, Import, Card, Notice, History, Audit, Apply, Unknown}

-- how the work with the books in this file may end, by what the output and the log held and hold, and what is left of their files
abbrev pub Works : Type 0 → Type 1
Works L = List ℕ → Work → (old new log_old log_new : Option (List ℕ)) → Result Unit Fault → L → Type 0

-- the GTIN or the lot breaks its rule
abbrev pub IsNoLot : (gtin lot : List ℕ) → Type 0
IsNoLot gtin lot = IsTrue (is_gtin gtin) → IsTrue (is_lot_text lot) → ⊥

-- what the label says was printed, or the line is refused
abbrev pub IsLabelTold : (date text : List ℕ) → (old new : Option (List ℕ)) → Result Unit Fault → Type 0
IsLabelTold date text old new (Ok done) = IsPrinted date text old new
IsLabelTold date text old new (Err fault) = IsRefused date text old new fault

module _ {L : Type 0} (works : Works L) (old new log_old log_new : Option (List ℕ)) where
  -- the work with the books was done, and this is left of their files
  abbrev pub IsWorked : List ℕ → Work → Result Unit Fault → Option L → Type 0
  IsWorked db work end left = (l : L) × (left ≡ Some l) × works db work old new log_old log_new end l

  -- no file of books was named: the log is as it was
  abbrev pub IsWithoutBooks : Option L → Type 0
  IsWithoutBooks left = (left ≡ None) × (log_new ≡ log_old)

  -- the words are refused, and nothing was done, printed or logged
  abbrev pub IsNoWork : Result Unit Fault → Option L → Type 0
  IsNoWork end left = IsWithoutBooks left × (new ≡ old) × (end ≡ Err Value)

  -- the date is a business day, and the work is with that; or it is none
  abbrev pub IsOnDay : List ℕ → (ℤ → Work) → (date : List ℕ) → Result Unit Fault → Option L → Type 0
  IsOnDay db work date end left =
      ((day : ℤ) × (parsed_day date ≡ Some day) × IsTrue (is_business_day day) × IsWorked db (work day) end left)
      ⊎ (IsNoBusinessDay date × IsNoWork end left)

  -- the audit is on the day that is given, or on none
  abbrev pub IsAudited : List ℕ → Option (List ℕ) → Result Unit Fault → Option L → Type 0
  IsAudited db None end left = IsWorked db (AuditOf None) end left
  IsAudited db (Some date) end left = IsOnDay db (λ day. AuditOf (Some day)) date end left

  -- the words name a lot, and the work is with that; or they name none
  abbrev pub IsWithLot : List ℕ → (LotId → Work) → (gtin lot : List ℕ) → Result Unit Fault → Option L → Type 0
  IsWithLot db work gtin lot end left =
      (IsTrue (is_gtin gtin) × IsTrue (is_lot_text lot) × IsWorked db (work (record { gtin = gtin; lot = lot })) end left)
      ⊎ (IsNoLot gtin lot × IsNoWork end left)

  -- what a line comes to
  abbrev pub IsEndOf : Line → Result Unit Fault → Option L → Type 0
  IsEndOf (Init db day) end left = IsOnDay db.now Make day.now end left
  IsEndOf (Serve db port max log acts) end left = IsWorked db.now (ServeBooks port max log acts) end left
  IsEndOf (Import db file acts) end left = IsWorked db.now (ImportFile file acts) end left
  IsEndOf (Card db gtin lot) end left = IsWithLot db.now CardOf gtin.now lot.now end left
  IsEndOf (Notice db gtin lot) end left = IsWithLot db.now NoticeOf gtin.now lot.now end left
  IsEndOf (History db) end left = IsWorked db.now HistoryOf end left
  IsEndOf (Audit db day) end left = IsAudited db.now (option_map (λ d. d.now) day) end left
  IsEndOf (Apply db file) end left = IsWorked db.now (ApplyFile file) end left
  IsEndOf (Label day text) end left = IsWithoutBooks left × IsLabelTold day.now text.now old new end
  IsEndOf Unknown end left = IsNoWork end left

-- the words are no line, for a reason of those that `clap` has, or there was no memory
abbrev pub IsNoLine : (words : List Text) → Result Unit Fault → Type 0
IsNoLine words end = (error : Error) × (fault : Fault) × HasKind (fault_of program_app words) error × IsFaultOfWords error fault × (end ≡ Err fault)

-- `clap` finds no fault in the words, and they are this line
abbrev pub IsLineOfWords : (words : List Text) → Line → Type 0
IsLineOfWords words line = (fault_of program_app words ≡ []) × IsLineRead words line

module _ {L : Type 0} (works : Works L) (words : List Text) (old new log_old log_new : Option (List ℕ)) where
  -- the line that they are ended so, or was done and its output could not be flushed; what it printed stays
  abbrev pub IsLineDone : Result Unit Fault → Option L → Type 0
  IsLineDone end left =
      (line : Line) × IsLineOfWords words line × (printed : Option (List ℕ)) × Keeps printed new
      × (IsEndOf works old printed log_old log_new line end left
      ⊎ ((done : Unit) × IsEndOf works old printed log_old log_new line (Ok done) left × (end ≡ Err Io)))

  -- how the words of a line may end
  abbrev pub IsEnded : Result Unit Fault → Option L → Type 0
  IsEnded end left = (IsNoLine words end × IsWithoutBooks works old new log_old log_new left × (new ≡ old)) ⊎ IsLineDone end left

-- the words came to such an end, and the status and what is written then are those of it
abbrev pub IsRun : {L : Type 0} → Works L → (words : List Text) → (old new log_old log_new : Option (List ℕ)) → ℕ → Option L → Type 0
IsRun works words old new log_old log_new status left =
    (end : Result Unit Fault) × (printed : Option (List ℕ)) × (logged : Option (List ℕ)) × IsEnded works words old printed log_old logged end left
    × IsStatusOf end status × IsOutputOf end printed new status × IsToldOf end logged log_new
