-- What is done before the file of a line is opened.
use Rattle.std.specs.Prelude.{◌≡◌, ◌⊎◌, ◌-◌, ◌++◌, ◌∷◌, [], ℕ, List, codes, take, drop, replicate, Option, Bool, true, false}
use Rattle.std.specs.Io.KnownBytes.{Appends}
use Rattle.empty_database.specs.declared.first_page.TheConstants.{PAGE}
use Rattle.command_line.specs.declared.running.Work.{Work}
use Rattle.command_line.specs.declared.running.Work.TheVariants.{Make, Serve, Import, Card, Notice, History, Audit, Apply}
use Rattle.books_file.specs.declared.first_page.FirstStep.{FirstStep}
use Rattle.books_file.specs.declared.first_page.FirstStep.TheVariants.{Lay, Find}
use Rattle.books_file.specs.declared.path_files.Stage.{Stage}
use Rattle.books_file.specs.declared.path_files.Stage.TheVariants.{Untouched, Locked, Placed}

-- only the making of books makes a file
abbrev pub first_step : Work → FirstStep
first_step (Make day) = Lay
first_step (Serve port max log acts) = Find
first_step (Import file acts) = Find
first_step (Card lot) = Find
first_step (Notice lot) = Find
first_step History = Find
first_step (Audit given) = Find
first_step (Apply file) = Find

-- the file can be opened where the page is at the path, or no file was changed; where it can not, the page is not there
pub record IsLaid (stage : Stage) (ready : Bool) : Type 0 where
  pub opens : ready ≡ true → (stage ≡ Untouched) ⊎ (stage ≡ Placed)
  pub stays : ready ≡ false → (stage ≡ Untouched) ⊎ (stage ≡ Locked)

-- a page was written that begins as a file of SQLite does (its file format, section 1.3), and has zeros behind its heads
abbrev pub IsPageWritten : (old new : Option (List ℕ)) → Type 0
IsPageWritten old new =
    (page : List ℕ) × (take 16 page ≡ codes "SQLite format 3" ++ 0 ∷ []) × (drop 108 page ≡ replicate (PAGE - 108) 0) × Appends old new page
