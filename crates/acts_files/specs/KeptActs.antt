-- A file that keeps the acts of books. `g` is what the file's type means by what a read returns and by what a stop may leave.
use Rattle.std.specs.Prelude.{◌≡◌, ◌⊎◌, ◌≤◌, ℕ, ℤ, List, ◌++◌, length, IsTrue}
use Rattle.sqlite_disk.specs.Disk.{MoreFaults}
use Rattle.sqlite_disk.specs.declared.Disk.{Ghosts}
use Rattle.sqlite_trees.specs.declared.store.Store.{Ghosts as StoreGhosts}
use Rattle.sqlite_trees.specs.Tree.{Trees}
use Rattle.machine.specs.Acts.{Act}
use Rattle.machine.specs.Once.{IsHistory}
use Rattle.machine.specs.Standing.{today}
use Rattle.histories.specs.Text.{history_text}
use Rattle.histories.specs.Newer.{newer_text}
use Rattle.store.specs.Connected.{Connected}
use Rattle.store.specs.Books.{HoldsBooks}
use Rattle.acts_files.specs.Kept.{HasText, ShowsText, BeginsWith, HasAtMost}
use Rattle.acts_files.specs.declared.acts_file.ActsFile.{ActsFile}

-- the text of all acts is that of the older ones and then that of the newer
abbrev pub TextGoesOn : Type 0
TextGoesOn = (begun : ℤ) (newer older : List Act) → history_text begun (newer ++ older) ≡ history_text begun older ++ newer_text begun newer older

-- the disk under the file has returned what was written
abbrev pub IsCleanFile : {D : Type 0} → Ghosts D → ActsFile D → Type 0
IsCleanFile g file = IsTrue (g.is_clean file.disk)

-- the file is the text of the acts, as it reads and after a stop; their number and their business day are known
pub record KeepsActs {D : Type 0} (g : Ghosts D) (begun : ℤ) (acts : List Act) (file : ActsFile D) : Type 0 where
  pub usable : IsTrue (g.is_usable file.disk)
  pub done : file.done ≡ length acts
  pub day : file.day ≡ today begun acts
  pub text : IsCleanFile g file → HasText g (history_text begun acts) file.len file.disk

-- it has the lines of these acts first, up to the place that was reached
pub record HasPassed {D : Type 0} (g : Ghosts D) (begun : ℤ) (acts : List Act) (file : ActsFile D) : Type 0 where
  pub done : file.done ≡ length acts
  pub day : file.day ≡ today begun acts
  pub text : IsCleanFile g file → ShowsText g (history_text begun acts) file.len file.disk

-- at each moment, whatever a stop leaves of it begins with the text of the acts
abbrev pub BeginsWithActs : {D : Type 0} → Ghosts D → ℤ → List Act → ActsFile D → Type 0
BeginsWithActs g begun acts file = IsCleanFile g file → BeginsWith g (history_text begun acts) file.disk

-- whatever a stop leaves of the file begins with this text, which is no longer than what its lines have
abbrev pub HoldsText : {D : Type 0} → Ghosts D → ActsFile D → List ℕ → Type 0
HoldsText g file text = BeginsWith g text file.disk × (length text ≤ file.len)

-- no text that it holds is lost, whatever it is
pub record KeepsTexts {D : Type 0} (g : Ghosts D) (old new : ActsFile D) : Type 0 where
  pub clean : IsCleanFile g new → IsCleanFile g old
  pub kept : (text : List ℕ) → HoldsText g old text → HoldsText g new text

-- the lines of some of the newer acts were added
pub record KeepsNext {D : Type 0} (g : Ghosts D) (begun : ℤ) (newer older : List Act) (file : ActsFile D) : Type 0 where
  pub later : List Act
  pub added : List Act
  pub parts : newer ≡ later ++ added
  pub keeps : KeepsActs g begun (added ++ older) file

-- Whatever a stop leaves of the file is the lines of the older acts, of some of the newer ones, and at most as many bytes behind them
-- as the lines of the next ones have, a thousand at most.
pub record HasAdded {D : Type 0} (g : Ghosts D) (begun : ℤ) (newer older : List Act) (disk : D) : Type 0 where
  pub added : List Act
  pub later : List Act
  pub parts : newer ≡ later ++ added
  pub next : List Act
  pub beyond : List Act
  pub split : later ≡ beyond ++ next
  pub few : length next ≤ 1_000
  pub left : IsTrue (g.is_clean disk) → HasAtMost g (history_text begun (added ++ older)) (length (newer_text begun next (added ++ older))) disk

-- Lines of the next acts could not be added. What the file reads as is just the lines of those that were, unless a call on it failed.
pub record LacksNext {D : Type 0} (g : Ghosts D) (begun : ℤ) (newer older : List Act) (old new : ActsFile D) : Type 0 where
  pub has : HasAdded g begun newer older new.disk
  pub why : MoreFaults (g.faults old.disk) (g.faults new.disk) ⊎ (IsCleanFile g new → HasText g (history_text begun (has.added ++ older)) new.len new.disk)

-- the acts are the oldest of all
abbrev pub AreOldest : (older all : List Act) → Type 0
AreOldest older all = (newer : List Act) × (all ≡ newer ++ older)

-- Of the acts of books, the text has the lines of the oldest, at least of these, and behind them at most as many bytes as the lines of
-- the next ones have, a thousand at most.
pub record HasOldest (begun : ℤ) (least all : List Act) (text : List ℕ) : Type 0 where
  pub oldest : List Act
  pub next : List Act
  pub rest : List ℕ
  pub enough : AreOldest least oldest
  pub are : AreOldest (next ++ oldest) all
  pub few : length next ≤ 1_000
  pub is : text ≡ history_text begun oldest ++ rest
  pub short : length rest ≤ length (newer_text begun next oldest)

-- what a call commits that commits nothing on the books of a history
abbrev pub NoHistory : {S : Type 0} → StoreGhosts S → Connected S → Trees → Type 0
NoHistory g books trees = (first : ℤ) (acts : List Act) → IsHistory first acts → ¬ HoldsBooks g first acts books
