-- What opening the file of the acts comes to. `g` is what the file's type means by what a read returns and by what a stop may leave.
use Rattle.std.specs.Prelude.{◌≡◌, ◌≢◌, ◌⊎◌, ◌≤◌, ℕ, ℤ, List, [], ◌∷◌, ◌++◌, length, take, drop, IsTrue}
use Rattle.sqlite_disk.specs.Disk.{Only}
use Rattle.sqlite_disk.specs.declared.Disk.{Ghosts}
use Rattle.machine.specs.Acts.{Act, next_number}
use Rattle.histories.specs.Text.{history_text}
use Rattle.histories.specs.Newer.{act_line, newer_text}
use Rattle.histories.specs.Reading.{IsNumbered}
use Rattle.acts_files.specs.Kept.{AreLines, IsSameFile}
use Rattle.acts_files.specs.KeptActs.{KeepsActs, KeepsNext, HasPassed, HasOldest, HoldsText, IsCleanFile}
use Rattle.acts_files.specs.Newer.{AreNext}
use Rattle.acts_files.specs.Torn.{Begins, IsLeftOf, IsPartOf}
use Rattle.acts_files.specs.declared.acts_file.ActsFile.{ActsFile}
use Rattle.acts_files.specs.declared.opening.NotOpened.{NotOpened}
use Rattle.acts_files.specs.declared.fault.ActsFault.{ActsFault}
use Rattle.acts_files.specs.declared.fault.ActsFault.TheVariants.{File, Store, Foreign, Differs, Lacks}

-- what the file has behind the lines that were passed
abbrev pub rest_of : {D : Type 0} → Ghosts D → ActsFile D → List ℕ
rest_of g file = drop file.len (g.seen file.disk)

module _ {D : Type 0} (g : Ghosts D) (begun : ℤ) where
  -- the lines of some acts more were passed
  pub record PassesMore (newer older : List Act) (now : ActsFile D) : Type 0 where
    pub later : List Act
    pub passed : List Act
    pub parts : newer ≡ later ++ passed
    pub has : HasPassed g begun (passed ++ older) now

  -- and those of the next ones, so many at most, do not stand behind them
  pub record StopsAt (most : ℕ) (newer older : List Act) (now : ActsFile D) : Type 0 where
    pub next : List Act
    pub are_next : AreNext most newer next
    pub some : next ≢ []
    pub unlike : IsCleanFile g now → ¬ Begins (newer_text begun next older) (rest_of g now)

  -- there are none behind those that were passed, or the next ones do not stand there
  abbrev pub EndsAt : (most : ℕ) → (newer older : List Act) → ActsFile D → Type 0
  EndsAt most newer older now = (newer ≡ []) ⊎ StopsAt most newer older now

  -- the lines of all were passed, or those of some
  pub record HasWalked (most : ℕ) (newer older : List Act) (now : ActsFile D) : Type 0 where
    pub more : PassesMore newer older now
    pub end : EndsAt most more.later (more.passed ++ older) now

-- why what stands behind the lines of the older acts is none of the next one
abbrev pub Misfits : ℤ → (newer older : List Act) → (rest : List ℕ) → ActsFault → Type 0
Misfits begun newer older rest File = Unit {0}
Misfits begun newer older rest Store = Unit {0}
Misfits begun newer older rest Foreign = Unit {0}
Misfits begun newer older rest (Differs n) =
    (n ≡ next_number older)
    × (((later : List Act) × (act : Act) × (newer ≡ later ++ act ∷ []) × ¬ Begins (act_line begun act older) rest) ⊎ ((newer ≡ []) × ¬ IsNumbered n (take 8_192 rest)))
Misfits begun newer older rest (Lacks n) = (n ≡ next_number older) × (newer ≡ []) × IsNumbered n rest

-- What a stop leaves behind the lines of the older acts: what a torn write of the next lines does, a thousand at most; or, where there are
-- none, part of the line of a later act.
abbrev pub IsTail : ℤ → (newer older : List Act) → List ℕ → Type 0
IsTail begun newer older tail =
    ((next : List Act) × AreNext 1_000 newer next × IsLeftOf (newer_text begun next older) tail) ⊎ ((newer ≡ []) × IsPartOf (next_number older) tail)

module _ {D : Type 0} (g : Ghosts D) where
  -- it is known how many bytes the file has
  abbrev pub IsMeasured : (size : ℕ) → ActsFile D → Type 0
  IsMeasured size file = IsCleanFile g file → size ≡ length (g.seen file.disk)

  -- the whole lines that the file had first stand in it, in whatever a stop leaves of it too, below the place that was reached
  abbrev pub KeepsLines : (old : D) → (new : ActsFile D) → Type 0
  KeepsLines old new =
      IsCleanFile g new → Only (g.seen old) (g.may_leave old) → (lines rest : List ℕ) → AreLines lines → g.seen old ≡ lines ++ rest → HoldsText g new lines

  module _ (begun : ℤ) (newer older : List Act) (old new : ActsFile D) where
    -- what stood behind the lines of the older acts was what a stop leaves, and the file has the lines of these or more alone
    pub record IsPut : Type 0 where
      pub keeps : KeepsNext g begun newer older new
      pub torn : IsCleanFile g new → IsTail begun newer older (rest_of g old)

    -- it was not, and nothing was changed
    pub record IsOther (fault : ActsFault) : Type 0 where
      pub same : IsSameFile g old.disk new.disk
      pub other : IsCleanFile g new → ¬ IsTail begun newer older (rest_of g old)
      pub misfits : IsCleanFile g new → Misfits begun newer older (rest_of g old) fault

    abbrev pub IsNotPutBy : (told fault : ActsFault) → Type 0
    IsNotPutBy File fault = Unit {0}
    IsNotPutBy Store fault = Unit {0}
    IsNotPutBy Foreign fault = Unit {0}
    IsNotPutBy (Differs n) fault = IsOther fault
    IsNotPutBy (Lacks n) fault = IsOther fault

    abbrev pub IsNotPut : ActsFault → Type 0
    IsNotPut fault = IsNotPutBy fault fault

-- The file is that of these acts: it has the lines of the oldest, and behind them at most what a stop leaves of the next ones.
pub record IsOwn {D : Type 0} (g : Ghosts D) (begun : ℤ) (acts : List Act) (disk : D) : Type 0 where
  pub older : List Act
  pub newer : List Act
  pub parts : acts ≡ newer ++ older
  pub tail : List ℕ
  pub has : g.seen disk ≡ history_text begun older ++ tail
  pub torn : IsTail begun newer older tail

-- The file had the lines of the oldest acts, and behind them at most what a stop leaves of the next ones. It keeps all acts now.
pub record IsOpened {D : Type 0} (g : Ghosts D) (begun : ℤ) (acts : List Act) (disk : D) (file : ActsFile D) : Type 0 where
  pub keeps : KeepsActs g begun acts file
  pub older : List Act
  pub newer : List Act
  pub parts : acts ≡ newer ++ older
  pub tail : List ℕ
  pub had : IsCleanFile g file → g.seen disk ≡ history_text begun older ++ tail
  pub torn : IsCleanFile g file → IsTail begun newer older tail

-- It has the lines of the oldest acts, and behind them what no stop leaves of the next ones. Nothing of it was changed.
pub record IsRefused {D : Type 0} (g : Ghosts D) (begun : ℤ) (acts : List Act) (disk new : D) (fault : ActsFault) : Type 0 where
  pub same : IsSameFile g disk new
  pub older : List Act
  pub newer : List Act
  pub parts : acts ≡ newer ++ older
  pub rest : List ℕ
  pub has : IsTrue (g.is_clean new) → g.seen disk ≡ history_text begun older ++ rest
  pub other : IsTrue (g.is_clean new) → ¬ IsTail begun newer older rest
  pub misfits : IsTrue (g.is_clean new) → Misfits begun newer older rest fault

-- Whatever a stop leaves of a file that was not opened is no longer than it was, or has the lines of the oldest acts, and behind them at
-- most as many bytes as those of the next ones have, a thousand at most.
abbrev pub LeavesOldest : {D : Type 0} → Ghosts D → ℤ → List Act → (old new : D) → Type 0
LeavesOldest g begun acts old new =
    IsTrue (g.is_clean new) → Only (g.seen old) (g.may_leave old) → (c : List ℕ) → g.may_leave new c → (length c ≤ length (g.seen old)) ⊎ HasOldest begun [] acts c

abbrev pub IsNotOpenedBy : {D : Type 0} → Ghosts D → ℤ → List Act → (disk new : D) → (fault told : ActsFault) → Type 0
IsNotOpenedBy g begun acts disk new fault File = Unit {0}
IsNotOpenedBy g begun acts disk new fault Store = Unit {0}
IsNotOpenedBy g begun acts disk new fault Foreign = Unit {0}
IsNotOpenedBy g begun acts disk new fault (Differs n) = IsRefused g begun acts disk new fault
IsNotOpenedBy g begun acts disk new fault (Lacks n) = IsRefused g begun acts disk new fault

abbrev pub IsNotOpened : {D : Type 0} → Ghosts D → ℤ → List Act → D → NotOpened D → Type 0
IsNotOpened g begun acts disk e = IsNotOpenedBy g begun acts disk e.disk e.fault e.fault
