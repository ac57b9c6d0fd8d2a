use Rattle.acts_files.proofs.Words.{◌≡◌, ℤ, List, ◌++◌, length, state, Survives, Act, IsHistory, IsClean, HoldsBooks, AreAsBefore, KeepsActs, KeepsNext, KeepsTexts, NoHistory}
use Rattle.acts_files.proofs.acts_file.ActsFile.bring_up.Given as goal

abbrev pub invariant-loop : goal.invariant-loop
invariant-loop g l = record {
  clean : IsClean g.S.Store l.books → IsClean g.S.Store l.initial.books;
  kept : IsClean g.S.Store l.books → (first begun : ℤ) (newer older : List Act) → IsHistory first (newer ++ older) → HoldsBooks g.S.Store first (newer ++ older) l.initial.books → l.all ≡ length (newer ++ older)
      → KeepsActs g.D.Disk begun older l.initial.self → HoldsBooks g.S.Store first (newer ++ older) l.books × KeepsNext g.D.Disk begun newer older l.self;
  loses : KeepsTexts g.D.Disk l.initial.self l.self;
  steady : g.D.Disk.faults l.self.disk ≡ g.D.Disk.faults l.initial.self.disk;
  holds : IsClean g.S.Store l.books → (first : ℤ) (acts : List Act) → IsHistory first acts → HoldsBooks g.S.Store first acts l.initial.books → HoldsBooks g.S.Store first acts l.books;
  as_before : IsClean g.S.Store l.books → AreAsBefore g.S.Store l.initial.books l.books;
  survives : Survives (state g.S.Store l.initial.books.conn) (state g.S.Store l.books.conn) (NoHistory g.S.Store l.initial.books);
}
