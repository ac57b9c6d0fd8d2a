use Rattle.acts_files.proofs.Words.{◌≡◌, ◌≤◌, ℤ, List, ◌++◌, length, state, Survives, Act, IsHistory, IsClean, HoldsBooks, IsSameFile, HasPassed, NoHistory, IsMeasured, PassesMore}
use Rattle.acts_files.proofs.acts_file.ActsFile.pass.Given as goal

abbrev pub invariant-loop : goal.invariant-loop
invariant-loop g l = record {
  clean : IsClean g.S.Store l.books → IsClean g.S.Store l.initial.books;
  passed : IsClean g.S.Store l.books → (first begun : ℤ) (newer older : List Act) → IsHistory first (newer ++ older) → HoldsBooks g.S.Store first (newer ++ older) l.initial.books → l.all ≡ length (newer ++ older)
      → HasPassed g.D.Disk begun older l.initial.self → IsMeasured g.D.Disk l.size l.initial.self
      → HoldsBooks g.S.Store first (newer ++ older) l.books × PassesMore g.D.Disk begun newer older l.self;
  same : IsSameFile g.D.Disk l.initial.self.disk l.self.disk;
  within : l.initial.self.len ≤ l.size → l.self.len ≤ l.size;
  holds : IsClean g.S.Store l.books → (first : ℤ) (acts : List Act) → IsHistory first acts → HoldsBooks g.S.Store first acts l.initial.books → HoldsBooks g.S.Store first acts l.books;
  survives : Survives (state g.S.Store l.initial.books.conn) (state g.S.Store l.books.conn) (NoHistory g.S.Store l.initial.books);
}
