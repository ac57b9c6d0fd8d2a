-- A line was read, and all before it were done.
use Rattle.applies.proofs.Words.{List, Option, ℕ, ℤ, state, Survives, Act, IsClean, OfText, Stands, LeavesLines}
use Rattle.applies.proofs.Loop.{Comes}
use Rattle.applies.proofs.lines.do_lines.Given as goal

abbrev pub invariant-lines : goal.invariant-lines
invariant-lines g l = record {
  clean : IsClean g.S.Store l.books → IsClean g.S.Store l.fn.books;
  comes : IsClean g.S.Store l.books → (left : Option (List ℕ)) (first begun : ℤ) (acts : List Act) → Stands g.S.Store first begun acts left (g.R.Read.remaining l.fn.reader) l.fn.at l.fn.line.items l.fn.books
      → Comes g.S.Store g.R.Read.remaining left first begun acts l.fn.line.items l.fn.at.lines l.at l.reader l.line.items l.books;
  survives : Survives (state g.S.Store l.fn.books.conn) (state g.S.Store l.books.conn) (λ trees. (left : Option (List ℕ)) (first begun : ℤ) (acts : List Act) → Stands g.S.Store first begun acts left (g.R.Read.remaining l.fn.reader) l.fn.at l.fn.line.items l.fn.books
      → OfText left (λ text. LeavesLines first begun acts text trees));
}
