-- Faults that tell of no line.
use Rattle.applies.proofs.Words.{◌+◌, ◌≡◌, ◌≢◌, ℕ, List, Result, Ok, Err, refl, ap, subst, sym, inl, inr, ◌∙◌, ℤ, IfErr, IsTrue, Ghosts, Database, state, RepeatRow, Act, repeats, typed_rows_of, GoOnFrom, stored_acts, AreAsBefore, Connected, LineFault, IsOfWant, IsOfNoLine, IsOfRows, AreOutOfTurn, IsToldAs, counted, IsTextEnded, IsBehindEnded, AreLinesDone, AreBehindDone, Applied, NotApplied, Differs, Lacks, Line, Refused, Input, Store, Foreign}
use Rattle.histories.specs.declared.line_fault.LineFault.TheVariants as line

pub of_want : (fault : NotApplied) → IsOfWant fault → IsOfNoLine fault
of_want Input own = tt
of_want Store own = tt
of_want Foreign own = absurd own
of_want (Differs n) own = absurd own
of_want (Lacks n) own = absurd own
of_want (Line n) own = absurd own
of_want (Refused n why) own = absurd own

-- ---- where it is told that the books are foreign

pub want_told : {S : Type 0} (g : Ghosts S) (books : Connected S) (fault : NotApplied) → IsOfWant fault → IsOfRows g books fault
want_told g books fault own is = absurd (subst IsOfWant is own)

pub result_told : {T S : Type 0} (g : Ghosts S) (books : Connected S) (r : Result T NotApplied) → (r ≡ Err Foreign → AreOutOfTurn g books) → IfErr r (IsOfRows g books)
result_told g books (Ok x) f = tt
result_told g books (Err fault) f = λ is. f (ap Err is)

pub foreign_row : (l : LineFault) (known : ℕ) (fault : NotApplied) → IsToldAs l known fault → fault ≡ Foreign → l ≡ line.Foreign
foreign_row line.Memory known fault told is = let no : Store ≡ Foreign = sym told ∙ is in absurd cc
foreign_row line.Input known fault told is = let no : Input ≡ Foreign = sym told ∙ is in absurd cc
foreign_row line.Foreign known fault told is = refl
foreign_row (line.Differs n) known fault told is = let no : Differs n ≡ Foreign = sym told ∙ is in absurd cc
foreign_row line.OutOfTurn known fault told is = elim told [
  | inl store ↦ let no : Store ≡ Foreign = sym store ∙ is in absurd cc
  | inr placed ↦ let no : Line (known + 1) ≡ Foreign = sym placed ∙ is in absurd cc
]

-- the rows that were handed over are those of the books, which are as they were
pub out_of_turn : {S : Type 0} (g : Ghosts S) (was books : Connected S) (rows : List RepeatRow) → (rows ≡ stored_acts (state g was.conn)) × IsTrue (state g was.conn).is_open × IsTrue (state g books.conn).is_open → AreAsBefore g was books → ¬ GoOnFrom 0 rows
    → AreOutOfTurn g books
out_of_turn g was books rows stored same other = record {
  is_open = stored.2;
  order = λ turn. other (subst (GoOnFrom 0) (sym stored.0) (subst (λ (db : Database). GoOnFrom 0 (typed_rows_of repeats db.trees)) (same.shows stored.2) turn));
}

-- ---- where it is not

module _ {S : Type 0} (g : Ghosts S) (first begun : ℤ) (acts : List Act) where
  text_own : (newer : List Act) (head : List ℕ) (lines : ℕ) (behind : List ℕ) → ¬ IsTextEnded first begun acts newer head lines behind (Err Foreign)
  text_own newer head lines behind h = elim h [ inl own ↦ own | inr end ↦ end.0.misfits ]

  pub lines_own : (head text : List ℕ) (lines : ℕ) (r : Result ℕ NotApplied) (books : Connected S) → AreLinesDone g first begun acts head text lines r books → r ≢ Err Foreign
  lines_own head text lines r books d is = text_own d.newer head lines d.behind (subst (IsTextEnded first begun acts d.newer head lines d.behind) is d.ended)

  behind_own : (newer : List Act) (lines : ℕ) (behind : List ℕ) → ¬ IsBehindEnded first begun acts newer lines behind (Err Foreign)
  behind_own newer lines behind h = elim h [ inl own ↦ own | inr end ↦ end.misfits ]

  pub rest_own : (text : List ℕ) (lines : ℕ) (r : Result Applied NotApplied) (books : Connected S) → AreBehindDone g first begun acts text lines r books → r ≢ Err Foreign
  rest_own text lines r books d is = behind_own d.newer lines d.behind (subst (IsBehindEnded first begun acts d.newer lines d.behind) is d.ended)

pub counted_own : (known : ℕ) (r : Result ℕ NotApplied) → counted known r ≡ Err Foreign → r ≡ Err Foreign
counted_own known (Ok n) is = absurd (let no = is in cc)
counted_own known (Err fault) is = let same : fault ≡ Foreign = cc in ap Err same
