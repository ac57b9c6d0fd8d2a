-- A file that is opened beside the books, whose acts began on a day that was found.
use Rattle.line_work.proofs.Words.{◌≡◌, ℕ, List, refl, sym, subst, Option, ℤ, IsTrue, Result, Ok, Err, IfErr, Appends-nil, Writes, beginning_of_none, Ghosts, StoreGhosts, Held, state, Act, IsHistory, Connected, HoldsBooks, KeepsBooks, LeavesOnly, BegunOn, IsNoMisfit, IsSameFile, IsOwn, IsOpened, IsNotOpened, LeavesOldest, ActsFile, ActsFault, NotOpened, left_from, left_same, not_told, opened_from, not_opened_from, Fault, fault_of_acts, FitsFile, IsOpenedBeside, IsNotOpenedBeside, IsRefusedBeside}
use Rattle.line_work.proofs.OwnDays.{own_taken}

-- where nothing was told, a fault is
pub none_told : {X E : Type 0} (same : Option (List ℕ)) (text : List ℕ) (r : Result X E) (fault : E) → r ≡ Err fault → Writes r same same text
none_told same text r fault is = subst (λ e. Writes e same same text) (sym is) (beginning_of_none same same text (Appends-nil same))

-- where all hold of an error, what follows from them does
pub on_err_all : {X E : Type 0} {P Q R T : E → Type 0} (r : Result X E) → IfErr r P → IfErr r Q → IfErr r R → ((e : E) → P e → Q e → R e → T e) → IfErr r T
on_err_all (Ok x) p q s f = tt
on_err_all (Err e) p q s f = f e p q s

module _ {D : Type 0} (g : Ghosts D) (first : ℤ) (acts : List Act) (disk read : D) (same : IsSameFile g disk read) where
  pub opened_beside : (begun : ℤ) → BegunOn first acts begun → (file : ActsFile D) → IsOpened g begun acts read file → IsOpenedBeside g first acts disk file
  opened_beside begun day file is = record {
    begun = begun;
    day = day;
    opened = opened_from g begun acts disk read same file is;
  }

  pub not_opened_beside : (begun : ℤ) → BegunOn first acts begun → (IsTrue (g.is_clean read) → FitsFile g first acts disk begun) → (e : NotOpened D) → IsNotOpened g begun acts read e
      → (IsTrue (g.is_clean e.disk) → IsOwn g begun acts read → IsNoMisfit e.fault) → LeavesOldest g begun acts read e.disk → IsNotOpenedBeside g first acts disk e
  not_opened_beside begun day fits e is own leaves = record {
    begun = begun;
    day = day;
    not_opened = not_opened_from g begun acts disk read same e is;
    own = own_taken g first acts disk read e.disk same begun e.fault fits is own;
    leaves = left_from g begun acts disk read e.disk same leaves;
  }

-- the day was not found
pub day_not_found : {D : Type 0} (g : Ghosts D) (first : ℤ) (acts : List Act) (disk new : D) (fault : ActsFault) → IsHistory first acts → IsSameFile g disk new → IsNoMisfit fault → IsNotOpenedBeside g first acts disk (record { disk = new; fault = fault })
day_not_found g first acts disk new fault history same none = record {
  begun = first;
  day = record { history = history; tables = refl };
  not_opened = not_told g first acts disk new fault fault none;
  own = λ clean o. none;
  leaves = left_same g first acts disk new same;
}

-- the file was refused, and the books closed
pub refused : {S D : Type 0} (s : StoreGhosts S) (g : Ghosts D) (first : ℤ) (acts : List Act) (books : Connected S) (conn : Held S) (disk new : D) (e : NotOpened D) (end : Result Unit Fault) → conn ≡ books.conn → new ≡ e.disk → end ≡ Err (fault_of_acts e.fault)
    → HoldsBooks s first acts books → LeavesOnly first acts (state s books.conn) → IsNotOpenedBeside g first acts disk e → IsRefusedBeside s g first acts disk conn end new
refused s g first acts books conn disk new e end at is told holds leaves not_opened = record {
  fault = e.fault;
  not_opened = subst (λ d. IsNotOpenedBeside g first acts disk (record { disk = d; fault = e.fault })) (sym is) not_opened;
  told = told;
  keeps = subst (λ h. KeepsBooks first acts (state s h)) (sym at) holds.keeps;
  leaves = subst (λ h. LeavesOnly first acts (state s h)) (sym at) leaves;
}
