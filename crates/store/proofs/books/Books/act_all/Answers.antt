use Rattle.store.proofs.Words.{sym, subst, arith, ℤ, List, Key, Command, state, HasCleanDisk, Survives, Trees, Ghosts, Act, IsHistory, acts_after_file, HoldsBooks, KeepsBooks, AreBooks, IsAsBefore, Connected, rows_of, AreKeysOf, history_file}
use Rattle.store.proofs.AsBefore.{as_before}
use Rattle.store.proofs.ActsWhole.{kept_acts}
use Rattle.store.proofs.BooksWhole.{idle_then, known_unread}
use Rattle.store.proofs.FilesWhole.{file_answered, file_faulted}
use Rattle.store.proofs.books.Books.act_all.Goals as goal

-- what a stop may leave beside the books as they were
abbrev Leaves : {S : Type 0} (g : Ghosts S) (rows : List (Key × Command)) (b : Connected S) → Trees → Type 0
Leaves g rows b = λ trees. AreKeysOf rows → (first : ℤ) (acts : List Act) → IsHistory first acts → KeepsBooks first acts (state g b.conn)
    → AreBooks first (acts_after_file first acts (rows_of rows)) trees

pub returns-in-Ok-clause-filed : goal.returns-in-Ok-clause-filed
returns-in-Ok-clause-filed g c clean keys first acts history holds =
    let was : HoldsBooks g.S.Store first acts (record { conn = c.self.inside.conn; day = c.self.inside.day }) = subst (HoldsBooks g.S.Store first acts) (sym c.self.view_is) holds in
    file_answered g.S.Store first acts (rows_of c.args.rows.now) c.self.inside.day c.in-Ok.filed c.file_once.new.conn was.day (c.in-Ok.ensures.filed clean keys first acts history was.keeps)

pub returns-in-Ok-clause-survives : goal.returns-in-Ok-clause-survives
returns-in-Ok-clause-survives g c =
    subst (λ b. Survives (state g.S.Store b.conn) (state g.S.Store c.file_once.new.conn) (Leaves g.S.Store c.args.rows.now b)) c.self.view_is c.in-Ok.ensures.survives

pub returns-in-Err-clause-filed : goal.returns-in-Err-clause-filed
returns-in-Err-clause-filed g c clean keys first acts history holds =
    let was : HoldsBooks g.S.Store first acts (record { conn = c.self.inside.conn; day = c.self.inside.day }) = subst (HoldsBooks g.S.Store first acts) (sym c.self.view_is) holds in
    file_faulted g.S.Store first acts (rows_of c.args.rows.now) c.self.inside.day c.in-Err.why c.file_once.new.conn was.day (c.in-Err.ensures.filed clean keys first acts history was.keeps)

pub returns-in-Err-clause-survives : goal.returns-in-Err-clause-survives
returns-in-Err-clause-survives g c =
    subst (λ b. Survives (state g.S.Store b.conn) (state g.S.Store c.file_once.new.conn) (Leaves g.S.Store c.args.rows.now b)) c.self.view_is c.in-Err.ensures.survives

pub returns-in-Ok-clause-kept : goal.returns-in-Ok-clause-kept
returns-in-Ok-clause-kept g c clean keys first acts history holds =
    let was : HoldsBooks g.S.Store first acts (record { conn = c.self.inside.conn; day = c.self.inside.day }) = subst (HoldsBooks g.S.Store first acts) (sym c.self.view_is) holds in
    let done = c.in-Ok.ensures.filed clean keys first acts history was.keeps in
    kept_acts g.S.Store c.file_once.new.conn first (acts_after_file first acts (rows_of c.args.rows.now)) (g.met.S.Store.settled c.file_once.new.conn.store) done.1 done.2

pub returns-in-Ok-clause-history : goal.returns-in-Ok-clause-history
returns-in-Ok-clause-history g c keys first acts history = history_file first acts (rows_of c.args.rows.now) (c.every_row_is_sound.ensures keys) history

pub returns-in-Err-clause-history : goal.returns-in-Err-clause-history
returns-in-Err-clause-history g c keys first acts history = history_file first acts (rows_of c.args.rows.now) (c.every_row_is_sound.ensures keys) history

pub returns-in-Err-clause-as_before : goal.returns-in-Err-clause-as_before
returns-in-Err-clause-as_before g c clean =
    let old = state g.S.Store c.self.inside.conn in
    let new = state g.S.Store c.file_once.new.conn in
    let before : HasCleanDisk old = omega (arith, clean, c.in-Err.ensures.survives.clean) in
    subst (λ b. IsAsBefore (state g.S.Store b.conn) new) c.self.view_is (as_before old new (c.self.invariant.1 before).0 (c.in-Err.ensures.settled clean) (c.in-Err.ensures.as_before clean))

pub invariant_of-self : goal.invariant_of-self
invariant_of-self g c = (idle_then g.S.Store c.self.inside.conn c.file_once.new.conn c.in-Ok.ensures.survives c.in-Ok.ensures.outside c.self.invariant.0, c.in-Ok.ensures.known)

pub invariant_of-self-in-Err : goal.invariant_of-self-in-Err
invariant_of-self-in-Err g c = (
  idle_then g.S.Store c.self.inside.conn c.file_once.new.conn c.in-Err.ensures.survives c.in-Err.ensures.outside c.self.invariant.0,
  known_unread (state g.S.Store c.file_once.new.conn) c.in-Err.ensures.settled,
)

pub returns-in-Ok-clause-stays : goal.returns-in-Ok-clause-stays
returns-in-Ok-clause-stays g c clean = c.in-Ok.ensures.settled clean

pub returns-in-Err-clause-stays : goal.returns-in-Err-clause-stays
returns-in-Err-clause-stays g c clean = c.in-Err.ensures.settled clean
