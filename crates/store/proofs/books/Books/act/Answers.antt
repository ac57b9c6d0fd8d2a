use Rattle.store.proofs.Words.{sym, subst, ◌∙◌, arith, rules, ℤ, List, IsTrue, Key, Command, state, HasCleanDisk, Survives, Trees, Ghosts, Act, IsHistory, is_key_of, acts_after, HoldsBooks, KeepsBooks, AreBooks, IsAsBefore, Connected}
use Rattle.store.proofs.AsBefore.{as_before}
use Rattle.store.proofs.ActsWhole.{kept_acts}
use Rattle.store.proofs.BooksWhole.{idle_then}
use Rattle.store.proofs.DayTold.{day_told}
use Rattle.store.proofs.books.Books.act.Goals as goal

-- what a stop may leave beside the books as they were
abbrev Leaves : {S : Type 0} (g : Ghosts S) (key : Key) (command : Command) (b : Connected S) → Trees → Type 0
Leaves g key command b = λ trees. IsTrue (is_key_of key command) → (first : ℤ) (acts : List Act) → IsHistory first acts → KeepsBooks first acts (state g b.conn)
    → AreBooks first (acts_after first acts (record { key = key; command = command })) trees

pub returns-in-Ok-clause-acted : goal.returns-in-Ok-clause-acted
returns-in-Ok-clause-acted g c clean kind first acts history holds =
    let act : Act = record { key = c.args.key.now; command = c.args.command.now } in
    let was : HoldsBooks g.S.Store first acts (record { conn = c.self.inside.conn; day = c.self.inside.day }) = subst (HoldsBooks g.S.Store first acts) (sym c.self.view_is) holds in
    let done = c.in-Ok.ensures.acted clean kind first acts history was.keeps in
    (done.0, done.1, record { keeps = done.2; day = c.day_left-day.ensures ∙ day_told first acts act c.self.inside.day c.in-Ok.reply done.0 was.day })

pub returns-in-Ok-clause-kept : goal.returns-in-Ok-clause-kept
returns-in-Ok-clause-kept g c clean kind first acts history holds =
    let act : Act = record { key = c.args.key.now; command = c.args.command.now } in
    let was : HoldsBooks g.S.Store first acts (record { conn = c.self.inside.conn; day = c.self.inside.day }) = subst (HoldsBooks g.S.Store first acts) (sym c.self.view_is) holds in
    let done = c.in-Ok.ensures.acted clean kind first acts history was.keeps in
    kept_acts g.S.Store c.act_once.new.conn first (acts_after first acts act) (g.met.S.Store.settled c.act_once.new.conn.store) done.1 done.2

pub returns-in-Ok-clause-clean : goal.returns-in-Ok-clause-clean
returns-in-Ok-clause-clean g c = search rules

pub returns-in-Ok-clause-survives : goal.returns-in-Ok-clause-survives
returns-in-Ok-clause-survives g c =
    subst (λ b. Survives (state g.S.Store b.conn) (state g.S.Store c.act_once.new.conn) (Leaves g.S.Store c.args.key.now c.args.command.now b)) c.self.view_is c.in-Ok.ensures.survives

pub returns-in-Err-clause-clean : goal.returns-in-Err-clause-clean
returns-in-Err-clause-clean g c = search rules

pub returns-in-Err-clause-acted : goal.returns-in-Err-clause-acted
returns-in-Err-clause-acted g c = search rules

pub returns-in-Err-clause-survives : goal.returns-in-Err-clause-survives
returns-in-Err-clause-survives g c =
    subst (λ b. Survives (state g.S.Store b.conn) (state g.S.Store c.act_once.new.conn) (Leaves g.S.Store c.args.key.now c.args.command.now b)) c.self.view_is c.in-Err.ensures.survives

pub returns-in-Err-clause-as_before : goal.returns-in-Err-clause-as_before
returns-in-Err-clause-as_before g c clean =
    let old = state g.S.Store c.self.inside.conn in
    let new = state g.S.Store c.act_once.new.conn in
    let before : HasCleanDisk old = omega (arith, clean, c.in-Err.ensures.survives.clean) in
    subst (λ b. IsAsBefore (state g.S.Store b.conn) new) c.self.view_is (as_before old new (c.self.invariant.1 before).0 (c.in-Err.ensures.known clean).0 (c.in-Err.ensures.as_before clean))

pub invariant_of-self : goal.invariant_of-self
invariant_of-self g c = (idle_then g.S.Store c.self.inside.conn c.act_once.new.conn c.in-Ok.ensures.survives c.in-Ok.ensures.outside c.self.invariant.0, c.in-Ok.ensures.known)

pub invariant_of-self-in-Err : goal.invariant_of-self-in-Err
invariant_of-self-in-Err g c = (idle_then g.S.Store c.self.inside.conn c.act_once.new.conn c.in-Err.ensures.survives c.in-Err.ensures.outside c.self.invariant.0, c.in-Err.ensures.known)

pub returns-in-Ok-clause-stays : goal.returns-in-Ok-clause-stays
returns-in-Ok-clause-stays g c clean = (c.in-Ok.ensures.known clean).0

pub returns-in-Err-clause-stays : goal.returns-in-Err-clause-stays
returns-in-Err-clause-stays g c clean = (c.in-Err.ensures.known clean).0
