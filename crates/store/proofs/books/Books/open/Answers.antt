use Rattle.store.proofs.Words.{◌≡◌, inl, inr, sym, subst, ◌∙◌, arith, rules, ℤ, state, HasCleanDisk, Trees, HasDayIn, AreReadTyped, Found, today, AreRowsAt}
use Rattle.store.proofs.ActsWhole.{kept_acts}
use Rattle.store.proofs.BooksWhole.{known_unread, settled_opened}
use Rattle.store.proofs.OpenedBooks.{opened_from, opened_as_found, keeps_found, schema_opened, has_day, came_typed, read_typed, same_found, one_found, foreign_if, store_else, either_told, left_over}
use Rattle.store.proofs.books.Books.open.Goals as goal

pub returns-in-Ok-settle_found-clause-books : goal.returns-in-Ok-settle_found-clause-books
returns-in-Ok-settle_found-clause-books g c clean first acts history rows =
    let was = c.in-Ok.ensures in
    let read = c.settle_found.ensures in
    keeps_found g.S.Store c.args.conn c.in-Ok.opened.0 c.settle_found.new.conn c.in-Ok.opened.1 was.found was.ready was.opens was.same was.crash was.clean was.shield read.survives read.outside c.in-Ok-settle_found.ensures.comes
    first acts c.in-Ok-settle_found.day (c.in-Ok-settle_found.ensures.day clean) clean rows

pub returns-in-Ok-settle_found-clause-day : goal.returns-in-Ok-settle_found-clause-day
returns-in-Ok-settle_found-clause-day g c clean =
    let was = c.in-Ok.ensures in
    let before : HasCleanDisk (state g.S.Store c.in-Ok.opened.0) = omega (arith, clean, c.settle_found.ensures.survives.clean) in
    record {
      found = c.in-Ok.opened.1;
      schema = was.found;
      has = subst (λ (t : Trees). HasDayIn c.in-Ok.opened.1 t c.in-Ok-settle_found.day) (was.same before) (c.in-Ok-settle_found.ensures.day clean (was.ready before));
      read = subst (AreReadTyped c.in-Ok.opened.1) (was.same before) (came_typed c.in-Ok.opened.1 _ _ (c.in-Ok-settle_found.ensures.comes clean (was.ready before) (was.opens before).clean).comes);
    }

pub returns-in-Ok-settle_found-clause-today : goal.returns-in-Ok-settle_found-clause-today
returns-in-Ok-settle_found-clause-today g c clean first acts history (at, rows) =
    let was = c.in-Ok.ensures in
    let found = c.in-Ok.opened.1 in
    let before : HasCleanDisk (state g.S.Store c.in-Ok.opened.0) = omega (arith, clean, c.settle_found.ensures.survives.clean) in
    let trees = (state g.S.Store c.args.conn).committed.trees in
    let day = c.in-Ok-settle_found.day in
    let has : HasDayIn found trees day = subst (λ (t : Trees). HasDayIn found t day) (was.same before) (c.in-Ok-settle_found.ensures.day clean (was.ready before)) in
    (same_found at found trees first acts day rows has).1

pub returns-in-Err-settle_found-clause-foreign : goal.returns-in-Err-settle_found-clause-foreign
returns-in-Err-settle_found-clause-foreign g c clean foreign =
    let was = c.in-Ok.ensures in
    let before : HasCleanDisk (state g.S.Store c.in-Ok.opened.0) = omega (arith, clean, c.settle_found.ensures.survives.clean) in
    let found = c.in-Ok.opened.1 in
    let fault = foreign_if c.in-Err-settle_found.fault (sym c.from-in-Err-settle_found.ensures ∙ foreign) in
    inr (record {
      found = found;
      schema = was.found;
      foreign = subst (λ (t : Trees). (day : ℤ) → HasDayIn found t day → ¬ AreReadTyped found t) (was.same before) (c.in-Err-settle_found.ensures.foreign clean (was.ready before) fault);
    })

pub returns-in-Err-settle_found-clause-known : goal.returns-in-Err-settle_found-clause-known
returns-in-Err-settle_found-clause-known g c clean at schema first acts history rows =
    let was = c.in-Ok.ensures in
    let before : HasCleanDisk (state g.S.Store c.in-Ok.opened.0) = omega (arith, clean, c.settle_found.ensures.survives.clean) in
    let found = c.in-Ok.opened.1 in
    let same : at ≡ found = one_found at found (state g.S.Store c.args.conn).now.schema schema was.found in
    let own : AreRowsAt found first acts (state g.S.Store c.in-Ok.opened.0).now.trees =
    subst (λ (t : Trees). AreRowsAt found first acts t) (sym (was.same before)) (subst (λ (f : Found). AreRowsAt f first acts (state g.S.Store c.args.conn).committed.trees) same rows) in
    c.from-in-Err-settle_found.ensures ∙ store_else c.in-Err-settle_found.fault
    (λ is. c.in-Err-settle_found.ensures.foreign clean (was.ready before) is (today first acts) (has_day found (state g.S.Store c.in-Ok.opened.0).now.trees first acts own) (read_typed found (state g.S.Store c.in-Ok.opened.0).now.trees first acts own))

pub returns-in-Err-settle_found-clause-again : goal.returns-in-Err-settle_found-clause-again
returns-in-Err-settle_found-clause-again g c clean opens live at tells first acts history rows =
    let was = c.in-Ok.ensures in
    let before : HasCleanDisk (state g.S.Store c.in-Ok.opened.0) = omega (arith, clean, c.settle_found.ensures.survives.clean) in
    let found = c.in-Ok.opened.1 in
    let schema = (state g.S.Store c.args.conn).now.schema in
    let same : at ≡ found = one_found at found schema (schema_opened at (state g.S.Store c.args.conn) opens live tells) was.found in
    let own : AreRowsAt found first acts (state g.S.Store c.in-Ok.opened.0).now.trees =
    subst (λ (t : Trees). AreRowsAt found first acts t) (sym (was.same before)) (subst (λ (f : Found). AreRowsAt f first acts (state g.S.Store c.args.conn).committed.trees) same rows) in
    c.from-in-Err-settle_found.ensures ∙ store_else c.in-Err-settle_found.fault
    (λ is. c.in-Err-settle_found.ensures.foreign clean (was.ready before) is (today first acts) (has_day found (state g.S.Store c.in-Ok.opened.0).now.trees first acts own) (read_typed found (state g.S.Store c.in-Ok.opened.0).now.trees first acts own))

pub returns-in-Err-settle_found-clause-left : goal.returns-in-Err-settle_found-clause-left
returns-in-Err-settle_found-clause-left g c =
    let was = c.in-Ok.ensures in
    let read = c.settle_found.ensures in
    inr (opened_as_found g.S.Store c.args.conn c.in-Ok.opened.0 c.settle_found.new.conn c.in-Ok.opened.1 was.found was.ready was.opens was.same was.crash was.clean was.shield read.survives read.outside c.in-Err-settle_found.ensures.failed)

pub returns-in-Ok-settle_found-clause-opens : goal.returns-in-Ok-settle_found-clause-opens
returns-in-Ok-settle_found-clause-opens g c =
    let was = c.in-Ok.ensures in
    let read = c.settle_found.ensures in
    opened_from g.S.Store c.args.conn c.in-Ok.opened.0 c.settle_found.new.conn c.in-Ok.opened.1 was.found was.ready was.opens was.same was.crash was.clean was.shield read.survives read.outside c.in-Ok-settle_found.ensures.comes

pub returns-in-Ok-settle_found-clause-other : goal.returns-in-Ok-settle_found-clause-other
returns-in-Ok-settle_found-clause-other g c none = absurd (none c.in-Ok.opened.1 c.in-Ok.ensures.found)

pub returns-in-Err-settle_found-clause-other : goal.returns-in-Err-settle_found-clause-other
returns-in-Err-settle_found-clause-other g c none = absurd (none c.in-Ok.opened.1 c.in-Ok.ensures.found)

pub returns-in-Err-settle_found-clause-fault : goal.returns-in-Err-settle_found-clause-fault
returns-in-Err-settle_found-clause-fault g c = either_told c.in-Err-settle_found.fault c.from-in-Err-settle_found.result c.from-in-Err-settle_found.ensures

pub returns-in-Err-clause-foreign : goal.returns-in-Err-clause-foreign
returns-in-Err-clause-foreign g c clean foreign = inl (c.in-Err.ensures.foreign (foreign_if c.in-Err.fault (sym c.from.ensures ∙ foreign)))

pub returns-in-Err-clause-known : goal.returns-in-Err-clause-known
returns-in-Err-clause-known g c clean at schema first acts history rows = c.from.ensures ∙ store_else c.in-Err.fault (λ is. c.in-Err.ensures.foreign is at schema)

pub returns-in-Err-clause-again : goal.returns-in-Err-clause-again
returns-in-Err-clause-again g c clean opens live at tells first acts history rows =
    c.from.ensures ∙ store_else c.in-Err.fault (λ is. c.in-Err.ensures.foreign is at (schema_opened at (state g.S.Store c.args.conn) opens live tells))

pub returns-in-Err-clause-other : goal.returns-in-Err-clause-other
returns-in-Err-clause-other g c schema = ((c.in-Err.ensures.other schema).0, either_told c.in-Err.fault c.from.result c.from.ensures)

pub returns-in-Err-clause-left : goal.returns-in-Err-clause-left
returns-in-Err-clause-left g c = left_over g.S.Store c.args.conn c.in-Err.left c.in-Err.ensures.left

pub returns-in-Err-clause-fault : goal.returns-in-Err-clause-fault
returns-in-Err-clause-fault g c = either_told c.in-Err.fault c.from.result c.from.ensures

pub returns-in-Ok-settle_found-clause-open : goal.returns-in-Ok-settle_found-clause-open
returns-in-Ok-settle_found-clause-open g c clean = c.in-Ok-settle_found.ensures.open clean

pub invariant_of-result : goal.invariant_of-result
invariant_of-result g c =
    let was = c.in-Ok.ensures in
    let read = c.settle_found.ensures in (
      search rules,
      known_unread (state g.S.Store c.settle_found.new.conn)
          (settled_opened g.S.Store c.args.conn c.settle_found.new.conn
          (opened_from g.S.Store c.args.conn c.in-Ok.opened.0 c.settle_found.new.conn c.in-Ok.opened.1 was.found was.ready was.opens was.same was.crash was.clean was.shield read.survives read.outside c.in-Ok-settle_found.ensures.comes)),
    )

pub returns-in-Ok-settle_found-clause-settled : goal.returns-in-Ok-settle_found-clause-settled
returns-in-Ok-settle_found-clause-settled g c clean =
    let was = c.in-Ok.ensures in
    let read = c.settle_found.ensures in
    settled_opened g.S.Store c.args.conn c.settle_found.new.conn
    (opened_from g.S.Store c.args.conn c.in-Ok.opened.0 c.settle_found.new.conn c.in-Ok.opened.1 was.found was.ready was.opens was.same was.crash was.clean was.shield read.survives read.outside c.in-Ok-settle_found.ensures.comes) clean

pub returns-in-Ok-settle_found-clause-kept : goal.returns-in-Ok-settle_found-clause-kept
returns-in-Ok-settle_found-clause-kept g c clean first acts history rows =
    let was = c.in-Ok.ensures in
    let read = c.settle_found.ensures in
    kept_acts g.S.Store c.settle_found.new.conn first acts (g.met.S.Store.settled c.settle_found.new.conn.store) (c.in-Ok-settle_found.ensures.open clean)
    (keeps_found g.S.Store c.args.conn c.in-Ok.opened.0 c.settle_found.new.conn c.in-Ok.opened.1 was.found was.ready was.opens was.same was.crash was.clean was.shield read.survives read.outside c.in-Ok-settle_found.ensures.comes
    first acts c.in-Ok-settle_found.day (c.in-Ok-settle_found.ensures.day clean) clean rows)
