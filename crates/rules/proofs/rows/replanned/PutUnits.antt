-- What an act puts of an item's reserved rows for an order that had nothing reserved: it adds up to what the plan after it reserves for the order.
use Rattle.rules.proofs.Words.{◌≡◌, ℕ, ◌+◌, Bool, true, false, ◌&&◌, not, List, [], ◌∷◌, refl, ap, sym, subst, ◌∙◌, ◌==◌, if◌then◌else◌, ℤ, Option, Some, None, find, list_any, same_text, LotId, total, ReservedRow, reserved_for, Act, is_lot, of_item, Placed, least_expiry, order_named, plan, reserved, IsHistory, tables_of, reserved_row, is_touched, AreRows, AreOwn, OrderLot, no_two, same_share, IsSlice, plans, differs, earliest_seen, is_share_of, Slice, and_both, not_true, same_text_is, same_text_refl, same_text_turned, is_lot_refl, is_lot_turned, AreApart, AllFound, all_found, unknown_is_unreserved, Rows, replanned_to}
use Rattle.rules.proofs.rows.TableSteps.{IsNamed, share_row}
use Rattle.rules.proofs.rows.ItemsNamed.{AllOf}
use Rattle.rules.proofs.rows.DemandsTold.{TellsDemands}
use Rattle.rules.proofs.rows.SuppliesTold.{TellsSupplies}
use Rattle.rules.proofs.rows.ReservedUnits.{reserved_units_told}
use Rattle.rules.proofs.rows.replanned.Changed.{own_named, all_put_of, puts_once}

apart_of : (rows : List ReservedRow) → no_two is_share_of rows ≡ true → AreApart is_share_of rows
apart_of [] e = tt
apart_of (r ∷ rs) e = let two = and_both (not (list_any (is_share_of r) rs)) (no_two is_share_of rs) e in (not_true _ two.0, apart_of rs two.1)

each_found : (rows : List ReservedRow) → no_two is_share_of rows ≡ true → AllFound is_share_of rows rows
each_found rows once = all_found is_share_of (λ r i. same_text_refl r.order i && is_lot_refl r.lot i) (λ r s i. same_text_turned r.order s.order i && is_lot_turned r.lot s.lot i) rows (apart_of rows once)

-- of nothing before, all is put
put_of_none : (o : List ℕ) (l : LotId) (n : ℕ) (put dropped : List ReservedRow) → IsNamed o l 0 n put dropped → find (λ (r : ReservedRow). same_text o r.order && is_lot l r.lot) put ≡ share_row o l n
put_of_none o l n put dropped named = named.put ∙ all (n == 0)
  where
    at : Bool → Option ReservedRow
    at b = if b then None else Some (record { order = o; lot = l; qty = n })

    all : (b : Bool) → (if differs None (at b) then at b else None) ≡ at b
    all true = refl
    all false = refl

-- a row that is put is that of after
put_is : (b : Bool) (x : Option ReservedRow) (r : ReservedRow) → (if b then x else None) ≡ Some r → x ≡ Some r
put_is true x r e = e
put_is false x r e = cc

total_own : (o : List ℕ) (g : List ℕ) (rows : List ReservedRow) → AllOf g rows
    → total (λ (r : ReservedRow). if same_text o r.order then r.qty else 0) rows ≡ total (λ (r : ReservedRow). if same_text o r.order && of_item g r.lot then r.qty else 0) rows
total_own o g [] h = refl
total_own o g (r ∷ rs) h = λ i. (both (same_text o r.order) ∙ ap (λ b. if same_text o r.order && b then r.qty else 0) (sym h.0)) i + total_own o g rs h.1 i
  where
    both : (b : Bool) → (if b then r.qty else 0) ≡ (if b && true then r.qty else 0)
    both true = refl
    both false = refl

module _ (first : ℤ) (acts : List Act) (act : Act) (s : Slice) (slice : IsSlice first act acts (tables_of first acts) s) (planned : plans act.command ≡ true) (next : IsHistory first (act ∷ acts))
    (g : List ℕ) (touched : is_touched first act acts g ≡ true) (day : ℤ) (rows : Rows) (from : earliest_seen day rows.least g ≡ least_expiry first (act ∷ acts) g)
    (demands : TellsDemands first (act ∷ acts) g rows) (supplies : TellsSupplies first (act ∷ acts) g rows)
    (p : Placed) (fresh : order_named acts p.order ≡ None) (named : order_named (act ∷ acts) p.order ≡ Some p) where
  abbrev after : List Act
  after = act ∷ acts

  abbrev puts : List ReservedRow
  puts = (replanned_to s day rows g).put

  abbrev drops : List ReservedRow
  drops = (replanned_to s day rows g).dropped

  named_of : (q : List ℕ) (l : LotId) → of_item g l ≡ true → IsNamed q l (reserved first acts q l) (reserved first after q l) puts drops
  named_of = own_named first acts act s slice planned next g touched day rows from demands supplies

  once : no_two is_share_of puts ≡ true
  once = puts_once first acts act s slice planned next g touched day rows from demands supplies

  all_of : AllOf g puts
  all_of = all_put_of first acts act s slice planned next g touched day rows from demands supplies

  all_own : (rs : List ReservedRow) → AllOf g rs → AllFound is_share_of puts rs → AreOwn {K = OrderLot} (λ (r : ReservedRow). (r.order, r.lot)) (λ k. true) (λ k. reserved_row first after k.0 k.1) rs
  all_own [] h k = tt
  all_own (r ∷ rs) h k = (refl, put_is _ (reserved_row first after r.order r.lot) r (sym (named_of r.order r.lot h.0).put ∙ k.0), all_own rs h.1 k.1)

  found_of : (q : List ℕ) (l : LotId) → same_text p.order q && of_item g l ≡ true → find (λ (r : ReservedRow). same_text q r.order && is_lot l r.lot) puts ≡ reserved_row first after q l
  found_of q l e =
      let two = and_both (same_text p.order q) (of_item g l) e in
      let none : reserved first acts q l ≡ 0 = unknown_is_unreserved first acts q l (ap (order_named acts) (sym (same_text_is p.order q two.0)) ∙ fresh) in
      put_of_none q l (reserved first after q l) puts drops (subst (λ n. IsNamed q l n (reserved first after q l) puts drops) none (named_of q l two.1))

  puts_are : AreRows same_share (λ (r : ReservedRow). (r.order, r.lot)) (λ k. same_text p.order k.0 && of_item g k.1) (λ k. true) (λ k. reserved_row first after k.0 k.1) puts
  puts_are = record { found = λ k e. found_of k.0 k.1 e; own = all_own puts all_of (each_found puts once); once = once }

  pub put_units : total (λ (r : ReservedRow). if same_text p.order r.order then r.qty else 0) puts ≡ reserved_for p.act (plan first after g)
  put_units =
      total_own p.order g puts all_of
      ∙ reserved_units_told first after p named g (λ k. same_text p.order k.0 && of_item g k.1) (λ l e i. same_text_refl p.order i && e i) puts puts_are
