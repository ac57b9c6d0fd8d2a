-- What is picked for an order by the rows of its tables is what the machine says.
use Rattle.views.proofs.Words.{◌≡◌, ℕ, true, ◌&&◌, List, ap, sym, ◌∙◌, arith, ◌≤◌, ℤ, Some, find, map, option_map, same_text, QTY_MAX, LotId, OrderLine, ItemRow, LineRow, OrderRow, StagedRow, Act, of_item, is_stage, Placed, order_named, order_state, postings, item_postings, staged, IsHistory, tables_of, line_row, staged_row, order_row, AreRows, same_line, same_share, Rows, capped, staged_seen, same_text_refl, same_text_turned, some_one, balance-of_item, legal_history, ordered_within_limit, served_is, served_within_ordered, item_of, all_found, line_seen, lines_seen, AreShown, orders_item, pick_line, picks_view, with_item, pick_line_seen, picks_seen, AreLineItems}
use Rattle.views.proofs.Sorting.{IsIn, of_ordered, in_any}
use Rattle.views.proofs.ExpiringShown.{found_of_each, item_row_is}
use Rattle.views.proofs.LineItems.{line_has_item}
use Rattle.views.proofs.LinesShown.{shown_line, lines_in_order, lines_shown}
use Rattle.views.proofs.OrderShown.{one_line}
use Rattle.views.proofs.ShortShown.{staged_total_shown}

module _ (first : ℤ) (acts : List Act) (history : IsHistory first acts) (p : Placed) (named : order_named acts p.order ≡ Some p) (rows : Rows) (are : AreShown p (tables_of first acts) rows)
    (items : List ItemRow) (items_are : AreLineItems acts p items) where
  abbrev o : List ℕ
  o = p.order

  lines_are : AreRows same_line (λ (r : LineRow). (r.order, r.gtin)) (λ k. same_text o k.0) (λ k. true) (λ k. line_row first acts k.0 k.1) rows.lines
  unfolding tables_of
  lines_are = are.lines

  staged_are : AreRows same_share (λ (r : StagedRow). (r.order, r.lot)) (λ k. same_text o k.0 && orders_item p k.1.gtin) (λ k. true) (λ k. staged_row first acts k.0 k.1) rows.staged
  unfolding tables_of
  staged_are = are.staged

  abbrev order : OrderRow
  order = record { order = o; act = p.act; customer = p.customer; state = order_state first acts o }

  abbrev show : OrderLine → LineRow
  show = shown_line first acts history p named

  module _ (l : OrderLine) (there : IsIn l p.lines) where
    abbrev g : List ℕ
    g = l.gtin

    wanted : (m : LotId) → of_item g m ≡ true → same_text o o && orders_item p m.gtin ≡ true
    wanted m e = λ i. same_text_refl o i && in_any (λ (x : OrderLine). same_text m.gtin x.gtin) l p.lines there (same_text_turned m.gtin g ∙ e) i

    staged_few : staged (item_postings first acts g) o g ≤ QTY_MAX
    staged_few =
        omega (
          arith,
          served_within_ordered first acts history o g,
          served_is first acts (legal_history first acts history) o g,
          balance-of_item (is_stage o) g (of_item g) (λ l e. e) (postings first acts),
          ordered_within_limit first acts history o g,
        )

    staged_told : capped (staged_seen g o rows.staged) ≡ staged (item_postings first acts g) o g
    staged_told = omega (arith, staged_total_shown first acts history p named g (λ k. same_text o k.0 && orders_item p k.1.gtin) wanted rows.staged staged_are, staged_few)

    item_told : find (λ (i : ItemRow). same_text g i.gtin) items ≡ Some (item_of acts g)
    item_told =
        items_are.found g (in_any (λ (x : OrderLine). same_text g x.gtin) l p.lines there (same_text_refl g)) ∙ item_row_is acts g (line_has_item first acts history o p named l there)

    one_pick : pick_line_seen rows items order (show l) ≡ Some (pick_line first acts o l)
    one_pick =
        let line = one_line first acts history p named rows are l there in
        ap (option_map (with_item (capped (staged_seen g o rows.staged)) (line_seen rows order (show l)))) item_told ∙ (λ i. Some (with_item (staged_told i) (sym line i) (item_of acts g)))

  shown : picks_view first acts p ≡ picks_seen rows items order
  shown =
      let all = lines_in_order first acts history p named in
      let lines : map (pick_line first acts o) all ≡ all_found (pick_line_seen rows items order) (lines_seen o rows.lines) =
      sym (found_of_each (pick_line_seen rows items order) show (pick_line first acts o) all (λ l h. one_pick l (of_ordered _ l p.lines h)))
      ∙ ap (all_found (pick_line_seen rows items order)) (lines_shown first acts history p named rows.lines lines_are) in
      λ i. record { customer = p.customer; lines = lines i; order = o; state = order_state first acts o }

-- what the rows of an order say of its pick list is what the machine says
pub rows_show_picks : (first : ℤ) (acts : List Act) (p : Placed) (rows : Rows) (items : List ItemRow) (row : OrderRow) → IsHistory first acts → order_named acts row.order ≡ Some p → order_row first acts row.order ≡ Some row
    → AreShown p (tables_of first acts) rows → AreLineItems acts p items → picks_seen rows items row ≡ picks_view first acts p
rows_show_picks first acts p rows items row history named table are items_are =
    let show : Placed → OrderRow = λ q. record { order = q.order; act = q.act; customer = q.customer; state = order_state first acts q.order } in
    let same : show p ≡ row = some_one (show p) row (sym (ap (option_map show) named) ∙ table) in
    let own : order_named acts p.order ≡ Some p = ap (λ (x : OrderRow). order_named acts x.order) same ∙ named in
    ap (picks_seen rows items) (sym same) ∙ sym (shown first acts history p own rows are items items_are)
