-- Receipts are decided as the machine decides them.
use Rattle.rules.proofs.Words.{◌≡◌, ℕ, ◌≤◌, true, false, ◌&&◌, List, [], ◌∷◌, refl, ap, sym, ◌∙◌, arith, ◌==◌, if◌then◌else◌, ℤ, Result, pos, flat_map, nat_le, length, nat_tests, is_name, is_qty, is_day, is_lot_id, ACTS_MAX, Key, Receipt, Receive, ReceiptCard, CardRow, StockRow, Act, next_number, Supplier, InBin, of_item, today, card_lines, delivery_note, lot_units_in_house, IsHistory, tables_of, IsSlice, lot_units, Slice, Change, RuleFault, stock_after, staged_after, receive_seen, receive_told, receive_card, receive_facts, receive_changes, lot_rows_after, and_both, same_text_refl, is_lot_refl, is_lot_item, room_for_acts, at_least_one}
use Rattle.rules.specs.declared.posting.Place.TheVariants as told
use Rattle.rules.proofs.rows.LotUnits.{lot_units_told}
use Rattle.rules.proofs.rows.PostedRows.{each_once}
use Rattle.rules.proofs.decided.Decisions.{AreRight, IsChange, day_seen, number_same, plain_same}
use Rattle.rules.proofs.decided.Posted.{IsOwn, IsPosted, IsPlanned, AreFacts, stays_staged, posted_once, planned_changed, stock_then, staged_then}
use Rattle.rules.proofs.decided.goods.ReceiveJudged.{receive_judged}
use Rattle.rules.proofs.decided.goods.ReceiveLots.{puts_lots, lots_after}

module _ (first : ℤ) (acts : List Act) (key : Key) (r : Receipt) (s : Slice) (slice : IsSlice first (record { key = key; command = Receive r }) acts (tables_of first acts) s)
    (next : IsHistory first (record { key = key; command = Receive r } ∷ acts)) where
  abbrev act : Act
  act = record { key = key; command = Receive r }

  abbrev after : List Act
  after = act ∷ acts

  abbrev g : List ℕ
  g = r.lot.gtin

  room : nat_le ACTS_MAX (length acts) ≡ false
  room = room_for_acts first acts (Receive r) next.1.passes

  posted : IsPosted first acts act (receive_told r)
  posted = posted_once first acts act next r.lot told.Supplier (told.InBin r.bin) r.qty refl refl refl (record { items = refl; bins = refl; recalls = refl; orders = refl; cancels = refl; shipments = refl; day = refl; asked = refl })

  planned : IsPlanned first acts act g
  planned = record {
    own = each_once (IsOwn (Receive r) g) (next_number acts) r.lot Supplier (InBin r.bin) r.qty (record { of_own = same_text_refl g; lot = is_lot_refl r.lot; from_named = refl; to_named = same_text_refl r.bin });
    planned = refl;
    touches = λ h. refl;
  }

  stays : staged_after s (receive_told r) ≡ s.rows.staged
  stays = stays_staged r.lot told.Supplier (told.InBin r.bin) r.qty s.rows.staged refl refl

  -- The card line

  abbrev stock : List StockRow
  stock = stock_after s (receive_told r)

  rest_same : lot_units r.lot stock s.rows.staged ≡ lot_units_in_house first after r.lot
  rest_same =
      lot_units_told first after next g r.lot (same_text_refl g) stock s.rows.staged (λ k. of_item g k.0) (λ k. true) (λ k. of_item g k.1) (λ k. true)
      (stock_then first acts act s slice next (receive_told r) posted g planned s.rows.staged stays) (staged_then first acts act s slice next (receive_told r) posted g planned s.rows.staged stays) (λ m c e. is_lot_item r.lot m e) (λ m o e. is_lot_item r.lot m e)

  card_same : receive_card s key r stock ≡ record { lot = r.lot; act = next_number acts; day = today first acts; kind = ReceiptCard; note = delivery_note key; qty = pos r.qty; rest = lot_units_in_house first after r.lot }
  card_same = λ i. record { lot = r.lot; act = number_same first acts act s slice room i; day = day_seen first acts act s slice i; kind = ReceiptCard; note = delivery_note key; qty = pos r.qty; rest = rest_same i }

  some : (r.qty == 0) ≡ false
  some = let one : 1 ≤ r.qty = at_least_one r.qty (and_both (is_lot_id r.lot && is_day r.expiry && is_name r.bin) (is_qty r.qty) next.1.sound.command).1 in grind (arith, nat_tests, one)

  facts : AreFacts first acts act (receive_facts s key r stock)
  facts = record {
    lots = puts_lots first acts key r s slice next;
    cards = ap (λ t. flat_map (λ p. card_lines first act acts p p.from p.to) (if t then [] else record { act = next_number acts; lot = r.lot; from = Supplier; to = InBin r.bin; qty = r.qty } ∷ [])) some ∙ ap (λ (c : CardRow). c ∷ []) (sym card_same);
    cards_once = refl;
    text = plain_same first acts act s slice room refl;
  }

  receive_changed : IsChange first act acts (receive_changes s key r)
  receive_changed = planned_changed first acts act s slice next (receive_told r) posted g planned s.rows.staged stays (lot_rows_after s r) (lots_after first acts key r s slice next) (receive_facts s key r stock) facts

pub receives_right : (key : Key) (s : Slice) (result : Result Change RuleFault) (r : Receipt) → AreRight key s result (Receive r) (receive_seen s r) (receive_changes s key r)
receives_right key s result r first acts history slice = record { judged = receive_judged first acts key r s slice history; changed = λ ok next. receive_changed first acts key r s slice next }
