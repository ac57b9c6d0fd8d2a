-- The opening of a day is decided as the machine decides it.
use Rattle.rules.proofs.Words.{◌≡◌, ℕ, Bool, true, false, ◌&&◌, not, List, ◌∷◌, ◌++◌, refl, ◌∙◌, arith, ◌==◌, ◌||◌, ℤ, pos, ◌+ℤ◌, Some, Result, nat_le, length, codes, decimal, list_any, same_text, LotId, ACTS_MAX, Key, OpenDay, ReservedRow, Act, next_number, is_lot, of_item, KnownLot, Placed, lots, lots_of, lot_known, orders, has_item, is_shippable, staged_of_lot, IsHistory, reply, returned_field, tables_of, meta_row, reserved_row, is_touched, IsSlice, applied, tables_but_repeats, changed, none_put, none_dropped, meta_on, staged_gone_on, stock_returned, reserved_put_on, reserved_gone_on, reply_on, day_judged, day_changes, Slice, Change, RuleFault, or_first, same_text_refl, room_for_acts, lots_have_items, item_of_lot}
use Rattle.rules.proofs.rows.TableSteps.{names_changed, reserved_changed}
use Rattle.rules.proofs.rows.DaysAsked.{days_told}
use Rattle.rules.proofs.rows.LeavingLots.{order_row_still, line_row_still, shipline_row_still, card_row_still}
use Rattle.rules.proofs.decided.Decisions.{AreRight, IsChange, number_same, shipments_seen}
use Rattle.rules.proofs.decided.days.LotsOut.{SaysWhenLotsShip, TellsWhenLotsShip, any_in, makes}
use Rattle.rules.proofs.decided.days.RowsOut.{stock_at, stock_once, staged_at, out_named, out_put_once}
use Rattle.rules.proofs.decided.days.ReplyOut.{out_is}
use Rattle.rules.proofs.decided.days.DayJudged.{day_is_judged}

by_either : {C : Type 0} (a b : Bool) → (a ≡ true → C) → (b ≡ true → C) → a || b ≡ true → C
by_either true b f g e = f refl
by_either false b f g e = g e

module _ (first : ℤ) (acts : List Act) (key : Key) (day : ℤ) (history : IsHistory first acts) where
  abbrev opening : Act
  opening = record { key = key; command = OpenDay day }

  -- a lot that stops being shippable, and one of which units are staged
  abbrev ends : KnownLot → Bool
  ends k = is_shippable first acts k && not (is_shippable first (opening ∷ acts) k)

  abbrev is_staged : KnownLot → Bool
  is_staged k = list_any (λ (o : Placed). not (staged_of_lot first acts o.order k.lot == 0)) (orders acts)

  item_known : (g : List ℕ) → is_touched first opening acts g ≡ true → has_item acts g ≡ true
  item_known g =
      by_either (list_any ends (lots_of acts g)) (list_any is_staged (lots_of acts g))
      (item_of_lot acts g ends (lots acts) (lots_have_items first acts history)) (item_of_lot acts g is_staged (lots acts) (lots_have_items first acts history))

  lot_touched : (k : KnownLot) → lot_known acts k.lot ≡ Some k → ends k ≡ true → is_touched first opening acts k.lot.gtin ≡ true
  lot_touched k found t =
      or_first (list_any ends (lots_of acts k.lot.gtin)) _ (any_in (λ (m : KnownLot). is_lot k.lot m.lot) ends (λ (m : KnownLot). of_item k.lot.gtin m.lot) (lots acts) k found (same_text_refl k.lot.gtin) t)

  says : SaysWhenLotsShip first opening acts
  says = record {
    planned = refl;
    posts = refl;
    same_lots = refl;
    same_holds = refl;
    same_recalls = refl;
    same_orders = refl;
    same_cancels = refl;
    same_bins = refl;
    item_known = item_known;
    lot_touched = lot_touched;
  }

module _ (first : ℤ) (acts : List Act) (key : Key) (day : ℤ) (s : Slice) (slice : IsSlice first (record { key = key; command = OpenDay day }) acts (tables_of first acts) s)
    (next : IsHistory first (record { key = key; command = OpenDay day } ∷ acts)) where
  abbrev act : Act
  act = record { key = key; command = OpenDay day }

  abbrev after : List Act
  after = act ∷ acts

  room : nat_le ACTS_MAX (length acts) ≡ false
  room = room_for_acts first acts (OpenDay day) next.1.passes

  told : SaysWhenLotsShip first act acts
  told = says first acts key day next.0

  tells : TellsWhenLotsShip first act acts day s.rows.least
  tells g t = λ i. day +ℤ pos (days_told first acts act s slice refl next.0 g t i)

  -- The change

  abbrev day_change : Change
  day_change = record {
    meta = meta_row first after;
    put = record none_put { stock = stock_returned s day s.rows.least; reserved = reserved_put_on s day s.rows.least };
    dropped = record none_dropped { staged = staged_gone_on s day s.rows.least; reserved = reserved_gone_on s day s.rows.least };
    text = reply_on s day s.rows.least;
  }

  day_step : ((o : List ℕ) (m : LotId) → changed (λ (q : ReservedRow). same_text o q.order && is_lot m q.lot) (reserved_put_on s day s.rows.least) (reserved_gone_on s day s.rows.least) (reserved_row first acts o m) ≡ reserved_row first after o m)
      → applied day_change (tables_of first acts) ≡ tables_but_repeats first act acts
  unfolding applied tables_of
  day_step reserved_at =
      let made = makes first acts act s slice told day s.rows.least tells in
      λ i. record (applied day_change (tables_of first acts)) {
        stock = λ l b. stock_at first acts act s slice told day s.rows.least tells next l b i;
        order = λ o. order_row_still first acts act _ made next o i;
        line = λ o g. line_row_still first acts act _ made next o g i;
        staged = λ o l. staged_at first acts act s slice told day s.rows.least tells next o l i;
        reserved = λ o l. reserved_at o l i;
        shipline = λ n l. shipline_row_still first acts act _ made next n l i;
        card = λ l n. card_row_still first acts act _ made next l n i;
      }

  meta_same : meta_on s day s.rows.least ≡ meta_row first after
  meta_same = (λ i. record { day = day; acts = (number_same first acts act s slice room ∙ one_more) i; shipments = shipments_seen first acts act s slice i })
    where
      one_more : next_number acts ≡ length after
      one_more = omega arith

  day_text : reply_on s day s.rows.least ≡ reply first act acts
  day_text = (λ i. codes "{\"act\":" ++ decimal (number_same first acts act s slice room i) ++ returned_field (out_is first acts act s slice told day s.rows.least tells next i) ++ codes "}")

  day_changed : IsChange first act acts (day_changes s day)
  day_changed =
      let named = out_named first acts act s slice told day s.rows.least tells next in
      record {
        applies = (λ i. applied (record day_change { meta = meta_same i }) (tables_of first acts)) ∙ day_step (reserved_changed first act acts (reserved_put_on s day s.rows.least) (reserved_gone_on s day s.rows.least) named);
        text = day_text;
        once = λ i. stock_once first acts act s slice told day s.rows.least tells next i && (out_put_once first acts act s slice told day s.rows.least tells next i && true);
        named = names_changed first act acts (day_changes s day) named;
      }

pub days_right : (key : Key) (s : Slice) (result : Result Change RuleFault) (day : ℤ) → AreRight key s result (OpenDay day) (day_judged s day) (day_changes s day)
days_right key s result day first acts history slice = record { judged = day_is_judged first acts key day s slice; changed = λ ok next. day_changed first acts key day s slice next }
