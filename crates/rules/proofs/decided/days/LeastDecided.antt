-- The days that an item asks for are decided as the machine decides them.
use Rattle.rules.proofs.Words.{◌≡◌, ℕ, Bool, true, false, ◌&&◌, not, List, [], ◌∷◌, ◌++◌, refl, ap, sym, ◌∙◌, if◌then◌else◌, ℤ, pos, ◌+ℤ◌, Option, Some, None, option_map, is_some, find, Result, nat_le, length, codes, decimal, same_text, LotId, ACTS_MAX, Key, NewItem, NewLeast, Least, LeastRow, ReservedRow, Act, gathered, is_lot, KnownLot, items, item_named, has_item, lot_known, is_held, is_recalled, is_expired, is_shippable, least_in, days_asked, least_days, today, IsHistory, reply, returned_field, tables_of, meta_row, least_row, reserved_row, is_touched, IsSlice, applied, tables_but_repeats, changed, added, unless_put, none_put, none_dropped, days_in, staged_gone_on, stock_returned, reserved_put_on, reserved_gone_on, reply_on, least_judged, least_row_put, least_rows_after, least_changes, Slice, Change, RuleFault, same_text_is, and_not_itself, room_for_acts, least_accepted}
use Rattle.rules.proofs.rows.FoundRows.{found_passes}
use Rattle.rules.proofs.rows.TableSteps.{names_changed, reserved_changed}
use Rattle.rules.proofs.rows.LeavingLots.{order_row_still, line_row_still, shipline_row_still, card_row_still}
use Rattle.rules.proofs.decided.Decisions.{AreRight, IsChange, day_seen, number_same, meta_same}
use Rattle.rules.proofs.decided.days.LotsOut.{SaysWhenLotsShip, TellsWhenLotsShip, makes}
use Rattle.rules.proofs.decided.days.RowsOut.{stock_at, stock_once, staged_at, out_named, out_put_once}
use Rattle.rules.proofs.decided.days.ReplyOut.{out_is}
use Rattle.rules.proofs.decided.days.LeastJudged.{least_is_judged}

module _ (first : ℤ) (acts : List Act) (key : Key) (l : NewLeast) (known : has_item acts l.gtin ≡ true) where
  abbrev asking : Act
  asking = record { key = key; command = Least l }

  abbrev acts_with : List Act
  acts_with = asking ∷ acts

  -- the days that an item asks for after it, if it is that item
  abbrev days_if : Bool → List ℕ → ℕ
  days_if b g = days_asked (if b then Some l else find (λ x. same_text g x.gtin) (gathered least_in acts))

  item_known : (g : List ℕ) → is_touched first asking acts g ≡ true → has_item acts g ≡ true
  item_known g t = ap (has_item acts) (same_text_is g l.gtin t) ∙ known

  -- a lot of another item ships as before
  lot_touched : (k : KnownLot) → lot_known acts k.lot ≡ Some k → is_shippable first acts k && not (is_shippable first acts_with k) ≡ true → is_touched first asking acts k.lot.gtin ≡ true
  lot_touched k found =
      elim (same_text k.lot.gtin l.gtin) as (λ b. is_shippable first acts k && not (not (is_held acts k.lot) && not (is_recalled acts k.lot) && not (is_expired (today first acts +ℤ pos (days_if b k.lot.gtin)) k.expiry)) ≡ true → b ≡ true) [
        | true ↦ λ t. refl
        | false ↦ λ t. sym (and_not_itself (is_shippable first acts k)) ∙ t
      ]

  says : SaysWhenLotsShip first asking acts
  says = record {
    planned = refl;
    posts = refl;
    same_lots = refl;
    same_holds = refl;
    same_recalls = refl;
    same_orders = refl;
    same_cancels = refl;
    same_bins = refl;
    item_known = item_known;
    lot_touched = lot_touched;
  }

  -- The row of the item

  abbrev days_of : NewItem → LeastRow
  days_of i = record { gtin = i.gtin; days = least_days acts_with i.gtin }

  item_is : (g : List ℕ) (i : NewItem) → item_named acts g ≡ Some i → g ≡ i.gtin
  item_is g i e = same_text_is g i.gtin (found_passes (λ (x : NewItem). same_text g x.gtin) (items acts) i e)

  own_row : (g : List ℕ) → same_text g l.gtin ≡ true → (x : Option NewItem) → item_named acts g ≡ x → is_some x ≡ true → Some (least_row_put l) ≡ option_map days_of x
  own_row g t None e h = let f : false ≡ true = h in cc
  own_row g t (Some i) e h =
      let gtin : l.gtin ≡ i.gtin = sym (same_text_is g l.gtin t) ∙ item_is g i e in
      let own : same_text i.gtin l.gtin ≡ true = ap (λ (x : List ℕ). same_text x l.gtin) (sym (item_is g i e)) ∙ t in
      (λ j. Some (record { gtin = gtin j; days = sym (ap (λ b. days_if b i.gtin) own) j }))

  other_row : (g : List ℕ) → same_text g l.gtin ≡ false → (x : Option NewItem) → item_named acts g ≡ x → option_map (λ (i : NewItem). record { gtin = i.gtin; days = least_days acts i.gtin }) x ≡ option_map days_of x
  other_row g t None e = refl
  other_row g t (Some i) e =
      let other : same_text i.gtin l.gtin ≡ false = ap (λ (x : List ℕ). same_text x l.gtin) (sym (item_is g i e)) ∙ t in
      (λ j. Some (record { gtin = i.gtin; days = sym (ap (λ b. days_if b i.gtin) other) j }))

  least_at : (g : List ℕ) → added (λ (r : LeastRow). same_text g r.gtin) (least_row_put l ∷ []) (least_row acts g) ≡ least_row acts_with g
  least_at g = elim (same_text g l.gtin) as (λ b. same_text g l.gtin ≡ b → unless_put (if b then Some (least_row_put l) else None) false (least_row acts g) ≡ least_row acts_with g) [
    | true ↦ λ t. own_row g t (item_named acts g) refl (item_known g t)
    | false ↦ λ t. other_row g t (item_named acts g) refl
  ] refl

module _ (first : ℤ) (acts : List Act) (key : Key) (l : NewLeast) (s : Slice) (slice : IsSlice first (record { key = key; command = Least l }) acts (tables_of first acts) s)
    (next : IsHistory first (record { key = key; command = Least l } ∷ acts)) where
  abbrev act : Act
  act = record { key = key; command = Least l }

  abbrev after : List Act
  after = act ∷ acts

  abbrev asked : List LeastRow
  asked = least_rows_after s l

  room : nat_le ACTS_MAX (length acts) ≡ false
  room = room_for_acts first acts (Least l) next.1.passes

  known : has_item acts l.gtin ≡ true
  known = least_accepted first acts l next.1.passes

  told : SaysWhenLotsShip first act acts
  told = says first acts key l known

  tells : TellsWhenLotsShip first act acts s.meta.day asked
  tells g t =
      (λ i. day_seen first acts act s slice i +ℤ pos (days_in (if t i then Some (least_row_put l) else find (λ (r : LeastRow). same_text g r.gtin) s.rows.least)))
      ∙ sym (ap (λ b. today first acts +ℤ pos (days_if first acts key l known b g)) t)

  -- The change

  abbrev least_change : Change
  least_change = record {
    meta = meta_row first after;
    put = record none_put { stock = stock_returned s s.meta.day asked; reserved = reserved_put_on s s.meta.day asked; least = least_row_put l ∷ [] };
    dropped = record none_dropped { staged = staged_gone_on s s.meta.day asked; reserved = reserved_gone_on s s.meta.day asked };
    text = reply_on s s.meta.day asked;
  }

  least_step : ((o : List ℕ) (m : LotId) → changed (λ (q : ReservedRow). same_text o q.order && is_lot m q.lot) (reserved_put_on s s.meta.day asked) (reserved_gone_on s s.meta.day asked) (reserved_row first acts o m) ≡ reserved_row first after o m)
      → applied least_change (tables_of first acts) ≡ tables_but_repeats first act acts
  unfolding applied tables_of
  least_step reserved_at =
      let made = makes first acts act s slice told s.meta.day asked tells in
      λ i. record (applied least_change (tables_of first acts)) {
        least = λ g. least_at first acts key l known g i;
        stock = λ m b. stock_at first acts act s slice told s.meta.day asked tells next m b i;
        order = λ o. order_row_still first acts act _ made next o i;
        line = λ o g. line_row_still first acts act _ made next o g i;
        staged = λ o m. staged_at first acts act s slice told s.meta.day asked tells next o m i;
        reserved = λ o m. reserved_at o m i;
        shipline = λ n m. shipline_row_still first acts act _ made next n m i;
        card = λ m n. card_row_still first acts act _ made next m n i;
      }

  least_text : reply_on s s.meta.day asked ≡ reply first act acts
  least_text = (λ i. codes "{\"act\":" ++ decimal (number_same first acts act s slice room i) ++ returned_field (out_is first acts act s slice told s.meta.day asked tells next i) ++ codes "}")

  least_changed : IsChange first act acts (least_changes s l)
  least_changed =
      let named = out_named first acts act s slice told s.meta.day asked tells next in
      record {
        applies = (λ i. applied (record least_change { meta = meta_same first acts act s slice room refl refl i }) (tables_of first acts))
            ∙ least_step (reserved_changed first act acts (reserved_put_on s s.meta.day asked) (reserved_gone_on s s.meta.day asked) named);
        text = least_text;
        once = λ i. stock_once first acts act s slice told s.meta.day asked tells next i && (out_put_once first acts act s slice told s.meta.day asked tells next i && true);
        named = names_changed first act acts (least_changes s l) named;
      }

pub leasts_right : (key : Key) (s : Slice) (result : Result Change RuleFault) (l : NewLeast) → AreRight key s result (Least l) (least_judged s l) (least_changes s l)
leasts_right key s result l first acts history slice = record { judged = least_is_judged first acts key l s slice; changed = λ ok next. least_changed first acts key l s slice next }
