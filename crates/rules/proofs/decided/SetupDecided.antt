-- New items and bins are decided as the machine decides them.
use Rattle.rules.proofs.Words.{◌≡◌, ℕ, List, [], ◌∷◌, refl, ap, sym, ◌∙◌, ◌||◌, ℤ, None, Result, find, same_text, Key, ItemExists, BinExists, NewItem, NewBin, Item, Bin, ItemRow, LeastRow, BinRow, Act, items, least_days, first_refusal, judgement, verdict, reserved, IsHistory, tables_of, meta_row, IsSlice, applied, tables_but_repeats, none_put, none_dropped, item_seen, item_changes, bin_seen, bin_changes, Slice, Change, RuleFault, same_text_refl, room_for_acts, item_accepted, unknown_item_asks_none, other_items_are_left_alone}
use Rattle.machine.specs.Standing.{bins}
use Rattle.rules.proofs.rows.TableSteps.{AreNamed, nothing_named, names_changed, reserved_changed, put_found}
use Rattle.rules.proofs.decided.Decisions.{AreRight, IsChange, plain_same, meta_same}
use Rattle.rules.proofs.rows.SliceTells.{item_told, bin_told}

module _ (first : ℤ) (acts : List Act) (key : Key) (s : Slice) where
  module _ (i : NewItem) where
    abbrev item_act : Act
    item_act = record { key = key; command = Item i }

    abbrev shown_item : NewItem → ItemRow
    shown_item x = record { gtin = x.gtin; name = x.name }

    item_named : AreNamed first item_act acts [] []
    item_named o l = nothing_named o l (reserved first acts o l) (reserved first (item_act ∷ acts) o l) refl

    abbrev days_of : NewItem → LeastRow
    days_of x = record { gtin = x.gtin; days = least_days acts x.gtin }

    -- with this row of `least`
    abbrev item_change : List ℕ → LeastRow → Change
    item_change text asked = record { meta = meta_row first (item_act ∷ acts); put = record none_put { items = shown_item i ∷ []; least = asked ∷ [] }; dropped = none_dropped; text = text }

    item_step : (text : List ℕ) → applied (item_change text (days_of i)) (tables_of first acts) ≡ tables_but_repeats first item_act acts
    unfolding applied tables_of
    item_step text = λ j. record (applied (item_change text (days_of i)) (tables_of first acts)) {
      item = λ g. put_found shown_item (same_text g i.gtin) i (find (λ x. same_text g x.gtin) (items acts)) j;
      least = λ g. put_found days_of (same_text g i.gtin) i (find (λ x. same_text g x.gtin) (items acts)) j;
      reserved = λ o l. reserved_changed first item_act acts [] [] item_named o l j;
    }

    module _ (history : IsHistory first acts) (slice : IsSlice first item_act acts (tables_of first acts) s) where
      item_judged : first_refusal (item_seen s i) ≡ first_refusal (judgement first acts (Item i))
      item_judged = λ j. first_refusal (
          (item_told first acts item_act s slice refl i.gtin (same_text_refl i.gtin) j || slice.items_counted refl j, ItemExists) ∷ [])

      abbrev asking : ℕ → LeastRow
      asking n = record { gtin = i.gtin; days = n }

      -- a new item asks for no days
      none_asked : verdict first acts (Item i) ≡ None → ◌≡◌ {A = LeastRow} (record { gtin = i.gtin; days = 0 }) (days_of i)
      none_asked ok = ap asking (sym (unknown_item_asks_none first acts i.gtin history (item_accepted first acts i ok).new))

      item_changed : verdict first acts (Item i) ≡ None → IsChange first item_act acts (item_changes s i)
      item_changed ok =
          let room = room_for_acts first acts (Item i) ok in
          let text = plain_same first acts item_act s slice room refl in
          record {
            applies = (λ j. applied (record (item_change (item_changes s i).text (none_asked ok j)) { meta = meta_same first acts item_act s slice room refl refl j }) (tables_of first acts))
                ∙ item_step (item_changes s i).text;
            text = text;
            once = refl;
            named = names_changed first item_act acts (item_changes s i) item_named;
          }

  module _ (b : NewBin) where
    abbrev bin_act : Act
    bin_act = record { key = key; command = Bin b }

    abbrev shown_bin : NewBin → BinRow
    shown_bin x = record { name = x.bin; kind = x.kind }

    abbrev bin_change : List ℕ → Change
    bin_change text = record { meta = meta_row first (bin_act ∷ acts); put = record none_put { bins = shown_bin b ∷ [] }; dropped = none_dropped; text = text }

    module _ (next : IsHistory first (bin_act ∷ acts)) where
      bin_named : AreNamed first bin_act acts [] []
      bin_named o l = nothing_named o l (reserved first acts o l) (reserved first (bin_act ∷ acts) o l) ((other_items_are_left_alone first bin_act acts l.gtin next refl).reserved o l (same_text_refl l.gtin))

      bin_step : (text : List ℕ) → applied (bin_change text) (tables_of first acts) ≡ tables_but_repeats first bin_act acts
      unfolding applied tables_of
      bin_step text = λ j. record (applied (bin_change text) (tables_of first acts)) {
        bin = λ n. put_found shown_bin (same_text n b.bin) b (find (λ x. same_text n x.bin) (bins acts)) j;
        reserved = λ o l. reserved_changed first bin_act acts [] [] bin_named o l j;
      }

    module _ (slice : IsSlice first bin_act acts (tables_of first acts) s) where
      bin_judged : first_refusal (bin_seen s b) ≡ first_refusal (judgement first acts (Bin b))
      bin_judged = λ j. first_refusal (
          (bin_told first acts bin_act s slice refl b.bin (same_text_refl b.bin) j || slice.bins_counted refl j, BinExists) ∷ [])

      bin_changed : verdict first acts (Bin b) ≡ None → IsHistory first (bin_act ∷ acts) → IsChange first bin_act acts (bin_changes s b)
      bin_changed ok next =
          let room = room_for_acts first acts (Bin b) ok in
          record {
            applies = ap (λ m. applied (record { meta = m; put = record none_put { bins = shown_bin b ∷ [] }; dropped = none_dropped; text = (bin_changes s b).text }) (tables_of first acts)) (meta_same first acts bin_act s slice room refl refl)
                ∙ bin_step next (bin_changes s b).text;
            text = plain_same first acts bin_act s slice room refl;
            once = refl;
            named = names_changed first bin_act acts (bin_changes s b) (bin_named next);
          }

pub items_right : (key : Key) (s : Slice) (result : Result Change RuleFault) (i : NewItem) → AreRight key s result (Item i) (item_seen s i) (item_changes s i)
items_right key s result i first acts history slice = record { judged = item_judged first acts key s i history slice; changed = λ ok next. item_changed first acts key s i history slice ok }

pub bins_right : (key : Key) (s : Slice) (result : Result Change RuleFault) (b : NewBin) → AreRight key s result (Bin b) (bin_seen s b) (bin_changes s b)
bins_right key s result b first acts history slice = record { judged = bin_judged first acts key s b slice; changed = bin_changed first acts key s b slice }
