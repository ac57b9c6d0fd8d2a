-- The lines of a lot's card that are of receipts are of its deliveries, one of each.
use Rattle.std.proofs.Common.{arith, ◌≡◌, ℕ, Bool, true, false, List, [], ◌∷◌, ◌++◌, refl, sym, ap, ◌∙◌, subst, filter, flat_map, reverse, if◌then◌else◌, ◌==◌, ◌&&◌, ℤ, pos, negsuc}
use Rattle.std.specs.Prelude.{nat_le, IsTrue}
use Rattle.std.proofs.lemmas.Bool.Decides.{nat_tests}
use Rattle.std.proofs.lemmas.List.{reverse-append}
use Rattle.values.specs.Values.{QTY_MAX, is_name, is_qty}
use Rattle.values.specs.declared.lot.LotId.{LotId}
use Rattle.label.specs.Days.{is_day}
use Rattle.commands.specs.Keys.{is_key_of}
use Rattle.commands.specs.Sound.{is_sound, is_sound_key, is_lot_id}
use Rattle.commands.specs.declared.command.Command.{Command}
use Rattle.commands.specs.declared.command.Command.TheVariants.{Receive, Adjust}
use Rattle.commands.specs.declared.command.Receipt.{Receipt as Received}
use Rattle.commands.specs.declared.key.Key.{Key}
use Rattle.commands.specs.declared.key.Key.TheVariants.{Plain, Line}
use Rattle.commands.specs.declared.rows.CardKind.TheVariants.{Receipt}
use Rattle.commands.specs.declared.rows.CardRow.{CardRow}
use Rattle.machine.specs.Acts.{Act, next_number}
use Rattle.machine.specs.Cards.{cards, card_lines, delivery_note, lot_units_in_house}
use Rattle.machine.specs.Laws.{is_kind}
use Rattle.machine.specs.Ledger.{posted, postings, postings_of}
use Rattle.machine.specs.Once.{IsHistory}
use Rattle.machine.specs.Postings.{Place, Supplier, InBin, Stage, Shipped, WriteOff, Posting, is_lot}
use Rattle.machine.specs.Standing.{today}
use Rattle.machine.specs.Views.{card_of_lot}
use Rattle.machine.proofs.Tests.{and_both}
use Rattle.machine.proofs.histories.ActFacts.{Entry, Nothing, One, Corrected, ShippedOff, Returned, entry_of, written_entry, entry_posted, Each, each_of_entry, Shown, all_returned}
use Rattle.machine.proofs.histories.AfterShipping.{filter_appended}
use Rattle.overviews.specs.declared.trace.Delivery.{Delivery}
use Rattle.overviews.specs.Traces.{IsReceiptOf, delivery_in, deliveries}

-- the line is of a receipt
abbrev pub is_receipt : CardRow → Bool
is_receipt c = is_kind Receipt c.kind

-- each line tells of the receipt beside it, whose key is sound
abbrev pub AreReceipts : List CardRow → List Delivery → Type 0
AreReceipts [] [] = Unit {0}
AreReceipts (c ∷ cs) (d ∷ ds) = (IsReceiptOf c d × (is_sound_key (Line d.delivery d.line) ≡ true)) × AreReceipts cs ds
AreReceipts [] (d ∷ ds) = ⊥
AreReceipts (c ∷ cs) [] = ⊥

appended : (cs es : List CardRow) (ds fs : List Delivery) → AreReceipts cs ds → AreReceipts es fs → AreReceipts (cs ++ es) (ds ++ fs)
appended [] es [] fs one two = two
appended (c ∷ cs) es (d ∷ ds) fs one two = (one.0, appended cs es ds fs one.1 two)
appended [] es (d ∷ ds) fs one two = absurd one
appended (c ∷ cs) es [] fs one two = absurd one

-- ---- postings that are of no receipt

abbrev is_supplied : Place → Bool
is_supplied Supplier = true
is_supplied _ = false

abbrev Inside : Posting → Type 0
Inside p = is_supplied p.from ≡ false

abbrev is_received : Command → Bool
is_received (Receive r) = true
is_received _ = false

abbrev is_inside : Entry → Bool
is_inside (One l Supplier to q) = false
is_inside _ = true

inside_of : (c : Command) → is_received c ≡ false → is_inside (entry_of c) ≡ true
inside_of (Receive r) e = let f : true ≡ false = e in cc
inside_of (Adjust a) e = by_change a.change
  where
    by_change : (z : ℤ) → is_inside (written_entry a.lot a.bin z) ≡ true
    by_change (pos k) = refl
    by_change (negsuc k) = refl
inside_of _ e = refl

from_inside : (l : LotId) (from to : Place) (q : ℕ) → is_inside (One l from to q) ≡ true → is_supplied from ≡ false
from_inside l Supplier to q e = let f : false ≡ true = e in cc
from_inside l (InBin b) to q e = refl
from_inside l (Stage o) to q e = refl
from_inside l (Shipped n o) to q e = refl
from_inside l WriteOff to q e = refl

inside_posted : (first : ℤ) (act : Act) (before : List Act) (ps : List Posting) (c : Command) → is_received c ≡ false → Each Inside (posted first act before ps c)
inside_posted first act before ps c e = subst (Each Inside) (entry_posted first act before ps c) (each_of_entry Inside first act before ps (entry_of c) (shown (entry_of c) (inside_of c e)))
  where
    shown : (n : Entry) → is_inside n ≡ true → Shown Inside first act before ps n
    shown Nothing h = tt
    shown (One l from to q) h = λ some. from_inside l from to q h
    shown (Corrected l b found) h = (λ some. refl, λ some. refl)
    shown (ShippedOff o) h = λ l some. refl
    shown Returned h = all_returned Inside first act before ps (λ l o some. refl)

-- ---- the lines of one act

abbrev AreOthers : List CardRow → Type 0
AreOthers [] = Unit {0}
AreOthers (c ∷ cs) = (is_receipt c ≡ false) × AreOthers cs

others_appended : (cs ds : List CardRow) → AreOthers cs → AreOthers ds → AreOthers (cs ++ ds)
others_appended [] ds one two = two
others_appended (c ∷ cs) ds one two = (one.0, others_appended cs ds one.1 two)

module _ (first : ℤ) (l : LotId) where
  abbrev is_own : CardRow → Bool
  is_own c = is_lot l c.lot

  none_left : (rows : List CardRow) → AreOthers rows → filter is_receipt (reverse (filter is_own rows)) ≡ []
  none_left [] all = refl
  none_left (c ∷ rows) all =
      elim (is_own c) as (λ b. filter is_receipt (reverse (if b then c ∷ filter is_own rows else filter is_own rows)) ≡ []) [
        | true ↦
            ap (filter is_receipt) (reverse-append (c ∷ []) (filter is_own rows))
            ∙ filter_appended is_receipt (reverse (filter is_own rows)) (c ∷ [])
            ∙ (λ i. none_left rows all.1 i ++ (if all.0 i then c ∷ [] else []))
        | false ↦ none_left rows all.1
      ]

  module _ (act : Act) (before : List Act) where
    abbrev lines : Posting → Place → Place → List CardRow
    lines p from to = card_lines first act before p from to

    abbrev all_lines : List Posting → List CardRow
    all_lines qs = flat_map (λ p. lines p p.from p.to) qs

    other_lines : (p : Posting) (from to : Place) → is_supplied from ≡ false → AreOthers (lines p from to)
    other_lines p Supplier to e = let f : true ≡ false = e in cc
    other_lines p WriteOff (InBin b) e = (refl, tt)
    other_lines p (InBin b) WriteOff e = (refl, tt)
    other_lines p (Stage o) (Shipped n u) e = (refl, tt)
    other_lines p _ _ e = tt

    all_others : (qs : List Posting) → Each Inside qs → AreOthers (all_lines qs)
    all_others [] all = tt
    all_others (q ∷ qs) all = others_appended (lines q q.from q.to) (all_lines qs) (other_lines q q.from q.to all.0) (all_others qs all.1)

    -- the lines that an act adds stand last
    abbrev added : List CardRow
    added = filter is_receipt (reverse (filter is_own (all_lines (postings_of first act before))))

    lines_after : filter is_receipt (card_of_lot first (act ∷ before) l) ≡ filter is_receipt (card_of_lot first before l) ++ added
    lines_after =
        ap (λ (cs : List CardRow). filter is_receipt (reverse cs)) (filter_appended is_own (all_lines (postings_of first act before)) (cards first before))
        ∙ ap (filter is_receipt) (reverse-append (filter is_own (all_lines (postings_of first act before))) (filter is_own (cards first before)))
        ∙ filter_appended is_receipt (card_of_lot first before l) (reverse (filter is_own (all_lines (postings_of first act before))))

  -- what an act adds to both
  abbrev AreAdded : Act → List Act → Type 0
  AreAdded act before = AreReceipts (added act before) (delivery_in first l act before act.key act.command)

  other_key : (act : Act) (before : List Act) (k : Key) (c : Command) → is_received c ≡ false → delivery_in first l act before k c ≡ []
  other_key act before k (Receive r) e = let f : true ≡ false = e in cc
  other_key act before (Plain n) _ e = refl
  other_key act before (Line d n) _ e = refl

  of_other : (key : Key) (c : Command) (before : List Act) → is_received c ≡ false → AreAdded (record { key = key; command = c }) before
  of_other key c before e =
      let act : Act = record { key = key; command = c } in
      subst (AreReceipts (added act before)) (sym (other_key act before key c e))
      (subst (λ (cs : List CardRow). AreReceipts cs []) (sym (none_left (all_lines act before (postings_of first act before)) (all_others act before (postings_of first act before) (inside_posted first act before (postings first before) c e)))) tt)

  some_units : (q : ℕ) → is_qty q ≡ true → (q == 0) ≡ false
  some_units q e = let two = and_both (nat_le 1 q) (nat_le q QTY_MAX) e in let low = two.0 in grind (arith, nat_tests)

  module _ (delivery : List ℕ) (line : ℕ) (r : Received) (before : List Act) where
    abbrev act : Act
    act = record { key = Line delivery line; command = Receive r }

    abbrev row : CardRow
    row = record {
      lot = r.lot;
      act = next_number before;
      day = today first (act ∷ before);
      kind = Receipt;
      note = delivery_note (Line delivery line);
      qty = pos r.qty;
      rest = lot_units_in_house first (act ∷ before) r.lot;
    }

    abbrev told : Delivery
    told = record { act = next_number before; day = today first (act ∷ before); delivery = delivery; line = line; qty = r.qty }

    of_receipt : is_sound_key (Line delivery line) ≡ true → (r.qty == 0) ≡ false → AreAdded act before
    of_receipt key some =
        rw some (elim (is_lot l r.lot) as (λ b. AreReceipts (filter is_receipt (reverse (if b then row ∷ [] else []))) (if b then told ∷ [] else [])) [ true ↦ ((((refl, refl, refl, refl), key), tt)) | false ↦ tt ])

  of_act : (act : Act) (before : List Act) → is_sound_key act.key ≡ true → is_sound act.command ≡ true → IsTrue (is_key_of act.key act.command) → AreAdded act before
  of_act act before = by_key act.key act.command
    where
      by_key : (k : Key) (c : Command) → is_sound_key k ≡ true → is_sound c ≡ true → IsTrue (is_key_of k c) → AreAdded (record { key = k; command = c }) before
      by_key (Line delivery line) (Receive r) key sound own = of_receipt delivery line r before key (some_units r.qty (and_both (is_lot_id r.lot && is_day r.expiry && is_name r.bin) (is_qty r.qty) sound).1)
      by_key (Plain name) (Receive r) key sound own = absurd cc
      by_key k c key sound own = of_other k c before refl

  pub deliveries_told : (acts : List Act) → IsHistory first acts → AreReceipts (filter is_receipt (card_of_lot first acts l)) (deliveries first acts l)
  deliveries_told [] history = tt
  deliveries_told (act ∷ before) history =
      let sound = history.1.sound in
      subst (λ (cs : List CardRow). AreReceipts cs (deliveries first (act ∷ before) l)) (sym (lines_after act before))
      (appended (filter is_receipt (card_of_lot first before l)) (added act before) (deliveries first before l) (delivery_in first l act before act.key act.command) (deliveries_told before history.0) (of_act act before sound.key sound.command sound.kind))
