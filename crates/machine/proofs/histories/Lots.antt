-- Lots: none is known twice, and lots and their first receipts determine one another; a lot that is not known is not held.
use Rattle.machine.proofs.Words.{◌≡◌, ℕ, ◌+◌, ◌≤◌, Bool, true, false, List, [], ◌∷◌, refl, ap, sym, ◌∙◌, arith, if◌then◌else◌, ℤ, Some, None, find, is_some, cons_option, LotId, Receipt, Command, Receive, Hold, Release, Act, gathered, next_number, is_lot, KnownLot, lots, lots_after, with_receipt, lot_among, lot_known, has_lot, hold_in, says_held, is_held, verdict, IsHistory}
use Rattle.machine.proofs.Tests.{is_lot_is, is_lot_refl, is_lot_turned}
use Rattle.machine.proofs.Apart.{AreApart, AllFound, all_found, any_found}
use Rattle.machine.proofs.histories.Falling.{AllBelow, AreFalling, below_more, found_one}
use Rattle.machine.proofs.histories.Accepted.{hold_accepted}

abbrev pub same_known : KnownLot → KnownLot → Bool
same_known k m = is_lot k.lot m.lot

-- Names

apart_received : (n : ℕ) (r : Receipt) (ks : List KnownLot) → AreApart same_known ks → AreApart same_known (with_receipt n r ks)
apart_received n r ks h =
    elim (is_some (lot_among r.lot ks)) as (λ b. is_some (lot_among r.lot ks) ≡ b → AreApart same_known (if b then ks else record { lot = r.lot; expiry = r.expiry; came = n } ∷ ks)) [
      | true ↦ λ e. h
      | false ↦ λ e. (sym (any_found (λ k. is_lot r.lot k.lot) ks) ∙ e, h)
    ] refl

apart_after : (n : ℕ) (c : Command) (ks : List KnownLot) → AreApart same_known ks → AreApart same_known (lots_after n c ks)
apart_after n (Receive r) ks h = apart_received n r ks h
apart_after n _ ks h = h

pub lots_apart : (acts : List Act) → AreApart same_known (lots acts)
lots_apart [] = tt
lots_apart (act ∷ before) = apart_after (next_number before) act.command (lots before) (lots_apart before)

pub lots_found : (acts : List Act) → AllFound same_known (lots acts) (lots acts)
lots_found acts = all_found same_known (λ k. is_lot_refl k.lot) (λ k m. is_lot_turned k.lot m.lot) (lots acts) (lots_apart acts)

-- what is found under a lot is of that lot
pub found_lot : (l : LotId) (ks : List KnownLot) (k : KnownLot) → lot_among l ks ≡ Some k → l ≡ k.lot
found_lot l [] k e = cc
found_lot l (m ∷ ms) k e =
    elim (is_lot l m.lot) as (λ b. is_lot l m.lot ≡ b → (if b then Some m else lot_among l ms) ≡ Some k → l ≡ k.lot) [
      | true ↦ λ t f. let own : m ≡ k = cc in is_lot_is l m.lot t ∙ ap (λ (x : KnownLot). x.lot) own
      | false ↦ λ t f. found_lot l ms k f
    ] refl e

-- Numbers

pub record AreNumbered (acts : List Act) : Type 0 where
  pub below : AllBelow (λ (k : KnownLot). k.came) (next_number acts) (lots acts)
  pub falling : AreFalling (λ (k : KnownLot). k.came) (lots acts)

record NumberedTo (n : ℕ) (ks : List KnownLot) : Type 0 where
  below : AllBelow (λ (k : KnownLot). k.came) n ks
  falling : AreFalling (λ (k : KnownLot). k.came) ks

numbered_later : (n m : ℕ) (ks : List KnownLot) → n ≤ m → NumberedTo n ks → NumberedTo m ks
numbered_later n m ks e h = record { below = below_more (λ (k : KnownLot). k.came) n m ks e h.below; falling = h.falling }

numbered_received : (n : ℕ) (r : Receipt) (ks : List KnownLot) → NumberedTo n ks → NumberedTo (n + 1) (with_receipt n r ks)
numbered_received n r ks h =
    let later = numbered_later n (n + 1) ks (omega arith) h in
    elim (is_some (lot_among r.lot ks)) as (λ b. NumberedTo (n + 1) (if b then ks else record { lot = r.lot; expiry = r.expiry; came = n } ∷ ks)) [
      | true ↦ later
      | false ↦ record { below = (omega arith, later.below); falling = (h.below, h.falling) }
    ]

numbered_after : (n : ℕ) (c : Command) (ks : List KnownLot) → NumberedTo n ks → NumberedTo (n + 1) (lots_after n c ks)
numbered_after n (Receive r) ks h = numbered_received n r ks h
numbered_after n _ ks h = numbered_later n (n + 1) ks (omega arith) h

pub lots_numbered : (acts : List Act) → AreNumbered acts
lots_numbered [] = record { below = tt; falling = tt }
lots_numbered (act ∷ before) =
    let h = lots_numbered before in
    let next = numbered_after (next_number before) act.command (lots before) (record { below = h.below; falling = h.falling }) in
    let own = numbered_later (next_number before + 1) (next_number (act ∷ before)) (lots (act ∷ before)) (omega arith) next in
    record { below = own.below; falling = own.falling }

-- two lots with one first receipt are one
pub receipt_names_lot : (acts : List Act) (l m : LotId) (k j : KnownLot) → lot_known acts l ≡ Some k → lot_known acts m ≡ Some j → k.came ≡ j.came → l ≡ m
receipt_names_lot acts l m k j e f same =
    let one : k ≡ j = found_one (λ (k : KnownLot). k.came) (λ x. is_lot l x.lot) (λ x. is_lot m x.lot) (lots acts) k j (lots_numbered acts).falling e f same in
    found_lot l (lots acts) k e ∙ ap (λ (x : KnownLot). x.lot) one ∙ sym (found_lot m (lots acts) j f)

-- Lots that are not known

pub unknown_before : (l : LotId) (n : ℕ) (r : Receipt) (ks : List KnownLot) → lot_among l (with_receipt n r ks) ≡ None → lot_among l ks ≡ None
unknown_before l n r ks =
    elim (is_some (lot_among r.lot ks)) as (λ b. lot_among l (if b then ks else record { lot = r.lot; expiry = r.expiry; came = n } ∷ ks) ≡ None → lot_among l ks ≡ None) [
      | true ↦ λ e. e
      | false ↦ λ e. elim (is_lot l r.lot) as (λ b. (if b then Some (record { lot = r.lot; expiry = r.expiry; came = n }) else lot_among l ks) ≡ None → lot_among l ks ≡ None) [ true ↦ λ f. cc | false ↦ λ f. f ] e
    ]

held_after : (first : ℤ) (before : List Act) (c : Command) → verdict first before c ≡ None → (l : LotId) → (lot_among l (lots before) ≡ None → is_held before l ≡ false)
    → lot_among l (lots_after (next_number before) c (lots before)) ≡ None → says_held (find (λ w. is_lot l w.lot) (cons_option (hold_in (next_number before) c) (gathered hold_in before))) ≡ false
held_after first before (Receive r) ok l h e = h (unknown_before l (next_number before) r (lots before) e)
held_after first before (Hold m) ok l h e =
    elim (is_lot l m) as (λ b. is_lot l m ≡ b → says_held (if b then Some (record { lot = m; held = true }) else find (λ w. is_lot l w.lot) (gathered hold_in before)) ≡ false) [
      | true ↦ λ t.
          let f : false ≡ true = ap is_some (sym e) ∙ ap (λ (x : LotId). has_lot before x) (is_lot_is l m t) ∙ (hold_accepted first before m ok).lot in
          cc
      | false ↦ λ t. h e
    ] refl
held_after first before (Release m) ok l h e =
    elim (is_lot l m) as (λ b. says_held (if b then Some (record { lot = m; held = false }) else find (λ w. is_lot l w.lot) (gathered hold_in before)) ≡ false) [ true ↦ refl | false ↦ h e ]
held_after first before _ ok l h e = h e

-- on a history
pub not_held : (first : ℤ) (acts : List Act) → IsHistory first acts → (l : LotId) → lot_known acts l ≡ None → is_held acts l ≡ false
not_held first [] h l e = refl
not_held first (act ∷ before) h l e = held_after first before act.command h.1.passes l (not_held first before h.0 l) e
