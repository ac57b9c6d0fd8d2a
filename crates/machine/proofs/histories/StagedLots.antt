-- On a history a staged lot is shippable, and so is a lot that is shipped.
use Rattle.machine.proofs.Words.{◌≡◌, ℕ, ◌+◌, ◌-◌, ◌≤◌, Bool, true, false, ◌&&◌, not, List, [], ◌∷◌, ◌++◌, refl, ap, sym, ◌∙◌, arith, ◌==◌, if◌then◌else◌, find, filter, flat_map, Option, Some, None, is_some, ℤ, eqb-true, same_text, LotId, total, Key, Receipt, Command, Receive, Pick, Hold, Release, Recall, OpenDay, Least, Act, gathered, next_number, Place, InBin, Stage, Shipped, Posting, balance, is_stage, is_lot, KnownLot, Placed, RETURNS, lots, lot_among, lot_known, with_receipt, hold_in, says_held, is_held, is_recalled, is_expired, least_days, least_expiry, today, is_shippable, orders, order_named, shipments_so_far, posting, cleared, shipped_off, lot_returned, returned, made_unshippable, posted, postings, staged_of_lot, verdict, is_past, is_below, IsHistory, IsShippableLot, StagedLotsAreShippable, ShippedLotsAreShippable}
use Rattle.machine.proofs.Tests.{same_text_refl, is_lot_refl, is_lot_is}
use Rattle.machine.proofs.histories.Accepted.{pick_accepted}
use Rattle.machine.proofs.histories.Cells.{Cells, into, out_of, into-append, out_of-append, holds, stage_cell}
use Rattle.machine.proofs.histories.Staging.{IsStaging, none_returned, is_pick, only_picks_stage}
use Rattle.machine.proofs.histories.KnownPlaces.{unknown_order_is_unstaged}
use Rattle.machine.proofs.histories.Lots.{found_lot}
use Rattle.machine.proofs.histories.Orders.{found_order}

abbrev ships : ℤ → List Act → Option KnownLot → Bool
ships first acts None = false
ships first acts (Some k) = is_shippable first acts k

abbrev may_ship : ℤ → List Act → LotId → Bool
may_ship first acts l = ships first acts (lot_known acts l)

stage_is_staging : (o : List ℕ) (l : LotId) → IsStaging (stage_cell o l)
stage_is_staging o l = record { bins = λ b m. refl; write_off = λ m. refl; shipped = λ s u m e. absurd_test e }
  where
    absurd_test : {b : Bool} → false ≡ true → b ≡ true
    absurd_test e = cc

module _ (o : List ℕ) (l : LotId) (n : ℕ) (ps : List Posting) where
  abbrev w : Cells
  w = stage_cell o l

  -- What an act that returns a lot takes from its stage

  out_of_picked : {X : Type 0} (f : X → List Posting) (test keep : X → Bool) (xs : List X) (x : X) → find test xs ≡ Some x → keep x ≡ true → out_of w (f x) ≤ out_of w (flat_map f (filter keep xs))
  out_of_picked f test keep [] x e k = cc
  out_of_picked f test keep (y ∷ ys) x e k =
      elim (test y) as (λ b. (if b then Some y else find test ys) ≡ Some x → out_of w (f x) ≤ out_of w (flat_map f (if keep y then y ∷ filter keep ys else filter keep ys))) [
        | true ↦ λ h.
            let own : y ≡ x = cc in
            first_kept own
        | false ↦ λ h. later (out_of_picked f test keep ys x h k)
      ] e
    where
      first_kept : y ≡ x → out_of w (f x) ≤ out_of w (flat_map f (if keep y then y ∷ filter keep ys else filter keep ys))
      first_kept own =
          let kept : keep y ≡ true = ap keep own ∙ k in
          rw kept (omega (arith, out_of-append w (f y) (flat_map f (filter keep ys)), ap (λ z. out_of w (f z)) own))

      later : out_of w (f x) ≤ out_of w (flat_map f (filter keep ys)) → out_of w (f x) ≤ out_of w (flat_map f (if keep y then y ∷ filter keep ys else filter keep ys))
      later h = elim (keep y) as (λ b. out_of w (f x) ≤ out_of w (flat_map f (if b then y ∷ filter keep ys else filter keep ys))) [
        | true ↦ omega (arith, out_of-append w (f y) (flat_map f (filter keep ys)), h)
        | false ↦ h
      ]

  out_of_found : {X : Type 0} (f : X → List Posting) (test : X → Bool) (xs : List X) (x : X) → find test xs ≡ Some x → out_of w (f x) ≤ out_of w (flat_map f xs)
  out_of_found f test [] x e = cc
  out_of_found f test (y ∷ ys) x e =
      elim (test y) as (λ b. (if b then Some y else find test ys) ≡ Some x → out_of w (f x) ≤ out_of w (f y ++ flat_map f ys)) [
        | true ↦ λ h. let own : y ≡ x = cc in omega (arith, out_of-append w (f y) (flat_map f ys), ap (λ z. out_of w (f z)) own)
        | false ↦ λ h. omega (arith, out_of-append w (f y) (flat_map f ys), out_of_found f test ys x h)
      ] e

  out_of_cleared : (to : Place) → balance (is_stage o) (is_lot l) ps ≤ out_of w (cleared n ps to o l)
  out_of_cleared to =
      let q = balance (is_stage o) (is_lot l) ps in
      elim (q == 0) as (λ b. (q == 0) ≡ b → q ≤ out_of w (if b then [] else record { act = n; lot = l; from = Stage o; to = to; qty = q } ∷ [])) [
        | true ↦ λ e. let z : q ≡ 0 = eqb-true q 0 e in omega arith
        | false ↦ λ e. omega (arith, ap (λ b. if b then q else 0) (own_cell))
      ] refl
    where
      own_cell : is_stage o (Stage o) && is_lot l l ≡ true
      own_cell = λ i. same_text_refl o i && is_lot_refl l i

-- a stage of a lot that is returned is empty then
module _ (first : ℤ) (act : Act) (before : List Act) (history : IsHistory first before) (o : List ℕ) (l : LotId) where
  abbrev n : ℕ
  n = next_number before

  abbrev ps : List Posting
  ps = postings first before

  abbrev qs : List Posting
  qs = returned n (made_unshippable first act before) (orders before) ps

  emptied : (k : KnownLot) (p : Placed) → lot_known before l ≡ Some k → order_named before o ≡ Some p → is_shippable first before k && not (is_shippable first (act ∷ before) k) ≡ true
      → holds (stage_cell o l) (qs ++ ps) ≡ 0
  emptied k p known named gone =
      let lot : l ≡ k.lot = found_lot l (lots before) k known in
      let order : o ≡ p.order = found_order o (orders before) p named in
      let own = out_of_cleared o l n ps (InBin RETURNS) in
      let of_order = out_of_found o l n ps (λ (q : Placed). cleared n ps (InBin RETURNS) q.order k.lot) (λ q. same_text o q.order) (orders before) p named in
      let of_lot = out_of_picked o l n ps (lot_returned n (orders before) ps) (λ x. is_lot l x.lot) (λ x. is_shippable first before x && not (is_shippable first (act ∷ before) x)) (lots before) k known gone in
      let same : out_of (stage_cell o l) (cleared n ps (InBin RETURNS) o l) ≡ out_of (stage_cell o l) (cleared n ps (InBin RETURNS) p.order k.lot) = (λ i. out_of (stage_cell o l) (cleared n ps (InBin RETURNS) (order i) (lot i))) in
      omega (arith, into-append (stage_cell o l) qs ps, out_of-append (stage_cell o l) qs ps, none_returned (stage_cell o l) (stage_is_staging o l) n ps (orders before) (made_unshippable first act before), own, of_order, of_lot, same)

  stays_empty : holds (stage_cell o l) ps ≡ 0 → holds (stage_cell o l) (qs ++ ps) ≡ 0
  stays_empty e =
      omega (arith, into-append (stage_cell o l) qs ps, out_of-append (stage_cell o l) qs ps, none_returned (stage_cell o l) (stage_is_staging o l) n ps (orders before) (made_unshippable first act before))

  none_named : order_named before o ≡ None → holds (stage_cell o l) (qs ++ ps) ≡ 0
  none_named e =
      stays_empty (unknown_order_is_unstaged first before history o (is_lot l) (ap is_some e))

  by_order : (k : KnownLot) → lot_known before l ≡ Some k → is_shippable first before k && not (is_shippable first (act ∷ before) k) ≡ true → (p : Option Placed) → order_named before o ≡ p
      → holds (stage_cell o l) (qs ++ ps) ≡ 0
  by_order k known gone None named = none_named named
  by_order k known gone (Some p) named = emptied k p known named gone

  -- the lot was shippable before, and is not any more
  gone_is_empty : (was : Option KnownLot) → lot_known before l ≡ was → ships first before was ≡ true → ships first (act ∷ before) was ≡ false → holds (stage_cell o l) (qs ++ ps) ≡ 0
  gone_is_empty None known e f = cc
  gone_is_empty (Some k) known e f = by_order k known (λ i. e i && not (f i)) (order_named before o) refl

  returned_is_empty : (ships first before (lot_known before l) ≡ false → staged_of_lot first before o l ≡ 0) → ships first (act ∷ before) (lot_known before l) ≡ false → holds (stage_cell o l) (qs ++ ps) ≡ 0
  returned_is_empty h e =
      elim (ships first before (lot_known before l)) as (λ b. ships first before (lot_known before l) ≡ b → holds (stage_cell o l) (qs ++ ps) ≡ 0) [
        | true ↦ λ t. gone_is_empty (lot_known before l) refl t e
        | false ↦ λ t. stays_empty (h t)
      ] refl

-- A lot that is known stays so, and a release takes none from it

known_kept : (n : ℕ) (r : Receipt) (l : LotId) (ks : List KnownLot) (k : KnownLot) → lot_among l ks ≡ Some k → lot_among l (with_receipt n r ks) ≡ Some k
known_kept n r l ks k e =
    elim (is_some (lot_among r.lot ks)) as (λ b. is_some (lot_among r.lot ks) ≡ b → lot_among l (if b then ks else record { lot = r.lot; expiry = r.expiry; came = n } ∷ ks) ≡ Some k) [
      | true ↦ λ h. e
      | false ↦ λ h. elim (is_lot l r.lot) as (λ b. is_lot l r.lot ≡ b → (if b then Some (record { lot = r.lot; expiry = r.expiry; came = n }) else lot_among l ks) ≡ Some k) [
        | true ↦ λ t.
            let f : true ≡ false = sym (ap is_some e) ∙ ap (λ (x : LotId). is_some (lot_among x ks)) (is_lot_is l r.lot t) ∙ h in
            cc
        | false ↦ λ t. e
      ] refl
    ] refl

received_ships : (first : ℤ) (key : Key) (r : Receipt) (before : List Act) (l : LotId) → may_ship first (record { key = key; command = Receive r } ∷ before) l ≡ false → may_ship first before l ≡ false
received_ships first key r before l e = by_lot (lot_known before l) refl
  where
    by_lot : (k : Option KnownLot) → lot_known before l ≡ k → ships first before k ≡ false
    by_lot None f = refl
    by_lot (Some k) f =
        ap (ships first (record { key = key; command = Receive r } ∷ before)) (sym (known_kept (next_number before) r l (lots before) k f)) ∙ e

weaker : (a b r s : Bool) → (a ≡ true → b ≡ true) → not a && r && s ≡ false → not b && r && s ≡ false
weaker true true r s f e = e
weaker true false r s f e = let g : false ≡ true = f refl in cc
weaker false true r s f e = refl
weaker false false r s f e = e

held_before : (key : Key) (m : LotId) (before : List Act) (l : LotId) → is_held (record { key = key; command = Release m } ∷ before) l ≡ true → is_held before l ≡ true
held_before key m before l =
    elim (is_lot l m) as (λ b. says_held (if b then Some (record { lot = m; held = false }) else find (λ w. is_lot l w.lot) (gathered hold_in before)) ≡ true → is_held before l ≡ true) [
      | true ↦ λ e. let f : false ≡ true = e in cc
      | false ↦ λ e. e
    ]

released_ships : (first : ℤ) (key : Key) (m : LotId) (before : List Act) (k : Option KnownLot) → ships first (record { key = key; command = Release m } ∷ before) k ≡ false → ships first before k ≡ false
released_ships first key m before None e = refl
released_ships first key m before (Some k) e =
    weaker (is_held (record { key = key; command = Release m } ∷ before) k.lot) (is_held before k.lot) (not (is_recalled before k.lot)) (not (is_expired (least_expiry first before k.lot.gtin) k.expiry)) (held_before key m before k.lot) e

-- A picked lot may be shipped

picked_ships : (first : ℤ) (before : List Act) (l : LotId) (k : Option KnownLot) → lot_known before l ≡ k → is_some k ≡ true → is_recalled before l ≡ false → is_past k (today first before) ≡ false
    → is_below k (today first before) (least_days before l.gtin) ≡ false → is_held before l ≡ false
    → ships first before k ≡ true
picked_ships first before l None known some recalled past below held = let f : false ≡ true = some in cc
picked_ships first before l (Some k) known some recalled past below held =
    let lot : l ≡ k.lot = found_lot l (lots before) k known in
    let days : is_expired (least_expiry first before l.gtin) k.expiry ≡ false = enough (is_expired (today first before) k.expiry) (is_expired (least_expiry first before l.gtin) k.expiry) past below in
    (λ i. not (is_held before (sym lot i)) && not (is_recalled before (sym lot i)) && not (is_expired (least_expiry first before (sym lot i).gtin) k.expiry)) ∙ (λ i. not (held i) && not (recalled i) && not (days i))
  where
    enough : (a b : Bool) → a ≡ false → not a && b ≡ false → b ≡ false
    enough true b e f = let g : true ≡ false = e in cc
    enough false b e f = f

-- Step by step

module _ (first : ℤ) (key : Key) (before : List Act) (history : IsHistory first before) (o : List ℕ) (l : LotId) (h : may_ship first before l ≡ false → staged_of_lot first before o l ≡ 0) where
  abbrev cell : Cells
  cell = stage_cell o l

  abbrev old : List Posting
  old = postings first before

  other_picked : (u : List ℕ) (m : LotId) (n q : ℕ) (b : List ℕ) → is_lot l m ≡ false → staged_of_lot first before o l ≡ 0 → holds cell (posting n m (InBin b) (Stage u) q ++ old) ≡ 0
  other_picked u m n q b e z =
      elim (q == 0) as (λ t. holds cell ((if t then [] else record { act = n; lot = m; from = InBin b; to = Stage u; qty = q } ∷ []) ++ old) ≡ 0) [
        | true ↦ z
        | false ↦ elim (same_text o u) as (λ t. ((if t && is_lot l m then q else 0) + into cell old) - (0 + out_of cell old) ≡ 0) [
          | true ↦ omega (arith, ap (λ t. if t then q else 0) e, z)
          | false ↦ omega (arith, z)
        ]
      ]

  abbrev done : Command → Act
  done c = record { key = key; command = c }

  still : (c : Command) → is_pick c ≡ false → staged_of_lot first before o l ≡ 0 → holds cell (posted first (done c) before old c ++ old) ≡ 0
  still c p z = omega (arith, only_picks_stage cell (stage_is_staging o l) first (done c) before old c p, z)

  unstaged_after : (c : Command) → verdict first before c ≡ None → may_ship first (done c ∷ before) l ≡ false → holds cell (posted first (done c) before old c ++ old) ≡ 0
  unstaged_after (Receive r) ok e = still (Receive r) refl (h (received_ships first key r before l e))
  unstaged_after (Pick p) ok e =
      elim (is_lot l p.lot) as (λ b. is_lot l p.lot ≡ b → holds cell (posted first (done (Pick p)) before old (Pick p) ++ old) ≡ 0) [
        | true ↦ λ t.
            let k = pick_accepted first before p ok in
            let yes : may_ship first before p.lot ≡ true = picked_ships first before p.lot (lot_known before p.lot) refl k.lot k.not_recalled k.not_past k.not_below k.not_held in
            let f : false ≡ true = sym e ∙ ap (λ (x : LotId). may_ship first before x) (is_lot_is l p.lot t) ∙ yes in
            cc
        | false ↦ λ t. other_picked p.order p.lot (next_number before) p.qty p.bin t (h e)
      ] refl
  unstaged_after (Release m) ok e = still (Release m) refl (h (released_ships first key m before (lot_known before l) e))
  unstaged_after (Hold m) ok e = returned_is_empty first (done (Hold m)) before history o l h e
  unstaged_after (Recall m) ok e = returned_is_empty first (done (Recall m)) before history o l h e
  unstaged_after (OpenDay d) ok e = returned_is_empty first (done (OpenDay d)) before history o l h e
  unstaged_after (Least m) ok e = returned_is_empty first (done (Least m)) before history o l h e
  unstaged_after c ok e = still c refl (h e)

-- what may not be shipped is not staged
pub unshippable_is_unstaged : (first : ℤ) (acts : List Act) → IsHistory first acts → (o : List ℕ) (l : LotId) → may_ship first acts l ≡ false → staged_of_lot first acts o l ≡ 0
unshippable_is_unstaged first [] h o l e = refl
unshippable_is_unstaged first (act ∷ before) h o l e =
    unstaged_after first act.key before h.0 o l (unshippable_is_unstaged first before h.0 o l) act.command h.1.passes e

shippable_lot : (first : ℤ) (acts : List Act) (l : LotId) (k : Option KnownLot) → lot_known acts l ≡ k → ships first acts k ≡ true → IsShippableLot first acts l
shippable_lot first acts l None known e = let f : false ≡ true = e in cc
shippable_lot first acts l (Some k) known e = (k, known, e)

by_ships : (first : ℤ) (acts : List Act) (l : LotId) → (may_ship first acts l ≡ false → ⊥) → IsShippableLot first acts l
by_ships first acts l never =
    elim (may_ship first acts l) as (λ b. may_ship first acts l ≡ b → IsShippableLot first acts l) [
      | true ↦ λ e. shippable_lot first acts l (lot_known acts l) refl e
      | false ↦ λ e. absurd (never e)
    ] refl

pub staged_lots_are_shippable : StagedLotsAreShippable
staged_lots_are_shippable first acts o l h some = by_ships first acts l (λ e. some (unshippable_is_unstaged first acts h o l e))

-- Shipments

abbrev shipped_of_lot : LotId → List Posting → ℕ
shipped_of_lot l ps = total (λ p. if is_lot l p.lot then p.qty else 0) ps

shipped-append : (l : LotId) (ps qs : List Posting) → shipped_of_lot l (ps ++ qs) ≡ shipped_of_lot l ps + shipped_of_lot l qs
shipped-append l [] qs = omega arith
shipped-append l (p ∷ ps) qs = omega (arith, shipped-append l ps qs)

none_off : (n s : ℕ) (o : List ℕ) (l : LotId) (ps : List Posting) → balance (is_stage o) (is_lot l) ps ≡ 0 → (ks : List KnownLot) → shipped_of_lot l (shipped_off n s o ks ps) ≡ 0
none_off n s o l ps e [] = refl
none_off n s o l ps e (k ∷ ks) =
    omega (arith, shipped-append l (cleared n ps (Shipped s o) o k.lot) (shipped_off n s o ks ps), none_off n s o l ps e ks, one (balance (is_stage o) (is_lot k.lot) ps) own)
  where
    own : is_lot l k.lot ≡ true → balance (is_stage o) (is_lot k.lot) ps ≡ 0
    own t = ap (λ (x : LotId). balance (is_stage o) (is_lot x) ps) (sym (is_lot_is l k.lot t)) ∙ e

    one : (q : ℕ) → (is_lot l k.lot ≡ true → q ≡ 0) → shipped_of_lot l (posting n k.lot (Stage o) (Shipped s o) q) ≡ 0
    one q z =
        elim (q == 0) as (λ t. (q == 0) ≡ t → shipped_of_lot l (if t then [] else record { act = n; lot = k.lot; from = Stage o; to = Shipped s o; qty = q } ∷ []) ≡ 0) [
          | true ↦ λ t. refl
          | false ↦ λ t. elim (is_lot l k.lot) as (λ c. is_lot l k.lot ≡ c → (if c then q else 0) + 0 ≡ 0) [ true ↦ λ c. omega (arith, z c) | false ↦ λ c. refl ] refl
        ] refl

pub shipped_lots_are_shippable : ShippedLotsAreShippable
shipped_lots_are_shippable first before key o l h some =
    by_ships first before l
    (λ e. some (none_off (next_number before) (shipments_so_far first before + 1) o l (postings first before) (unshippable_is_unstaged first before h.0 o l e) (lots before)))
