-- On a history no more of a line is staged and shipped than is ordered, and a closed order has nothing staged or reserved.
use Rattle.machine.proofs.Words.{◌≡◌, ℕ, ◌+◌, ◌-◌, ◌≤◌, Bool, true, false, ◌&&◌, not, List, [], ◌∷◌, ◌++◌, refl, ap, sym, ◌∙◌, arith, ◌==◌, ◌||◌, if◌then◌else◌, find, Option, Some, None, is_some, ℤ, list_all, eqb-true, same_text, LotId, Key, OrderLine, Command, Cancel, Pick, Open, Done, Cancelled, Act, next_number, Place, Supplier, InBin, Stage, Shipped, WriteOff, Posting, balance, is_stage, is_shipped_to, is_lot, any_lot, of_item, Placed, orders, order_named, has_order, lines_of, lines_placed, is_cancelled, posting, posted, postings, item_postings, staged, shipped, shipped_of, staged_of_lot, staged_for_order, is_open, is_open_state, is_shipped_in_full, reserved, verdict, names_item_twice, IsHistory, ClosedOrdersAreEmpty, order_in, cons_option}
use Rattle.machine.proofs.Tests.{same_text_is, is_lot_item, and_both}
use Rattle.machine.proofs.histories.Accepted.{cancel_accepted, pick_accepted}
use Rattle.machine.proofs.histories.ActFacts.{IsNew, order_is_new}
use Rattle.machine.proofs.histories.Cells.{Cells, holds, Inner, Legal, IsPart, without, stage_cell, inner_stage, holds_split}
use Rattle.machine.proofs.histories.LegalHistories.{legal_history}
use Rattle.machine.proofs.histories.ItemBalances.{balance-of_item}
use Rattle.machine.proofs.histories.Staging.{IsStaging, is_pick, only_picks_stage}
use Rattle.machine.proofs.histories.Orders.{AllSingle, orders_single, found_order, closed_needs_none}
use Rattle.machine.proofs.histories.Needs.{reserved_within_needs, unknown_is_unreserved, none_needed, line_qty, needs_of_line}

-- What a posting brings at most

into_posting : (w : Cells) (n : ℕ) (l : LotId) (from to : Place) (q : ℕ) (ps : List Posting) → holds w (posting n l from to q ++ ps) ≤ holds w ps + (if w to l then q else 0)
into_posting w n l from to q ps =
    elim (q == 0) as (λ b. holds w ((if b then [] else record { act = n; lot = l; from = from; to = to; qty = q } ∷ []) ++ ps) ≤ holds w ps + (if w to l then q else 0)) [
      | true ↦ omega arith
      | false ↦ omega arith
    ]

-- Cancelled orders

abbrev stages : List ℕ → Cells
stages o p l = is_stage o p && any_lot l

off_test : {b : Bool} → false ≡ true → b ≡ true
off_test e = cc

stages_staging : (o : List ℕ) → IsStaging (stages o)
stages_staging o = record { bins = λ b m. refl; write_off = λ m. refl; shipped = λ s u m e. off_test e }

cancelled_is_closed : (first : ℤ) (acts : List Act) (o : List ℕ) → is_cancelled acts o ≡ true → is_open first acts o ≡ false
cancelled_is_closed first acts o e = ap (λ b. is_open_state (if b then Cancelled else (if is_shipped_in_full first acts o then Done else Open))) e

module _ (first : ℤ) (key : Key) (before : List Act) (o : List ℕ) (h : is_cancelled before o ≡ true → staged_for_order first before o ≡ 0) where
  abbrev done : Command → Act
  done c = record { key = key; command = c }

  abbrev old : List Posting
  old = postings first before

  still_none : (c : Command) → is_pick c ≡ false → is_cancelled before o ≡ true → holds (stages o) (posted first (done c) before old c ++ old) ≡ 0
  still_none c p e = omega (arith, only_picks_stage (stages o) (stages_staging o) first (done c) before old c p, h e)

  cancelled_after : (c : Command) → verdict first before c ≡ None → is_cancelled (done c ∷ before) o ≡ true → holds (stages o) (posted first (done c) before old c ++ old) ≡ 0
  cancelled_after (Cancel u) ok e =
      elim (same_text o u) as (λ b. same_text o u ≡ b → b || is_cancelled before o ≡ true → holds (stages o) old ≡ 0) [
        | true ↦ λ t e. ap (λ (x : List ℕ). staged_for_order first before x) (same_text_is o u t) ∙ (cancel_accepted first before u ok).unstaged
        | false ↦ λ t e. h e
      ] refl e
  cancelled_after (Pick p) ok e =
      elim (same_text o p.order) as (λ b. same_text o p.order ≡ b → holds (stages o) (posted first (done (Pick p)) before old (Pick p) ++ old) ≡ 0) [
        | true ↦ λ t.
            let closed : is_open first before p.order ≡ false = ap (λ (x : List ℕ). is_open first before x) (sym (same_text_is o p.order t)) ∙ cancelled_is_closed first before o e in
            let f : false ≡ true = sym closed ∙ (pick_accepted first before p ok).still_open in
            cc
        | false ↦ λ t.
            omega (arith, into_posting (stages o) (next_number before) p.lot (InBin p.bin) (Stage p.order) p.qty old, ap (λ b. if b && any_lot p.lot then p.qty else 0) t, h e)
      ] refl
  cancelled_after c ok e = still_none c refl e

pub cancelled_is_unstaged : (first : ℤ) (acts : List Act) → IsHistory first acts → (o : List ℕ) → is_cancelled acts o ≡ true → staged_for_order first acts o ≡ 0
cancelled_is_unstaged first [] h o e = refl
cancelled_is_unstaged first (act ∷ before) h o e = cancelled_after first act.key before o (cancelled_is_unstaged first before h.0 o) act.command h.1.passes e

-- Lines

-- how many units of the item the order asks for
abbrev pub ordered_of : List Act → List ℕ → List ℕ → ℕ
ordered_of acts o g = line_qty (find (λ l. same_text g l.gtin) (lines_of acts o))

-- the stage and the shipments of an order, for an item
abbrev pub served : List ℕ → List ℕ → Cells
served o g p l = (is_stage o p || is_shipped_to o p) && of_item g l

served_staging : (o g : List ℕ) → IsStaging (served o g)
served_staging o g = record { bins = λ b m. refl; write_off = λ m. refl; shipped = λ s u m e. either (same_text o u) (of_item g m) e }
  where
    either : (a b : Bool) → a && b ≡ true → (a || false) && b ≡ true
    either true b e = e
    either false b e = e

served_inner : (o g : List ℕ) → Inner (served o g)
served_inner o g = record { supplier = λ m. refl; write_off = λ m. refl }

abbrev item_stages : List ℕ → List ℕ → Cells
item_stages o g p l = is_stage o p && of_item g l

abbrev item_shipments : List ℕ → List ℕ → Cells
item_shipments o g p l = is_shipped_to o p && of_item g l

stages_in_served : (o g : List ℕ) → IsPart (item_stages o g) (served o g)
stages_in_served o g (Stage u) l e = either (same_text o u) (of_item g l) e
  where
    either : (a b : Bool) → a && b ≡ true → (a || false) && b ≡ true
    either true b e = e
    either false b e = e
stages_in_served o g (InBin b) l e = e
stages_in_served o g Supplier l e = e
stages_in_served o g WriteOff l e = e
stages_in_served o g (Shipped n u) l e = off_test e

rest_of_served : (o g : List ℕ) → without (served o g) (item_stages o g) ≡ item_shipments o g
rest_of_served o g = λ i p l. at_place p l i
  where
    gone : (a b : Bool) → ((a || false) && b) && not (a && b) ≡ false
    gone true true = refl
    gone true false = refl
    gone false b = refl

    kept : (a : Bool) → a && true ≡ a
    kept true = refl
    kept false = refl

    at_place : (p : Place) (l : LotId) → without (served o g) (item_stages o g) p l ≡ item_shipments o g p l
    at_place (Stage u) l = gone (same_text o u) (of_item g l)
    at_place (Shipped n u) l = kept (same_text o u && of_item g l)
    at_place _ l = refl

-- what is served of a line is what is staged and what is shipped of it
pub served_is : (first : ℤ) (acts : List Act) → Legal (postings first acts) → (o g : List ℕ)
    → holds (served o g) (postings first acts) ≡ balance (is_stage o) (of_item g) (postings first acts) + shipped_of first acts o g
served_is first acts legal o g =
    holds_split (postings first acts) legal (item_stages o g) (served o g) (record { supplier = λ m. refl; write_off = λ m. refl }) (served_inner o g) (stages_in_served o g)
    ∙ (λ i. balance (is_stage o) (of_item g) (postings first acts) + holds (rest_of_served o g i) (postings first acts))
    ∙ ap (λ n. balance (is_stage o) (of_item g) (postings first acts) + n) (sym (balance-of_item (is_shipped_to o) g (of_item g) (λ l e. e) (postings first acts)))

-- what is reserved for an order fits into what its line still lacks
reserved_fits : (first : ℤ) (acts : List Act) → IsHistory first acts → (o : List ℕ) (l : LotId) → reserved first acts o l ≤ ordered_of acts o l.gtin - holds (served o l.gtin) (postings first acts)
reserved_fits first acts h o l = by_order (order_named acts o) refl
  where
    less : (c : Bool) (q s t : ℕ) → (if c then 0 else q - s - t) ≤ q - (s + t)
    less true q s t = omega arith
    less false q s t = omega arith

    single_of : (all : List Placed) (p : Placed) → AllSingle all → find (λ q. same_text o q.order) all ≡ Some p → names_item_twice p.lines ≡ false
    single_of [] p s e = cc
    single_of (q ∷ qs) p s e =
        elim (same_text o q.order) as (λ b. (if b then Some q else find (λ q. same_text o q.order) qs) ≡ Some p → names_item_twice p.lines ≡ false) [
          | true ↦ λ f. let own : q ≡ p = cc in ap (λ (x : Placed). names_item_twice x.lines) (sym own) ∙ s.0
          | false ↦ λ f. single_of qs p s.1 f
        ] e

    by_order : (p : Option Placed) → order_named acts o ≡ p → reserved first acts o l ≤ ordered_of acts o l.gtin - holds (served o l.gtin) (postings first acts)
    by_order None none = omega (arith, unknown_is_unreserved first acts o l none)
    by_order (Some p) named =
        let ps : List Posting = item_postings first acts l.gtin in
        let own : o ≡ p.order = found_order o (orders acts) p named in
        let lines : lines_of acts o ≡ p.lines = ap lines_placed named in
        let stage : staged ps p.order l.gtin ≡ balance (is_stage o) (of_item l.gtin) (postings first acts) =
        ap (λ (x : List ℕ). staged ps x l.gtin) (sym own) ∙ balance-of_item (is_stage o) l.gtin (of_item l.gtin) (λ m e. e) (postings first acts) in
        let gone : shipped ps p.order l.gtin ≡ shipped_of first acts o l.gtin = ap (λ (x : List ℕ). shipped ps x l.gtin) (sym own) in
        let all = needs_of_line acts ps l.gtin p (λ g. staged ps p.order g + shipped ps p.order g) (λ m. less (is_cancelled acts p.order) m.qty (staged ps p.order m.gtin) (shipped ps p.order m.gtin)) p.lines (single_of (orders acts) p (orders_single first acts h) named) in
        omega (
          arith,
          reserved_within_needs first acts o l p named,
          all,
          ap (λ (ls : List OrderLine). line_qty (find (λ m. same_text l.gtin m.gtin) ls)) lines,
          served_is first acts (legal_history first acts h) o l.gtin,
          stage,
          gone,
        )

-- No more is served than is ordered

ordered_grows : (first : ℤ) (act : Act) (before : List Act) → verdict first before act.command ≡ None → (o g : List ℕ) → ordered_of before o g ≤ ordered_of (act ∷ before) o g
ordered_grows first act before ok o g = by_order (order_in (next_number before) act.command) (order_is_new first before act.command ok)
  where
    same_line : ordered_of before o g ≤ ordered_of before o g
    same_line = omega arith

    none_named : (p : Option Placed) → is_some p ≡ false → line_qty (find (λ l. same_text g l.gtin) (lines_placed p)) ≡ 0
    none_named None e = refl
    none_named (Some p) e = let f : true ≡ false = e in cc

    by_order : (p : Option Placed) → IsNew before p → ordered_of before o g ≤ line_qty (find (λ l. same_text g l.gtin) (lines_placed (find (λ q. same_text o q.order) (cons_option p (orders before)))))
    by_order None new = same_line
    by_order (Some p) new =
        elim (same_text o p.order) as (λ b. same_text o p.order ≡ b → ordered_of before o g ≤ line_qty (find (λ l. same_text g l.gtin) (lines_placed (if b then Some p else order_named before o)))) [
          | true ↦ λ t. omega (arith, none_named (order_named before o) (ap (λ (x : List ℕ). has_order before x) (same_text_is o p.order t) ∙ new))
          | false ↦ λ t. same_line
        ] refl

module _ (first : ℤ) (key : Key) (before : List Act) (history : IsHistory first before) (o g : List ℕ) (h : holds (served o g) (postings first before) ≤ ordered_of before o g) where
  served_other : (c : Command) → is_pick c ≡ false → holds (served o g) (posted first (record { key = key; command = c }) before (postings first before) c ++ postings first before) ≤ ordered_of before o g
  served_other c p = omega (arith, only_picks_stage (served o g) (served_staging o g) first (record { key = key; command = c }) before (postings first before) c p, h)

  served_picked : (q : ℕ) (l : LotId) (u : List ℕ) (b : Bool) → (is_stage o (Stage u) || is_shipped_to o (Stage u)) && of_item g l ≡ b → q ≤ ordered_of before u l.gtin - holds (served u l.gtin) (postings first before)
      → holds (served o g) (postings first before) + (if b then q else 0) ≤ ordered_of before o g
  served_picked q l u true e fits =
      let two = and_both (same_text o u || false) (of_item g l) e in
      let order : o ≡ u = same_text_is o u (plain (same_text o u) two.0) in
      let item : g ≡ l.gtin = same_text_is g l.gtin two.1 in
      let same_ordered : ordered_of before o g ≡ ordered_of before u l.gtin = λ i. ordered_of before (order i) (item i) in
      let same_served : holds (served o g) (postings first before) ≡ holds (served u l.gtin) (postings first before) = λ i. holds (served (order i) (item i)) (postings first before) in
      omega (arith, h, fits)
    where
      plain : (a : Bool) → a || false ≡ true → a ≡ true
      plain true f = refl
      plain false f = f
  served_picked q l u false e fits = omega (arith, h)

  served_after : (c : Command) → verdict first before c ≡ None → holds (served o g) (posted first (record { key = key; command = c }) before (postings first before) c ++ postings first before) ≤ ordered_of before o g
  served_after (Pick p) ok =
      let k = pick_accepted first before p ok in
      omega (
        arith,
        into_posting (served o g) (next_number before) p.lot (InBin p.bin) (Stage p.order) p.qty (postings first before),
        served_picked p.qty p.lot p.order ((is_stage o (Stage p.order) || is_shipped_to o (Stage p.order)) && of_item g p.lot) refl (within p.qty _ _ k.is_reserved (reserved_fits first before history p.order p.lot)),
      )
    where
      within : (a b c : ℕ) → a ≤ b → b ≤ c → a ≤ c
      within a b c e f = omega arith
  served_after c ok = served_other c refl

-- on a history no more of an item is staged and shipped for an order than it asks for
pub served_within_ordered : (first : ℤ) (acts : List Act) → IsHistory first acts → (o g : List ℕ) → holds (served o g) (postings first acts) ≤ ordered_of acts o g
served_within_ordered first [] h o g = omega arith
served_within_ordered first (act ∷ before) h o g =
    omega (arith, served_after first act.key before h.0 o g (served_within_ordered first before h.0 o g) act.command h.1.passes, ordered_grows first act before h.1.passes o g)

-- Closed orders

all_found : (test : OrderLine → Bool) (g : List ℕ) (ls : List OrderLine) → list_all test ls ≡ true → (l : OrderLine) → find (λ m. same_text g m.gtin) ls ≡ Some l → (test l ≡ true) × (g ≡ l.gtin)
all_found test g [] h l e = cc
all_found test g (m ∷ ms) h l e =
    let two = and_both (test m) (list_all test ms) h in
    elim (same_text g m.gtin) as (λ b. same_text g m.gtin ≡ b → (if b then Some m else find (λ m. same_text g m.gtin) ms) ≡ Some l → (test l ≡ true) × (g ≡ l.gtin)) [
      | true ↦ λ t f. let own : m ≡ l = cc in (ap test (sym own) ∙ two.0, same_text_is g m.gtin t ∙ ap (λ (x : OrderLine). x.gtin) own)
      | false ↦ λ t f. all_found test g ms two.1 l f
    ] refl e

module _ (first : ℤ) (acts : List Act) (history : IsHistory first acts) (o : List ℕ) where
  -- a line shipped in full is that much shipped
  shipped_in_full : is_shipped_in_full first acts o ≡ true → (g : List ℕ) → ordered_of acts o g ≤ shipped_of first acts o g
  shipped_in_full full g = by_line (find (λ l. same_text g l.gtin) (lines_of acts o)) refl
    where
      by_line : (l : Option OrderLine) → find (λ l. same_text g l.gtin) (lines_of acts o) ≡ l → line_qty l ≤ shipped_of first acts o g
      by_line None e = omega arith
      by_line (Some l) e =
          let h = all_found (λ l. shipped_of first acts o l.gtin == l.qty) g (lines_of acts o) full l e in
          omega (arith, eqb-true (shipped_of first acts o l.gtin) l.qty h.0, ap (λ (x : List ℕ). shipped_of first acts o x) h.1)

  lot_in_item : (l : LotId) → IsPart (stage_cell o l) (item_stages o l.gtin)
  lot_in_item l p m e =
      let two = and_both (is_stage o p) (is_lot l m) e in
      (λ i. two.0 i && is_lot_item l m two.1 i)

  done_is_unstaged : is_shipped_in_full first acts o ≡ true → (l : LotId) → staged_of_lot first acts o l ≡ 0
  done_is_unstaged full l =
      let legal = legal_history first acts history in
      omega (
        arith,
        holds_split (postings first acts) legal (stage_cell o l) (item_stages o l.gtin) (inner_stage o l) (record { supplier = λ m. refl; write_off = λ m. refl }) (lot_in_item l),
        served_is first acts legal o l.gtin,
        served_within_ordered first acts history o l.gtin,
        shipped_in_full full l.gtin,
      )

  lot_in_stages : (l : LotId) → IsPart (stage_cell o l) (stages o)
  lot_in_stages l p m e =
      let two = and_both (is_stage o p) (is_lot l m) e in
      (λ i. two.0 i && true)

  closed_by : (b c : Bool) → is_open_state (if b then Cancelled else (if c then Done else Open)) ≡ false → b ≡ false → c ≡ true
  closed_by true c e f = cc
  closed_by false true e f = refl
  closed_by false false e f = cc

  pub closed_is_unstaged : is_open first acts o ≡ false → (l : LotId) → staged_of_lot first acts o l ≡ 0
  closed_is_unstaged closed l =
      elim (is_cancelled acts o) as (λ b. is_cancelled acts o ≡ b → staged_of_lot first acts o l ≡ 0) [
        | true ↦ λ e.
            omega (
              arith,
              holds_split (postings first acts) (legal_history first acts history) (stage_cell o l) (stages o) (inner_stage o l) (record { supplier = λ m. refl; write_off = λ m. refl }) (lot_in_stages l),
              cancelled_is_unstaged first acts history o e,
            )
        | false ↦ λ e. done_is_unstaged (closed_by (is_cancelled acts o) (is_shipped_in_full first acts o) closed e) l
      ] refl

  pub closed_is_unreserved : is_open first acts o ≡ false → (l : LotId) → reserved first acts o l ≡ 0
  closed_is_unreserved closed l = by_order (order_named acts o) refl
    where
      by_order : (p : Option Placed) → order_named acts o ≡ p → reserved first acts o l ≡ 0
      by_order None none = unknown_is_unreserved first acts o l none
      by_order (Some p) named =
          let own : o ≡ p.order = found_order o (orders acts) p named in
          let again : order_named acts p.order ≡ Some p = ap (λ (x : List ℕ). order_named acts x) (sym own) ∙ named in
          let shut : is_open first acts p.order ≡ false = ap (λ (x : List ℕ). is_open first acts x) (sym own) ∙ closed in
          omega (arith, reserved_within_needs first acts o l p named, none_needed acts (item_postings first acts l.gtin) _ (closed_needs_none first acts l.gtin p again shut))

pub closed_orders_are_empty : ClosedOrdersAreEmpty
closed_orders_are_empty first acts o l h closed = (closed_is_unstaged first acts h o closed l, closed_is_unreserved first acts h o closed l)
