-- Orders and lots that are known stay as they are, and those that an act makes known have its number.
use Rattle.rules.proofs.Words.{◌≡◌, ℕ, ◌≤◌, Bool, true, false, List, [], ◌∷◌, refl, ap, sym, ◌∙◌, arith, if◌then◌else◌, ℤ, Option, Some, None, find, is_some, cons_option, same_text, LotId, Command, Order, Receive, Urgent, Act, next_number, is_lot, Placed, KnownLot, order_in, orders, order_named, has_order, lots, lots_after, lot_among, lot_known, verdict, same_text_is, is_lot_is, order_accepted, urgent_accepted}

-- Orders

module _ (o : List ℕ) (before : List Act) where
  abbrev test : Placed → Bool
  test q = same_text o q.order

  stays_behind : (new p : Placed) → has_order before new.order ≡ false → order_named before o ≡ Some p → find test (new ∷ orders before) ≡ Some p
  stays_behind new p fresh e =
      elim (same_text o new.order) as (λ b. same_text o new.order ≡ b → (if b then Some new else order_named before o) ≡ Some p) [
        | true ↦ λ t. let f : false ≡ true = sym fresh ∙ ap (λ (x : List ℕ). has_order before x) (sym (same_text_is o new.order t)) ∙ ap is_some e in cc
        | false ↦ λ t. e
      ] refl

  stays : (first : ℤ) (c : Command) → verdict first before c ≡ None → (p : Placed) → order_named before o ≡ Some p → find test (cons_option (order_in (next_number before) c) (orders before)) ≡ Some p
  stays first (Order w) ok p e = stays_behind _ p (order_accepted first before w ok).new e
  stays first (Urgent w) ok p e = stays_behind _ p (urgent_accepted first before w ok).new e
  stays first _ ok p e = e

  comes_in_front : (new p : Placed) → order_named before o ≡ None → find test (new ∷ orders before) ≡ Some p → p.act ≡ new.act
  comes_in_front new p none e =
      elim (same_text o new.order) as (λ b. (if b then Some new else order_named before o) ≡ Some p → p.act ≡ new.act) [
        | true ↦ λ h. let own : new ≡ p = cc in sym (ap (λ (x : Placed). x.act) own)
        | false ↦ λ h. let f : ◌≡◌ {A = Option Placed} None (Some p) = sym none ∙ h in cc
      ] e

  comes : (c : Command) (p : Placed) → order_named before o ≡ None → find test (cons_option (order_in (next_number before) c) (orders before)) ≡ Some p → p.act ≡ next_number before
  comes (Order w) p none e = comes_in_front _ p none e
  comes (Urgent w) p none e = comes_in_front _ p none e
  comes _ p none e = let f : ◌≡◌ {A = Option Placed} None (Some p) = sym none ∙ e in cc

  numbered_behind : (new p : Placed) → 1 ≤ new.act → (order_named before o ≡ Some p → 1 ≤ p.act) → find test (new ∷ orders before) ≡ Some p → 1 ≤ p.act
  numbered_behind new p h k e =
      elim (same_text o new.order) as (λ b. (if b then Some new else order_named before o) ≡ Some p → 1 ≤ p.act) [
        | true ↦ λ f. let own : new ≡ p = cc in omega (arith, h, ap (λ (x : Placed). x.act) own)
        | false ↦ λ f. k f
      ] e

  numbered_after : (c : Command) (p : Placed) → (order_named before o ≡ Some p → 1 ≤ p.act) → find test (cons_option (order_in (next_number before) c) (orders before)) ≡ Some p → 1 ≤ p.act
  numbered_after (Order w) p h e = numbered_behind _ p (omega arith) h e
  numbered_after (Urgent w) p h e = numbered_behind _ p (omega arith) h e
  numbered_after _ p h e = h e

-- no order has the number 0
pub numbered_from_one : (acts : List Act) (o : List ℕ) (p : Placed) → order_named acts o ≡ Some p → 1 ≤ p.act
numbered_from_one [] o p e = cc
numbered_from_one (act ∷ before) o p e = numbered_after o before act.command p (λ f. numbered_from_one before o p f) e

-- Lots

lot_stays_by : (l : LotId) (n : ℕ) (c : Command) (ks : List KnownLot) (k : KnownLot) → lot_among l ks ≡ Some k → lot_among l (lots_after n c ks) ≡ Some k
lot_stays_by l n (Receive r) ks k e =
    elim (is_some (lot_among r.lot ks)) as (λ b. is_some (lot_among r.lot ks) ≡ b → lot_among l (if b then ks else record { lot = r.lot; expiry = r.expiry; came = n } ∷ ks) ≡ Some k) [
      | true ↦ λ t. e
      | false ↦ λ t. elim (is_lot l r.lot) as (λ b. is_lot l r.lot ≡ b → (if b then Some (record { lot = r.lot; expiry = r.expiry; came = n }) else lot_among l ks) ≡ Some k) [
        | true ↦ λ u. let f : true ≡ false = ap is_some (sym e) ∙ ap (λ (m : LotId). is_some (lot_among m ks)) (is_lot_is l r.lot u) ∙ t in cc
        | false ↦ λ u. e
      ] refl
    ] refl
lot_stays_by l n _ ks k e = e

lot_comes_by : (l : LotId) (n : ℕ) (c : Command) (ks : List KnownLot) (k : KnownLot) → lot_among l ks ≡ None → lot_among l (lots_after n c ks) ≡ Some k → k.came ≡ n
lot_comes_by l n (Receive r) ks k none e =
    elim (is_some (lot_among r.lot ks)) as (λ b. lot_among l (if b then ks else record { lot = r.lot; expiry = r.expiry; came = n } ∷ ks) ≡ Some k → k.came ≡ n) [
      | true ↦ λ h. let f : ◌≡◌ {A = Option KnownLot} None (Some k) = sym none ∙ h in cc
      | false ↦ λ h. elim (is_lot l r.lot) as (λ b. (if b then Some (record { lot = r.lot; expiry = r.expiry; came = n }) else lot_among l ks) ≡ Some k → k.came ≡ n) [
        | true ↦ λ f. let own : record { lot = r.lot; expiry = r.expiry; came = n } ≡ k = cc in sym (ap (λ (x : KnownLot). x.came) own)
        | false ↦ λ f. let z : ◌≡◌ {A = Option KnownLot} None (Some k) = sym none ∙ f in cc
      ] h
    ] e
lot_comes_by l n _ ks k none e = let f : ◌≡◌ {A = Option KnownLot} None (Some k) = sym none ∙ e in cc

module _ (first : ℤ) (acts : List Act) (act : Act) where
  abbrev after : List Act
  after = act ∷ acts

  pub order_stays : verdict first acts act.command ≡ None → (o : List ℕ) (p : Placed) → order_named acts o ≡ Some p → order_named after o ≡ Some p
  order_stays ok o p e = stays o acts first act.command ok p e

  pub order_comes : (o : List ℕ) (p : Placed) → order_named acts o ≡ None → order_named after o ≡ Some p → p.act ≡ next_number acts
  order_comes o p none e = comes o acts act.command p none e

  pub lot_stays : (l : LotId) (k : KnownLot) → lot_known acts l ≡ Some k → lot_known after l ≡ Some k
  lot_stays l k e = lot_stays_by l (next_number acts) act.command (lots acts) k e

  pub lot_comes : (l : LotId) (k : KnownLot) → lot_known acts l ≡ None → lot_known after l ≡ Some k → k.came ≡ next_number acts
  lot_comes l k none e = lot_comes_by l (next_number acts) act.command (lots acts) k none e
