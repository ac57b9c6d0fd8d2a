-- An order that is new is not cancelled and has nothing staged or shipped.
use Rattle.machine.proofs.Words.{◌≡◌, ℕ, true, false, List, [], ◌∷◌, refl, ap, sym, ◌∙◌, arith, ◌||◌, if◌then◌else◌, ℤ, Option, Some, None, find, is_some, same_text, Key, Command, Cancel, Act, next_number, is_stage, of_item, Placed, order_named, has_order, lines_placed, is_cancelled, postings, item_postings, staged, shipped_of, verdict, IsHistory, order_in, cons_option, orders}
use Rattle.machine.proofs.Tests.{same_text_is}
use Rattle.machine.proofs.histories.Accepted.{cancel_accepted}
use Rattle.machine.proofs.histories.Needs.{line_qty}
use Rattle.machine.proofs.histories.ItemBalances.{balance-of_item}
use Rattle.machine.proofs.histories.LegalHistories.{legal_history}
use Rattle.machine.proofs.histories.ClosedOrders.{ordered_of, served_is, served_within_ordered}

pub not_some : {X : Type 0} (x : Option X) → is_some x ≡ false → x ≡ None
not_some None e = refl
not_some (Some x) e = let f : true ≡ false = e in cc

-- Cancelled orders are known

module _ (first : ℤ) (key : Key) (before : List Act) (o : List ℕ) (h : is_cancelled before o ≡ true → has_order before o ≡ true) where
  abbrev done : Command → Act
  done c = record { key = key; command = c }

  known_after : (c : Command) → verdict first before c ≡ None → is_cancelled (done c ∷ before) o ≡ true → has_order (done c ∷ before) o ≡ true
  known_after (Cancel u) ok e =
      elim (same_text o u) as (λ b. same_text o u ≡ b → b || is_cancelled before o ≡ true → has_order before o ≡ true) [
        | true ↦ λ t f. ap (λ (x : List ℕ). has_order before x) (same_text_is o u t) ∙ (cancel_accepted first before u ok).order
        | false ↦ λ t f. h f
      ] refl e
  known_after c ok e = still_placed (order_in (next_number before) c)
    where
      still_placed : (p : Option Placed) → is_some (find (λ q. same_text o q.order) (cons_option p (orders before))) ≡ true
      still_placed None = h e
      still_placed (Some p) = elim (same_text o p.order) as (λ b. is_some (if b then Some p else order_named before o) ≡ true) [ true ↦ refl | false ↦ h e ]

cancelled_is_known : (first : ℤ) (acts : List Act) → IsHistory first acts → (o : List ℕ) → is_cancelled acts o ≡ true → has_order acts o ≡ true
cancelled_is_known first [] h o e = let f : false ≡ true = e in cc
cancelled_is_known first (act ∷ before) h o e = known_after first act.key before o (cancelled_is_known first before h.0 o) act.command h.1.passes e

module _ (first : ℤ) (acts : List Act) (history : IsHistory first acts) (o : List ℕ) (new : has_order acts o ≡ false) where
  pub new_is_not_cancelled : is_cancelled acts o ≡ false
  new_is_not_cancelled = elim (is_cancelled acts o) as (λ b. is_cancelled acts o ≡ b → b ≡ false) [
    | true ↦ λ e. let f : true ≡ false = sym (cancelled_is_known first acts history o e) ∙ new in cc
    | false ↦ λ e. refl
  ] refl

  pub new_is_not_named : order_named acts o ≡ None
  new_is_not_named = not_some (order_named acts o) new

  nothing_ordered : (g : List ℕ) → ordered_of acts o g ≡ 0
  nothing_ordered g = ap (λ (p : Option Placed). line_qty (find (λ l. same_text g l.gtin) (lines_placed p))) new_is_not_named

  pub new_has_nothing_shipped : (g : List ℕ) → shipped_of first acts o g ≡ 0
  new_has_nothing_shipped g = omega (arith, nothing_ordered g, served_within_ordered first acts history o g, served_is first acts (legal_history first acts history) o g)

  pub new_has_nothing_staged : (g : List ℕ) → staged (item_postings first acts g) o g ≡ 0
  new_has_nothing_staged g =
      omega (
        arith,
        nothing_ordered g,
        served_within_ordered first acts history o g,
        served_is first acts (legal_history first acts history) o g,
        balance-of_item (is_stage o) g (of_item g) (λ l e. e) (postings first acts),
      )
