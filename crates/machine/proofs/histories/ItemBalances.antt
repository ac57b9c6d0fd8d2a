-- The postings of an item alone tell the same of the item's cells.
use Rattle.machine.proofs.Words.{◌≡◌, ℕ, ◌+◌, ◌-◌, Bool, true, false, ◌&&◌, List, [], ◌∷◌, refl, ap, ◌∙◌, arith, if◌then◌else◌, filter, LotId, Place, Posting, balance, of_item}
use Rattle.machine.proofs.Tests.{and_later_false}
use Rattle.machine.proofs.histories.Cells.{Cells, into, out_of}

-- cells of such lots alone
abbrev pub OnlyOf : (LotId → Bool) → Cells → Type 0
OnlyOf f w = (p : Place) (l : LotId) → f l ≡ false → w p l ≡ false

pub into-filter : (f : LotId → Bool) (w : Cells) → OnlyOf f w → (ps : List Posting) → into w (filter (λ p. f p.lot) ps) ≡ into w ps
into-filter f w only [] = refl
into-filter f w only (p ∷ ps) =
    elim (f p.lot) as (λ b. f p.lot ≡ b → into w (if b then p ∷ filter (λ q. f q.lot) ps else filter (λ q. f q.lot) ps) ≡ (if w p.to p.lot then p.qty else 0) + into w ps) [
      | true ↦ λ e. ap (λ n. (if w p.to p.lot then p.qty else 0) + n) (into-filter f w only ps)
      | false ↦ λ e. into-filter f w only ps ∙ none_more p.qty (w p.to p.lot) (into w ps) (only p.to p.lot e)
    ] refl
  where
    none_more : (q : ℕ) (b : Bool) (n : ℕ) → b ≡ false → n ≡ (if b then q else 0) + n
    none_more q true n e = cc
    none_more q false n e = omega arith

pub out_of-filter : (f : LotId → Bool) (w : Cells) → OnlyOf f w → (ps : List Posting) → out_of w (filter (λ p. f p.lot) ps) ≡ out_of w ps
out_of-filter f w only [] = refl
out_of-filter f w only (p ∷ ps) =
    elim (f p.lot) as (λ b. f p.lot ≡ b → out_of w (if b then p ∷ filter (λ q. f q.lot) ps else filter (λ q. f q.lot) ps) ≡ (if w p.from p.lot then p.qty else 0) + out_of w ps) [
      | true ↦ λ e. ap (λ n. (if w p.from p.lot then p.qty else 0) + n) (out_of-filter f w only ps)
      | false ↦ λ e. out_of-filter f w only ps ∙ none_more p.qty (w p.from p.lot) (out_of w ps) (only p.from p.lot e)
    ] refl
  where
    none_more : (q : ℕ) (b : Bool) (n : ℕ) → b ≡ false → n ≡ (if b then q else 0) + n
    none_more q true n e = cc
    none_more q false n e = omega arith

-- a place's balance of a lot is that by the postings of its item
pub balance-of_item : (places : Place → Bool) (g : List ℕ) (lots : LotId → Bool) → ((l : LotId) → of_item g l ≡ false → lots l ≡ false) → (ps : List Posting)
    → balance places lots (filter (λ p. of_item g p.lot) ps) ≡ balance places lots ps
balance-of_item places g lots only ps =
    let w : Cells = λ p l. places p && lots l in
    let o : OnlyOf (of_item g) w = λ p l e. and_later_false (places p) (lots l) (only l e) in
    λ i. into-filter (of_item g) w o ps i - out_of-filter (of_item g) w o ps i
