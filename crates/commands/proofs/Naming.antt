-- The words of kinds and states are read back.
use Rattle.commands.proofs.Below.{◌≡◌, ℕ, Bool, true, false, cond, List, [], ◌∷◌, refl, ap, ◌∙◌, Some, bytes_eq, named, bin_kind_word, bin_kind_of, order_state_word, order_state_of, card_kind_word, card_kind_of, lot_status_word, lot_status_of, BinKind, Store, Hold}
use Rattle.std.proofs.lemmas.Slice.Eq.{bytes_eq-Decides}
use Rattle.commands.specs.Laws.{BinKindsAreNamed, OrderStatesAreNamed, CardKindsAreNamed, LotStatusesAreNamed}
use Rattle.commands.specs.declared.rows.OrderState.{OrderState}
use Rattle.commands.specs.declared.rows.OrderState.TheVariants.{Open, Done, Cancelled}
use Rattle.commands.specs.declared.rows.CardKind.{CardKind}
use Rattle.commands.specs.declared.rows.CardKind.TheVariants.{Receipt, WriteOn, WriteOff, Shipment}
use Rattle.commands.specs.declared.views.LotStatus.{LotStatus}
use Rattle.commands.specs.declared.views.LotStatus.TheVariants.{Recalled, Held, Expired, ShortDated, Free}

-- what a text names has that word
pub named_only : {K : Type 0} (word : K → List ℕ) (kinds : List K) (text : List ℕ) (k : K) → named word kinds text ≡ Some k → text ≡ word k
named_only word [] text k e = absurd cc
named_only {K} word (x ∷ xs) text k e = at_head (bytes_eq text (word x)) refl (named_only word xs text k) e
  where
    at_head : (b : Bool) → bytes_eq text (word x) ≡ b → (named word xs text ≡ Some k → text ≡ word k) → cond b (Some x) (named word xs text) ≡ Some k → text ≡ word k
    at_head true is further found = let same : x ≡ k = cc in (bytes_eq-Decides text (word x)).0 is ∙ ap word same
    at_head false is further found = further found

pub bin_kinds : BinKindsAreNamed
bin_kinds = record { back = back; only = λ text k e. named_only bin_kind_word (Store ∷ Hold ∷ []) text k e }
  where
    back : (k : BinKind) → bin_kind_of (bin_kind_word k) ≡ Some k
    back Store = refl
    back Hold = refl

pub order_states : OrderStatesAreNamed
order_states = record { back = back; only = λ text s e. named_only order_state_word (Open ∷ Done ∷ Cancelled ∷ []) text s e }
  where
    back : (s : OrderState) → order_state_of (order_state_word s) ≡ Some s
    back Open = refl
    back Done = refl
    back Cancelled = refl

pub card_kinds : CardKindsAreNamed
card_kinds = record { back = back; only = λ text k e. named_only card_kind_word (Receipt ∷ WriteOn ∷ WriteOff ∷ Shipment ∷ []) text k e }
  where
    back : (k : CardKind) → card_kind_of (card_kind_word k) ≡ Some k
    back Receipt = refl
    back WriteOn = refl
    back WriteOff = refl
    back Shipment = refl

pub lot_statuses : LotStatusesAreNamed
lot_statuses = record { back = back; only = λ text s e. named_only lot_status_word (Recalled ∷ Held ∷ Expired ∷ ShortDated ∷ Free ∷ []) text s e }
  where
    back : (s : LotStatus) → lot_status_of (lot_status_word s) ≡ Some s
    back Recalled = refl
    back Held = refl
    back Expired = refl
    back ShortDated = refl
    back Free = refl
