-- The words of kinds and states.
use Rattle.std.specs.Prelude.{◌≡◌, ℕ, List, [], ◌∷◌, codes, Option, Some, find, bytes_eq}
use Rattle.commands.specs.declared.command.BinKind.{BinKind}
use Rattle.commands.specs.declared.command.BinKind.TheVariants.{Store, Hold}
use Rattle.commands.specs.declared.rows.OrderClass.{OrderClass}
use Rattle.commands.specs.declared.rows.OrderClass.TheVariants.{Normal, Urgent}
use Rattle.commands.specs.declared.rows.OrderState.{OrderState}
use Rattle.commands.specs.declared.rows.OrderState.TheVariants.{Open, Done, Cancelled}
use Rattle.commands.specs.declared.rows.CardKind.{CardKind}
use Rattle.commands.specs.declared.rows.CardKind.TheVariants.{Receipt, WriteOn, WriteOff, Shipment}
use Rattle.commands.specs.declared.views.LotStatus.{LotStatus}
use Rattle.commands.specs.declared.views.LotStatus.TheVariants.{Recalled, Held, Expired, ShortDated, Free}

abbrev pub bin_kind_word : BinKind → List ℕ
bin_kind_word Store = codes "STORE"
bin_kind_word Hold = codes "HOLD"

abbrev pub order_class_word : OrderClass → List ℕ
order_class_word Normal = codes "NORMAL"
order_class_word Urgent = codes "URGENT"

abbrev pub order_state_word : OrderState → List ℕ
order_state_word Open = codes "OPEN"
order_state_word Done = codes "DONE"
order_state_word Cancelled = codes "CANCELLED"

abbrev pub card_kind_word : CardKind → List ℕ
card_kind_word Receipt = codes "RECEIPT"
card_kind_word WriteOn = codes "WRITEON"
card_kind_word WriteOff = codes "WRITEOFF"
card_kind_word Shipment = codes "SHIPMENT"

abbrev pub lot_status_word : LotStatus → List ℕ
lot_status_word Recalled = codes "RECALLED"
lot_status_word Held = codes "HELD"
lot_status_word Expired = codes "EXPIRED"
lot_status_word ShortDated = codes "SHORTDATED"
lot_status_word Free = codes "FREE"

-- the one of these whose word the text is
abbrev pub named : {K : Type 0} → (K → List ℕ) → List K → List ℕ → Option K
named word kinds text = find (λ k. bytes_eq text (word k)) kinds

abbrev pub bin_kind_of : List ℕ → Option BinKind
bin_kind_of text = named bin_kind_word (Store ∷ Hold ∷ []) text

abbrev pub order_state_of : List ℕ → Option OrderState
order_state_of text = named order_state_word (Open ∷ Done ∷ Cancelled ∷ []) text

abbrev pub card_kind_of : List ℕ → Option CardKind
card_kind_of text = named card_kind_word (Receipt ∷ WriteOn ∷ WriteOff ∷ Shipment ∷ []) text

abbrev pub lot_status_of : List ℕ → Option LotStatus
lot_status_of text = named lot_status_word (Recalled ∷ Held ∷ Expired ∷ ShortDated ∷ Free ∷ []) text

-- each word is that of one alone, and no other text is the word of any
pub record NamesOne {K : Type 0} (word : K → List ℕ) (of : List ℕ → Option K) : Type 0 where
  pub back : (k : K) → of (word k) ≡ Some k
  pub only : (text : List ℕ) (k : K) → of text ≡ Some k → text ≡ word k
