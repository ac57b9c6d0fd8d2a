-- What books hold, and what they keep true of it.
use Rattle.std.specs.Prelude.{◌≡◌, ℤ, false, None, refl}
use Rattle.std.specs.Coded.{Coded, code_by, coded×, coded_ℤ}
use Rattle.sqlite.specs.Held.{Held, held_code}

-- the connection, and the business day
pub record Connected (S : Type 0) : Type 0 where
  pub conn : Held S
  pub day : ℤ

abbrev pub connected_code : {S : Type 0} → Coded S → Coded (Connected S)
connected_code {S} store = code_by (Held S × ℤ) (coded× (held_code store) coded_ℤ) (λ b. (b.conn, b.day)) (λ p. record { conn = p.0; day = p.1 }) (λ _. refl)

-- outside a transaction, and with no limit on steps
pub record IsIdle {S : Type 0} (h : Held S) : Type 0 where
  pub outside : h.in_transaction ≡ false
  pub unlimited : h.step_limit ≡ None
