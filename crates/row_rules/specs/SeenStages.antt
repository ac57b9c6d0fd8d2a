-- What a decision reads of the units of a lot that are staged or reserved for an order.
use Rattle.std.specs.Prelude.{ℕ, ◌&&◌, ◌==◌, if◌then◌else◌, List, [], ◌∷◌, find, Option, Some, None}
use Rattle.std.specs.List.{cons_option}
use Rattle.row_rules.specs.Words.{same_text, LotId, StagedRow, ReservedRow, is_lot}
use Rattle.row_rules.specs.declared.slice.Slice.{Slice}

abbrev pub reserved_qty : Option ReservedRow → ℕ
reserved_qty None = 0
reserved_qty (Some r) = r.qty

-- the row of a lot reserved for an order
abbrev pub reserved_found : List ReservedRow → List ℕ → LotId → Option ReservedRow
reserved_found rows o l = find (λ r. same_text o r.order && is_lot l r.lot) rows

-- the units of a lot that are reserved for an order
abbrev pub reserved_seen : Slice → List ℕ → LotId → ℕ
reserved_seen s o l = reserved_qty (reserved_found s.rows.reserved o l)

abbrev pub staged_qty : Option StagedRow → ℕ
staged_qty None = 0
staged_qty (Some r) = r.qty

-- the row of a lot on the stage of an order
abbrev pub staged_found : List StagedRow → List ℕ → LotId → Option StagedRow
staged_found rows o l = find (λ r. same_text o r.order && is_lot l r.lot) rows

-- the units of a lot that are staged for an order
abbrev pub on_stage_seen : Slice → List ℕ → LotId → ℕ
on_stage_seen s o l = staged_qty (staged_found s.rows.staged o l)

-- Where so many units of a lot stay reserved for an order after the act

-- the row put
abbrev pub reserved_put : List ℕ → LotId → ℕ → List ReservedRow
reserved_put o l q = if q == 0 then [] else record { order = o; lot = l; qty = q } ∷ []

-- the row dropped, if there was one
abbrev pub reserved_gone : List ReservedRow → List ℕ → LotId → ℕ → List ReservedRow
reserved_gone rows o l q = if q == 0 then cons_option (reserved_found rows o l) [] else []
