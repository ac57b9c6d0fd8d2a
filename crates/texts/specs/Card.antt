-- The stock card of a lot.
use Rattle.std.specs.Prelude.{ℕ, ℤ, List, [], ◌∷◌, ◌++◌, codes, decimal, flat_map, Some}
use Rattle.std.specs.Fmt.{signed_decimal}
use Rattle.label.specs.Days.{day_text}
use Rattle.commands.specs.Words.{card_kind_word}
use Rattle.commands.specs.declared.limits.TheConstants.{CARD_NOTE_MAX}
use Rattle.commands.specs.declared.rows.ItemRow.{ItemRow}
use Rattle.commands.specs.declared.rows.CardRow.{CardRow}
use Rattle.commands.specs.declared.views.CardView.{CardView}
use Rattle.texts.specs.declared.fields.TheConstants.{ACT_WIDTH, KIND_WIDTH, QTY_WIDTH, REST_WIDTH}
use Rattle.texts.specs.Lines.{line, set_left, set_right, head_line, lot_line}

abbrev pub card_start : ItemRow → List ℕ → ℤ → List ℕ
card_start item lot expiry = head_line (codes "STOCK CARD") item ++ lot_line lot (Some expiry)

abbrev pub card_line : CardRow → List ℕ
card_line row = line (
    set_right ACT_WIDTH (decimal row.act)
    ∷ day_text row.day
    ∷ set_left KIND_WIDTH (card_kind_word row.kind)
    ∷ set_left CARD_NOTE_MAX row.note
    ∷ set_right QTY_WIDTH (signed_decimal row.qty)
    ∷ set_right REST_WIDTH (decimal row.rest)
    ∷ [])

abbrev pub card_end : ℕ → List ℕ
card_end in_house = line (codes "IN HOUSE" ∷ decimal in_house ∷ [])

-- the stock card
abbrev pub card_text : CardView → List ℕ
card_text v = card_start v.item v.lot v.expiry ++ flat_map card_line v.lines ++ card_end v.in_house
