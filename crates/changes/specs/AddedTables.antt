-- The tables to which an act may add many rows.
use Rattle.std.proofs.Common.{refl}
use Rattle.sqlite.specs.Listing.{understood}
use Rattle.sqlite_tied.specs.Compute.{everything}
use Rattle.table_words.specs.Stored.{fits_row}
use Rattle.table_words.specs.Typed.{line_mapping, reserved_mapping, shipline_mapping, card_mapping}
use Rattle.tables.specs.Lines.{lines}
use Rattle.tables.specs.Reserved.{reserved}
use Rattle.tables.specs.Shiplines.{shiplines}
use Rattle.tables.specs.Cards.{cards}
use Rattle.changes.specs.Many.{AddsMany, AreColumnsOf}
use Rattle.changes.specs.declared.added_texts.TheConstants.{ADD_LINES, ADD_RESERVED_ROWS, ADD_SHIPLINES, ADD_CARDS}

pub line_columns : AreColumnsOf line_mapping.columns 4 lines (fits_row line_mapping) line_mapping.parts
line_columns = record { few = refl; cells = λ s. refl; fits = λ s. refl; has = λ s. refl }

pub lines_added : AddsMany lines ADD_LINES.now
unfolding understood everything
lines_added = record { is = λ rest. (refl, (refl, refl)); many = λ a b c e f. refl }

pub reserved_columns : AreColumnsOf reserved_mapping.columns 4 reserved (fits_row reserved_mapping) reserved_mapping.parts
reserved_columns = record { few = refl; cells = λ s. refl; fits = λ s. refl; has = λ s. refl }

pub reserved_added : AddsMany reserved ADD_RESERVED_ROWS.now
unfolding understood everything
reserved_added = record { is = λ rest. (refl, (refl, refl)); many = λ a b c e f. refl }

pub shipline_columns : AreColumnsOf shipline_mapping.columns 4 shiplines (fits_row shipline_mapping) shipline_mapping.parts
shipline_columns = record { few = refl; cells = λ s. refl; fits = λ s. refl; has = λ s. refl }

pub shiplines_added : AddsMany shiplines ADD_SHIPLINES.now
unfolding understood everything
shiplines_added = record { is = λ rest. (refl, (refl, refl)); many = λ a b c e f. refl }

pub card_columns : AreColumnsOf card_mapping.columns 8 cards (fits_row card_mapping) card_mapping.parts
card_columns = record { few = refl; cells = λ s. refl; fits = λ s. refl; has = λ s. refl }

pub cards_added : AddsMany cards ADD_CARDS.now
unfolding understood everything
cards_added = record { is = λ rest. (refl, (refl, refl)); many = λ a b c e f. refl }
