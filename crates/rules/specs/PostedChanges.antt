-- What an act changes that posts once at most: the rows under the keys that the posting names, and what else it makes known.
use Rattle.rules.specs.Words.{ℕ, List, [], Option, None, LotRow, StockRow, StagedRow, meta_after, none_put, plain_reply, Rows, Slice, Change, Replanned}
use Rattle.rules.specs.ItemTold.{replanned_to}
use Rattle.rules.specs.declared.posting.Posting.{Posting}
use Rattle.rules.specs.declared.changes.Facts.{Facts}
use Rattle.rules.specs.Shelf.{bins, stages, rows_posted, rows_put, rows_gone}
use Rattle.rules.specs.Told.{listed, keys_of}

-- nothing but the number in the reply
abbrev pub no_facts : Slice → Facts
no_facts s = record { lots = []; cards = []; text = plain_reply s }

abbrev pub stock_after : Slice → Option Posting → List StockRow
stock_after s p = rows_posted bins (listed 0 p) s.rows.stock

abbrev pub staged_after : Slice → Option Posting → List StagedRow
staged_after s p = rows_posted stages (listed 0 p) s.rows.staged

-- the change where these are the stock rows and staged rows after it, with these reserved rows and facts
abbrev pub changes_by : Slice → Option Posting → List StockRow → List StagedRow → Replanned → Facts → Change
changes_by s p stock staged reserved facts = record {
  meta = meta_after s;
  put = record none_put {
    lots = facts.lots;
    stock = rows_put bins (keys_of bins p) stock;
    staged = rows_put stages (keys_of stages p) staged;
    reserved = reserved.put;
    cards = facts.cards;
  };
  dropped = record {
    stock = rows_gone bins (keys_of bins p) s.rows.stock stock;
    stage = None;
    staged = rows_gone stages (keys_of stages p) s.rows.staged staged;
    reserved = reserved.dropped;
  };
  text = facts.text;
}

abbrev pub rows_after_posting : Slice → List LotRow → List StockRow → List StagedRow → Rows
rows_after_posting s lots stock staged = record s.rows { lots = lots; stock = stock; staged = staged }

-- what changes of the reserved rows of an item with these lot rows, stock rows and staged rows
abbrev pub replanned_by : Slice → List ℕ → List LotRow → List StockRow → List StagedRow → Replanned
replanned_by s g lots stock staged = replanned_to s s.meta.day (rows_after_posting s lots stock staged) g

-- the change where no units go on to a stage or off it, and the item is planned anew, these being the lot rows after it
abbrev pub bins_changes : Slice → List ℕ → Option Posting → List LotRow → List StockRow → Facts → Change
bins_changes s g p lots stock facts = changes_by s p stock s.rows.staged (replanned_by s g lots stock s.rows.staged) facts
