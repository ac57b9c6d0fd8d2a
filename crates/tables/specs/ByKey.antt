-- The lines of a lot's card in the order of their acts.
use Rattle.std.specs.Prelude.{◌<◌}
use Rattle.tables.specs.Words.{List, nat_eq, LotId, CardRow, AreInOrder}
use Rattle.table_words.specs.Typed.{Tables}

-- the lines of the lot's card, by act
abbrev pub AreCardLines : Tables → LotId → List CardRow → Type 0
AreCardLines tables lot rows = AreInOrder nat_eq (λ n m. n < m) (λ (c : CardRow). c.act) (tables.card lot) rows
