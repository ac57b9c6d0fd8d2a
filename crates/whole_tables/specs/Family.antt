-- The tables of the books as one family: which table, and what it is.
use Rattle.std.specs.Prelude.{◌≡◌, Option}
use Rattle.std.proofs.Common.{refl}
use Rattle.whole_tables.specs.Words.{Tables, Described, IsLawful, meta, meta_laws, items, items_laws, least, least_laws, bins, bins_laws, lots, lots_laws, recalls, recalls_laws, stock, stock_laws, orders, orders_laws, urgents, urgents_laws, lines, lines_laws, staged, staged_laws, reserved, reserved_laws, shipments, shipments_laws, shiplines, shiplines_laws, cards, cards_laws, repeats, repeats_laws}
use Rattle.whole_tables.specs.declared.key.TableName.{TableName}
use Rattle.whole_tables.specs.declared.key.TableName.TheVariants as table

-- a table: its rows, its keys, what it is, and what holds of it. What is written to it is there, and of two look-ups that
-- are written the last one stands.
pub record Member : Type 1 where
  pub X : Type 0
  pub K : Type 0
  pub is : Described X K
  pub laws : IsLawful is
  pub there : (f : K → Option X) (t : Tables) → is.look (is.set f t) ≡ f
  pub last : (f g : K → Option X) (t : Tables) → is.set f (is.set g t) ≡ is.set f t

abbrev pub member : {X K : Type 0} (d : Described X K) → IsLawful d → ((f : K → Option X) (t : Tables) → d.look (d.set f t) ≡ f)
    → ((f g : K → Option X) (t : Tables) → d.set f (d.set g t) ≡ d.set f t) → Member
member {X} {K} d laws there last = record { X = X; K = K; is = d; laws = laws; there = there; last = last }

abbrev pub family : TableName → Member
family table.Meta = member meta meta_laws (λ f t. refl) (λ f g t. refl)
family table.Items = member items items_laws (λ f t. refl) (λ f g t. refl)
family table.Least = member least least_laws (λ f t. refl) (λ f g t. refl)
family table.Bins = member bins bins_laws (λ f t. refl) (λ f g t. refl)
family table.Lots = member lots lots_laws (λ f t. refl) (λ f g t. refl)
family table.Recalls = member recalls recalls_laws (λ f t. refl) (λ f g t. refl)
family table.Stock = member stock stock_laws (λ f t. refl) (λ f g t. refl)
family table.Orders = member orders orders_laws (λ f t. refl) (λ f g t. refl)
family table.Urgents = member urgents urgents_laws (λ f t. refl) (λ f g t. refl)
family table.Lines = member lines lines_laws (λ f t. refl) (λ f g t. refl)
family table.Staged = member staged staged_laws (λ f t. refl) (λ f g t. refl)
family table.Reserved = member reserved reserved_laws (λ f t. refl) (λ f g t. refl)
family table.Shipments = member shipments shipments_laws (λ f t. refl) (λ f g t. refl)
family table.Shiplines = member shiplines shiplines_laws (λ f t. refl) (λ f g t. refl)
family table.Cards = member cards cards_laws (λ f t. refl) (λ f g t. refl)
family table.Repeats = member repeats repeats_laws (λ f t. refl) (λ f g t. refl)

abbrev pub Row : TableName → Type 0
Row n = (family n).X

abbrev pub Key : TableName → Type 0
Key n = (family n).K

abbrev pub described : (n : TableName) → Described (Row n) (Key n)
described n = (family n).is

-- the rows of a table by key, and the tables with those of one table replaced
abbrev pub look : (n : TableName) → Tables → Key n → Option (Row n)
look n = (described n).look

abbrev pub over : (n : TableName) → (Key n → Option (Row n)) → Tables → Tables
over n = (described n).set
