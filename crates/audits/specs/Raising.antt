-- The newest tables, as those of older books come to them.
use Rattle.std.specs.Prelude.{◌≡◌, ◌⊎◌, ◌↔◌, List, ℤ}
use Rattle.sqlite.specs.State.{State}
use Rattle.sqlite.specs.Tree.{Trees}
use Rattle.table_words.specs.Steps.{IsReady}
use Rattle.books_schema.specs.Bringing.{AreFillersTyped, IsOlder, IsBrought}
use Rattle.books_schema.specs.Older.{number}
use Rattle.books_schema.specs.Settling.{HasDayAt, IsRaised}
use Rattle.books_schema.specs.declared.ready_connection.Found.{Found}
use Rattle.books_schema.specs.declared.ready_connection.Found.TheVariants.{Newest, Older}
use Rattle.machine.specs.Acts.{Act}
use Rattle.store.specs.Books.{AreRowsOf}
use Rattle.store.specs.Opening.{third_number, AreRowsAt}

-- a transaction that was begun over these books, whose tables have these rows
abbrev pub IsBegunOver : Found → Trees → State → Type 0
IsBegunOver Newest base s = IsReady s.now × (s.now.trees ≡ base)
IsBegunOver (Older older) base s = IsOlder older base s

-- the newest tables: those of books of the newest schema as they are stored, and else those that come of them
abbrev pub AreNewest : Found → Trees → Trees → Type 0
AreNewest Newest base trees = ((trees ≡ base) × ((day : ℤ) → ¬ HasDayAt third_number base day)) ⊎ IsRaised base trees
AreNewest (Older older) base trees = IsBrought older base trees

-- the row of `meta` is missing or has a value that no row has, or, from schema 1, an item has one
abbrev pub CannotBeRaised : Found → Trees → Type 0
CannotBeRaised Newest base = ⊥
CannotBeRaised (Older older) base = (day : ℤ) → HasDayAt (number older) base day → ¬ AreFillersTyped older base

-- it shows those; they have the rows of acts exactly where the tables had that it was begun over
pub record AreShown (found : Found) (base : Trees) (s : State) : Type 0 where
  pub ready : IsReady s.now
  pub are : AreNewest found base s.now.trees
  pub rows : (day : ℤ) (acts : List Act) → AreRowsAt found day acts base ↔ AreRowsOf day acts s.now.trees
