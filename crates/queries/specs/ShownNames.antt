-- The rows by which items are shown.
use Rattle.std.specs.Prelude.{◌≡◌}
use Rattle.queries.specs.Words.{ℕ, ℤ, true, List, map, take, Option, Some, None, Result, Ok, Err, option_map, Vec, refl, ap, sym, ◌∙◌, Global, Tables, NewItem, Refusal, UnknownItem, ItemRow, LeastRow, MetaRow, NAMES_MAX, ItemNamesView, item_names_view, item_names_shown, Act, item_named, if_known, tables_of, AreRows, ItemKey, same_item, item_key, AreLeast, items_and_more, row_of_item}

abbrev pub gtins_of : List ItemRow → List (List ℕ)
gtins_of items = map (λ i. i.gtin) items

-- of all items those behind the one seen: as many as one answer has, and one more
pub record IsItemPage (seen : Option ItemRow) (t : Tables) (page : List ItemRow) : Type 0 where
  pub items : List ItemRow
  pub read : AreRows {K = ItemKey} same_item item_key (λ k. true) t.item items
  pub is : page ≡ items_and_more seen items

-- these, what those of the answer ask for, and the row of `meta`
pub record AreNamed (seen : Option ItemRow) (t : Tables) (meta : MetaRow) (page : List ItemRow) (least : List LeastRow) : Type 0 where
  pub is_page : IsItemPage seen t page
  pub asked : AreLeast (gtins_of (take NAMES_MAX page)) t least
  pub is_meta : t.meta ≡ Some meta

-- the item that was seen last, if any was
abbrev pub IsItemSeen : Option (List ℕ) → Tables → Option ItemRow → Type 0
IsItemSeen None t seen = seen ≡ None
IsItemSeen (Some g) t seen = (i : ItemRow) × (t.item g ≡ Some i) × (seen ≡ Some i)

pub record AreNamesBehind (behind : Option (List ℕ)) (t : Tables) (meta : MetaRow) (page : List ItemRow) (least : List LeastRow) : Type 0 where
  pub seen : Option ItemRow
  pub is_seen : IsItemSeen behind t seen
  pub are : AreNamed seen t meta page least

-- these, or the refusal where the one seen last is not known
abbrev pub IsNoItem : Option (List ℕ) → Tables → Refusal → Type 0
IsNoItem None t why = ⊥
IsNoItem (Some g) t why = (t.item g ≡ None) × (why ≡ UnknownItem)

abbrev pub AreNamesIn : Option (List ℕ) → Tables → Result (MetaRow × (Vec ItemRow Global × Vec LeastRow Global)) Refusal → Type 0
AreNamesIn behind t (Err why) = IsNoItem behind t why
AreNamesIn behind t (Ok found) = AreNamesBehind behind t found.0 found.1.0.items found.1.1.items

-- what the tables have nothing of, the machine refuses

not_known : (acts : List Act) (x : Option NewItem) → option_map row_of_item x ≡ None → if_known x UnknownItem (λ i. Ok (item_names_view acts (Some i))) ≡ Err UnknownItem
not_known acts None e = refl
not_known acts (Some i) e = absurd cc

pub names_refused : (first : ℤ) (acts : List Act) (behind : Option (List ℕ)) (why : Refusal) → AreNamesIn behind (tables_of first acts) (Err why) → item_names_shown acts behind ≡ Err why
unfolding tables_of
names_refused first acts None why none = absurd none
names_refused first acts (Some g) why (none, is) = not_known acts (item_named acts g) none ∙ ap (λ w. let r : Result ItemNamesView Refusal = Err w in r) (sym is)
