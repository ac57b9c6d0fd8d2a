-- What is read of the tables of a history are the rows by which items are shown.
use Rattle.queries.proofs.Words.{◌≡◌, ℕ, true, not, List, [], ◌∷◌, refl, ap, sym, subst, ◌∙◌, Global, ◌+◌, Option, Some, None, option_map, ℤ, Ok, Err, Vec, length, map, take, list_any, same_Some, same_text, Tables, NewItem, UnknownItem, ItemRow, LeastRow, MetaRow, Act, IsHistory, item_named, if_known, tables_of, meta_row, no_two, and_both, same_text_is, same_text_refl, some_of_mapped, NAMES_MAX, items_behind, item_names_view, item_names_shown, ItemKey, same_item, item_key, least_key, is_among, AreLeast, any_mapped, and_true, rows_read, rows_as, sought, row_of_item, AreItems, is_named, AreAsked, take_map, page_of_more, items_page_shown, items_once, gtins_of, AreNamed, IsItemSeen, AreNamesBehind, AreNamesIn}
use Rattle.table_words.specs.Found as table

-- What is read is what is asked for

pub names_from_first : (t : Tables) (behind : Option (List ℕ)) → behind ≡ None → (found : MetaRow × (Vec ItemRow Global × Vec LeastRow Global)) → AreNamed None t found.0 found.1.0.items found.1.1.items → AreNamesIn behind t (Ok found)
names_from_first t behind is found are = subst (λ (b : Option (List ℕ)). AreNamesIn b t (Ok found)) (sym is) (record { seen = None; is_seen = refl; are = are })

pub names_behind : (t : Tables) (behind : Option (List ℕ)) (g : List ℕ) → behind ≡ Some g → (last : Option ItemRow) (i : ItemRow) → last ≡ Some i → last ≡ t.item g → (found : MetaRow × (Vec ItemRow Global × Vec LeastRow Global))
    → AreNamed (Some i) t found.0 found.1.0.items found.1.1.items → AreNamesIn behind t (Ok found)
names_behind t behind g is last i own read found are = subst (λ (b : Option (List ℕ)). AreNamesIn b t (Ok found)) (sym is) (record { seen = Some i; is_seen = (i, sym read ∙ own, refl); are = are })

pub no_item : (t : Tables) (behind : Option (List ℕ)) (g : List ℕ) → behind ≡ Some g → (last : Option ItemRow) → last ≡ None → last ≡ t.item g → AreNamesIn behind t (Err UnknownItem)
no_item t behind g is last none read = subst (λ (b : Option (List ℕ)). AreNamesIn b t (Err UnknownItem)) (sym is) (sym read ∙ none, refl)

module _ (first : ℤ) (acts : List Act) where
  abbrev t : Tables
  t = tables_of first acts

  -- The item that was seen last

  pub record IsLastItem (behind : Option (List ℕ)) (seen : Option ItemRow) : Type 0 where
    pub last : Option NewItem
    pub is_last : seen ≡ option_map row_of_item last
    pub told : item_names_shown acts behind ≡ Ok (item_names_view acts last)

  last_item : (behind : Option (List ℕ)) (seen : Option ItemRow) → IsItemSeen behind t seen → IsLastItem behind seen
  unfolding tables_of
  last_item None seen is = record { last = None; is_last = is; told = refl }
  last_item (Some g) seen (i, e, is) =
      let x = some_of_mapped row_of_item (item_named acts g) i e in
      record {
        last = Some x.0;
        is_last = is ∙ ap Some (sym x.2);
        told = ap (λ y. if_known y UnknownItem (λ i. Ok (item_names_view acts (Some i)))) x.1;
      }

  -- All items

  all_items : (items : List ItemRow) → table.AreRows {K = ItemKey} same_item item_key (λ k. true) t.item items → AreItems acts items
  unfolding tables_of
  all_items items are = rows_read {K = ItemKey} same_item item_key same_text_is same_text_refl (λ k. true) t.item items are

  -- What those of the answer ask for

  module _ (history : IsHistory first acts) (last : Option NewItem) (page : List ItemRow) (is_page : page ≡ map row_of_item (take (NAMES_MAX + 1) (items_behind acts last))) (least : List LeastRow) (are : AreLeast (gtins_of (take NAMES_MAX page)) t least) where
    abbrev shown : List NewItem
    shown = take NAMES_MAX (items_behind acts last)

    abbrev gtins : List (List ℕ)
    gtins = gtins_of (take NAMES_MAX page)

    front_as : take NAMES_MAX page ≡ map row_of_item shown
    front_as =
        ap (take NAMES_MAX) is_page ∙ take_map row_of_item NAMES_MAX (take (NAMES_MAX + 1) (items_behind acts last)) ∙ ap (map row_of_item) (page_of_more NAMES_MAX (items_behind acts last))

    told : (g : List ℕ) → is_among gtins g ≡ is_named acts last g
    told g =
        any_mapped (λ (i : ItemRow). i.gtin) (same_text g) (take NAMES_MAX page)
        ∙ ap (list_any (λ (i : ItemRow). same_text g i.gtin)) front_as
        ∙ any_mapped row_of_item (λ (i : ItemRow). same_text g i.gtin) shown

    gtins_once : (is : List NewItem) → no_two (λ (i j : NewItem). same_text i.gtin j.gtin) is ≡ true → no_two same_text (gtins_of (map row_of_item is)) ≡ true
    gtins_once [] e = refl
    gtins_once (i ∷ is) e =
        let two = and_both (not (list_any (λ (j : NewItem). same_text i.gtin j.gtin) is)) (no_two (λ (i j : NewItem). same_text i.gtin j.gtin) is) e in
        and_true _ _
        (ap not
        (any_mapped (λ (j : ItemRow). j.gtin) (same_text i.gtin) (map row_of_item is) ∙ any_mapped row_of_item (λ (j : ItemRow). same_text i.gtin j.gtin) is) ∙ two.0)
        (gtins_once is two.1)

    once : no_two same_text gtins ≡ true
    once = ap (λ l. no_two same_text (gtins_of l)) front_as ∙ gtins_once shown (items_once first acts history last)

    asked : AreAsked acts last least
    unfolding tables_of
    asked =
        rows_as {K = ItemKey} same_item least_key same_text_is same_text_refl (is_named acts last) (is_named acts last) (is_named acts last) (λ g. true) t.least least (λ g e. e) (λ g e. refl)
        (sought {K = ItemKey} same_item least_key same_text_is same_text_refl (λ k. k) t.least gtins (is_named acts last) least once told are)

  -- All of it

  pub record AreNamesRead (behind : Option (List ℕ)) (meta : MetaRow) (page : List ItemRow) (least : List LeastRow) : Type 0 where
    pub last : Option NewItem
    pub told : item_names_shown acts behind ≡ Ok (item_names_view acts last)
    pub count : length acts ≡ meta.acts
    pub is_page : page ≡ map row_of_item (take (NAMES_MAX + 1) (items_behind acts last))
    pub asked : AreAsked acts last least

  counted : (meta : MetaRow) → t.meta ≡ Some meta → length acts ≡ meta.acts
  unfolding tables_of
  counted meta is = ap (λ (r : MetaRow). r.acts) (same_Some (meta_row first acts) meta is)

  pub names_right : IsHistory first acts → (behind : Option (List ℕ)) (meta : MetaRow) (page : List ItemRow) (least : List LeastRow) → AreNamesBehind behind t meta page least → AreNamesRead behind meta page least
  names_right history behind meta page least are =
      let read = last_item behind are.seen are.is_seen in
      let listed = are.are.is_page in
      let is_page : page ≡ map row_of_item (take (NAMES_MAX + 1) (items_behind acts read.last)) =
      listed.is ∙ items_page_shown first acts history read.last are.seen read.is_last listed.items (all_items listed.items listed.read) in
      record {
        last = read.last;
        told = read.told;
        count = counted meta are.are.is_meta;
        is_page = is_page;
        asked = asked history read.last page is_page least are.are.asked;
      }
