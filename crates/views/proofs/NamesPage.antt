-- The items by the rows, in their order, are those of the machine.
use Rattle.views.proofs.Words.{◌≡◌, ◌+◌, Bool, true, List, [], ◌∷◌, refl, ap, sym, subst, ◌∙◌, ℤ, Option, Some, None, find, filter, map, take, option_map, same_text, in_order, Command, Item, NewItem, Key, ItemRow, Act, items, item_named, verdict, IsHistory, item_row, AreApart, any_found, same_text_is, same_text_refl, same_text_turned, item_accepted, inserted, AreRising, rising_inserted, rising_ordered, rising_kept, some_of_mapped, once_apart, NAMES_MAX, is_behind, gtin_before, items_behind, item_before, items_and_more, row_of_item, AreItems}
use Rattle.machine.proofs.Apart.{all_found}
use Rattle.views.proofs.FirstInOrder.{take_map}
use Rattle.views.proofs.Members.{member_found, all_have, own_row}
use Rattle.views.proofs.Ranks.{text_strict, text_further, text_either, are_ordered}
use Rattle.views.proofs.Sorting.{IsIn, in_map, of_map, in_filter, of_filter, found_in, in_ordered, of_ordered, in_inserted, of_inserted, same_rising, rising_map, once_kept}

-- No two items of a history are of one GTIN

abbrev same_item : NewItem → NewItem → Bool
same_item i j = same_text i.gtin j.gtin

apart_after : (first : ℤ) (before : List Act) (key : Key) (c : Command) → verdict first before c ≡ None → AreApart same_item (items before) → AreApart same_item (items (record { key = key; command = c } ∷ before))
apart_after first before key (Item i) ok h = (sym (any_found (λ (x : NewItem). same_text i.gtin x.gtin) (items before)) ∙ (item_accepted first before i ok).new, h)
apart_after first before key _ ok h = h

items_apart : (first : ℤ) (acts : List Act) → IsHistory first acts → AreApart same_item (items acts)
items_apart first [] h = tt
items_apart first (act ∷ before) h = apart_after first before act.key act.command h.1.passes (items_apart first before h.0)

module _ (first : ℤ) (acts : List Act) (history : IsHistory first acts) where
  pub named_as : (i : NewItem) → IsIn i (items acts) → item_named acts i.gtin ≡ Some i
  named_as i h =
      member_found same_item (items acts) (items acts) (all_found same_item (λ i. same_text_refl i.gtin) (λ i j. same_text_turned i.gtin j.gtin) (items acts) (items_apart first acts history)) i h

  abbrev IsAny : NewItem → Type 0
  IsAny i = Unit {0}

  pub items_rise : AreRising gtin_before (in_order gtin_before (items acts))
  items_rise =
      rising_ordered gtin_before (λ x y z e f. text_further x.gtin y.gtin z.gtin e f) (items acts)
      (are_ordered gtin_before same_item IsAny (λ i j e f other. text_either i.gtin j.gtin other) (items acts) (all_have IsAny (items acts) (λ i h. tt))
      (once_apart same_text same_text_is same_text_turned (λ (i : NewItem). i.gtin) (items acts) (items_apart first acts history)))

  module _ (last : Option NewItem) (seen : Option ItemRow) (is_seen : seen ≡ option_map row_of_item last) (rows : List ItemRow) (are : AreItems acts rows) where
    abbrev keep : ItemRow → Bool
    keep = is_behind item_before seen

    abbrev wanted : NewItem → Bool
    wanted = is_behind gtin_before last

    behind_same : (x : Option NewItem) (i : NewItem) → is_behind item_before (option_map row_of_item x) (row_of_item i) ≡ is_behind gtin_before x i
    behind_same None i = refl
    behind_same (Some j) i = refl

    kept_same : (i : NewItem) → keep (row_of_item i) ≡ wanted i
    kept_same i = ap (λ (s : Option ItemRow). is_behind item_before s (row_of_item i)) is_seen ∙ behind_same last i

    abbrev machine_list : List NewItem
    machine_list = items_behind acts last

    abbrev kept : List ItemRow
    kept = filter keep rows

    abbrev row_list : List ItemRow
    row_list = inserted item_before [] kept

    further : (x y z : ItemRow) → item_before x y ≡ true → item_before y z ≡ true → item_before x z ≡ true
    further x y z e f = text_further x.gtin y.gtin z.gtin e f

    machine_rises : AreRising item_before (map row_of_item machine_list)
    machine_rises = rising_map gtin_before item_before row_of_item (λ x y e. e) machine_list (rising_kept gtin_before wanted (in_order gtin_before (items acts)) items_rise)

    abbrev IsSome : ItemRow → Type 0
    IsSome r = Unit {0}

    abbrev same_row : ItemRow → ItemRow → Bool
    same_row r s = same_text r.gtin s.gtin

    rows_rise : AreRising item_before row_list
    rows_rise =
        rising_inserted item_before further kept
        (are_ordered item_before same_row IsSome (λ r s e f other. text_either r.gtin s.gtin other) kept (all_have IsSome kept (λ r h. tt)) (once_kept same_row keep rows are.once))

    from_machine : (r : ItemRow) → IsIn r (map row_of_item machine_list) → IsIn r row_list
    from_machine r h =
        let a = of_map row_of_item r machine_list h in
        let i : NewItem = a.0 in
        let b = of_filter wanted i (in_order gtin_before (items acts)) a.1 in
        let there : IsIn i (items acts) = of_ordered gtin_before i (items acts) b.0 in
        let found : find (λ (s : ItemRow). same_text i.gtin s.gtin) rows ≡ Some (row_of_item i) = are.found i.gtin refl ∙ ap (option_map row_of_item) (named_as i there) in
        let in_rows = (found_in (λ (s : ItemRow). same_text i.gtin s.gtin) (row_of_item i) rows found).0 in
        subst (λ (x : ItemRow). IsIn x row_list) (sym a.2) (in_inserted item_before (row_of_item i) kept (in_filter keep (row_of_item i) rows in_rows (kept_same i ∙ b.1)))

    from_rows : (r : ItemRow) → IsIn r row_list → IsIn r (map row_of_item machine_list)
    from_rows r h =
        let a = of_filter keep r rows (of_inserted item_before r kept h) in
        let own = own_row (λ (s : ItemRow). s.gtin) (λ (g : List _). true) (item_row acts) rows are.own r a.0 in
        let x = some_of_mapped row_of_item (item_named acts r.gtin) r own in
        let i : NewItem = x.0 in
        let there : IsIn i (items acts) = (found_in (λ (j : NewItem). same_text r.gtin j.gtin) i (items acts) x.1).0 in
        let want : wanted i ≡ true = sym (kept_same i) ∙ ap keep x.2 ∙ a.1 in
        subst (λ (y : ItemRow). IsIn y (map row_of_item machine_list)) x.2 (in_map row_of_item i machine_list (in_filter wanted i (in_order gtin_before (items acts)) (in_ordered gtin_before i (items acts) there) want))

    items_are : row_list ≡ map row_of_item machine_list
    items_are = sym (same_rising item_before (λ x. text_strict x.gtin) further (map row_of_item machine_list) row_list machine_rises rows_rise from_machine from_rows)

    pub items_page_shown : items_and_more seen rows ≡ map row_of_item (take (NAMES_MAX + 1) machine_list)
    items_page_shown = ap (take (NAMES_MAX + 1)) items_are ∙ take_map row_of_item (NAMES_MAX + 1) machine_list
