-- What lists weigh together, as one comes, goes or changes.
use Rattle.rows_in_memory.proofs.Words.{◌≡◌, ℕ, ◌+◌, ◌≤◌, length, Bool, List, filter, Vec, Global, sym, ap, ◌∙◌, arith, Option, Some, None, option_map, unwrap_or, sum_by, IsTotalOrder, lookup, remove_entry, set_value, values_of, get, insert_entry, IsOrdered, Ordering, length-filter, count_by-le-length, sum_by-set_value, sum_by-remove_entry, sum_by-insert_entry, BTreeMap, list_weight, map_weight}

-- what a list weighs, if there is one
abbrev weight_if : {R : Type 0} → Option (Vec R Global) → ℕ
weight_if x = unwrap_or (option_map list_weight x) 0

-- some rows of a list are no more than all
pub fewer : {R : Type 0} (p : R → Bool) (old new : Vec R Global) → new.items ≡ filter p old.items → list_weight new ≤ list_weight old
fewer p old new is = omega (arith, ap length is, length-filter p old.items, count_by-le-length p old.items)

module _ {K R : Type 0} where
  abbrev weight_in : List (K × Vec R Global) → ℕ
  weight_in es = sum_by list_weight (values_of es)

  pub list_gone : (test : K → Bool) (old new : BTreeMap K (Vec R Global)) (v : Vec R Global) → new.entries ≡ remove_entry test old.entries → Some v ≡ lookup test old.entries → map_weight new + list_weight v ≡ map_weight old
  list_gone test old new v is found =
      ap (λ es. weight_in es + list_weight v) is ∙ ap (λ x. weight_in (remove_entry test old.entries) + weight_if x) found ∙ sum_by-remove_entry list_weight test old.entries

  pub list_within : (test : K → Bool) (old : BTreeMap K (Vec R Global)) (v : Vec R Global) → Some v ≡ lookup test old.entries → list_weight v ≤ map_weight old
  list_within test old v found =
      let all : weight_in (remove_entry test old.entries) + list_weight v ≡ map_weight old = ap (λ x. weight_in (remove_entry test old.entries) + weight_if x) found ∙ sum_by-remove_entry list_weight test old.entries in
      omega (arith, all)

  pub list_changed : (test : K → Bool) (old new : BTreeMap K (Vec R Global)) (v w : Vec R Global) → new.entries ≡ set_value test old.entries w → Some v ≡ lookup test old.entries → map_weight new + list_weight v ≡ map_weight old + list_weight w
  list_changed test old new v w is found = ap (λ es. weight_in es + list_weight v) is ∙ sum_by-set_value list_weight test old.entries v w (sym found)

  pub list_came : (cmp : K → K → Ordering) → IsTotalOrder cmp → (old new : BTreeMap K (Vec R Global)) (k : K) (v : Vec R Global) (before : Option (Vec R Global)) → new.entries ≡ insert_entry cmp old.entries k v → before ≡ get cmp old k → IsOrdered cmp old
      → map_weight new + unwrap_or (option_map list_weight before) 0 ≡ map_weight old + list_weight v
  list_came cmp total old new k v before is was ordered =
      ap (λ es. weight_in es + weight_if before) is ∙ ap (λ x. weight_in (insert_entry cmp old.entries k v) + weight_if x) was ∙ sum_by-insert_entry list_weight total old.entries k v ordered

  -- it comes where there was none
  pub list_began : (cmp : K → K → Ordering) → IsTotalOrder cmp → (old new : BTreeMap K (Vec R Global)) (k : K) (v : Vec R Global) → new.entries ≡ insert_entry cmp old.entries k v → get cmp old k ≡ None → IsOrdered cmp old → map_weight new ≡ map_weight old + list_weight v
  list_began cmp total old new k v is none ordered =
      let came : map_weight new + 0 ≡ map_weight old + list_weight v = list_came cmp total old new k v None is (sym none) ordered in
      omega (arith, came)
