-- Books of schema 1 ask for no days, and neither they nor those of schema 2 have an urgent order.
use Rattle.machine.proofs.Words.{◌≡◌, ℕ, true, false, ◌&&◌, List, [], ◌∷◌, refl, ap, sym, nat_le, if◌then◌else◌, Some, None, option_map, same_text, asking_none, Key, NewItem, Command, Order, Least, Urgent, Act, next_number, item_named, least_days, order_named, item_row, least_row, if_urgent, urgent_row, tables_of, schema_of, are_of_schema, FirstBooksGoOn, SecondBooksGoOn}
use Rattle.machine.proofs.Tests.{and_both}

-- Days that are asked for

still_none : (key : Key) (before : List Act) (g : List ℕ) (c : Command) → (are_of_schema 1 before ≡ true → least_days before g ≡ 0) → nat_le (schema_of c) 1 && are_of_schema 1 before ≡ true
    → least_days (record { key = key; command = c } ∷ before) g ≡ 0
still_none key before g (Least l) k e = let f : false ≡ true = e in cc
still_none key before g (Urgent o) k e = let f : false ≡ true = e in cc
still_none key before g _ k e = k e

-- without a Least no item asks for days
none_without_least : (acts : List Act) (g : List ℕ) → are_of_schema 1 acts ≡ true → least_days acts g ≡ 0
none_without_least [] g e = refl
none_without_least (act ∷ before) g e = still_none act.key before g act.command (none_without_least before g) e

none_asked : (acts : List Act) (g : List ℕ) → are_of_schema 1 acts ≡ true → asking_none (item_row acts g) ≡ least_row acts g
none_asked acts g old =
    elim (item_named acts g) as (λ x. asking_none (option_map (λ (i : NewItem). record { gtin = i.gtin; name = i.name }) x) ≡ option_map (λ (i : NewItem). record { gtin = i.gtin; days = least_days acts i.gtin }) x) [
      | None ↦ refl
      | Some i ↦ ap (λ n. Some (record { gtin = i.gtin; days = n })) (sym (none_without_least acts i.gtin old))
    ]

-- Urgent orders

still_none_urgent : (key : Key) (before : List Act) (o : List ℕ) (c : Command) → (are_of_schema 2 before ≡ true → urgent_row before o ≡ None) → nat_le (schema_of c) 2 && are_of_schema 2 before ≡ true
    → urgent_row (record { key = key; command = c } ∷ before) o ≡ None
still_none_urgent key before o (Urgent n) k e = let f : false ≡ true = e in cc
still_none_urgent key before o (Order n) k e =
    elim (same_text o n.order) as (λ b. if_urgent (if b then Some (record { order = n.order; act = next_number before; customer = n.customer; lines = n.lines; urgent = false }) else order_named before o) ≡ None) [
      | true ↦ refl
      | false ↦ k e
    ]
still_none_urgent key before o _ k e = k e

-- without an Urgent no order is urgent
none_urgent : (acts : List Act) (o : List ℕ) → are_of_schema 2 acts ≡ true → urgent_row acts o ≡ None
none_urgent [] o e = refl
none_urgent (act ∷ before) o e = still_none_urgent act.key before o act.command (none_urgent before o) e

-- Books that are brought up

-- a command of schema 1 is one of schema 2
first_command_is_second : (c : Command) → nat_le (schema_of c) 1 ≡ true → nat_le (schema_of c) 2 ≡ true
first_command_is_second (Least l) e = refl
first_command_is_second (Urgent o) e = let f : false ≡ true = e in cc
first_command_is_second _ e = refl

-- and books of schema 1 have none that those of schema 2 have not
pub first_are_second : (acts : List Act) → are_of_schema 1 acts ≡ true → are_of_schema 2 acts ≡ true
first_are_second [] e = refl
first_are_second (act ∷ before) e =
    let s = and_both (nat_le (schema_of act.command) 1) (are_of_schema 1 before) e in
    λ i. first_command_is_second act.command s.0 i && first_are_second before s.1 i

pub first_books_go_on : FirstBooksGoOn
unfolding tables_of
first_books_go_on first acts old =
    λ i. record (tables_of first acts) { least = λ g. none_asked acts g old i; urgent = λ o. sym (none_urgent acts o (first_are_second acts old)) i }

pub second_books_go_on : SecondBooksGoOn
unfolding tables_of
second_books_go_on first acts old = λ i. record (tables_of first acts) { urgent = λ o. sym (none_urgent acts o old) i }
