-- The rows of `repeats` tell which act bears a key, and what its repeat is told.
use Rattle.store.proofs.Words.{◌≡◌, true, false, List, [], ◌∷◌, refl, ap, sym, ◌∙◌, arith, ℤ, Option, Some, None, option_map, if◌then◌else◌, same_text, key_text, spelling, Key, KeyUsed, MetaRow, RepeatRow, Tables, with_repeat, Act, next_number, Earlier, bearer, Repeated, told_again, outcome, judged, reply, applied, tables_but_repeats, tables_of, repeat_row, meta_row, verdict, Change, some_one}
use Rattle.machine.specs.Once.{Refused}

abbrev row_of : ℤ → Earlier → RepeatRow
row_of first e = record { k = key_text e.act.key; act = next_number e.before; spell = spelling e.act.command; reply = reply first e.act e.before }

row_found : (first : ℤ) (key : Key) (acts : List Act) → repeat_row first acts (key_text key) ≡ option_map (row_of first) (bearer key acts)
row_found first key [] = refl
row_found first key (act ∷ before) =
    elim (same_text (key_text key) (key_text act.key)) as (λ b. (if b then Some (row_of first (record { act = act; before = before })) else repeat_row first before (key_text key))
    ≡ option_map (row_of first) (if b then Some (record { act = act; before = before }) else bearer key before)) [ true ↦ refl | false ↦ row_found first key before ]

-- no row has the key: no act bears it
pub key_is_new : (first : ℤ) (key : Key) (acts : List Act) → repeat_row first acts (key_text key) ≡ None → bearer key acts ≡ None
key_is_new first key acts none = by_bearer (bearer key acts) (sym (row_found first key acts) ∙ none)
  where
    by_bearer : (x : Option Earlier) → option_map (row_of first) x ≡ None → x ≡ None
    by_bearer None e = refl
    by_bearer (Some y) e = absurd cc

-- the row of the key tells what its repeat is told
pub repeat_is_told : (first : ℤ) (act : Act) (acts : List Act) (row : RepeatRow) → repeat_row first acts (key_text act.key) ≡ Some row
    → outcome first acts act ≡ (if same_text (spelling act.command) row.spell then Repeated row.reply else Refused KeyUsed)
repeat_is_told first act acts row some = by_bearer (bearer act.key acts) (sym (row_found first act.key acts) ∙ some)
  where
    by_bearer : (x : Option Earlier) → option_map (row_of first) x ≡ Some row → told_again first act acts x ≡ (if same_text (spelling act.command) row.spell then Repeated row.reply else Refused KeyUsed)
    by_bearer None e = absurd cc
    by_bearer (Some e) h = ap (λ (r : RepeatRow). if same_text (spelling act.command) r.spell then Repeated r.reply else Refused KeyUsed) (some_one _ _ h)

-- a new key is judged by the rules
pub new_key_is_judged : (first : ℤ) (act : Act) (acts : List Act) → bearer act.key acts ≡ None → outcome first acts act ≡ judged first act acts (verdict first acts act.command)
new_key_is_judged first act acts fresh = ap (told_again first act acts) fresh

-- the change of an act, and then its row of `repeats`
pub act_is_recorded : (first : ℤ) (act : Act) (acts : List Act) (c : Change) (row : RepeatRow) → applied c (tables_of first acts) ≡ tables_but_repeats first act acts → c.text ≡ reply first act acts
    → row ≡ record { k = key_text act.key; act = c.meta.acts; spell = spelling act.command; reply = c.text }
    → with_repeat row (applied c (tables_of first acts)) ≡ tables_of first (act ∷ acts)
unfolding applied tables_of
act_is_recorded first act acts c row applies text is =
    let meta : c.meta ≡ meta_row first (act ∷ acts) = some_one _ _ (ap (λ (t : Tables). t.meta) applies) in
    let number : c.meta.acts ≡ next_number acts = ap (λ (m : MetaRow). m.acts) meta ∙ omega arith in
    ap (with_repeat row) applies
    ∙ ap (λ (r : RepeatRow). with_repeat r (tables_but_repeats first act acts)) (is ∙ (λ i. record { k = key_text act.key; act = number i; spell = spelling act.command; reply = text i }))
