-- What has to be shown of a command's conditions and change, and that a decision then is the machine's.
use Rattle.rules.proofs.Words.{◌≡◌, ◌+◌, ◌<◌, false, ◌++◌, List, [], ◌∷◌, refl, ap, sym, subst, ◌∙◌, arith, ℤ, Option, Some, None, Result, Ok, Err, IsTrue, IfOk, codes, decimal, length, nat_le, if◌then◌else◌, nat_tests, is_sound, is_sound_key, ACTS_MAX, Key, Refusal, ActsFull, Command, MetaRow, reply_text, Act, next_number, today, shipments_so_far, Judgement, first_refusal, judgement, verdict, IsHistory, is_key_of, bearer, reply, further_field, tables_of, meta_row, IsSlice, applied, tables_but_repeats, are_once, IsDecision, NamesChangedReservations, capped, number_seen, plain_reply, meta_after, IsMade, Slice, Change, RuleFault, true}

-- the change is that of the accepted command
pub record IsChange (first : ℤ) (act : Act) (acts : List Act) (change : Change) : Type 0 where
  pub applies : applied change (tables_of first acts) ≡ tables_but_repeats first act acts
  pub text : change.text ≡ reply first act acts
  pub once : are_once change.put ≡ true
  pub named : NamesChangedReservations first act acts change

-- the conditions judge as those of the machine, and where it accepts the change is that of the command
pub record IsRight (first : ℤ) (act : Act) (acts : List Act) (seen : Judgement) (change : Change) : Type 0 where
  pub judged : first_refusal seen ≡ first_refusal (judgement first acts act.command)
  pub changed : verdict first acts act.command ≡ None → IsHistory first (act ∷ acts) → IsChange first act acts change

module _ (key : Key) (s : Slice) (result : Result Change RuleFault) where
  -- on each slice of a history
  abbrev pub AreRight : Command → Judgement → Change → Type 0
  AreRight command seen change = (first : ℤ) (acts : List Act) → IsHistory first acts → IsSlice first (record { key = key; command = command }) acts (tables_of first acts) s
      → IsRight first (record { key = key; command = command }) acts seen change

  abbrev pub Decides : Command → Type 0
  Decides command = (first : ℤ) (acts : List Act) → IsHistory first acts → IsTrue (is_key_of key command) → bearer key acts ≡ None
      → IsSlice first (record { key = key; command = command }) acts (tables_of first acts) s → IsDecision first (record { key = key; command = command }) acts result

  abbrev pub Reserves : Command → Type 0
  Reserves command = IfOk result (λ change. (first : ℤ) (acts : List Act) → IsHistory first acts → IsTrue (is_key_of key command) → bearer key acts ≡ None
      → IsSlice first (record { key = key; command = command }) acts (tables_of first acts) s → NamesChangedReservations first (record { key = key; command = command }) acts change)

-- What the slice of any command tells of its act

meta_or : MetaRow → Option MetaRow → MetaRow
meta_or other None = other
meta_or other (Some row) = row

module _ (first : ℤ) (acts : List Act) (act : Act) (s : Slice) (slice : IsSlice first act acts (tables_of first acts) s) where
  pub meta_seen : s.meta ≡ meta_row first acts
  unfolding tables_of meta_or
  meta_seen = ap (meta_or s.meta) (sym slice.meta)

  pub acts_seen : s.meta.acts ≡ length acts
  acts_seen = ap (λ m. m.acts) meta_seen

  pub day_seen : s.meta.day ≡ today first acts
  day_seen = ap (λ m. m.day) meta_seen

  pub shipments_seen : s.meta.shipments ≡ shipments_so_far first acts
  shipments_seen = ap (λ m. m.shipments) meta_seen

  module _ (room : nat_le ACTS_MAX (length acts) ≡ false) where
    pub number_same : number_seen s ≡ next_number acts
    number_same =
        let full : length acts < ACTS_MAX = grind (arith, nat_tests, room) in
        ap (λ n. capped (n + 1)) acts_seen ∙ omega arith

    -- a reply that has nothing beside the number
    pub plain_same : further_field first act acts act.command ≡ [] → plain_reply s ≡ reply first act acts
    plain_same none =
        ap (λ n. reply_text n None) number_same
        ∙ ap (λ xs. codes "{\"act\":" ++ decimal (next_number acts) ++ xs ++ codes "}") (sym none)

    pub meta_same : today first (act ∷ acts) ≡ today first acts → shipments_so_far first (act ∷ acts) ≡ shipments_so_far first acts → meta_after s ≡ meta_row first (act ∷ acts)
    meta_same day shipped = (λ i. record { day = (day_seen ∙ sym day) i; acts = (number_same ∙ one_more) i; shipments = (shipments_seen ∙ sym shipped) i })
      where
        one_more : next_number acts ≡ length (act ∷ acts)
        one_more = omega arith

-- Decisions

abbrev with_limit : Slice → Judgement → Judgement
with_limit s seen = (nat_le ACTS_MAX s.meta.acts, ActsFull) ∷ seen

module _ (key : Key) (s : Slice) (command : Command) (sound_key : IsTrue (is_sound_key key)) (sound : IsTrue (is_sound command)) (seen : Judgement) (change : Change) where
  abbrev act : Act
  act = record { key = key; command = command }

  next : (first : ℤ) (acts : List Act) → IsHistory first acts → IsTrue (is_key_of key command) → bearer key acts ≡ None → verdict first acts command ≡ None → IsHistory first (act ∷ acts)
  next first acts history kind fresh ok = (history, record { passes = ok; fresh = fresh; sound = record { kind = kind; key = sound_key; command = sound } })

  module _ (first : ℤ) (acts : List Act) (right : IsRight first act acts seen change) (whole : first_refusal (with_limit s seen) ≡ verdict first acts command)
      (going_on : verdict first acts command ≡ None → IsHistory first (act ∷ acts)) where
    by_refusal : (result : Result Change RuleFault) (why : Option Refusal) → first_refusal (with_limit s seen) ≡ why → IsMade why change result → IsDecision first act acts result
    by_refusal result (Some why) e made = subst (IsDecision first act acts) (sym made) (sym whole ∙ e)
    by_refusal (Ok c) None e made =
        let ok : verdict first acts command ≡ None = sym whole ∙ e in
        let h = right.changed ok (going_on ok) in
        subst (λ (x : Change). IsDecision first act acts (Ok x)) (sym made) (ok, h.applies, h.text, h.once)
    by_refusal (Err fault) None e made = subst (λ (x : RuleFault). IsDecision first act acts (Err x)) (sym made) (sym whole ∙ e)

    names_by : (c : Change) (why : Option Refusal) → first_refusal (with_limit s seen) ≡ why → IsMade why change (Ok c) → NamesChangedReservations first act acts c
    names_by c (Some why) e made = cc
    names_by c None e made =
        let ok : verdict first acts command ≡ None = sym whole ∙ e in
        subst (NamesChangedReservations first act acts) (sym made) (right.changed ok (going_on ok)).named

  -- the number of acts is judged first, by rows as by acts
  whole : (first : ℤ) (acts : List Act) → IsRight first act acts seen change → IsSlice first act acts (tables_of first acts) s → first_refusal (with_limit s seen) ≡ verdict first acts command
  whole first acts right slice = λ i. if nat_le ACTS_MAX (acts_seen first acts act s slice i) then Some ActsFull else right.judged i

  module _ (result : Result Change RuleFault) (made : IsMade (first_refusal (with_limit s seen)) change result) (right : AreRight key s result command seen change) where
    pub decided : Decides key s result command
    decided first acts history kind fresh slice =
        let h = right first acts history slice in
        by_refusal first acts h (whole first acts h slice) (next first acts history kind fresh) result (first_refusal (with_limit s seen)) refl made

  pub reserved_rows : (result : Result Change RuleFault) → IsMade (first_refusal (with_limit s seen)) change result → AreRight key s result command seen change → Reserves key s result command
  reserved_rows (Ok c) made right = λ first acts history kind fresh slice.
      let h = right first acts history slice in
      names_by first acts h (whole first acts h slice) (next first acts history kind fresh) c (first_refusal (with_limit s seen)) refl made
  reserved_rows (Err fault) made right = tt
