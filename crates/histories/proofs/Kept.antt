-- The rows of `repeats` in the books of a history, as they are handed over.
use Rattle.histories.proofs.Words.{◌≡◌, ◌≢◌, ℕ, true, List, [], ◌∷◌, refl, sym, subst, ap, ap₂, ◌∙◌, Option, Some, None, find, inl, inr, ◌⊎◌, ℤ, Result, Ok, Err, option_map, AllByRecursion, cases_Bool, none-some, State, IsUnchanged, IsRolledBack, same_text, LotId, CardRow, RepeatRow, Reaches, StopsWithin, Received, Act, IsHistory, today, Tables, tables_of, card_row, repeat_row, IsReady, tables_in, CardKey, same_card, card_key, itself_bytes, same_bytes, no_two, Store, EachFault, Fault, Stopped, HandsOver, IsLeft, cards_laws, repeats, repeats_laws, Writes, AreAll, typed_rows_of, typed_are_all, history_text, HasRowsOf, AddsLine, StopsLine, fault_of, IsOfRow, IsOfRows, start_of, IsStartBy, Passes, Finds, IsPassed, TellsDay, FirstStart, HistoryLines, CardDay, owned, at_place}
use Rattle.table_words.specs.declared.error.TableFault.TheVariants.{Foreign}
use Rattle.tables.specs.Cards.{cards}
use Rattle.histories.specs.declared.fault.HistoryFault.TheVariants as why
use Rattle.histories.proofs.FirstReceipt.{first_receipt}
use Rattle.histories.proofs.InTurn.{not_in_turn, of_rows}
use Rattle.histories.proofs.Begun.{none_found}
use Rattle.histories.proofs.Printed.{none_yet, all_written, some_written, cut_written}

-- where all card lines were passed, the one that is sought is none of them
none_sought : (rows : List CardRow) (start last : CardDay) → Reaches IsPassed start rows last → find (λ r. same_card (start.lot, start.act) (card_key r)) rows ≡ None
none_sought [] start last is = refl
none_sought (r ∷ rows) start last h = elim (cases_Bool (same_card (start.lot, start.act) (card_key r))) [
  | inl hit ↦
      let same : (start.lot, start.act) ≡ card_key r = cards_laws.one_key (start.lot, start.act) (card_key r) hit in
      absurd (h.1.2 (ap (λ (k : CardKey). k.0) (sym same), ap (λ (k : CardKey). k.1) (sym same)))
  | inr miss ↦
      let rest = none_sought rows h.0 last h.2 in
      rw miss (subst (λ (k : CardKey). find (λ r. same_card k (card_key r)) rows ≡ None) (ap₂ (λ (l : LotId) (n : ℕ). (l, n)) h.1.0 h.1.1) rest)
]

module _ (first : ℤ) (acts : List Act) (history : IsHistory first acts) (old : State) (ready : IsReady old.now) (held : HasRowsOf first acts old.now.trees) where
  abbrev pub rows : List RepeatRow
  rows = typed_rows_of repeats old.now.trees

  are : AreAll repeats (tables_in old.now.trees) rows
  are = typed_are_all repeats repeats_laws old ready

  pub found : (k : List ℕ) → find (λ r. same_text k r.k) rows ≡ repeat_row first acts k
  unfolding tables_of
  found k = are.found k refl ∙ ap (λ (t : Tables). t.repeat k) held.tables

  once : no_two (λ (r s : RepeatRow). same_text r.k s.k) rows ≡ true
  once = are.once

  pub mine : AllByRecursion (λ r. repeat_row first acts r.k ≡ Some r) rows
  mine = owned same_text (λ (r : RepeatRow). r.k) itself_bytes same_bytes {row = repeat_row first acts} rows once found

  -- what was written, by how it ended
  pub told : {W : Type 0} (contents : W → Option (List ℕ)) (begun : ℤ) (start after : HistoryLines W) → start.done ≡ 0 → start.day ≡ begun → (r : Result Unit EachFault)
      → HandsOver (AddsLine contents) (StopsLine contents) start rows after r → Writes r (contents start.out) (contents after.out) (history_text begun acts)
  told contents begun start after none day (Ok done) h = all_written contents first begun acts history start rows after (none_yet contents first begun acts history start none day) mine found h
  told contents begun start after none day (Err (Fault (Store cause))) h = some_written contents first begun acts history start rows after (none_yet contents first begun acts history start none day) mine h
  told contents begun start after none day (Err (Fault Foreign)) h = absurd h
  told contents begun start after none day (Err Stopped) h = cut_written contents first begun acts history start rows after (none_yet contents first begun acts history start none day) mine h

  -- rows are told to be foreign only where they are not in turn
  pub lines_told : {W : Type 0} (contents : W → Option (List ℕ)) (start after : HistoryLines W) → start.done ≡ 0 → (cause : EachFault) → HandsOver (AddsLine contents) (StopsLine contents) start rows after (Err cause)
      → IsOfRows old.now.trees (fault_of cause after.fault)
  lines_told contents start after none (Fault (Store cause)) h = tt
  lines_told contents start after none (Fault Foreign) h = absurd h
  lines_told {W} contents start after none Stopped h =
      of_rows old.now.trees after.fault
      (λ foreign. not_in_turn (AddsLine contents) (λ (l : HistoryLines W). l.done) (λ now r then t. t.done) first acts (StopsLine contents) rows start after history none mine h (subst (IsOfRow h.last.done h.next) foreign h.stopped.1))

  -- so it is where the first act is sought that tells of the day
  pub start_told : (start after : FirstStart) → start.done ≡ 0 → (cause : EachFault) → (cause ≡ Stopped → after.found ≡ None) → HandsOver Passes Finds start rows after (Err cause) → IsOfRows old.now.trees (fault_of cause after.fault)
  start_told start after none (Fault (Store cause)) nothing h = tt
  start_told start after none (Fault Foreign) nothing h = absurd h
  start_told start after none Stopped nothing h = of_rows old.now.trees after.fault (none_found first acts history rows start after none mine h (nothing refl))

  -- ---- the card line of an act

  abbrev pub lines : List CardRow
  lines = typed_rows_of cards old.now.trees

  lines_are : AreAll cards (tables_in old.now.trees) lines
  lines_are = typed_are_all cards cards_laws old ready

  line_found : (key : CardKey) → find (λ r. same_card key (card_key r)) lines ≡ card_row first acts key.0 key.1
  unfolding tables_of
  line_found key = lines_are.found key refl ∙ ap (λ (t : Tables). t.card key.0 key.1) held.tables

  pub lines_own : AllByRecursion (λ (r : CardRow). card_row first acts r.lot r.act ≡ Some r) lines
  lines_own = owned same_card card_key cards_laws.itself cards_laws.one_key {row = λ key. card_row first acts key.0 key.1} lines lines_are.once line_found

  -- the act that receives first has one
  pub line_there : (start last : CardDay) → start_of acts ≡ Some (Received start.lot start.act) → ¬ Reaches IsPassed start lines last
  line_there start last told h =
      let none : card_row first acts start.lot start.act ≡ None = sym (line_found (start.lot, start.act)) ∙ none_sought lines start last h in
      none-some first (ap (option_map (λ (c : CardRow). c.day)) (sym none) ∙ first_receipt first acts start.lot start.act history told)

  -- and where the lines were passed up to it, no foreign row is told of
  pub own_fault : (start after : CardDay) (cause : EachFault) → (cause ≡ Stopped → after.day ≡ None) → HandsOver IsPassed TellsDay start lines after (Err cause) → fault_of cause why.Foreign ≢ why.Foreign
  own_fault start after (Fault (Store cause)) nothing h is = let no : why.Store ≡ why.Foreign = is in cc
  own_fault start after (Fault Foreign) nothing h is = h
  own_fault start after Stopped nothing h is = none-some h.next.day (sym (nothing refl) ∙ h.stopped.2)

-- where no act tells the day, it is the business day
pub today_told : (first : ℤ) (acts : List Act) (day : ℤ) → day ≡ today first acts → IsStartBy first acts None day
unfolding tables_of
today_told first acts day is = ap Some (sym is)

-- the line that is sought stays the same
pub still : (taken : List CardRow) (start last : CardDay) → Reaches IsPassed start taken last → (last.lot ≡ start.lot) × (last.act ≡ start.act)
still [] start last is = (ap (λ (d : CardDay). d.lot) is, ap (λ (d : CardDay). d.act) is)
still (r ∷ taken) start last h = let more = still taken h.0 last h.2 in (more.0 ∙ h.1.0, more.1 ∙ h.1.1)

-- the card lines are passed up to that of the act
pub day_told : (first : ℤ) (acts : List Act) (all : List CardRow) → AllByRecursion (λ (r : CardRow). card_row first acts r.lot r.act ≡ Some r) all → (start after : CardDay) → StopsWithin IsPassed TellsDay start all after
    → (day : ℤ) → after.day ≡ Some day → IsStartBy first acts (Some (Received start.lot start.act)) day
unfolding tables_of
day_told first acts all own start after h day is =
    let there = at_place (λ (r : CardRow). card_row first acts r.lot r.act ≡ Some r) h.taken h.others h.next (subst (AllByRecursion (λ (r : CardRow). card_row first acts r.lot r.act ≡ Some r)) h.parts own) in
    let same = still h.taken start h.last h.reached in
    ap (option_map (λ (c : CardRow). c.day)) (sym (ap₂ (card_row first acts) (h.stopped.0 ∙ same.0) (h.stopped.1 ∙ same.1)) ∙ there) ∙ sym h.stopped.2 ∙ is

-- the connection shows what it did, or what the last commit left
pub stays : (old new : State) (r : Result Unit EachFault) → IsLeft old new r → IsUnchanged old new ⊎ IsRolledBack old new
stays old new (Ok done) left = inl left
stays old new (Err (Fault fault)) left = left
stays old new (Err Stopped) left = inl left
