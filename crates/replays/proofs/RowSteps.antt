-- Rows that spell acts, one more at a time.
use Rattle.replays.proofs.Words.{◌≡◌, ℕ, ◌+◌, ◌<◌, true, List, [], ◌∷◌, ◌++◌, length, take, drop, get_or, take-append-drop, None, Result, Ok, Err, IsTrue, true≢false, refl, ap, sym, subst, ◌∙◌, reverse, ℤ, reverse-append, take_more, none-some, Ghosts, is_sound, is_sound_key, Key, Command, Refusal, RepeatRow, one_text, one_spelling, Act, outcome, is_key_of, IsHistory, IsSoundRequest, Connected, earlier, cause, IsReplayed, IsRowOf, Spell, IsOfNoAct, IsOfRefused, IsRowReplayed, BreakOff, BreakUnspelled, BreakRefused, AreRowsReplayed, NotReplayed}
use Rattle.replays.specs.declared.fault.NotReplayed.TheVariants as fault
use Rattle.replays.proofs.Steps.{accepted_there}

pub rows_more : (rows : List RepeatRow) (i : ℕ) (r : RepeatRow) → i < length rows → r ≡ get_or rows i r → reverse (take (i + 1) rows) ≡ r ∷ reverse (take i rows)
rows_more rows i r low is =
    let taken : take (i + 1) rows ≡ take i rows ++ r ∷ [] = take_more rows i r low ∙ ap (λ x. take i rows ++ x ∷ []) (sym is) in
    ap reverse taken ∙ reverse-append (take i rows) (r ∷ [])

pub rows_parts : (rows : List RepeatRow) (k : ℕ) → reverse rows ≡ reverse (drop k rows) ++ reverse (take k rows)
rows_parts rows k = ap reverse (sym (take-append-drop k rows)) ∙ reverse-append (take k rows) (drop k rows)

-- the older rows spell the older acts
pub record SpellOlder (rows : List RepeatRow) (acts : List Act) : Type 0 where
  pub newer : List Act
  pub older : List Act
  pub parts : acts ≡ newer ++ older
  pub spell : Spell rows older

spell_older : (newer rows : List RepeatRow) (acts : List Act) → Spell (newer ++ rows) acts → SpellOlder rows acts
spell_older [] rows acts h = record { newer = []; older = acts; parts = refl; spell = h }
spell_older (row ∷ newer) rows [] h = absurd h
spell_older (row ∷ newer) rows (act ∷ acts) h =
    let more = spell_older newer rows acts h.1 in
    record { newer = act ∷ more.newer; older = more.older; parts = ap (λ older. act ∷ older) more.parts; spell = more.spell }

-- a row is of one act alone, and rows spell one history
same_act : (row : RepeatRow) (act other : Act) → IsTrue (is_sound_key act.key) → IsTrue (is_sound act.command) → IsSoundRequest other → IsRowOf row act → IsRowOf row other → act ≡ other
same_act row act other key command t a b =
    let keys = one_text act.key other.key key t.key (sym a.key ∙ b.key) in
    let commands = one_spelling act.command other.command command t.command (sym a.command ∙ b.command) in
    let with_key : Key → Act = λ k. record { key = k; command = act.command } in
    let with_command : Command → Act = λ c. record { key = other.key; command = c } in
    ap with_key keys ∙ ap with_command commands

pub spell_one : (first : ℤ) (rows : List RepeatRow) (acts others : List Act) → IsHistory first acts → IsHistory first others → Spell rows acts → Spell rows others → acts ≡ others
spell_one first [] [] [] h j a b = refl
spell_one first [] (act ∷ acts) others h j a b = absurd a
spell_one first [] [] (other ∷ others) h j a b = absurd b
spell_one first (row ∷ rows) [] others h j a b = absurd a
spell_one first (row ∷ rows) (act ∷ acts) [] h j a b = absurd b
spell_one first (row ∷ rows) (act ∷ acts) (other ∷ others) h j a b =
    ap (λ x. x ∷ acts) (same_act row act other h.1.sound.key h.1.sound.command j.1.sound a.0 b.0) ∙ ap (λ older. other ∷ older) (spell_one first rows acts others h.0 j.0 a.1 b.1)

-- a row that is of no act that goes on ends the whole
ends_here : (first : ℤ) (row : RepeatRow) (rows newer : List RepeatRow) (so_far : List Act) → Spell rows so_far → IsHistory first so_far
    → ((act : Act) → IsRowOf row act → ¬ IsHistory first (act ∷ so_far)) → (acts : List Act) → Spell (newer ++ row ∷ rows) acts → ¬ IsHistory first acts
ends_here first row rows newer so_far spelled h none acts all j = go parts.older parts.spell (earlier first parts.newer parts.older (subst (IsHistory first) parts.parts j))
  where
    parts : SpellOlder (row ∷ rows) acts
    parts = spell_older newer (row ∷ rows) acts all

    go : (os : List Act) → Spell (row ∷ rows) os → IsHistory first os → ⊥
    go [] s j = s
    go (act ∷ os) s j = none act s.0 (subst (λ before. IsHistory first (act ∷ before)) (spell_one first rows os so_far j.0 h s.1 spelled) j)

breaks : (first : ℤ) (rows : List RepeatRow) (n : ℕ) (Ends : List Act → RepeatRow → Type 0) (b : BreakOff first rows n Ends)
    → ((act : Act) → IsRowOf b.row act → ¬ IsHistory first (act ∷ b.before)) → (acts : List Act) → Spell rows acts → ¬ IsHistory first acts
breaks first rows n Ends b none acts all = ends_here first b.row b.earlier b.later b.before b.spelled b.history none acts (subst (λ rs. Spell rs acts) b.parts all)

-- rows that break off spell no history
pub none_unspelled : (first : ℤ) (rows : List RepeatRow) (n : ℕ) → BreakUnspelled first rows n → (acts : List Act) → Spell rows acts → ¬ IsHistory first acts
none_unspelled first rows n b = breaks first rows n (λ before row. IsOfNoAct row) b (λ act is h. b.ends act is h.1.sound)

pub none_refused : (first : ℤ) (rows : List RepeatRow) (n : ℕ) (why : Refusal) → BreakRefused first rows n why → (acts : List Act) → Spell rows acts → ¬ IsHistory first acts
none_refused first rows n why b = breaks first rows n (λ before row. IsOfRefused first before row why) b
    (λ act is h. let end = b.ends in
    let same = same_act b.row end.act act end.sound.key end.sound.command h.1.sound end.is is in
    let passed : cause (outcome first b.before act) ≡ None = ap cause (accepted_there first act b.before h.1) in
    none-some why (sym passed ∙ ap (λ a. cause (outcome first b.before a)) (sym same) ∙ end.refused))

-- where a row is not done again, the rows break off
breaks_at : (first : ℤ) (later earlier : List RepeatRow) (row : RepeatRow) (before : List Act) (n : ℕ) (Ends : List Act → RepeatRow → Type 0)
    → Spell earlier before → IsHistory first before → n ≡ row.act → Ends before row → BreakOff first (later ++ row ∷ earlier) n Ends
breaks_at first later earlier row before n Ends spelled h is ends =
    record { later = later; row = row; earlier = earlier; parts = refl; act = sym is; before = before; spelled = spelled; history = h; ends = ends }

pub ends_rows : {S : Type 0} (g : Ghosts S) (first : ℤ) (newer rows : List RepeatRow) (row : RepeatRow) (so_far : List Act) (fault : NotReplayed) (books : Connected S)
    → Spell rows so_far → IsHistory first so_far → IsRowReplayed g first so_far row (Err fault) books → AreRowsReplayed g first (newer ++ row ∷ rows) (Err fault) books
ends_rows g first newer rows row so_far (fault.Unspelled n) books spelled h it = breaks_at first newer rows row so_far n (λ before row. IsOfNoAct row) spelled h it.0 it.1
ends_rows g first newer rows row so_far (fault.Refused n why) books spelled h it = breaks_at first newer rows row so_far n (λ before row. IsOfRefused first before row why) spelled h it.0 it.1
ends_rows g first newer rows row so_far fault.Store books spelled h it = tt
ends_rows g first newer rows row so_far fault.Foreign books spelled h it = it

-- what comes of the act of a row is what comes of the row
pub row_replayed : {S : Type 0} (g : Ghosts S) (first : ℤ) (before : List Act) (row : RepeatRow) (act : Act) (books : Connected S) → IsRowOf row act → IsTrue (is_sound_key act.key) → IsTrue (is_sound act.command)
    → (r : Result (Unit {0}) NotReplayed) → IsReplayed g first before act row.act r books → IsRowReplayed g first before row r books
row_replayed g first before row act books is key command (Ok done) h = (act, is, h.0, h.1, h.2)
row_replayed g first before row act books is key command (Err (fault.Unspelled n)) h = (
  h.0,
  λ other own sound.
      let same = same_act row act other key command sound is own in
      let kind : is_key_of act.key act.command ≡ true = ap (λ a. is_key_of a.key a.command) same ∙ sound.kind in
      true≢false (sym kind ∙ h.1),
)
row_replayed g first before row act books is key command (Err (fault.Refused n why)) h = (h.0, record { act = act; is = is; sound = record { kind = h.1; key = key; command = command }; refused = h.2 })
row_replayed g first before row act books is key command (Err fault.Store) h = tt
row_replayed g first before row act books is key command (Err fault.Foreign) h = h
