-- What follows of what was compared.
use Rattle.audits.proofs.Words.{◌≡◌, ◌≢◌, ℕ, List, [], ◌∷◌, ◌++◌, take, drop, length, find, Option, Some, None, Result, Ok, Err, IfOk, inl, inr, refl, sym, ap, subst, ◌∙◌, arith, ◌⊎◌, ℤ, reverse, option_map, IfErr, same_Some, none-some, length-reverse, reverse-reverse, take-append_seam, State, Trees, same_text, Refusal, MetaRow, CardRow, RepeatRow, tables_in, Keeps, same_repeat, repeat_key, if_err, Act, IsHistory, Tables, tables_of, repeat_row, AreRowsOf, IsBooksOf, RowKey, TableName, RowDiffers, rule_called, FindAlike, Start, Received, Opened, start_of, first_day, Spell, BreakUnspelled, BreakRefused, AreNewestFirst, AreRepeats, IsUnnumbered, Tell, TellFirst, none_unspelled, none_refused, one_order, spelled, no_other, none_spelled, first_day_told, told_day_stands, Fault, Unread, Finding, Sound, Differs, Unnumbered, Unspelled, Refused, SameTables, AreSeen, Tells, IsUnread, IsUntold, IsHeld, AreOfNone, IsBegunOn, AreBroken, SaysIn, told_unread}
use Rattle.store.specs.declared.fault.Fault.TheVariants.{Store, Foreign}
use Rattle.audits.specs.declared.finding.Unread.TheVariants as unread
use Rattle.audits.specs.declared.finding.Finding.TheVariants.{Untyped}
use Rattle.audits.proofs.Tables.{same_tables, typed_tables, keeps_called, two_tables}

-- ---- tables compared with those of books of the acts

module _ (o n b d : State) (first : ℤ) (acts : List Act) (seen : AreSeen o n b d) (books : IsBooksOf first acts b.now) where
  pub held_same : Tells SameTables o n b d (Ok None) → AreRowsOf first acts o.now.trees
  held_same h =
      let all : SameTables o.now b.now = (h.same seen refl).0 in
      record { tables = same_tables o.now b.now all ∙ books.rows.tables; typed = typed_tables o.now b.now all }

  pub held_other : (row : RowKey) → Tells SameTables o n b d (Ok (Some row)) → RowDiffers row (tables_in o.now.trees) (tables_of first acts)
  held_other row h = subst (RowDiffers row (tables_in o.now.trees)) books.rows.tables (h.differs seen)

  pub held_untyped : (e : Unread) → Tells SameTables o n b d (Err e) → IsUnread o.now.trees e
  held_untyped e h = h.unread seen

-- ---- and then with what `repeats` spells

spell_length : (rows : List RepeatRow) (acts : List Act) → Spell rows acts → length acts ≡ length rows
spell_length [] [] h = refl
spell_length [] (act ∷ acts) h = absurd h
spell_length (row ∷ rows) [] h = absurd h
spell_length (row ∷ rows) (act ∷ acts) h = let more = spell_length rows acts h.1 in omega (arith, more)

-- the tables are those of no acts, begun on this day
abbrev pub AreOfNoneFrom : ℤ → Trees → Type 0
AreOfNoneFrom day trees = (acts : List Act) → IsHistory day acts → ¬ AreRowsOf day acts trees

abbrev pub AreOfNoneIn : Trees → Option ℤ → Type 0
AreOfNoneIn trees given = AreOfNone (λ day acts. AreRowsOf day acts trees) given

from_given : (day : ℤ) (trees : Trees) → AreOfNoneFrom day trees → AreOfNoneIn trees (Some day)
from_given day trees none other acts asked h are = none acts (subst (λ d. IsHistory d acts) asked h) (subst (λ d. AreRowsOf d acts trees) asked are)

-- a row with a value that no row has is of no acts
pub says_untyped : (given : Option ℤ) (trees : Trees) (name : TableName) → ¬ Keeps trees (rule_called name) → SaysIn trees given (Untyped name)
says_untyped given trees name un = (λ day acts asked h are. un (keeps_called trees name are.typed), un)

-- tables that were not read
pub held_unread : (first : ℤ) (acts : List Act) (count : ℕ) (trees : Trees) (e : Unread) → IsUnread trees e → IfOk (told_unread e) (IsHeld first acts count trees)
held_unread first acts count trees (unread.Untyped name) h = h
held_unread first acts count trees unread.Store h = tt

pub says_unread : (given : Option ℤ) (trees : Trees) (e : Unread) → IsUnread trees e → IfOk (told_unread e) (SaysIn trees given)
says_unread given trees (unread.Untyped name) h = says_untyped given trees name h
says_unread given trees unread.Store h = tt

module _ (day : ℤ) (trees : Trees) (rows : List RepeatRow) (repeats : AreRepeats (reverse rows) (tables_in trees)) where
  of_none_other : (acts : List Act) (row : RowKey) → Spell (reverse rows) acts → IsHistory day acts → RowDiffers row (tables_in trees) (tables_of day acts) → AreOfNoneFrom day trees
  of_none_other acts row spells history differs others h are =
      let same : others ≡ acts = no_other day (tables_in trees) (reverse rows) acts others repeats spells history h are.tables in
      two_tables row (tables_in trees) (tables_of day acts) differs (subst (λ x. tables_in trees ≡ tables_of day x) same are.tables)

  pub found_held : (acts : List Act) (count : ℕ) → Spell (reverse rows) acts → IsHistory day acts → count ≡ length rows → (f : Finding) → IsHeld day acts count trees f → SaysIn trees (Some day) f
  found_held acts count spells history all (Sound n first) h =
      let same = spell_length (reverse rows) acts spells in
      record {
        acts = acts;
        history = subst (λ d. IsHistory d acts) (sym h.1) history;
        rows = subst (λ d. AreRowsOf d acts trees) (sym h.1) h.2;
        number = same ∙ length-reverse rows ∙ sym all ∙ sym h.0;
        taken = h.1;
      }
  found_held acts count spells history all (Differs row) h = (
    from_given day trees (of_none_other acts row spells history h),
    inl (record { rows = reverse rows; repeats = repeats; day = day; begun = refl; acts = acts; spelled = spells; history = history; differs = h }),
  )
  found_held acts count spells history all (Untyped name) h = says_untyped (Some day) trees name h
  found_held acts count spells history all (Unnumbered k) h = absurd h
  found_held acts count spells history all (Unspelled act) h = absurd h
  found_held acts count spells history all (Refused act why) h = absurd h

  of_none_spelled : ((acts : List Act) → Spell (reverse rows) acts → ¬ IsHistory day acts) → AreOfNoneIn trees (Some day)
  of_none_spelled none = from_given day trees (λ others h are. none_spelled day (tables_in trees) (reverse rows) repeats none others h are.tables)

  broken : (Break : ℤ → List RepeatRow → Type 0) → Break day (reverse rows) → AreBroken (Some day) (tables_in trees) Break
  broken Break breaks = record { rows = reverse rows; repeats = repeats; day = day; begun = refl; breaks = breaks }

  pub says_unspelled : (act : ℕ) → BreakUnspelled day (reverse rows) act → SaysIn trees (Some day) (Unspelled act)
  says_unspelled act breaks = (of_none_spelled (none_unspelled day (reverse rows) act breaks), broken (λ day rows. BreakUnspelled day rows act) breaks)

  pub says_refused : (act : ℕ) (why : Refusal) → BreakRefused day (reverse rows) act why → SaysIn trees (Some day) (Refused act why)
  says_refused act why breaks = (of_none_spelled (none_refused day (reverse rows) act why breaks), broken (λ day rows. BreakRefused day rows act why) breaks)

-- ---- the day that the tables tell

module _ (trees : Trees) (rows : List RepeatRow) (repeats : AreRepeats (reverse rows) (tables_in trees)) (start : Option Start) (tell : Tell rows start) (first_told : TellFirst rows start) where
  start_is : (day : ℤ) (acts : List Act) → IsHistory day acts → ((k : List ℕ) → (tables_in trees).repeat k ≡ repeat_row day acts k) → start ≡ start_of acts
  start_is day acts h same = tell day acts h (spelled day acts (reverse rows) h repeats.order (λ k. repeats.found k ∙ same k))

  same_repeats : (day : ℤ) (acts : List Act) → AreRowsOf day acts trees → (k : List ℕ) → (tables_in trees).repeat k ≡ repeat_row day acts k
  unfolding tables_of
  same_repeats day acts are k = ap (λ (t : Tables). t.repeat k) are.tables

  -- the rows are those by which the table is looked up
  told_by_these : (others : List RepeatRow) → AreRepeats others (tables_in trees) → TellFirst (reverse others) start
  told_by_these others are = subst (λ rs. TellFirst rs start) (sym (reverse-reverse rows) ∙ ap reverse (one_order (tables_in trees) (reverse rows) others repeats are)) first_told

  module _ (day : ℤ) (told : first_day (tables_in trees) start ≡ Some day) where
    begun_here : (others : List RepeatRow) (other : ℤ) → AreRepeats others (tables_in trees) → other ≡ day → IsBegunOn None others (tables_in trees) other
    begun_here others other are is = (start, told_by_these others are, told ∙ ap (λ d. Some d) (sym is))

    tells : (first : ℤ) (acts : List Act) → IsHistory first acts → AreRowsOf first acts trees → first_day (tables_of first acts) (start_of acts) ≡ Some day
    tells first acts h are =
        subst (λ t. first_day t (start_of acts) ≡ Some day) are.tables
        (subst (λ s. first_day (tables_in trees) s ≡ Some day) (start_is first acts h (same_repeats first acts are)) told)

    none_from_any : AreOfNoneIn trees (Some day) → AreOfNoneIn trees None
    none_from_any none first acts asked h are =
        let stands = told_day_stands first day acts h (tells first acts h are) in
        none day acts refl stands.0 (record { tables = are.tables ∙ stands.1; typed = are.typed })

    begun_told : (Break : ℤ → List RepeatRow → Type 0) → AreBroken (Some day) (tables_in trees) Break → AreBroken None (tables_in trees) Break
    begun_told Break b = record { rows = b.rows; repeats = b.repeats; day = b.day; begun = begun_here b.rows b.day b.repeats b.begun; breaks = b.breaks }

    -- what is found from that day is found from any
    pub says_told : (f : Finding) → SaysIn trees (Some day) f → SaysIn trees None f
    says_told (Sound n first) s =
        record { acts = s.acts; history = s.history; rows = s.rows; number = s.number; taken = tells first s.acts s.history s.rows ∙ ap (λ d. Some d) (sym s.taken) }
    says_told (Differs row) s = (
      none_from_any s.0,
      elim s.1 [
        | inl o ↦ inl (record { rows = o.rows; repeats = o.repeats; day = o.day; begun = begun_here o.rows o.day o.repeats o.begun; acts = o.acts; spelled = o.spelled; history = o.history; differs = o.differs })
        | inr m ↦ absurd (none-some day (sym m.none))
      ],
    )
    says_told (Untyped name) s = (none_from_any s.0, s.1)
    says_told (Unnumbered k) s = (none_from_any s.0, s.1)
    says_told (Unspelled act) s = (none_from_any s.0, begun_told (λ day rows. BreakUnspelled day rows act) s.1)
    says_told (Refused act why) s = (none_from_any s.0, begun_told (λ day rows. BreakRefused day rows act why) s.1)

  -- a row that is missing differs from that of tables that tell a day
  lacks : (s : Option Start) (row : RowKey) (t u : Tables) → IsUntold t s row → first_day u s ≢ None → RowDiffers row t u
  lacks None row t u un has = subst (λ r. RowDiffers r t u) (sym un.0) (λ same. has (ap (λ m. option_map (λ (m : MetaRow). m.day) m) (sym same ∙ un.1)))
  lacks (Some (Received l n)) row t u un has = subst (λ r. RowDiffers r t u) (sym un.0) (λ same. has (ap (λ c. option_map (λ (c : CardRow). c.day) c) (sym same ∙ un.1)))
  lacks (Some (Opened day)) row t u un has = absurd un

  not_opened : (s : Option Start) (row : RowKey) (t : Tables) (day : ℤ) → IsUntold t s row → s ≢ Some (Opened day)
  not_opened None row t day un e = none-some _ e
  not_opened (Some (Received l n)) row t day un e = let no : Received l n ≡ Opened day = same_Some _ _ e in cc
  not_opened (Some (Opened d)) row t day un e = absurd un

  pub says_missing : (row : RowKey) → IsUntold (tables_in trees) start row → SaysIn trees None (Differs row)
  says_missing row un =
      let differs : (day : ℤ) (acts : List Act) → IsHistory day acts → ((k : List ℕ) → (tables_in trees).repeat k ≡ repeat_row day acts k) → RowDiffers row (tables_in trees) (tables_of day acts) =
      λ day acts h same.
      let is = start_is day acts h same in
      lacks start row (tables_in trees) (tables_of day acts) un (λ none.
      let told = first_day_told day acts h (λ d opened. not_opened start row (tables_in trees) d un (is ∙ opened)) in
      none-some day (sym (sym (ap (first_day (tables_of day acts)) is ∙ told) ∙ none))) in (
        λ day acts asked h are. two_tables row (tables_in trees) (tables_of day acts) (differs day acts h (same_repeats day acts are)) are.tables,
        inr (record { none = refl; rows = reverse rows; repeats = repeats; start = start; told = told_by_these (reverse rows) repeats; untold = un; differs = differs }),
      )

-- ---- numbers that do not rise are of no acts

pub says_unnumbered : (given : Option ℤ) (trees : Trees) (rows : List RepeatRow) (k : List ℕ) → ((k : List ℕ) → find (λ r. same_text k r.k) rows ≡ (tables_in trees).repeat k)
    → ((first : ℤ) (acts : List Act) → IsHistory first acts → ((k : List ℕ) → find (λ r. same_text k r.k) rows ≡ repeat_row first acts k) → ⊥)
    → IsUnnumbered (λ k. find (λ r. same_text k r.k) rows) k → SaysIn trees given (Unnumbered k)
unfolding tables_of
says_unnumbered given trees rows k found unlike un = (
  λ day acts asked h are. unlike day acts h (λ k. found k ∙ ap (λ (t : Tables). t.repeat k) are.tables),
  subst (λ look. IsUnnumbered look k) (λ i k. found k i) un,
)

pub repeats_by_act : (t : Tables) (rows sorted : List RepeatRow) → ((k : List ℕ) → find (λ r. same_text k r.k) rows ≡ t.repeat k) → AreNewestFirst (reverse sorted) → FindAlike same_repeat repeat_key rows (reverse sorted) → AreRepeats (reverse sorted) t
repeats_by_act t rows sorted found order alike = record { order = order; found = λ k. sym (alike k) ∙ found k }

-- ---- results

pub if_ok_then : {X E : Type 0} (r : Result X E) (P Q : X → Type 0) → ((x : X) → P x → Q x) → IfOk r P → IfOk r Q
if_ok_then (Ok x) P Q f h = f x h
if_ok_then (Err e) P Q f h = tt

-- of a fault of memory or the disk
pub never_of_store : {X : Type 0} (r : Result X Fault) (A : Type 0) → IfErr r (λ e. e ≡ Store) → IfErr r (λ e. e ≡ Foreign → A)
never_of_store r A h = if_err r (λ e. e ≡ Store) (λ e. e ≡ Foreign → A) h (λ e is foreign. cc)

pub either_of_store : {X : Type 0} (r : Result X Fault) → IfErr r (λ e. e ≡ Store) → IfErr r (λ e. (e ≡ Foreign) ⊎ (e ≡ Store))
either_of_store r h = if_err r (λ e. e ≡ Store) (λ e. (e ≡ Foreign) ⊎ (e ≡ Store)) h (λ e is. inr is)

pub store_left : {X : Type 0} (r : Result X Fault) (A : Type 0) → ¬ A → IfErr r (λ e. e ≡ Foreign → A) → IfErr r (λ e. (e ≡ Foreign) ⊎ (e ≡ Store)) → IfErr r (λ e. e ≡ Store)
store_left (Ok x) A none f h = tt
store_left (Err e) A none f (inl is) = absurd (none (f is))
store_left (Err e) A none f (inr is) = is

-- ---- rows that were put in order in place

pub in_place : {X : Type 0} (before after : List X) (n : ℕ) → length after ≡ length before → length before ≡ n → take n (after ++ drop (length after) before) ≡ after
in_place before after n e f = subst (λ n. take n (after ++ drop (length after) before) ≡ after) (e ∙ f) (take-append_seam after (drop (length after) before))
