-- The day that is found fits the first line of a text: the acts from that line on have the lines that they have in the text.
use Rattle.applies.proofs.Words.{◌≡◌, ◌≢◌, ℕ, ◌<◌, ◌^◌, true, List, [], ◌∷◌, ◌++◌, Option, Some, None, refl, sym, ap, subst, ◌∙◌, arith, IsTrue, ℤ, pos, negsuc, ◌-ℤ◌, if◌then◌else◌, decimal, int_le, int_lt, ints, same_Some, none-some, LotId, is_day, is_business_day, day_text, parsed_day-day_text, key_text, spelling, Command, OpenDay, and_both, and_true, told_by, day_before, Start, Received, Opened, Act, next_number, IsHistory, today, day_after_command, tabbed, history_line, act_line, told_first, start_of, first_day, IsStart, start_kept, untold_day, first_day_told, earlier_alike, opened_later, began_on_business, before_opened, earlier, behind_tab, BegunOn, FitsLine, day_in, line_day, earlier_day}
use Rattle.applies.proofs.LineFields.{line_parts, cut_first, number_lacks, day_lacks}
use Rattle.applies.proofs.Fronts.{small}

-- ---- where no day is opened before anything is received, the acts began on one day alone

abbrev pub OpensNoneFirst : List Act → Type 0
OpensNoneFirst acts = (day : ℤ) → start_of acts ≢ Some (Opened day)

one_day : (first begun : ℤ) (acts : List Act) → IsHistory first acts → BegunOn first acts begun → OpensNoneFirst acts → begun ≡ first
one_day first begun acts h b none =
    same_Some begun first (sym (first_day_told begun acts b.history none) ∙ ap (λ t. first_day t (start_of acts)) b.tables ∙ first_day_told first acts h none)

pub none_opened : (acts : List Act) → start_of acts ≡ None → OpensNoneFirst acts
none_opened acts is day opened = none-some _ (sym is ∙ opened)

pub received_first : (acts : List Act) (l : LotId) (n : ℕ) → start_of acts ≡ Some (Received l n) → OpensNoneFirst acts
received_first acts l n is day opened = let no : Received l n ≡ Opened day = same_Some _ _ (sym is ∙ opened) in cc

pub fits_told : (first : ℤ) (acts : List Act) (line : List ℕ) (day : ℤ) → IsHistory first acts → OpensNoneFirst acts → IsStart first acts day → FitsLine first acts line day
fits_told first acts line day h none told begun newer later act older b history parts own =
    let is : day ≡ first = same_Some day first (sym told ∙ first_day_told first acts h none) in
    ap (λ d. today d (act ∷ older)) (is ∙ sym (one_day first begun acts h b none))

-- ---- where one is, the business day from that act on is the same from whatever day

opened_day : (a b d : ℤ) (acts : List Act) → start_of acts ≡ Some (Opened d) → today a acts ≡ today b acts
opened_day a b d [] e = absurd (none-some _ e)
opened_day a b d (act ∷ before) e = by_older (start_of before) refl (opened_day a b d before) e
  where
    told : (c : Command) → told_by (next_number before) c ≡ Some (Opened d) → day_after_command c (today a before) ≡ day_after_command c (today b before)
    told (OpenDay day) e = refl
    told _ e = cc

    by_older : (s : Option Start) → start_of before ≡ s → (start_of before ≡ Some (Opened d) → today a before ≡ today b before) → told_first s (told_by (next_number before) act.command) ≡ Some (Opened d)
        → today a (act ∷ before) ≡ today b (act ∷ before)
    by_older None is same e = told act.command e
    by_older (Some s) is same e = ap (day_after_command act.command) (same (is ∙ e))

-- the day that a line tells
told_in : (n : ℕ) (day : ℤ) (k s : List ℕ) → n < 2 ^ 64 → IsTrue (is_day day) → line_day (history_line n day k s) ≡ Some day
told_in n day k s low is =
    let keyed = k ++ 9 ∷ (tabbed s ++ 10 ∷ []) in
    let dated = day_text day ++ 9 ∷ keyed in
    ap line_day (line_parts n day k s) ∙ ap (λ o. day_in (behind_tab o)) (cut_first (decimal n) dated (number_lacks n low)) ∙ ap day_in (cut_first (day_text day) keyed (day_lacks day)) ∙ parsed_day-day_text day is

business_is_day : (day : ℤ) → is_business_day day ≡ true → is_day day ≡ true
business_is_day day b =
    let two = and_both (int_le (pos 10_957) day) (int_le day (pos 84_005)) b in
    let low = two.0 in
    let high = two.1 in
    let at_least : int_le (negsuc 6939) day ≡ true = grind (arith, ints) in
    let at_most : int_le day (pos 102_267) ≡ true = grind (arith, ints) in
    and_true _ _ at_least at_most

-- before that act the line tells the day on which they began
told_first_day : (begun last : ℤ) (line : List ℕ) (act : Act) (older : List Act) → IsHistory begun (act ∷ older) → start_of (act ∷ older) ≡ None → int_le begun last ≡ true → line ≡ act_line begun act older → earlier_day (line_day line) last ≡ begun
told_first_day begun last line act older h none low own =
    let business = began_on_business begun (act ∷ older) h in
    let same : today begun (act ∷ older) ≡ begun = untold_day begun (act ∷ older) none in
    let told : line_day line ≡ Some begun =
    ap line_day own ∙ ap (λ d. line_day (history_line (next_number older) d (key_text act.key) (spelling act.command))) same
    ∙ told_in (next_number older) begun (key_text act.key) (spelling act.command) (small begun act older h) (business_is_day begun business) in
    ap (λ o. earlier_day o last) told ∙ ap (λ b. if b then begun else last) (and_true (is_business_day begun) (int_le begun last) business low)

pub fits_opened : (first : ℤ) (acts : List Act) (d : ℤ) (line : List ℕ) (day : ℤ) → start_of acts ≡ Some (Opened d) → day ≡ earlier_day (line_day line) (day_before d) → FitsLine first acts line day
fits_opened first acts d line day told is begun newer later act older b history parts own = by_start (start_of (act ∷ older)) refl
  where
    by_start : (s : Option Start) → start_of (act ∷ older) ≡ s → today day (act ∷ older) ≡ today begun (act ∷ older)
    by_start None none =
        let opened = opened_later begun d acts b.history told in
        let later_day = opened.later in
        let low : int_le begun (d -ℤ pos 1) ≡ true = grind (arith, ints) in
        let before : int_le begun (day_before d) ≡ true = subst (λ x. int_le begun x ≡ true) (sym (before_opened begun d acts b.history told)) low in
        let here : IsHistory begun (act ∷ older) = earlier begun later (act ∷ older) (subst (IsHistory begun) parts history) in
        ap (λ x. today x (act ∷ older)) (is ∙ told_first_day begun (day_before d) line act older here none before own)
    by_start (Some s) some =
        let all : start_of (newer ++ acts) ≡ Some (Opened d) = start_kept newer acts (Opened d) told in
        let same : start_of (act ∷ older) ≡ Some (Opened d) = some ∙ sym (start_kept later (act ∷ older) s some) ∙ ap start_of (sym parts) ∙ all in
        opened_day day begun d (act ∷ older) same

-- ---- acts that go on with these are a history from each day on which these began

pub continued : (first begun : ℤ) (acts newer : List Act) → IsHistory first acts → BegunOn first acts begun → IsHistory begun (newer ++ acts) → IsHistory first (newer ++ acts)
continued first begun acts newer h b history = by_start (start_of acts) refl
  where
    alone : OpensNoneFirst acts → IsHistory first (newer ++ acts)
    alone none = subst (λ d. IsHistory d (newer ++ acts)) (one_day first begun acts h b none) history

    by_start : (s : Option Start) → start_of acts ≡ s → IsHistory first (newer ++ acts)
    by_start None is = alone (none_opened acts is)
    by_start (Some (Received l n)) is = alone (received_first acts l n is)
    by_start (Some (Opened d)) is =
        let opened = opened_later first d acts h is in
        let later_day = opened.later in
        let less : int_lt first d ≡ true = grind (arith, ints) in
        (earlier_alike begun first d (newer ++ acts) history (start_kept newer acts (Opened d) is) (began_on_business first acts h) less).0
