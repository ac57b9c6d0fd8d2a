-- The text of a history that goes on with the acts of books: no line of it is a misfit.
use Rattle.applies.proofs.Words.{◌≡◌, ◌≢◌, ℕ, ◌<◌, ◌≤◌, ◌^◌, List, [], ◌∷◌, ◌++◌, append_assoc, append-nil, length, length-append, Option, Some, None, Result, Ok, Err, inl, inr, refl, sym, ap, subst, ◌∙◌, arith, ◌⊎◌, ℤ, IfSome, Consumes, cases_lt, nat_tests, same_Some, none-some, append_cancel_right, All-head, All-tail, Ghosts, key_text, spelling, Key, Command, one_text, one_spelling, Act, next_number, today, IsHistory, IsSoundRequest, outcome, room_for_acts, Connected, HoldsBooks, tabbed, act_line, newer_text, IsPart, IsLine, IsPiece, IsNumbered, IsRead, Place, Before, Within, Behind, cause, earlier, accepted_there, BegunOn, FitsLine, untabbed, key_and_spelling, GoneOn, MayCome, Misfits, IsOfNoLine, IsDone, GoesOn, OfText, IsTakenBy, IsTaken, Applied, NotApplied, Differs, Lacks, Line, Refused, Input, Store, Foreign}
use Rattle.applies.proofs.LineFields.{lacks, key_printable, spelling_lacks, key_cut, untabbed_again}
use Rattle.applies.proofs.LineLengths.{line_length}
use Rattle.applies.proofs.Passed.{no_front, no_back}
use Rattle.applies.proofs.Fronts.{small, act_is_line, same_line, part_no_line, onto, onto_twice, onto_again, forward, forward_is, onto_history}
use Rattle.applies.proofs.Meeting.{no_acts, one_end, end_of, onto_append, onto_front, shown_sum, goes_behind, shown_behind, newer_length, reaches, same_number, borne_number, one_begin, split, same_lines}
use Rattle.applies.proofs.FittingDays.{continued}

-- ---- a line that is too long is none of an act

-- a text without a line feed, before another: it ends where that line does at the latest
part_within : (part body more rest : List ℕ) → IsPart part → part ++ more ≡ body ++ 10 ∷ rest → length part ≤ length body
part_within [] body more rest p e = omega arith
part_within (c ∷ part) [] more rest p e = let ten : c ≡ 10 = cc in absurd (All-head (λ b. b ≢ 10) c part p ten)
part_within (c ∷ part) (b ∷ body) more rest p e =
    let tail : part ++ more ≡ body ++ 10 ∷ rest = cc in
    let low = part_within part body more rest (All-tail (λ b. b ≢ 10) c part p) tail in
    omega (arith, low)

not_long : (part more line rest : List ℕ) → IsLine line → length line ≤ 8_192 → IsPart part → length part ≡ 8_192 → part ++ more ≡ line ++ rest → ⊥
not_long part more line rest is short p long e =
    let low = part_within part is.body more rest p (e ∙ ap (λ t. t ++ rest) is.is ∙ append_assoc is.body (10 ∷ []) rest) in
    let sum = ap length is.is ∙ length-append is.body (10 ∷ []) in
    omega (arith, low, sum, short, long)

-- nor is a piece in what is shorter and has no line
no_piece : (line more rest : List ℕ) → IsPiece line → IsPart rest → length rest < 8_192 → rest ≡ line ++ more → ⊥
no_piece line more rest (inl whole) part short e = part_no_line line more rest whole (sym e) part
no_piece line more rest (inr long) part short e = let n = ap length e ∙ length-append line more in let k = long.1 in omega (arith, n, k, short)

-- ---- one line behind the same acts is of one act

one_sound : (first b : ℤ) (x y : Act) (older : List Act) → IsHistory first (x ∷ older) → IsSoundRequest y → act_line b y older ≡ act_line b x older → y ≡ x
one_sound first b x y older h sound e =
    let low = small first x older h in
    let mine = key_cut (next_number older) (today b (y ∷ older)) (key_text y.key) (spelling y.command) low (lacks 9 refl (key_text y.key) (key_printable y.key sound.key)) in
    let theirs = key_cut (next_number older) (today b (x ∷ older)) (key_text x.key) (spelling x.command) low (lacks 9 refl (key_text x.key) (key_printable x.key h.1.sound.key)) in
    let both = same_Some (key_text y.key, tabbed (spelling y.command)) (key_text x.key, tabbed (spelling x.command)) (sym mine ∙ ap key_and_spelling e ∙ theirs) in
    let keys : y.key ≡ x.key = one_text y.key x.key sound.key h.1.sound.key (ap (λ (p : List ℕ × List ℕ). p.0) both) in
    let spelled : spelling y.command ≡ spelling x.command =
    sym (untabbed_again (spelling y.command) (spelling_lacks y.command sound.command)) ∙ ap (λ (p : List ℕ × List ℕ). untabbed p.1) both ∙ untabbed_again (spelling x.command) (spelling_lacks x.command h.1.sound.command) in
    let commands : y.command ≡ x.command = one_spelling y.command x.command sound.command h.1.sound.command spelled in
    let with_key : Key → Act = λ k. record { key = k; command = y.command } in
    let with_command : Command → Act = λ c. record { key = x.key; command = c } in
    ap with_key keys ∙ ap with_command commands

small_end : (first : ℤ) (acts : List Act) → IsHistory first acts → next_number acts < 2 ^ 64
small_end first [] h = omega arith
small_end first (act ∷ older) h = let room = room_for_acts first older act.command h.1.passes in grind (arith, nat_tests)

-- ---- a text of a history that goes on with the acts, and what was done of it

module _ (first day : ℤ) (acts newer : List Act) (history : IsHistory first (newer ++ acts)) (text : List ℕ) (gone : GoneOn day acts text newer) (short : length gone.rest < 8_192) where
  abbrev shown : List Act
  shown = (newer ++ gone.known) ++ gone.older

  -- those of the text, the oldest first
  abbrev lines : List Act
  lines = onto (newer ++ gone.known) []

  lines_are : onto lines gone.older ≡ shown
  lines_are = onto_twice (newer ++ gone.known) [] gone.older

  front : (front : List Act) × (newer ++ acts ≡ front ++ shown)
  front = shown_behind acts newer gone.later gone.known gone.older gone.parts gone.next

  shown_history : IsHistory first shown
  shown_history = earlier first front.0 shown (subst (IsHistory first) front.1 history)

  pub text_is : text ≡ forward day gone.older lines ++ gone.rest
  text_is = gone.is ∙ ap (λ t. t ++ gone.rest) (forward_is day (newer ++ gone.known) gone.older)

  -- these lines were known or done, with which the text begins
  module _ (mine : List Act) (begin : List ℕ) (its : GoneOn day acts begin mine) (mine_history : IsHistory first (mine ++ acts)) where
    abbrev reached : List Act
    reached = (mine ++ its.known) ++ its.older

    record Met (tail : List ℕ) : Type 0 where
      base : List Act
      more : List Act
      tail_is : tail ≡ forward day base more ++ gone.rest
      all : onto more base ≡ shown
      turn : ((mine ++ its.known ≡ []) × (base ≡ gone.older)) ⊎ ((base ≡ reached) × (its.older ≡ gone.older))

    done_history : IsHistory first reached
    done_history = let f = shown_behind acts mine its.later its.known its.older its.parts its.next in earlier first f.0 reached (subst (IsHistory first) f.1 mine_history)

    met : (tail : List ℕ) → text ≡ newer_text day (mine ++ its.known) its.older ++ tail → Met tail
    met tail e =
        let ys = onto (mine ++ its.known) [] in
        let ys_are : onto ys its.older ≡ reached = onto_twice (mine ++ its.known) [] its.older in
        let mine_there = subst (IsHistory first) (sym ys_are) done_history in
        let theirs = subst (IsHistory first) (sym lines_are) shown_history in
        let both : forward day its.older ys ++ tail ≡ forward day gone.older lines ++ gone.rest =
        ap (λ t. t ++ tail) (sym (forward_is day (mine ++ its.known) its.older)) ∙ sym e ∙ text_is in
        elim (one_begin first day its.older gone.older ys lines tail gone.rest gone.part mine_there theirs both) [
          | inl none ↦
              let empty : mine ++ its.known ≡ [] = sym (onto_again (mine ++ its.known)) ∙ ap (λ l. onto l []) none in
              record {
                base = gone.older;
                more = lines;
                tail_is = ap (λ l. forward day its.older l ++ tail) (sym none) ∙ both;
                all = lines_are;
                turn = inl (empty, refl);
              }
          | inr long ↦
              let same : its.older ≡ gone.older = one_end (its.later ++ its.known) (gone.later ++ gone.known) its.older gone.older (sym its.parts ∙ gone.parts) long in
              let s = split first day its.older ys lines tail gone.rest gone.part mine_there (subst (λ o. IsHistory first (onto lines o)) (sym same) theirs)
              (both ∙ ap (λ o. forward day o lines ++ gone.rest) (sym same)) in
              record {
                base = reached;
                more = s.more;
                tail_is = s.is ∙ ap (λ l. forward day l s.more ++ gone.rest) ys_are;
                all = ap (λ l. onto s.more l) (sym ys_are) ∙ sym (onto_append ys s.more its.older) ∙ ap (λ l. onto l its.older) (sym s.parts) ∙ ap (λ o. onto lines o) same ∙ lines_are;
                turn = inr (refl, same);
              }
        ]

    -- ---- all lines were

    module _ (tail : List ℕ) (is_part : IsPart tail) (m : Met tail) where
      ended : m.more ≡ []
      ended = by_more m.more m.tail_is m.all
        where
          by_more : (more : List Act) → tail ≡ forward day m.base more ++ gone.rest → onto more m.base ≡ shown → more ≡ []
          by_more [] e all = refl
          by_more (x ∷ xs) e all =
              let there : IsHistory first (x ∷ m.base) = onto_history first xs (x ∷ m.base) (subst (IsHistory first) (sym all) shown_history) in
              absurd (part_no_line (act_line day x m.base) (forward day (x ∷ m.base) xs ++ gone.rest) tail (act_is_line first day x m.base there)
              (sym (append_assoc (act_line day x m.base) (forward day (x ∷ m.base) xs) gone.rest) ∙ sym e) is_part)

      base_shown : m.base ≡ shown
      base_shown = ap (λ l. onto l m.base) (sym ended) ∙ m.all

      record Same : Type 0 where
        all : reached ≡ shown
        olds : length its.older ≡ length gone.older

      same : Same
      same = elim m.turn [
        | inl empty ↦
            let no_mine = no_front mine its.known empty.0 in
            let no_known = no_back mine its.known empty.0 in
            let no_older = its.none no_mine no_known in
            let mine_all : reached ≡ [] = ap (λ l. l ++ its.older) empty.0 ∙ no_older in
            let long = ap length (sym empty.1 ∙ base_shown) in
            let s = shown_sum acts newer gone.later gone.known gone.older gone.parts gone.next in
            let no_newer = no_acts newer (omega (arith, long, s)) in
            let none_known = no_acts gone.known (omega (arith, long, s)) in
            let no_olds = gone.none no_newer none_known in
            record { all = mine_all ∙ sym no_olds ∙ sym empty.1 ∙ base_shown; olds = ap length (no_older ∙ sym no_olds) }
        | inr here ↦ record { all = sym here.0 ∙ base_shown; olds = ap length here.1 }
      ]

      one_length : length mine ≡ length newer
      one_length =
          let a = newer_length acts mine its.later its.known its.older its.parts its.next in
          let b = newer_length acts newer gone.later gone.known gone.older gone.parts gone.next in
          let c = ap length same.all in
          omega (arith, a, b, c)

      one_newer : mine ≡ newer
      one_newer = elim (cases_lt (length shown) (length acts)) [
        | inl low ↦
            let b = newer_length acts newer gone.later gone.known gone.older gone.parts gone.next in
            no_acts mine (omega (arith, one_length, b, low)) ∙ sym (no_acts newer (omega (arith, b, low)))
        | inr high ↦
            let c = ap length same.all in
            let mine_behind = reaches acts mine its.later its.known its.older its.parts its.next (omega (arith, high, c)) in
            let newer_behind = reaches acts newer gone.later gone.known gone.older gone.parts gone.next high in
            append_cancel_right mine newer acts (sym mine_behind ∙ same.all ∙ newer_behind)
      ]

      one_known : length its.known ≡ length gone.known
      one_known =
          let a = shown_sum acts mine its.later its.known its.older its.parts its.next in
          let b = shown_sum acts newer gone.later gone.known gone.older gone.parts gone.next in
          let c = ap length same.all in
          let n = one_length in
          let o = same.olds in
          omega (arith, a, b, c, n, o)

      one_later : length its.later ≡ length gone.later
      one_later =
          let a = ap length (sym its.parts ∙ gone.parts) in
          let b = length-append (its.later ++ its.known) its.older in
          let c = length-append its.later its.known in
          let d = length-append (gone.later ++ gone.known) gone.older in
          let e = length-append gone.later gone.known in
          let k = one_known in
          let o = same.olds in
          omega (arith, a, b, c, d, e, k, o)

    -- ---- a line was not

    module _ (tail : List ℕ) (m : Met tail) where
      -- the acts end with those before the tail
      ends : newer ++ acts ≡ (front.0 ++ onto m.more []) ++ m.base
      ends = front.1 ∙ ap (λ l. front.0 ++ l) (sym m.all ∙ onto_front m.more m.base) ∙ sym (append_assoc front.0 (onto m.more []) m.base)

      -- these are all acts and those that were done, where there are as many
      base_end : length acts ≤ length m.base → m.base ≡ mine ++ acts
      base_end long = elim m.turn [
        | inl empty ↦
            let no_mine = no_front mine its.known empty.0 in
            let low = ap length gone.parts in
            let sum = length-append (gone.later ++ gone.known) gone.older in
            let same : gone.older ≡ acts = one_end (gone.later ++ gone.known) [] gone.older acts (sym gone.parts) (let n = ap length empty.1 in omega (arith, low, sum, n, long)) in
            empty.1 ∙ same ∙ ap (λ l. l ++ acts) (sym no_mine)
        | inr here ↦ let n = ap length here.0 in here.0 ∙ reaches acts mine its.later its.known its.older its.parts its.next (omega (arith, n, long))
      ]

      -- and the newer ones end with those that were done
      front_done : (rest : List Act) × (newer ≡ rest ++ mine)
      front_done = by_mine mine refl
        where
          by_mine : (l : List Act) → mine ≡ l → (rest : List Act) × (newer ≡ rest ++ mine)
          by_mine [] e = (newer, sym (append-nil newer) ∙ ap (λ l. newer ++ l) (sym e))
          by_mine (x ∷ xs) e = elim m.turn [
            | inl empty ↦ let no : x ∷ xs ≡ [] = sym e ∙ no_front mine its.known empty.0 in absurd (let n = ap length no in omega (arith, n))
            | inr here ↦
                let behind : reached ≡ mine ++ acts = goes_behind acts mine its.later its.known its.older its.parts its.next (λ none. let no : x ∷ xs ≡ [] = sym e ∙ none in let n = ap length no in omega (arith, n)) in
                let f = front.0 ++ onto m.more [] in
                (f, append_cancel_right newer (f ++ mine) acts (ends ∙ ap (λ l. f ++ l) (here.0 ∙ behind) ∙ sym (append_assoc f mine acts)))
          ]

      -- the next line is that of this act
      module _ (act : Act) (others : List Act) (is : m.more ≡ act ∷ others) where
        next_history : IsHistory first (act ∷ m.base)
        next_history = onto_history first others (act ∷ m.base) (subst (IsHistory first) (sym (ap (λ l. onto l m.base) (sym is) ∙ m.all)) shown_history)

        next_ends : newer ++ acts ≡ (front.0 ++ onto others []) ++ act ∷ m.base
        next_ends =
            front.1 ∙ ap (λ l. front.0 ++ l) (sym m.all ∙ ap (λ l. onto l m.base) is ∙ onto_front others (act ∷ m.base)) ∙ sym (append_assoc front.0 (onto others []) (act ∷ m.base))

        comes_there : (m.base ≡ mine ++ acts) ⊎ ((behind : List Act) × (acts ≡ behind ++ act ∷ m.base))
        comes_there = elim (cases_lt (length m.base) (length acts)) [
          | inl low ↦ inr (end_of (front.0 ++ onto others []) newer (act ∷ m.base) acts (sym next_ends) (omega (arith, low)))
          | inr high ↦ inl (base_end high)
        ]

        turns : (mine ++ its.known ≡ []) ⊎ (m.base ≡ mine ++ its.known ++ its.older)
        turns = elim m.turn [ inl empty ↦ inl empty.0 | inr here ↦ inr here.0 ]

        low_number : next_number m.base < 2 ^ 64
        low_number = small first act m.base next_history

        -- the line bears no number of another act
        no_other : (line : List ℕ) → line ≡ act_line day act m.base → (n : ℕ) (behind : List Act) (a : Act) (o : List Act) → acts ≡ behind ++ a ∷ o → n ≡ next_number o → IsNumbered n line → line ≢ act_line day a o → ⊥
        no_other line own n behind a o there number bears other =
            let known_history : IsHistory first (a ∷ o) = earlier first behind (a ∷ o) (subst (IsHistory first) there (earlier first newer acts history)) in
            let low : n < 2 ^ 64 = subst (λ k. k < 2 ^ 64) (sym number) (small first a o known_history) in
            let numbers : n ≡ next_number m.base =
            borne_number n (next_number m.base) (today day (act ∷ m.base)) (key_text act.key) (spelling act.command) low low_number (subst (IsNumbered n) own bears) in
            let same : a ∷ o ≡ act ∷ m.base =
            one_end (newer ++ behind) (front.0 ++ onto others []) (a ∷ o) (act ∷ m.base) (append_assoc newer behind (a ∷ o) ∙ ap (λ l. newer ++ l) (sym there) ∙ next_ends) (omega (arith, number, numbers)) in
            let acts_same : act ≡ a = cc in
            let base_same : m.base ≡ o = cc in
            other (own ∙ ap (λ x. act_line day x m.base) acts_same ∙ ap (act_line day a) base_same)

        -- nor is the act refused
        not_refused : (line : List ℕ) → line ≡ act_line day act m.base → (a : Act) → IsSoundRequest a → line ≡ act_line day a (mine ++ acts) → cause (outcome first (mine ++ acts) a) ≢ None → ⊥
        not_refused line own a sound there refused =
            let number = same_number (next_number m.base) (next_number (mine ++ acts)) (today day (act ∷ m.base)) (today day (a ∷ (mine ++ acts))) (key_text act.key) (key_text a.key) (spelling act.command) (spelling a.command)
            low_number (small_end first (mine ++ acts) mine_history) (sym own ∙ there) in
            let sum = length-append mine acts in
            let base_is = base_end (omega (arith, number, sum)) in
            let one : a ≡ act = one_sound first day act a m.base next_history sound (ap (act_line day a) base_is ∙ sym there ∙ own) in
            refused (ap (λ l. cause (outcome first l a)) (sym base_is) ∙ ap (λ x. cause (outcome first m.base x)) one ∙ ap cause (accepted_there first act m.base next_history.1))

        may : MayCome first day acts begin mine its act m.base
        may = record { history = next_history; place = comes_there; turn = turns }

        line_fits : (line : List ℕ) → line ≡ act_line day act m.base → (fault : NotApplied) → Misfits first day acts begin mine its line fault → IsOfNoLine fault
        line_fits line own (Differs n) x = absurd (no_other line own n x.later x.act x.older x.parts x.is x.numbered x.other)
        line_fits line own (Lacks n) x = absurd (x.2 act m.base may own)
        line_fits line own (Line n) x = absurd (x.1 act m.base may own)
        line_fits line own (Refused n why) x = let it = x.1 in absurd (not_refused line own it.act it.sound it.is (λ passed. none-some why (sym passed ∙ it.refused)))
        line_fits line own Input x = tt
        line_fits line own Store x = tt
        line_fits line own Foreign x = tt

      -- so no line is
      of_no_line : (line more : List ℕ) → tail ≡ line ++ more → IsPiece line → (fault : NotApplied) → Misfits first day acts begin mine its line fault → IsOfNoLine fault
      of_no_line line more e piece fault x = by_more m.more refl m.tail_is
        where
          by_piece : (act : Act) (others : List Act) → m.more ≡ act ∷ others → IsPiece line → line ++ more ≡ act_line day act m.base ++ (forward day (act ∷ m.base) others ++ gone.rest) → IsOfNoLine fault
          by_piece act others is (inl whole) text =
              line_fits act others is line (same_line line (act_line day act m.base) more (forward day (act ∷ m.base) others ++ gone.rest) whole (act_is_line first day act m.base (next_history act others is)) text).0 fault x
          by_piece act others is (inr long) text =
              let h = next_history act others is in
              absurd (not_long line more (act_line day act m.base) (forward day (act ∷ m.base) others ++ gone.rest) (act_is_line first day act m.base h) (line_length first day act m.base h) long.0 long.1 text)

          by_more : (l : List Act) → m.more ≡ l → tail ≡ forward day m.base l ++ gone.rest → IsOfNoLine fault
          by_more [] is text = absurd (no_piece line more gone.rest piece gone.part short (sym text ∙ e))
          by_more (act ∷ others) is text = by_piece act others is piece (sym e ∙ text ∙ append_assoc (act_line day act m.base) (forward day (act ∷ m.base) others) gone.rest)

  -- ---- what came of the text

  taken_there : {S : Type 0} (g : Ghosts S) (mine : List Act) (mine_history : IsHistory first (mine ++ acts)) (result : Result Applied NotApplied) (books : Connected S) → IsDone first day acts text mine result → HoldsBooks g first (mine ++ acts) books
      → IsTakenBy g first day acts text newer gone result books
  taken_there g mine mine_history (Ok told) books done holds =
      let its = done.0 in
      let m = met mine text its mine_history its.rest (its.is) in
      let one = one_newer mine text its mine_history its.rest its.part m in
      let n = one_length mine text its mine_history its.rest its.part m in
      let k = one_known mine text its mine_history its.rest its.part m in
      let l = one_later mine text its mine_history its.rest its.part m in (
        record { done = done.1.done ∙ n; known = done.1.known ∙ k; beyond = done.1.beyond ∙ l },
        subst (λ a. HoldsBooks g first (a ++ acts) books) one holds,
      )
  taken_there g mine mine_history (Err fault) books s holds =
      let its = s.gone in
      let begun : text ≡ newer_text day (mine ++ its.known) its.older ++ s.behind =
      s.parts ∙ ap (λ t. t ++ s.behind) (its.is ∙ ap (λ r. newer_text day (mine ++ its.known) its.older ++ r) s.whole ∙ append-nil (newer_text day (mine ++ its.known) its.older)) in
      let m = met mine s.front its mine_history s.behind begun in
      let f = front_done mine s.front its mine_history s.behind m in
      let own : IsOfNoLine fault = elim s.why [
        | inl own ↦ own
        | inr it ↦ of_no_line mine s.front its mine_history s.behind m it.0 it.1 it.2 it.3 fault it.4
      ] in
      (own, f.0, mine, f.1, holds)

  -- the text is not one long line
  pub not_one_line : (line more : List ℕ) → text ≡ line ++ more → IsPart line → length line ≡ 8_192 → ⊥
  not_one_line line more e part long = by_lines lines refl
    where
      by_lines : (l : List Act) → lines ≡ l → ⊥
      by_lines [] is = no_piece line more gone.rest (inr (part, long)) gone.part short (sym (text_is ∙ ap (λ l. forward day gone.older l ++ gone.rest) is) ∙ e)
      by_lines (x ∷ xs) is =
          let there : IsHistory first (x ∷ gone.older) = onto_history first xs (x ∷ gone.older) (subst (IsHistory first) (sym (ap (λ l. onto l gone.older) (sym is) ∙ lines_are)) shown_history) in
          not_long line more (act_line day x gone.older) (forward day (x ∷ gone.older) xs ++ gone.rest) (act_is_line first day x gone.older there) (line_length first day x gone.older there) part long
          (sym e ∙ text_is ∙ ap (λ l. forward day gone.older l ++ gone.rest) is ∙ append_assoc (act_line day x gone.older) (forward day (x ∷ gone.older) xs) gone.rest)

-- ---- the day that was found gives the text

-- the first line of a text, or a text that has none
abbrev pub Heads : (line text : List ℕ) → Type 0
Heads line text = (IsLine line × ((more : List ℕ) × (text ≡ line ++ more))) ⊎ IsPart text

heads_at : (place : Place) (line text now : List ℕ) → text ≡ line ++ now → IsRead place line (Some text) (Some now) → Heads line text
heads_at Before line text now e whole = inl (whole, (now, e))
heads_at Within line text now e never = absurd never
heads_at Behind line text now e part = inr (subst IsPart (sym (e ∙ ap (λ t. line ++ t) part.1 ∙ append-nil line)) part.0)

pub heads : (place : Place) (line text : List ℕ) (now : Option (List ℕ)) → Consumes (Some text) now line → IsRead place line (Some text) now → Heads line text
heads place line text None read is = absurd read
heads place line text (Some now) read is = heads_at place line text now read is

module _ (first begun : ℤ) (acts newer : List Act) (history : IsHistory begun (newer ++ acts)) (began : BegunOn first acts begun) (text : List ℕ) (gone : GoneOn begun acts text newer) (short : length gone.rest < 8_192) (day : ℤ) (line : List ℕ)
    (fitting : FitsLine first acts line day) (head : Heads line text) where
  pub same_text : newer_text begun (newer ++ gone.known) gone.older ≡ newer_text day (newer ++ gone.known) gone.older
  same_text = forward_is begun (newer ++ gone.known) gone.older ∙ by_lines (onto (newer ++ gone.known) []) refl ∙ sym (forward_is day (newer ++ gone.known) gone.older)
    where
      by_lines : (l : List Act) → onto (newer ++ gone.known) [] ≡ l → forward begun gone.older l ≡ forward day gone.older l
      by_lines [] is = refl
      by_lines (x ∷ xs) is =
          let f = shown_behind acts newer gone.later gone.known gone.older gone.parts gone.next in
          let there : newer ++ acts ≡ (f.0 ++ onto xs []) ++ x ∷ gone.older =
          f.1 ∙ ap (λ l. f.0 ++ l) (sym (onto_twice (newer ++ gone.known) [] gone.older) ∙ ap (λ l. onto l gone.older) is ∙ onto_front xs (x ∷ gone.older)) ∙ sym (append_assoc f.0 (onto xs []) (x ∷ gone.older)) in
          let here = earlier begun (f.0 ++ onto xs []) (x ∷ gone.older) (subst (IsHistory begun) there history) in
          let own = act_is_line begun begun x gone.older here in
          let all : text ≡ act_line begun x gone.older ++ (forward begun (x ∷ gone.older) xs ++ gone.rest) =
          gone.is ∙ ap (λ t. t ++ gone.rest) (forward_is begun (newer ++ gone.known) gone.older ∙ ap (forward begun gone.older) is) ∙ append_assoc (act_line begun x gone.older) (forward begun (x ∷ gone.older) xs) gone.rest in
          elim head [
            | inl first_line ↦
                let same = (same_line line (act_line begun x gone.older) first_line.1.0 (forward begun (x ∷ gone.older) xs ++ gone.rest) first_line.0 own (sym first_line.1.1 ∙ all)).0 in
                sym (same_lines day begun x gone.older xs (fitting begun newer (f.0 ++ onto xs []) x gone.older began history there same))
            | inr part ↦ absurd (part_no_line (act_line begun x gone.older) (forward begun (x ∷ gone.older) xs ++ gone.rest) text own (sym all) part)
          ]

  abbrev pub gone_there : GoneOn day acts text newer
  gone_there = record {
    later = gone.later;
    known = gone.known;
    older = gone.older;
    parts = gone.parts;
    next = gone.next;
    none = gone.none;
    rest = gone.rest;
    part = gone.part;
    is = gone.is ∙ ap (λ t. t ++ gone.rest) same_text;
  }

pub taken : {S : Type 0} (g : Ghosts S) (first : ℤ) (acts : List Act) (text : List ℕ) (day : ℤ) (line : List ℕ) (result : Result Applied NotApplied) (books : Connected S) → IsHistory first acts → FitsLine first acts line day → Heads line text
    → GoesOn g first day acts text result books → IsTaken g first acts text result books
taken g first acts text day line (Ok told) books h fits head goes begun newer began history gone short =
    let all = continued first begun acts newer h began history in
    let there = gone_there first begun acts newer history began text gone short day line fits head in
    let t = taken_there first day acts newer all text there short g goes.newer goes.history (Ok told) books goes.done goes.holds in
    (record { done = t.0.done; known = t.0.known; beyond = t.0.beyond }, t.1)
taken g first acts text day line (Err fault) books h fits head goes begun newer began history gone short =
    let all = continued first begun acts newer h began history in
    let there = gone_there first begun acts newer history began text gone short day line fits head in
    taken_there first day acts newer all text there short g goes.newer goes.history (Err fault) books goes.done goes.holds

-- where nothing was done, for a fault that tells of no line
pub taken_none : {S : Type 0} (g : Ghosts S) (first : ℤ) (acts : List Act) (text : List ℕ) (fault : NotApplied) (books : Connected S) → IsOfNoLine fault → HoldsBooks g first acts books → IsTaken g first acts text (Err fault) books
taken_none g first acts text fault books own holds begun newer began history gone short = (own, newer, [], sym (append-nil newer), holds)

-- no such text begins with a line that is too long
pub taken_long : {S : Type 0} (g : Ghosts S) (first : ℤ) (acts : List Act) (line more : List ℕ) (result : Result Applied NotApplied) (books : Connected S) → IsPart line → length line ≡ 8_192 → IsTaken g first acts (line ++ more) result books
taken_long g first acts line more result books part long begun newer began history gone short =
    absurd (not_one_line begun begun acts newer history (line ++ more) gone short line more refl part long)

-- ---- whatever a reader had left

pub taken_of : {S : Type 0} (g : Ghosts S) (left now : Option (List ℕ)) (first : ℤ) (acts : List Act) (day : ℤ) (place : Place) (line : List ℕ) (result : Result Applied NotApplied) (books : Connected S) → IsHistory first acts → FitsLine first acts line day
    → Consumes left now line → IsRead place line left now → OfText left (λ text. GoesOn g first day acts text result books) → IfSome left (λ text. IsTaken g first acts text result books)
taken_of g None now first acts day place line result books h fits read is goes = tt
taken_of g (Some text) now first acts day place line result books h fits read is goes =
    taken g first acts text day line result books h fits (heads place line text now read is) (subst (λ t. GoesOn g first day acts t result books) (sym goes.1) goes.2)

pub taken_none_of : {S : Type 0} (g : Ghosts S) (left : Option (List ℕ)) (first : ℤ) (acts : List Act) (fault : NotApplied) (books : Connected S) → IsOfNoLine fault → HoldsBooks g first acts books → IfSome left (λ text. IsTaken g first acts text (Err fault) books)
taken_none_of g None first acts fault books own holds = tt
taken_none_of g (Some text) first acts fault books own holds = taken_none g first acts text fault books own holds

pub taken_long_of : {S : Type 0} (g : Ghosts S) (left now : Option (List ℕ)) (first : ℤ) (acts : List Act) (line : List ℕ) (result : Result Applied NotApplied) (books : Connected S) → Consumes left now line → IsPart line → length line ≡ 8_192
    → IfSome left (λ text. IsTaken g first acts text result books)
taken_long_of g None now first acts line result books read part long = tt
taken_long_of g (Some text) None first acts line result books read part long = absurd read
taken_long_of g (Some text) (Some more) first acts line result books read part long = subst (λ t. IsTaken g first acts t result books) (sym read) (taken_long g first acts line more result books part long)
