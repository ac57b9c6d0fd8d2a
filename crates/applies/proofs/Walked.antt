-- What the walk over the rows of the acts comes to.
use Rattle.applies.proofs.Words.{◌≡◌, ◌≢◌, ℕ, ◌+◌, ◌-◌, List, [], ◌∷◌, ◌++◌, append_assoc, append-nil, length, length-append, Option, Result, Ok, Err, inl, inr, refl, sym, ap, subst, ◌∙◌, arith, ◌⊎◌, ℤ, OnSome, Consumes, IsAtEnd, Consumes-trans, Ghosts, Act, next_number, IsHistory, Connected, HoldsBooks, act_line, newer_text, IsPart, IsLine, IsPiece, IsNumbered, IsUnlike, AtPlace, WithinText, BehindText, HasBroken, MissesLine, IsRead, LineFault, KnownLines, Place, Before, Within, Behind, GoneOn, IsOfNone, IsOfNoLine, Misfits, StopsAtLine, GoesOn, OfText, IsToldAs, ArePassed, Applied, NotApplied, Differs}
use Rattle.histories.specs.declared.line_fault.LineFault.TheVariants as told
use Rattle.applies.proofs.Texts.{one_place, told_on, told_at_end, told_any}
use Rattle.applies.proofs.Passed.{nothing, none_gone, stops_own}

module _ {S R : Type 0} (g : Ghosts S) (remaining : R → Option (List ℕ)) (left : Option (List ℕ)) (first begun : ℤ) (acts : List Act) (history : IsHistory first acts) (books : Connected S) (holds : HoldsBooks g first acts books) where
  abbrev Goes : Result Applied NotApplied → List ℕ → Type 0
  Goes r text = GoesOn g first begun acts text r books

  -- the text ends before the books do
  pub done_behind : (now : KnownLines R) → now.done ≡ length acts → BehindText remaining left begun now acts → OfText left (Goes (Ok (record { done = 0; known = now.known; beyond = now.done - now.last })))
  done_behind now done b =
      told_at_end left (remaining now.reader) (newer_text begun b.known b.base ++ b.part) (Goes (Ok (record { done = 0; known = now.known; beyond = now.done - now.last }))) b.read b.end
      (record {
        newer = [];
        history = history;
        done = (
          record {
            later = b.later;
            known = b.known;
            older = b.base;
            parts = b.parts;
            next = λ some. absurd (some refl);
            none = λ _ k. b.none k;
            rest = b.part;
            part = b.is_part;
            is = refl;
          },
          record { done = refl; known = b.count; beyond = let n = b.beyond in omega (arith, n, done) },
        );
        holds = holds;
        lasts = λ some. absurd (some refl);
      })

  goes_wrong : (text : List ℕ) (fault : NotApplied) → StopsAtLine first begun acts text [] fault → Goes (Err fault) text
  goes_wrong text fault stops = record { newer = []; history = history; done = stops; holds = holds; lasts = tt }

  pub own_fault : (fault : NotApplied) → IsOfNoLine fault → OfText left (Goes (Err fault))
  own_fault fault own = told_any left (Goes (Err fault)) (λ text. goes_wrong text fault (stops_own first begun acts text fault own))

  -- lines of these acts came, which the books had
  module _ (later known older : List Act) (parts : acts ≡ later ++ known ++ older) (some : known ≡ [] → older ≡ []) where
    abbrev known_gone : GoneOn begun acts (newer_text begun known older) []
    known_gone = record {
      later = later;
      known = known;
      older = older;
      parts = parts;
      next = λ n. absurd (n refl);
      none = λ _ k. some k;
      rest = [];
      part = nothing;
      is = sym (append-nil (newer_text begun known older));
    }

    stops_known : (text behind : List ℕ) (fault : NotApplied) → text ≡ newer_text begun known older ++ behind
        → IsOfNoLine fault ⊎ ((line : List ℕ) × (more : List ℕ) × (behind ≡ line ++ more) × IsPiece line × Misfits first begun acts (newer_text begun known older) [] known_gone line fault) → StopsAtLine first begun acts text [] fault
    stops_known text behind fault is why = record { front = newer_text begun known older; behind = behind; parts = is; gone = known_gone; whole = refl; why = why }

  -- ---- a fault that tells of no line

  broken_at : (last : KnownLines R) (later older : List Act) → acts ≡ later ++ older → (p : Place) → AtPlace remaining left begun p last older → (fault : NotApplied) → IsOfNoLine fault → OfText left (Goes (Err fault))
  broken_at last later older parts Before b fault own = own_fault fault own
  broken_at last later older parts Within w fault own =
      told_on left (remaining last.reader) (newer_text begun w.known w.base) (Goes (Err fault)) w.read
      (λ rest. goes_wrong (newer_text begun w.known w.base ++ rest) fault
      (stops_known later w.known w.base (parts ∙ ap (λ l. later ++ l) w.parts ∙ sym (append_assoc later w.known w.base)) (λ none. absurd (w.some none)) (newer_text begun w.known w.base ++ rest) rest fault refl (inl own)))
  broken_at last later older parts Behind b fault own =
      told_on left (remaining last.reader) (newer_text begun b.known b.base ++ b.part) (Goes (Err fault)) b.read
      (λ rest. goes_wrong ((newer_text begun b.known b.base ++ b.part) ++ rest) fault
      (stops_known (later ++ b.later) b.known b.base
      (parts ∙ ap (λ l. later ++ l) (b.parts ∙ append_assoc b.later b.known b.base) ∙ sym (append_assoc later b.later (b.known ++ b.base)) ∙ sym (append_assoc (later ++ b.later) b.known b.base)) b.none
      ((newer_text begun b.known b.base ++ b.part) ++ rest) (b.part ++ rest) fault (append_assoc (newer_text begun b.known b.base) b.part rest) (inl own)))

  pub broke_off : HasBroken remaining left begun acts → (fault : NotApplied) → IsOfNoLine fault → OfText left (Goes (Err fault))
  broke_off h fault own = broken_at h.last h.later h.older h.parts h.last.place h.passed.place fault own

  -- ---- a line that is not the one of the next act

  -- the first one
  other_first : (line rest : List ℕ) (later : List Act) (act : Act) (older : List Act) (n : ℕ) → IsLine line → acts ≡ later ++ act ∷ older → IsUnlike (next_number older) (act_line begun act older) line (told.Differs n)
      → StopsAtLine first begun acts (line ++ rest) [] (Differs n)
  other_first line rest later act older n whole parts unlike = record {
    front = [];
    behind = line ++ rest;
    parts = refl;
    gone = none_gone first begun acts;
    whole = refl;
    why = inr (line, rest, refl, inl whole, record { later = later; act = act; older = older; parts = parts; turn = inl refl; is = unlike.0; numbered = subst (λ k. IsNumbered k line) (sym unlike.0) unlike.1; other = unlike.2 });
  }

  -- one behind known ones
  module _ (last after : KnownLines R) (later : List Act) (act : Act) (older : List Act) (parts : acts ≡ later ++ act ∷ older) (w : WithinText remaining left begun last older) where
    abbrev ahead : List Act
    ahead = later ++ act ∷ []

    parts_now : acts ≡ ahead ++ w.known ++ w.base
    parts_now = parts ∙ sym (append_assoc later (act ∷ []) older) ∙ ap (λ l. ahead ++ l) w.parts ∙ sym (append_assoc ahead w.known w.base)

    abbrev gone_now : GoneOn begun acts (newer_text begun w.known w.base) []
    gone_now = known_gone ahead w.known w.base parts_now (λ none. absurd (w.some none))

    of_none : (line : List ℕ) → line ≢ act_line begun act older → IsOfNone first begun acts (newer_text begun w.known w.base) [] gone_now line
    of_none line unlike a o may = elim may.turn [
      | inl empty ↦ absurd (w.some empty)
      | inr there ↦
          let same : o ≡ older = there ∙ sym w.parts in
          elim may.place [
            | inl end ↦
                let all = ap length (end ∙ parts) in
                let sum = length-append later (act ∷ older) in
                let n = ap length same in
                absurd (omega (arith, all, sum, n))
            | inr mid ↦
                let one : a ≡ act = one_place mid.0 later a act older (ap (λ l. mid.0 ++ a ∷ l) (sym same) ∙ sym mid.1 ∙ parts) in
                λ is. unlike (is ∙ ap (λ x. act_line begun x o) one ∙ ap (act_line begun act) same)
          ]
    ]

    why_now : (line : List ℕ) (l : LineFault) (fault : NotApplied) → IsToldAs l last.known fault → IsUnlike (next_number older) (act_line begun act older) line l → IsOfNoLine fault ⊎ Misfits first begun acts (newer_text begun w.known w.base) [] gone_now line fault
    why_now line told.Memory fault is unlike = inl (subst IsOfNoLine (sym is) tt)
    why_now line told.Input fault is unlike = inl (subst IsOfNoLine (sym is) tt)
    why_now line told.Foreign fault is unlike = inl (subst IsOfNoLine (sym is) tt)
    why_now line (told.Differs n) fault is unlike =
        inr (subst (Misfits first begun acts (newer_text begun w.known w.base) [] gone_now line) (sym is)
        (record { later = later; act = act; older = older; parts = parts; turn = inr w.parts; is = unlike.0; numbered = subst (λ k. IsNumbered k line) (sym unlike.0) unlike.1; other = unlike.2 }))
    why_now line told.OutOfTurn fault is unlike = elim is [
      | inl own ↦ inl (subst IsOfNoLine (sym own) tt)
      | inr placed ↦ inr (subst (Misfits first begun acts (newer_text begun w.known w.base) [] gone_now line) (sym placed) (ap (λ k. k + 1) w.count, of_none line unlike))
    ]

    stops_within : (l : LineFault) (fault : NotApplied) → IsToldAs l last.known fault → IsUnlike (next_number older) (act_line begun act older) after.line.items l → Consumes (remaining last.reader) (remaining after.reader) after.line.items → IsPiece after.line.items
        → OfText left (Goes (Err fault))
    stops_within l fault is unlike read piece =
        let line = after.line.items in
        let front = newer_text begun w.known w.base in
        told_on left (remaining after.reader) (front ++ line) (Goes (Err fault)) (Consumes-trans left (remaining last.reader) (remaining after.reader) front line w.read read)
        (λ rest. goes_wrong ((front ++ line) ++ rest) fault
        (stops_known ahead w.known w.base parts_now (λ none. absurd (w.some none)) ((front ++ line) ++ rest) (line ++ rest) fault (append_assoc front line rest)
        (elim (why_now line l fault is unlike) [ inl own ↦ inl own | inr m ↦ inr (line, rest, refl, piece, m) ])))

  first_missed : (line : List ℕ) (known : ℕ) (later : List Act) (act : Act) (older : List Act) → acts ≡ later ++ act ∷ older → (last : KnownLines R) → last.place ≡ Before → IsLine line → Consumes left (remaining last.reader) line → (l : LineFault)
      → IsUnlike (next_number older) (act_line begun act older) line l → (l ≡ told.OutOfTurn → last.place ≡ Within) → (fault : NotApplied) → IsToldAs l known fault → OfText left (Goes (Err fault))
  first_missed line known later act older parts last at whole read told.Memory unlike turn fault t = own_fault fault (subst IsOfNoLine (sym t) tt)
  first_missed line known later act older parts last at whole read told.Input unlike turn fault t = own_fault fault (subst IsOfNoLine (sym t) tt)
  first_missed line known later act older parts last at whole read told.Foreign unlike turn fault t = own_fault fault (subst IsOfNoLine (sym t) tt)
  first_missed line known later act older parts last at whole read (told.Differs n) unlike turn fault t =
      told_on left (remaining last.reader) line (Goes (Err fault)) read
      (λ rest. subst (λ f. Goes (Err f) (line ++ rest)) (sym t) (goes_wrong (line ++ rest) (Differs n) (other_first line rest later act older n whole parts unlike)))
  first_missed line known later act older parts last at whole read told.OutOfTurn unlike turn fault t = let no : Before ≡ Within = sym at ∙ turn refl in absurd cc

  pub missed : (after : KnownLines R) (l : LineFault) → MissesLine remaining left begun acts l after → (fault : NotApplied) → IsToldAs l after.known fault → OfText left (Goes (Err fault))
  missed after l h fault t = elim h.misses.read [
    | inl b ↦
        let text = subst (λ p. AtPlace remaining left begun p h.last h.older) b.0 h.passed.place in
        first_missed after.line.items after.known h.later h.act h.older h.parts h.last b.0 (subst IsLine (sym b.2) text.whole) (subst (Consumes left (remaining h.last.reader)) (sym b.2) text.read) l h.misses.unlike h.misses.numbered fault t
    | inr n ↦
        stops_within h.last after h.later h.act h.older h.parts (subst (λ p. AtPlace remaining left begun p h.last h.older) n.0 h.passed.place) l fault (subst (λ k. IsToldAs l k fault) h.misses.known t) h.misses.unlike n.1 n.2
  ]

  pub all_wrong : (after : KnownLines R) (fault : NotApplied) → ArePassed remaining left begun acts (Err fault) after → OfText left (Goes (Err fault))
  all_wrong after fault h = elim h [ inl own ↦ broke_off own.1 fault own.0 | inr miss ↦ missed after miss.0 miss.2 fault miss.1 ]

-- how the first line was read
pub read_of : (place : Place) (line : List ℕ) (left now : Option (List ℕ)) → (place ≡ Before) ⊎ (place ≡ Behind) → (place ≡ Before → IsLine line) → (place ≡ Behind → IsPart line × OnSome left (IsAtEnd now)) → IsRead place line left now
read_of place line left now at whole part = elim at [
  | inl before ↦ subst (λ p. IsRead p line left now) (sym before) (whole before)
  | inr behind ↦ subst (λ p. IsRead p line left now) (sym behind) (part behind)
]
