-- The file of these acts is not refused.
use Rattle.acts_files.proofs.Words.{◌≡◌, ◌≢◌, ◌⊎◌, ℕ, List, [], ◌∷◌, ◌++◌, append-nil, append_assoc, length, length-append, inl, inr, refl, sym, ap, subst, ◌∙◌, arith, ℤ, IsTrue, decimal, append_cancel_left, Ghosts, day_text, key_text, spelling, Act, next_number, IsHistory, today, tabbed, history_text, act_line, newer_text, earlier, IsNoMisfit, Begins, IsOwn, IsTail, IsRefused, IsNotOpenedBy, ActsFault, File, Store, Foreign, Differs, Lacks}
use Rattle.acts_files.proofs.LineBytes.{line_stands}
use Rattle.acts_files.proofs.Lines.{lines_below}
use Rattle.acts_files.proofs.TextParts.{goes_on}

-- ---- the oldest of some acts

pub last_of : (x : Act) (xs : List Act) → (later : List Act) × (act : Act) × (x ∷ xs ≡ later ++ act ∷ [])
last_of x [] = ([], x, refl)
last_of x (y ∷ ys) = let r = last_of y ys in (x ∷ r.0, r.1, ap (λ l. x ∷ l) r.2)

one_last : (a b : List Act) (x y : Act) → a ++ x ∷ [] ≡ b ++ y ∷ [] → x ≡ y
one_last [] [] x y e = cc
one_last [] (q ∷ b) x y e = let n = ap length e in let m = length-append b (y ∷ []) in absurd (omega (arith, n, m))
one_last (p ∷ a) [] x y e = let n = ap length e in let m = length-append a (x ∷ []) in absurd (omega (arith, n, m))
one_last (p ∷ a) (q ∷ b) x y e = let t : a ++ x ∷ [] ≡ b ++ y ∷ [] = cc in one_last a b x y t

-- its line is the first
oldest_first : (begun : ℤ) (later : List Act) (act : Act) (older : List Act) → Begins (act_line begun act older) (newer_text begun (later ++ act ∷ []) older)
oldest_first begun [] act older = ([], sym (append-nil (act_line begun act older)))
oldest_first begun (x ∷ later) act older =
    let r = oldest_first begun later act older in
    let line = act_line begun x ((later ++ act ∷ []) ++ older) in
    (r.0 ++ line, ap (λ t. t ++ line) r.1 ∙ append_assoc (act_line begun act older) r.0 line)

-- of two ways to part a list one goes further
further : (a x b y : List Act) → a ++ x ≡ b ++ y → ((more : List Act) × (y ≡ more ++ x) × (a ≡ b ++ more)) ⊎ ((more : List Act) × (x ≡ more ++ y) × (b ≡ a ++ more))
further [] x b y e = inr (b, e, refl)
further (p ∷ a) x [] y e = inl (p ∷ a, sym e, refl)
further (p ∷ a) x (q ∷ b) y e =
    let same : p ≡ q = cc in
    let t : a ++ x ≡ b ++ y = cc in
    elim (further a x b y t) [
      | inl m ↦ inl (m.0, m.1, ap (λ l. p ∷ l) m.2 ∙ ap (λ z. z ∷ (b ++ m.0)) same)
      | inr m ↦ inr (m.0, m.1, ap (λ l. q ∷ l) m.2 ∙ ap (λ z. z ∷ (a ++ m.0)) (sym same))
    ]

-- what stands behind the text of the older acts
behind_text : (begun : ℤ) (more older whole : List Act) (tail rest : List ℕ) → whole ≡ more ++ older → history_text begun older ++ tail ≡ history_text begun whole ++ rest → tail ≡ newer_text begun more older ++ rest
behind_text begun more older whole tail rest is e =
    let text = history_text begun older in
    append_cancel_left text tail (newer_text begun more older ++ rest)
    (e ∙ ap (λ t. t ++ rest) (ap (history_text begun) is ∙ goes_on begun more older) ∙ append_assoc text (newer_text begun more older) rest)

begins_more : (line a b rest : List ℕ) → Begins line a → b ≡ a ++ rest → Begins line b
begins_more line a b rest h is = (h.0 ++ rest, is ∙ ap (λ t. t ++ rest) h.1 ∙ append_assoc line h.0 rest)

-- a line is not empty
not_empty : (begun : ℤ) (act : Act) (older : List Act) → act_line begun act older ≢ []
not_empty begun act older e =
    let n = ap length e in
    let m = length-append (decimal (next_number older) ++ 9 ∷ day_text (today begun (act ∷ older)) ++ 9 ∷ key_text act.key ++ 9 ∷ tabbed (spelling act.command)) (10 ∷ []) in
    absurd (omega (arith, n, m))

-- no stop leaves a whole line of the next acts
no_line_left : (first begun : ℤ) (act : Act) (newer older : List Act) (tail : List ℕ) → IsHistory first (act ∷ older) → newer ≢ [] → Begins (act_line begun act older) tail → ¬ IsTail begun newer older tail
no_line_left first begun act newer older tail h some begins (inl left) =
    let line = act_line begun act older in
    let are = line_stands first begun act older h in
    let none = lines_below tail line begins.0 0 are begins.1 (omega arith) left.2.lineless in
    elim are.whole [
      | inl empty ↦ absurd (not_empty begun act older empty)
      | inr ends ↦ let n = ap length ends.1 ∙ length-append ends.0 (10 ∷ []) in absurd (omega (arith, n, none))
    ]
no_line_left first begun act newer older tail h some begins (inr part) = some part.0

module _ {D : Type 0} (g : Ghosts D) (first begun : ℤ) (acts : List Act) (history : IsHistory first acts) (disk new : D) (clean : IsTrue (g.is_clean new)) (own : IsOwn g begun acts disk) (fault : ActsFault) (refused : IsRefused g begun acts disk new fault) where
  text_is : history_text begun own.older ++ own.tail ≡ history_text begun refused.older ++ refused.rest
  text_is = sym own.has ∙ refused.has clean

  -- as many lines were passed
  as_many : refused.older ≡ own.older → own.newer ≡ refused.newer → ⊥
  as_many is same =
      let tail : own.tail ≡ refused.rest = behind_text begun [] own.older refused.older own.tail refused.rest is text_is in
      refused.other clean
      (subst (λ t. IsTail begun refused.newer refused.older t) tail
      (subst (λ l. IsTail begun refused.newer l own.tail) (sym is)
      (subst (λ l. IsTail begun l own.older own.tail) same own.torn)))

  -- more were
  more_passed : (more : List Act) → refused.older ≡ more ++ own.older → own.newer ≡ refused.newer ++ more → ⊥
  more_passed [] is parts = as_many is (parts ∙ append-nil refused.newer)
  more_passed (x ∷ xs) is parts =
      let l = last_of x xs in
      let tail = behind_text begun (x ∷ xs) own.older refused.older own.tail refused.rest is text_is in
      let begins = begins_more (act_line begun l.1 own.older) (newer_text begun (x ∷ xs) own.older) own.tail refused.rest
      (subst (λ m. Begins (act_line begun l.1 own.older) (newer_text begun m own.older)) (sym l.2) (oldest_first begun l.0 l.1 own.older)) tail in
      let whole : acts ≡ (refused.newer ++ l.0) ++ (l.1 ∷ own.older) =
      own.parts ∙ ap (λ n. n ++ own.older) (parts ∙ ap (λ m. refused.newer ++ m) l.2 ∙ sym (append_assoc refused.newer l.0 (l.1 ∷ []))) ∙ append_assoc (refused.newer ++ l.0) (l.1 ∷ []) own.older in
      let here = earlier first (refused.newer ++ l.0) (l.1 ∷ own.older) (subst (IsHistory first) whole history) in
      no_line_left first begun l.1 own.newer own.older own.tail here
      (λ none. let n = ap length (sym parts ∙ none) in let m = length-append refused.newer (x ∷ xs) in absurd (omega (arith, n, m)))
      begins own.torn

  -- fewer were: the line of the next act stands there, and it is told that it does not
  fewer_passed : (more : List Act) → own.older ≡ more ++ refused.older → refused.newer ≡ own.newer ++ more
      → ((later : List Act) × (act : Act) × (refused.newer ≡ later ++ act ∷ []) × ¬ Begins (act_line begun act refused.older) refused.rest) ⊎ (refused.newer ≡ []) → ⊥
  fewer_passed [] is parts why = as_many (sym is) (sym (parts ∙ append-nil own.newer))
  fewer_passed (x ∷ xs) is parts (inr none) = let n = ap length (sym parts ∙ none) in let m = length-append own.newer (x ∷ xs) in omega (arith, n, m)
  fewer_passed (x ∷ xs) is parts (inl unlike) =
      let l = last_of x xs in
      let rest = behind_text begun (x ∷ xs) refused.older own.older refused.rest own.tail is (sym text_is) in
      let begins = begins_more (act_line begun l.1 refused.older) (newer_text begun (x ∷ xs) refused.older) refused.rest own.tail
      (subst (λ m. Begins (act_line begun l.1 refused.older) (newer_text begun m refused.older)) (sym l.2) (oldest_first begun l.0 l.1 refused.older)) rest in
      let one : l.1 ≡ unlike.1 =
      one_last (own.newer ++ l.0) unlike.0 l.1 unlike.1 (append_assoc own.newer l.0 (l.1 ∷ []) ∙ ap (λ m. own.newer ++ m) (sym l.2) ∙ sym parts ∙ unlike.2) in
      unlike.3 (subst (λ a. Begins (act_line begun a refused.older) refused.rest) one begins)

  never : ((later : List Act) × (act : Act) × (refused.newer ≡ later ++ act ∷ []) × ¬ Begins (act_line begun act refused.older) refused.rest) ⊎ (refused.newer ≡ []) → ⊥
  never why = elim (further own.newer own.older refused.newer refused.older (sym own.parts ∙ refused.parts)) [
    | inl more ↦ more_passed more.0 more.1 more.2
    | inr more ↦ fewer_passed more.0 more.1 more.2 why
  ]

pub never_refused : {D : Type 0} (g : Ghosts D) (first begun : ℤ) (acts : List Act) (disk new : D) (fault : ActsFault) → IsHistory first acts → IsTrue (g.is_clean new) → IsOwn g begun acts disk → IsNotOpenedBy g begun acts disk new fault fault → IsNoMisfit fault
never_refused g first begun acts disk new File history clean own is = tt
never_refused g first begun acts disk new Store history clean own is = tt
never_refused g first begun acts disk new Foreign history clean own is = tt
never_refused g first begun acts disk new (Differs n) history clean own is =
    never g first begun acts history disk new clean own (Differs n) is (elim (is.misfits clean).1 [ inl unlike ↦ inl unlike | inr none ↦ inr none.0 ])
never_refused g first begun acts disk new (Lacks n) history clean own is = never g first begun acts history disk new clean own (Lacks n) is (inr (is.misfits clean).1)
