-- The words of a text, and those of one that has grown.
use Rattle.wire.proofs.Words.{◌≡◌, ◌∙◌, ap, refl, sym, subst, ℕ, true, false, Bool, List, [], ◌∷◌, ◌++◌, if◌then◌else◌, Option, Some, None, option_map, inl, inr, ◌⊎◌, option_map_or, Appends, AppendsBeginning, beginning_of_none, is_gap, without_gap, cut_word, next_word, line_with, line_behind, log_line}

-- a word, and what follows it
abbrev Cut : Type 0
Cut = List ℕ × List ℕ

-- a cut further on, seen from before
abbrev pub cut_from : (front : List ℕ) → Option Cut → Option Cut
cut_from front o = option_map (λ cut. (front ++ cut.0, cut.1)) o

-- ---- a text that has grown: a word that had come whole is the same

abbrev followed : List ℕ → Cut → Cut
followed b cut = (cut.0, cut.1 ++ b)

cut_at : (c : ℕ) (cs b : List ℕ) (gap : Bool) (o grown : Option Cut) (cut : Cut) → ((p : Cut) → o ≡ Some p → grown ≡ Some (followed b p))
    → (if gap then Some ([], c ∷ cs) else option_map (λ p. (c ∷ p.0, p.1)) o) ≡ Some cut
    → (if gap then Some ([], c ∷ (cs ++ b)) else option_map (λ p. (c ∷ p.0, p.1)) grown) ≡ Some (followed b cut)
cut_at c cs b true o grown cut on e = ap (option_map (followed b)) e
cut_at c cs b false None grown cut on e = absurd cc
cut_at c cs b false (Some p) grown cut on e = ap (option_map (λ q. (c ∷ q.0, q.1))) (on p refl) ∙ ap (option_map (followed b)) e

grown_cut : (a b : List ℕ) (cut : Cut) → cut_word a ≡ Some cut → cut_word (a ++ b) ≡ Some (followed b cut)
grown_cut [] b cut e = absurd cc
grown_cut (c ∷ cs) b cut e = cut_at c cs b (is_gap c) (cut_word cs) (cut_word (cs ++ b)) cut (grown_cut cs b) e

word_at : (c : ℕ) (cs b : List ℕ) (gap : Bool) (cut : Cut) → (next_word cs ≡ Some cut → next_word (cs ++ b) ≡ Some (followed b cut))
    → (cut_word (c ∷ cs) ≡ Some cut → cut_word (c ∷ (cs ++ b)) ≡ Some (followed b cut))
    → cut_word (if gap then without_gap cs else c ∷ cs) ≡ Some cut → cut_word (if gap then without_gap (cs ++ b) else c ∷ (cs ++ b)) ≡ Some (followed b cut)
word_at c cs b true cut on here e = on e
word_at c cs b false cut on here e = here e

grown_word : (a b : List ℕ) (cut : Cut) → next_word a ≡ Some cut → next_word (a ++ b) ≡ Some (followed b cut)
grown_word [] b cut e = absurd cc
grown_word (c ∷ cs) b cut e = word_at c cs b (is_gap c) cut (grown_word cs b cut) (grown_cut (c ∷ cs) b cut) e

-- the text has no line, or the line of one that has grown is the same
abbrev IsSameLine : (line grown : List ℕ) → Type 0
IsSameLine line grown = (line ≡ []) ⊎ (grown ≡ line)

module _ (b bytes : List ℕ) where
  grown_behind : (method rest : List ℕ) (o : Option Cut) → next_word rest ≡ o → IsSameLine (line_behind method rest bytes) (line_behind method (rest ++ b) bytes)
  grown_behind method rest None e = inl (ap (λ o. option_map_or (λ cut. line_with method cut.0 bytes) o []) e)
  grown_behind method rest (Some cut) e =
      let line : Option Cut → List ℕ = λ o. option_map_or (λ cut. line_with method cut.0 bytes) o [] in
      inr (ap line (grown_word rest b cut e) ∙ sym (ap line e))

  same_line : (a : List ℕ) (cut : Cut) → next_word a ≡ Some cut → IsSameLine (line_behind cut.0 cut.1 bytes) (line_behind cut.0 (cut.1 ++ b) bytes) → IsSameLine (log_line a bytes) (log_line (a ++ b) bytes)
  same_line a cut e (inl none) = inl (ap (λ o. option_map_or (λ cut. line_behind cut.0 cut.1 bytes) o []) e ∙ none)
  same_line a cut e (inr same) =
      let line : Option Cut → List ℕ = λ o. option_map_or (λ cut. line_behind cut.0 cut.1 bytes) o [] in
      inr (ap line (grown_word a b cut e) ∙ same ∙ sym (ap line e))

  grown_line : (a : List ℕ) (o : Option Cut) → next_word a ≡ o → IsSameLine (log_line a bytes) (log_line (a ++ b) bytes)
  grown_line a None e = inl (ap (λ o. option_map_or (λ cut. line_behind cut.0 cut.1 bytes) o []) e)
  grown_line a (Some cut) e = same_line a cut e (grown_behind cut.0 cut.1 (next_word cut.1) refl)

-- a beginning of a text has no line, or that of the text
pub line_of_beginning : (a b bytes : List ℕ) → IsSameLine (log_line a bytes) (log_line (a ++ b) bytes)
line_of_beginning a b bytes = grown_line b bytes a (next_word a) refl

-- ---- what was written

module _ (old new : Option (List ℕ)) where
  nothing : (front rest : List ℕ) → [] ≡ front ++ rest → Appends old new front → Appends old new []
  nothing [] rest e h = h
  nothing (x ∷ xs) rest e h = absurd cc

  -- a beginning of the line of a beginning of a text is one of the line of the text
  pub begun_by : (line grown : List ℕ) → IsSameLine line grown → AppendsBeginning old new line → AppendsBeginning old new grown
  begun_by line grown (inl none) h = beginning_of_none old new _ (nothing h.front h.rest (sym none ∙ h.parts) h.written)
  begun_by line grown (inr same) h = subst (AppendsBeginning old new) (sym same) h
