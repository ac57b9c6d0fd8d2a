-- The fields of an act's line are read as the act.
use Rattle.applies.proofs.Words.{◌≡◌, ◌≢◌, ℕ, ◌-◌, ◌<◌, ◌^◌, true, false, List, [], ◌∷◌, ◌++◌, append_assoc, length, length-append, take, Option, Some, None, option_map, inl, inr, refl, sym, ap, ◌∙◌, arith, eq-eqb, eqb-true, true≢false, ℤ, ◌==◌, decimal, codes, join_with_byte, cases_Bool, take-append-le, take-length, All-nil, All-cons, is_name, is_line_no, day_text, is_sound, is_sound_key, key_text, spelling, fields, Key, Plain, Command, lacks_failing, and_both, all-append, Printable, is_printable, name_printable, decimal_printable, day_printable, AllPrintable, small_line, PartsPrintable, fields_printable, tabbed, history_line, IsPart, IsLine, same_Some, none-some, cut_at_tab, behind_tab, without_last, key_and_spelling, untabbed, Reads, ReadsFields}
use Rattle.commands.specs.declared.key.Key.TheVariants.{Line}
use Rattle.commands.proofs.Joining.{Lacks}

-- ---- a text that is cut at its first tab

abbrev Cut : Type 0
Cut = List ℕ × List ℕ

-- a cut further on, seen from before
abbrev pub cut_from : (front : List ℕ) → Option Cut → Option Cut
cut_from front o = option_map (λ cut. (front ++ cut.0, cut.1)) o

pub cut_first : (x r : List ℕ) → Lacks 9 x → cut_at_tab (x ++ 9 ∷ r) ≡ Some (x, r)
cut_first [] r lacks = refl
cut_first (c ∷ x) r lacks = rw (lacks.0) (ap (option_map (λ cut. (c ∷ cut.0, cut.1))) (cut_first x r lacks.1))

-- ---- what the fields lack

pub lacks : (c : ℕ) → is_printable c ≡ false → (s : List ℕ) → Printable s → Lacks c s
lacks c fails s p = lacks_failing c is_printable fails s p

pub key_printable : (k : Key) → is_sound_key k ≡ true → Printable (key_text k)
key_printable (Plain name) sound = name_printable name sound
key_printable (Line d n) sound =
    let s = and_both (is_name d) (is_line_no n) sound in
    all-append is_printable (codes "D/" ++ d ++ codes "/") (decimal n) (all-append is_printable (codes "D/" ++ d) (codes "/") (all-append is_printable (codes "D/") d refl (name_printable d s.0)) refl) (decimal_printable n (small_line n s.1))

lacks_append : (c : ℕ) (x y : List ℕ) → Lacks c x → Lacks c y → Lacks c (x ++ y)
lacks_append c [] y a b = b
lacks_append c (z ∷ x) y a b = (a.0, lacks_append c x y a.1 b)

joined_lack : (xs : List (List ℕ)) → AllPrintable xs → Lacks 9 (join_with_byte 10 xs)
joined_lack [] p = tt
joined_lack (x ∷ []) p = lacks 9 refl x p.0
joined_lack (x ∷ y ∷ ys) p = lacks_append 9 x (10 ∷ join_with_byte 10 (y ∷ ys)) (lacks 9 refl x p.0) (refl, joined_lack (y ∷ ys) p.1)

parts_all : (xs : List (List ℕ)) → PartsPrintable xs → AllPrintable xs
parts_all [] p = absurd p
parts_all (x ∷ xs) p = p

pub spelling_lacks : (c : Command) → is_sound c ≡ true → Lacks 9 (spelling c)
unfolding spelling
spelling_lacks c sound = joined_lack (fields c) (parts_all (fields c) (fields_printable c sound))

pub day_lacks : (day : ℤ) → Lacks 9 (day_text day)
day_lacks day = lacks 9 refl (day_text day) (day_printable day)

pub number_lacks : (n : ℕ) → n < 2 ^ 64 → Lacks 9 (decimal n)
number_lacks n low = lacks 9 refl (decimal n) (decimal_printable n low)

-- ---- a line

-- the fields one behind another
pub line_parts : (n : ℕ) (day : ℤ) (k s : List ℕ) → history_line n day k s ≡ decimal n ++ 9 ∷ (day_text day ++ 9 ∷ (k ++ 9 ∷ (tabbed s ++ 10 ∷ [])))
line_parts n day k s =
    let a = decimal n in
    let d = 9 ∷ day_text day in
    let key = 9 ∷ k in
    let t = 9 ∷ tabbed s in
    append_assoc ((a ++ d) ++ key) t (10 ∷ []) ∙ append_assoc (a ++ d) key (t ++ 10 ∷ []) ∙ append_assoc a d (key ++ (t ++ 10 ∷ []))

without_end : (xs : List ℕ) (x : ℕ) → without_last (xs ++ x ∷ []) ≡ xs
without_end xs x =
    let n = length-append xs (x ∷ []) in
    let long : length (xs ++ x ∷ []) - 1 ≡ length xs = omega (arith, n) in
    ap (λ k. take k (xs ++ x ∷ [])) long ∙ take-append-le (length xs) xs (x ∷ []) (omega arith) ∙ take-length xs

pub key_cut : (n : ℕ) (day : ℤ) (k s : List ℕ) → n < 2 ^ 64 → Lacks 9 k → key_and_spelling (history_line n day k s) ≡ Some (k, tabbed s)
key_cut n day k s low own =
    let last = tabbed s ++ 10 ∷ [] in
    let keyed = k ++ 9 ∷ last in
    let dated = day_text day ++ 9 ∷ keyed in
    let pick : Option Cut → Option Cut = λ o. option_map (λ cut. (cut.0, without_last cut.1)) o in
    ap key_and_spelling (line_parts n day k s)
    ∙ ap (λ o. pick (behind_tab (behind_tab o))) (cut_first (decimal n) dated (number_lacks n low))
    ∙ ap (λ o. pick (behind_tab o)) (cut_first (day_text day) keyed (day_lacks day))
    ∙ ap pick (cut_first k last own)
    ∙ ap (λ t. Some (k, t)) (without_end (tabbed s) 10)

pub untabbed_again : (s : List ℕ) → Lacks 9 s → untabbed (tabbed s) ≡ s
untabbed_again [] own = refl
untabbed_again (c ∷ s) own = elim (cases_Bool (c == 10)) [
  | inl is ↦ let ten : c ≡ 10 = eqb-true c 10 is in rw is (ap (λ t. 10 ∷ t) (untabbed_again s own.1) ∙ ap (λ x. x ∷ s) (sym ten))
  | inr other ↦ rw (other, own.0) (ap (λ t. c ∷ t) (untabbed_again s own.1))
]

-- ---- a line feed stands at its end alone

part_of : (s : List ℕ) → Lacks 10 s → IsPart s
part_of [] l = All-nil (λ b. b ≢ 10)
part_of (c ∷ s) l = All-cons (λ b. b ≢ 10) c s (λ e. true≢false (sym (eq-eqb c 10 e) ∙ l.0)) (part_of s l.1)

tabbed_lacks : (s : List ℕ) → Lacks 10 (tabbed s)
tabbed_lacks [] = tt
tabbed_lacks (c ∷ s) = elim (cases_Bool (c == 10)) [
  | inl is ↦ rw is (refl, tabbed_lacks s)
  | inr other ↦ rw other (other, tabbed_lacks s)
]

pub line_is_line : (n : ℕ) (day : ℤ) (k s : List ℕ) → n < 2 ^ 64 → Printable k → IsLine (history_line n day k s)
line_is_line n day k s low own = record {
  body = decimal n ++ 9 ∷ day_text day ++ 9 ∷ k ++ 9 ∷ tabbed s;
  is = refl;
  one = part_of (decimal n ++ 9 ∷ day_text day ++ 9 ∷ k ++ 9 ∷ tabbed s)
      (lacks_append 10 (decimal n ++ 9 ∷ day_text day ++ 9 ∷ k) (9 ∷ tabbed s)
      (lacks_append 10 (decimal n ++ 9 ∷ day_text day) (9 ∷ k)
      (lacks_append 10 (decimal n) (9 ∷ day_text day) (lacks 10 refl (decimal n) (decimal_printable n low)) (refl, lacks 10 refl (day_text day) (day_printable day)))
      (refl, lacks 10 refl k own))
      (refl, tabbed_lacks s));
}

-- ---- what is read of a line

pub reads_of : (line key spelled : List ℕ) (found : Option (Key × Command)) → key_and_spelling line ≡ Some (key, spelled) → ReadsFields key spelled found → Reads line found
reads_of line key spelled found is reads number day act low sound same =
    let cut = key_cut number day (key_text act.key) (spelling act.command) low (lacks 9 refl (key_text act.key) (key_printable act.key sound.key)) in
    let both = same_Some (key, spelled) (key_text act.key, tabbed (spelling act.command)) (sym is ∙ ap key_and_spelling same ∙ cut) in
    reads act sound (ap (λ (p : Cut). p.0) both) (ap (λ (p : Cut). untabbed p.1) both ∙ untabbed_again (spelling act.command) (spelling_lacks act.command sound.command))

pub reads_none : (line : List ℕ) → key_and_spelling line ≡ None → Reads line None
reads_none line is number day act low sound same =
    let cut = key_cut number day (key_text act.key) (spelling act.command) low (lacks 9 refl (key_text act.key) (key_printable act.key sound.key)) in
    absurd (none-some _ (sym is ∙ ap key_and_spelling same ∙ cut))
