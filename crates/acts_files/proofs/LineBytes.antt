-- The line of an act is whole, and has no byte 0.
use Rattle.acts_files.proofs.Words.{◌≡◌, ◌≢◌, ℕ, ◌<◌, ◌^◌, zero, suc, true, false, List, [], ◌∷◌, ◌++◌, length, get_or, inl, inr, refl, sym, ◌∙◌, arith, eq-eqb, true≢false, ℤ, ◌==◌, decimal, codes, join_with_byte, cases_Bool, nat_tests, is_name, is_line_no, day_text, is_sound, is_sound_key, key_text, spelling, fields, Key, Plain, Line, Command, lacks_failing, and_both, all-append, Printable, is_printable, name_printable, decimal_printable, day_printable, AllPrintable, small_line, PartsPrintable, fields_printable, Act, next_number, IsHistory, today, room_for_acts, tabbed, act_line, AreLines}
use Rattle.commands.proofs.Joining.{Lacks}

printed : (s : List ℕ) → Printable s → Lacks 0 s
printed s p = lacks_failing 0 is_printable refl s p

one_behind : (x y : List ℕ) → Lacks 0 x → Lacks 0 y → Lacks 0 (x ++ y)
one_behind [] y a b = b
one_behind (c ∷ x) y a b = (a.0, one_behind x y a.1 b)

key_printed : (k : Key) → is_sound_key k ≡ true → Lacks 0 (key_text k)
key_printed (Plain name) sound = printed (key_text (Plain name)) (name_printable name sound)
key_printed (Line d n) sound =
    let s = and_both (is_name d) (is_line_no n) sound in
    printed (key_text (Line d n)) (all-append is_printable (codes "D/" ++ d ++ codes "/") (decimal n) (all-append is_printable (codes "D/" ++ d) (codes "/") (all-append is_printable (codes "D/") d refl (name_printable d s.0)) refl) (decimal_printable n (small_line n s.1)))

joined : (xs : List (List ℕ)) → AllPrintable xs → Lacks 0 (join_with_byte 10 xs)
joined [] p = tt
joined (x ∷ []) p = printed x p.0
joined (x ∷ y ∷ ys) p = one_behind x (10 ∷ join_with_byte 10 (y ∷ ys)) (printed x p.0) (refl, joined (y ∷ ys) p.1)

of_parts : (xs : List (List ℕ)) → PartsPrintable xs → AllPrintable xs
of_parts [] p = absurd p
of_parts (x ∷ xs) p = p

spelled : (c : Command) → is_sound c ≡ true → Lacks 0 (spelling c)
unfolding spelling
spelled c sound = joined (fields c) (of_parts (fields c) (fields_printable c sound))

with_tabs : (s : List ℕ) → Lacks 0 s → Lacks 0 (tabbed s)
with_tabs [] own = tt
with_tabs (c ∷ s) own = elim (cases_Bool (c == 10)) [
  | inl is ↦ rw is (refl, with_tabs s own.1)
  | inr other ↦ rw other (own.0, with_tabs s own.1)
]

-- what a text lacks stands nowhere in it
stands_not : (s : List ℕ) (i : ℕ) → Lacks 0 s → i < length s → get_or s i 0 ≢ 0
stands_not [] i own low e = absurd (omega (arith, low))
stands_not (c ∷ s) zero own low e = true≢false (sym (eq-eqb c 0 e) ∙ own.0)
stands_not (c ∷ s) (suc i) own low e = stands_not s i own.1 (omega (arith, low)) e

pub line_stands : (first begun : ℤ) (act : Act) (older : List Act) → IsHistory first (act ∷ older) → AreLines (act_line begun act older)
line_stands first begun act older h =
    let n = next_number older in
    let day = day_text (today begun (act ∷ older)) in
    let k = key_text act.key in
    let s = tabbed (spelling act.command) in
    let room = room_for_acts first older act.command h.1.passes in
    let low : n < 2 ^ 64 = grind (arith, nat_tests) in
    let lacks : Lacks 0 (decimal n ++ 9 ∷ day ++ 9 ∷ k ++ 9 ∷ s ++ 10 ∷ []) =
    one_behind (decimal n ++ 9 ∷ day ++ 9 ∷ k ++ 9 ∷ s) (10 ∷ [])
    (one_behind (decimal n ++ 9 ∷ day ++ 9 ∷ k) (9 ∷ s)
    (one_behind (decimal n ++ 9 ∷ day) (9 ∷ k)
    (one_behind (decimal n) (9 ∷ day) (printed (decimal n) (decimal_printable n low)) (refl, printed day (day_printable (today begun (act ∷ older)))))
    (refl, key_printed act.key h.1.sound.key))
    (refl, with_tabs (spelling act.command) (spelled act.command h.1.sound.command)))
    (refl, tt) in
    record {
      bytes = λ i under. stands_not _ i lacks under;
      whole = inr (decimal n ++ 9 ∷ day ++ 9 ∷ k ++ 9 ∷ s, refl);
    }
