-- Texts of histories, compared from their first lines on.
use Rattle.applies.proofs.Words.{◌≡◌, ◌≢◌, ℕ, ◌<◌, ◌^◌, List, [], ◌∷◌, ◌++◌, append_assoc, append-nil, refl, sym, ap, subst, ◌∙◌, arith, eqb-true, ℤ, ◌==◌, false_from_ne_true, nat_tests, same_Some, All-head, All-tail, key_text, spelling, Key, Command, first_part, one_text, one_spelling, Act, next_number, IsHistory, today, room_for_acts, tabbed, act_line, newer_text, IsPart, IsLine, untabbed, key_and_spelling}
use Rattle.commands.proofs.Joining.{Lacks}
use Rattle.applies.proofs.LineFields.{lacks, key_printable, spelling_lacks, key_cut, untabbed_again, line_is_line}

-- ---- one line is of one act

pub small : (first : ℤ) (act : Act) (older : List Act) → IsHistory first (act ∷ older) → next_number older < 2 ^ 64
small first act older h = let room = room_for_acts first older act.command h.1.passes in grind (arith, nat_tests)

pub act_is_line : (first begun : ℤ) (act : Act) (older : List Act) → IsHistory first (act ∷ older) → IsLine (act_line begun act older)
act_is_line first begun act older h =
    line_is_line (next_number older) (today begun (act ∷ older)) (key_text act.key) (spelling act.command) (small first act older h) (key_printable act.key h.1.sound.key)

pub one_act : (first second b c : ℤ) (x y : Act) (older others : List Act) → IsHistory first (x ∷ older) → IsHistory second (y ∷ others) → act_line b x older ≡ act_line c y others → x ≡ y
one_act first second b c x y older others h k e =
    let mine = key_cut (next_number older) (today b (x ∷ older)) (key_text x.key) (spelling x.command) (small first x older h) (lacks 9 refl (key_text x.key) (key_printable x.key h.1.sound.key)) in
    let theirs = key_cut (next_number others) (today c (y ∷ others)) (key_text y.key) (spelling y.command) (small second y others k) (lacks 9 refl (key_text y.key) (key_printable y.key k.1.sound.key)) in
    let both = same_Some (key_text x.key, tabbed (spelling x.command)) (key_text y.key, tabbed (spelling y.command)) (sym mine ∙ ap key_and_spelling e ∙ theirs) in
    let keys : x.key ≡ y.key = one_text x.key y.key h.1.sound.key k.1.sound.key (ap (λ (p : List ℕ × List ℕ). p.0) both) in
    let spelled : spelling x.command ≡ spelling y.command =
    sym (untabbed_again (spelling x.command) (spelling_lacks x.command h.1.sound.command)) ∙ ap (λ (p : List ℕ × List ℕ). untabbed p.1) both ∙ untabbed_again (spelling y.command) (spelling_lacks y.command k.1.sound.command) in
    let commands : x.command ≡ y.command = one_spelling x.command y.command h.1.sound.command k.1.sound.command spelled in
    let with_key : Key → Act = λ k. record { key = k; command = x.command } in
    let with_command : Command → Act = λ c. record { key = y.key; command = c } in
    ap with_key keys ∙ ap with_command commands

-- ---- the first line of a text

lacks_of : (s : List ℕ) → IsPart s → Lacks 10 s
lacks_of [] p = tt
lacks_of (c ∷ s) p = (false_from_ne_true (c == 10) (λ hit. All-head (λ b. b ≢ 10) c s p (eqb-true c 10 hit)), lacks_of s (All-tail (λ b. b ≢ 10) c s p))

pub same_line : (a b x y : List ℕ) → IsLine a → IsLine b → a ++ x ≡ b ++ y → (a ≡ b) × (x ≡ y)
same_line a b x y m n e =
    let mine : a ++ x ≡ m.body ++ 10 ∷ x = ap (λ t. t ++ x) m.is ∙ append_assoc m.body (10 ∷ []) x in
    let theirs : b ++ y ≡ n.body ++ 10 ∷ y = ap (λ t. t ++ y) n.is ∙ append_assoc n.body (10 ∷ []) y in
    let two = first_part 10 m.body n.body x y (lacks_of m.body m.one) (lacks_of n.body n.one) (sym mine ∙ e ∙ theirs) in
    (m.is ∙ ap (λ t. t ++ 10 ∷ []) two.0 ∙ sym n.is, two.1)

pub part_no_line : (a rest part : List ℕ) → IsLine a → a ++ rest ≡ part → IsPart part → ⊥
part_no_line a rest part m e p = go m.body (subst IsPart (sym (sym (ap (λ t. t ++ rest) m.is ∙ append_assoc m.body (10 ∷ []) rest) ∙ e)) p)
  where
    go : (s : List ℕ) → IsPart (s ++ 10 ∷ rest) → ⊥
    go [] q = All-head (λ b. b ≢ 10) 10 rest q refl
    go (c ∷ s) q = go s (All-tail (λ b. b ≢ 10) c (s ++ 10 ∷ rest) q)

pub line_not_empty : (a rest : List ℕ) → IsLine a → [] ≡ a ++ rest → ⊥
line_not_empty a rest m e = go m.body (e ∙ ap (λ t. t ++ rest) m.is ∙ append_assoc m.body (10 ∷ []) rest)
  where
    go : (s : List ℕ) → [] ≡ s ++ 10 ∷ rest → ⊥
    go [] e = cc
    go (c ∷ s) e = cc

-- ---- the lines from the first on

-- the acts the oldest first, and then these
abbrev pub onto : List Act → List Act → List Act
onto [] rest = rest
onto (act ∷ newer) rest = onto newer (act ∷ rest)

pub onto_twice : (xs r t : List Act) → onto (onto xs r) t ≡ onto r (xs ++ t)
onto_twice [] r t = refl
onto_twice (x ∷ xs) r t = onto_twice xs (x ∷ r) t

pub onto_again : (xs : List Act) → onto (onto xs []) [] ≡ xs
onto_again xs = onto_twice xs [] [] ∙ append-nil xs

abbrev pub forward : ℤ → (older acts : List Act) → List ℕ
forward begun older [] = []
forward begun older (act ∷ acts) = act_line begun act older ++ forward begun (act ∷ older) acts

forward_onto : (begun : ℤ) (newer older rest : List Act) → forward begun older (onto newer rest) ≡ newer_text begun newer older ++ forward begun (newer ++ older) rest
forward_onto begun [] older rest = refl
forward_onto begun (act ∷ newer) older rest =
    forward_onto begun newer older (act ∷ rest) ∙ sym (append_assoc (newer_text begun newer older) (act_line begun act (newer ++ older)) (forward begun (act ∷ (newer ++ older)) rest))

pub forward_is : (begun : ℤ) (newer older : List Act) → newer_text begun newer older ≡ forward begun older (onto newer [])
forward_is begun newer older = sym (forward_onto begun newer older [] ∙ append-nil (newer_text begun newer older))

pub onto_history : (first : ℤ) (acts older : List Act) → IsHistory first (onto acts older) → IsHistory first older
onto_history first [] older h = h
onto_history first (act ∷ acts) older h = (onto_history first acts (act ∷ older) h).0

-- one text is of one list of acts
same_forward : (first begun : ℤ) (older xs ys : List Act) (rest : List ℕ) → IsHistory first (onto xs older) → IsHistory first (onto ys older) → IsPart rest → forward begun older xs ≡ forward begun older ys ++ rest → xs ≡ ys
same_forward first begun older [] [] rest h k part e = refl
same_forward first begun older [] (y ∷ ys) rest h k part e =
    absurd (line_not_empty (act_line begun y older) (forward begun (y ∷ older) ys ++ rest) (act_is_line first begun y older (onto_history first ys (y ∷ older) k)) (e ∙ append_assoc (act_line begun y older) (forward begun (y ∷ older) ys) rest))
same_forward first begun older (x ∷ xs) [] rest h k part e =
    absurd (part_no_line (act_line begun x older) (forward begun (x ∷ older) xs) rest (act_is_line first begun x older (onto_history first xs (x ∷ older) h)) e part)
same_forward first begun older (x ∷ xs) (y ∷ ys) rest h k part e =
    let mine = onto_history first xs (x ∷ older) h in
    let theirs = onto_history first ys (y ∷ older) k in
    let two = same_line (act_line begun x older) (act_line begun y older) (forward begun (x ∷ older) xs) (forward begun (y ∷ older) ys ++ rest) (act_is_line first begun x older mine) (act_is_line first begun y older theirs)
    (e ∙ append_assoc (act_line begun y older) (forward begun (y ∷ older) ys) rest) in
    let one : x ≡ y = one_act first first begun begun x y older older mine theirs two.0 in
    ap (λ z. z ∷ xs) one ∙ ap (λ zs. y ∷ zs)
    (same_forward first begun (y ∷ older) xs ys rest (subst (λ z. IsHistory first (onto xs (z ∷ older))) one h) k part (subst (λ z. forward begun (z ∷ older) xs ≡ forward begun (y ∷ older) ys ++ rest) one two.1))

pub one_list : (first begun : ℤ) (acts others : List Act) (rest : List ℕ) → IsHistory first acts → IsHistory first others → IsPart rest → newer_text begun acts [] ≡ newer_text begun others [] ++ rest → acts ≡ others
one_list first begun acts others rest h k part e =
    let same = same_forward first begun [] (onto acts []) (onto others []) rest (subst (IsHistory first) (sym (onto_again acts)) h) (subst (IsHistory first) (sym (onto_again others)) k) part
    (sym (forward_is begun acts []) ∙ e ∙ ap (λ t. t ++ rest) (forward_is begun others [])) in
    sym (onto_again acts) ∙ ap (λ l. onto l []) same ∙ onto_again others
