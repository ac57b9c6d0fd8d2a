-- The lines of a lot's card stand by act, at most one of an act.
use Rattle.queries.proofs.Words.{◌≡◌, ◌<◌, ℕ, ◌+◌, ◌-◌, suc, true, false, List, [], ◌∷◌, ◌++◌, filter, flat_map, reverse, inl, inr, refl, sym, ap, ap₂, ◌∙◌, subst, append_assoc, append-nil, arith, ℤ, pos, negsuc, neg_ℤ, decimal, ◌==◌, ◌⊎◌, nat_eq, AllByRecursion, list_any, cases_Bool, nat_tests, reverse-append, IsPermutation-reverse, IsPermutation-sym, IsAscending, all-append, all_weaker, ascending-append, LotId, Command, Receive, Move, Count, Adjust, Pick, Unpick, Ship, Hold, Recall, OpenDay, Least, CardKind, Receipt, WriteOn, WrittenOff, Shipment, CardRow, Act, next_number, Place, Supplier, InBin, Stage, Shipped, WriteOff, Posting, balance, is_bin, is_lot, is_stage, KnownLot, lots, orders, shipments_so_far, today, posting, correction, written, cleared, shipped_off, returned, posted, postings, made_unshippable, cards, card_line, card_lines, delivery_note, lot_units_in_house, card_row, tables_of, card_of_lot, or_none, is_lot_is, AreApart, filter_appended, same_known, lots_apart, returned_has_no_line, same_number, itself_number, AreCardLines, AreInOrder, few_with_key, found_alike, found_wanted}

-- none, or one of this act
abbrev pub IsOne : ℕ → List CardRow → Type 0
IsOne n rows = (rows ≡ []) ⊎ ((c : CardRow) × (rows ≡ c ∷ []) × (c.act ≡ n))

-- ---- the lines of one act

module _ (first : ℤ) (act : Act) (before : List Act) (l : LotId) where
  abbrev lines : Posting → Place → Place → List CardRow
  lines p from to = card_lines first act before p from to

  abbrev all_lines : List Posting → List CardRow
  all_lines qs = flat_map (λ p. lines p p.from p.to) qs

  abbrev own : List CardRow → List CardRow
  own rows = filter (λ c. is_lot l c.lot) rows

  abbrev IsLine : Posting → List CardRow → Type 0
  IsLine p rows = (rows ≡ []) ⊎ ((c : CardRow) × (rows ≡ c ∷ []) × (c.act ≡ p.act) × (c.lot ≡ p.lot))

  told : (p : Posting) (kind : CardKind) (note : List ℕ) (q : ℤ) → IsLine p (card_line first act before p kind note q)
  told p kind note q = inr (record { lot = p.lot; act = p.act; day = today first (act ∷ before); kind = kind; note = note; qty = q; rest = lot_units_in_house first (act ∷ before) p.lot }, refl, refl, refl)

  line : (p : Posting) (from to : Place) → IsLine p (lines p from to)
  line p Supplier (InBin b) = told p Receipt (delivery_note act.key) (pos p.qty)
  line p WriteOff (InBin b) = told p WriteOn b (pos p.qty)
  line p (InBin b) WriteOff = told p WrittenOff b (neg_ℤ (pos p.qty))
  line p (Stage o) (Shipped n u) = told p Shipment (decimal n) (neg_ℤ (pos p.qty))
  line p _ _ = inl refl

  own_line : (p : Posting) (rows : List CardRow) → IsLine p rows → IsOne p.act (own (rows ++ []))
  own_line p rows (inl none) = inl (rw none refl)
  own_line p rows (inr it) =
      let is = it.1 in
      elim (cases_Bool (is_lot l it.0.lot)) [
        | inl e ↦ inr (it.0, rw (is, e) refl, it.2)
        | inr e ↦ inl (rw (is, e) refl)
      ]

  -- a line of another lot is not one of the lot's own
  other_line : (p : Posting) (rows : List CardRow) → is_lot l p.lot ≡ false → IsLine p rows → own (rows ++ []) ≡ []
  other_line p rows e (inl none) = rw none refl
  other_line p rows e (inr it) =
      let is = it.1 in
      let other : is_lot l it.0.lot ≡ false = ap (is_lot l) it.3 ∙ e in
      rw (is, other) refl

  of_posting : (n : ℕ) (m : LotId) (from to : Place) (q : ℕ) → IsOne n (own (all_lines (posting n m from to q)))
  of_posting n m from to q = elim (cases_Bool (q == 0)) [
    | inl e ↦ inl (rw e refl)
    | inr e ↦ rw e (let p : Posting = record { act = n; lot = m; from = from; to = to; qty = q } in own_line p (lines p from to) (line p from to))
  ]

  of_other : (n : ℕ) (m : LotId) (from to : Place) (q : ℕ) → is_lot l m ≡ false → own (all_lines (posting n m from to q)) ≡ []
  of_other n m from to q other = elim (cases_Bool (q == 0)) [
    | inl e ↦ rw e refl
    | inr e ↦ rw e (let p : Posting = record { act = n; lot = m; from = from; to = to; qty = q } in other_line p (lines p from to) other (line p from to))
  ]

  lines_appended : (qs rs : List Posting) → all_lines (qs ++ rs) ≡ all_lines qs ++ all_lines rs
  lines_appended [] rs = refl
  lines_appended (q ∷ qs) rs = ap (λ xs. lines q q.from q.to ++ xs) (lines_appended qs rs) ∙ sym (append_assoc (lines q q.from q.to) (all_lines qs) (all_lines rs))

  own_appended : (qs rs : List Posting) → own (all_lines (qs ++ rs)) ≡ own (all_lines qs) ++ own (all_lines rs)
  own_appended qs rs = ap own (lines_appended qs rs) ∙ filter_appended (λ (c : CardRow). is_lot l c.lot) (all_lines qs) (all_lines rs)

  first_alone : (n : ℕ) (xs ys : List CardRow) → IsOne n xs → ys ≡ [] → IsOne n (xs ++ ys)
  first_alone n xs ys one none = subst (λ zs. IsOne n (xs ++ zs)) (sym none) (subst (IsOne n) (sym (append-nil xs)) one)

  second_alone : (n : ℕ) (xs ys : List CardRow) → xs ≡ [] → IsOne n ys → IsOne n (xs ++ ys)
  second_alone n xs ys none one = subst (λ zs. IsOne n (zs ++ ys)) (sym none) one

  of_correction : (n : ℕ) (m : LotId) (b : List ℕ) (have found : ℕ) → IsOne n (own (all_lines (correction n m b have found)))
  of_correction n m b have found =
      let up = posting n m WriteOff (InBin b) (found - have) in
      let down = posting n m (InBin b) WriteOff (have - found) in
      subst (IsOne n) (sym (own_appended up down)) (elim (cases_Bool (found - have == 0)) [
        | inl e ↦ second_alone n (own (all_lines up)) (own (all_lines down)) (rw e refl) (of_posting n m (InBin b) WriteOff (have - found))
        | inr e ↦ first_alone n (own (all_lines up)) (own (all_lines down)) (of_posting n m WriteOff (InBin b) (found - have)) (let none : (have - found == 0) ≡ true = grind (arith, nat_tests) in rw none refl)
      ])

  of_written : (n : ℕ) (m : LotId) (b : List ℕ) (change : ℤ) → IsOne n (own (all_lines (written n m b change)))
  of_written n m b (pos k) = of_posting n m WriteOff (InBin b) k
  of_written n m b (negsuc k) = of_posting n m (InBin b) WriteOff (suc k)

  module _ (n number : ℕ) (o : List ℕ) (ps : List Posting) where
    abbrev staged : LotId → List Posting
    staged m = cleared n ps (Shipped number o) o m

    none_shipped : (ks : List KnownLot) → list_any (λ k. is_lot l k.lot) ks ≡ false → own (all_lines (shipped_off n number o ks ps)) ≡ []
    none_shipped [] none = refl
    none_shipped (k ∷ ks) none =
        let two = or_none (is_lot l k.lot) (list_any (λ k. is_lot l k.lot) ks) none in
        own_appended (staged k.lot) (shipped_off n number o ks ps)
        ∙ ap₂ ◌++◌ (of_other n k.lot (Stage o) (Shipped number o) (balance (is_stage o) (is_lot k.lot) ps) two.0) (none_shipped ks two.1)

    of_shipped : (ks : List KnownLot) → AreApart same_known ks → IsOne n (own (all_lines (shipped_off n number o ks ps)))
    of_shipped [] apart = inl refl
    of_shipped (k ∷ ks) apart =
        subst (IsOne n) (sym (own_appended (staged k.lot) (shipped_off n number o ks ps))) (elim (cases_Bool (is_lot l k.lot)) [
          | inl e ↦
              first_alone n (own (all_lines (staged k.lot))) (own (all_lines (shipped_off n number o ks ps))) (of_posting n k.lot (Stage o) (Shipped number o) (balance (is_stage o) (is_lot k.lot) ps))
              (none_shipped ks (subst (λ (m : LotId). list_any (λ (j : KnownLot). is_lot m j.lot) ks ≡ false) (sym (is_lot_is l k.lot e)) apart.0))
          | inr e ↦ second_alone n (own (all_lines (staged k.lot))) (own (all_lines (shipped_off n number o ks ps))) (of_other n k.lot (Stage o) (Shipped number o) (balance (is_stage o) (is_lot k.lot) ps) e) (of_shipped ks apart.1)
        ])

  none_back : (ks : List KnownLot) (ps : List Posting) → own (all_lines (returned (next_number before) ks (orders before) ps)) ≡ []
  none_back ks ps = ap own (returned_has_no_line (next_number before) (orders before) ps first act before ks)

  pub one_line : (ps : List Posting) (c : Command) → IsOne (next_number before) (own (all_lines (posted first act before ps c)))
  one_line ps (Receive r) = of_posting (next_number before) r.lot Supplier (InBin r.bin) r.qty
  one_line ps (Move m) = of_posting (next_number before) m.lot (InBin m.from) (InBin m.to) m.qty
  one_line ps (Count c) = of_correction (next_number before) c.lot c.bin (balance (is_bin c.bin) (is_lot c.lot) ps) c.qty
  one_line ps (Adjust a) = of_written (next_number before) a.lot a.bin a.change
  one_line ps (Pick p) = of_posting (next_number before) p.lot (InBin p.bin) (Stage p.order) p.qty
  one_line ps (Unpick p) = of_posting (next_number before) p.lot (Stage p.order) (InBin p.bin) p.qty
  one_line ps (Ship o) = of_shipped (next_number before) (shipments_so_far first before + 1) o ps (lots before) (lots_apart before)
  one_line ps (Hold m) = inl (none_back (made_unshippable first act before) ps)
  one_line ps (Recall m) = inl (none_back (made_unshippable first act before) ps)
  one_line ps (OpenDay day) = inl (none_back (made_unshippable first act before) ps)
  one_line ps (Least asked) = inl (none_back (made_unshippable first act before) ps)
  one_line ps _ = inl refl

-- ---- the lines of all acts

module _ (first : ℤ) (l : LotId) where
  abbrev of_lot : List Act → List CardRow
  of_lot acts = filter (λ c. is_lot l c.lot) (cards first acts)

  -- the newest first, and each of an act so far
  abbrev Falls : ℕ → List CardRow → Type 0
  Falls n rows = IsAscending (λ (a b : CardRow). b.act < a.act) rows × AllByRecursion (λ (c : CardRow). c.act < n) rows

  more : (n m : ℕ) (new old : List CardRow) → n < m → IsOne n new → Falls n old → Falls m (new ++ old)
  more n m new old low (inl none) h = subst (λ xs. Falls m (xs ++ old)) (sym none) (h.0, all_weaker _ (λ (c : CardRow). c.act < m) (λ c less. omega arith) old h.1)
  more n m new old low (inr it) h =
      let number = it.2 in
      subst (λ xs. Falls m (xs ++ old)) (sym it.1) (
        (all_weaker _ (λ (b : CardRow). b.act < it.0.act) (λ b less. omega (arith, number)) old h.1, h.0),
        (omega (arith, number), all_weaker _ (λ (b : CardRow). b.act < m) (λ b less. omega arith) old h.1),
      )

  falling : (acts : List Act) → Falls (next_number acts) (of_lot acts)
  falling [] = (tt, tt)
  falling (act ∷ before) =
      subst (Falls (next_number (act ∷ before))) (sym (filter_appended (λ (c : CardRow). is_lot l c.lot) (all_lines first act before l (posted first act before (postings first before) act.command)) (cards first before)))
      (more (next_number before) (next_number (act ∷ before)) (own first act before l (all_lines first act before l (posted first act before (postings first before) act.command))) (of_lot before) (omega arith)
      (one_line first act before l (postings first before) act.command) (falling before))

  turned : (rows : List CardRow) → IsAscending (λ (a b : CardRow). b.act < a.act) rows → IsAscending (λ (a b : CardRow). a.act < b.act) (reverse rows)
  turned [] down = tt
  turned (row ∷ rows) down =
      subst (IsAscending (λ (a b : CardRow). a.act < b.act)) (sym (reverse-append (row ∷ []) rows))
      (ascending-append (λ (a b : CardRow). a.act < b.act) (reverse rows) (row ∷ []) (turned rows down.1) (tt, tt) (below rows down.0))
    where
      below : (xs : List CardRow) → AllByRecursion (λ (b : CardRow). b.act < row.act) xs → AllByRecursion (λ (a : CardRow). AllByRecursion (λ (b : CardRow). a.act < b.act) (row ∷ [])) (reverse xs)
      below [] low = tt
      below (x ∷ xs) low =
          subst (AllByRecursion (λ (a : CardRow). AllByRecursion (λ (b : CardRow). a.act < b.act) (row ∷ []))) (sym (reverse-append (x ∷ []) xs))
          (all-append (λ (a : CardRow). AllByRecursion (λ (b : CardRow). a.act < b.act) (row ∷ [])) (reverse xs) (x ∷ []) (below xs low.1) ((low.0, tt), tt))

  -- by act, as the look-ups find them
  pub card_in_order : (acts : List Act) → AreInOrder nat_eq (λ n m. n < m) (λ (c : CardRow). c.act) (card_row first acts l) (card_of_lot first acts l)
  card_in_order acts =
      let rises = turned (of_lot acts) (falling acts).0 in record {
        found = λ n.
            found_alike (λ (c : CardRow). nat_eq n c.act) (reverse (of_lot acts)) (of_lot acts) (IsPermutation-sym _ _ (IsPermutation-reverse (of_lot acts)))
            (few_with_key nat_eq same_number itself_number (λ n m. n < m) (λ k low. omega arith) (λ i j k p q. omega arith) (λ (c : CardRow). c.act) n (reverse (of_lot acts)) rises)
            ∙ found_wanted (λ (c : CardRow). is_lot l c.lot) (λ (c : CardRow). nat_eq n c.act) (cards first acts);
        rises = rises;
      }

-- the lines of a lot's card are what the tables have of it
pub card_lines_of : (first : ℤ) (acts : List Act) (l : LotId) → AreCardLines (tables_of first acts) l (card_of_lot first acts l)
unfolding tables_of
card_lines_of first acts l = card_in_order first l acts
