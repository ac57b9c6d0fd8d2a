-- Columns and typed rows under what is done to stored rows.
use Rattle.table_words.proofs.Words.{◌≡◌, inl, inr, ℕ, Bool, true, false, ◌&&◌, bytes_eq, List, [], ◌∷◌, ◌++◌, map, filter, pos, negsuc, ℤ, int_eq, int_cmp, arith, true≢false, subst, refl, sym, ap, ap₂, ◌∙◌, is_eq, Equal, codes, length, get_or, take, ◌+◌, ◌<◌, AllByRecursion, cases_Bool, and_parts, is_eq-slice_cmp, Value, Null, Int, Real, Text, Blob, Row, bytes, class, value_cmp, Binary, value_cmp-Text, value_cmp-Int, value_cmp-apart, bytes_eq-Decides, nat_tests, Decides-eqb, Decides-int_eq, ints, ◌↔◌, nat_eq, nat_le, ◌≤◌, unwrap_or, is_int, map-map, all-append, all_map, all_weaker, take_more, map-append, equal, Compare, Eq, is_true, from_truth, same_lot_id, typed, is_word, is_the_text, is_number, is_count, is_the_number, number_in, flag_number, flag_in, bin_kind_in, is_open_state, order_state_in, card_kind_in, LotId, bin_kind_word, order_state_of, order_state_word, card_kind_word, BinKind, Store, Hold, OrderState, Open, Done, Cancelled, CardKind, Receipt, WriteOn, WriteOff, Shipment}
use Rattle.table_words.proofs.KeyLemmas.{IsSame, ties, same_bytes, itself_bytes, itself_both}
use Rattle.sqlite_sql.specs.Ops.{binary}

-- where all that is shown reads as typed rows, all that is stored does
unmapped : (has is : Row → Bool) (show : Row → Row) → ((r : Row) → has (show r) ≡ is r) → (rows : List Row) → AllByRecursion (λ v. has v ≡ true) (map show rows) → AllByRecursion (λ r. is r ≡ true) rows
unmapped has is show same [] h = tt
unmapped has is show same (r ∷ rows) h = (sym (same r) ∙ h.0, unmapped has is show same rows h.1)

-- the rows shown read as typed ones exactly if the stored ones do
pub both_typed : (has is : Row → Bool) (show : Row → Row) → ((r : Row) → has (show r) ≡ is r) → (stored shown : List Row) → shown ≡ map show stored
    → AllByRecursion (λ r. is r ≡ true) stored ↔ AllByRecursion (λ v. has v ≡ true) shown
both_typed has is show same stored shown are = (
  λ good. subst (AllByRecursion (λ v. has v ≡ true)) (sym are) (all_map (λ v. has v ≡ true) show stored (all_weaker (λ r. is r ≡ true) (λ r. has (show r) ≡ true) (λ r h. same r ∙ h) stored good)),
  λ good. unmapped has is show same stored (subst (AllByRecursion (λ v. has v ≡ true)) are good),
)

module _ {X : Type 0} (is : Row → Bool) (read : Row → X) where
  pub typed-filter : (p : Row → Bool) (q : X → Bool) → ((r : Row) → is r ≡ true → p r ≡ q (read r)) → (rows : List Row) → typed is read (filter p rows) ≡ filter q (typed is read rows)
  typed-filter p q same [] = refl
  typed-filter p q same (r ∷ rows) = let more = typed-filter p q same rows in elim (cases_Bool (is r)) [
    | inl e ↦ elim (cases_Bool (p r)) [
      | inl f ↦ rw (e, f, e, sym (same r e) ∙ f) (ap (λ l. read r ∷ l) more)
      | inr f ↦ rw (e, f, sym (same r e) ∙ f) more
    ]
    | inr e ↦ elim (cases_Bool (p r)) [ inl f ↦ rw (e, f, e) more | inr f ↦ rw (e, f) more ]
  ]

  all_read : (rows : List Row) → AllByRecursion (λ r. is r ≡ true) rows → map read rows ≡ typed is read rows
  all_read [] h = refl
  all_read (r ∷ rows) h = rw h.0 (ap (λ l. read r ∷ l) (all_read rows h.1))

  -- where all that a scan shows read as typed rows, what they read as are the typed rows
  pub shown_typed : (has : Row → Bool) (seen : Row → X) (show : Row → Row) → ((r : Row) → has (show r) ≡ is r) → ((r : Row) → seen (show r) ≡ read r) → (rows found : List Row) (xs : List X) → found ≡ map show rows
      → AllByRecursion (λ v. has v ≡ true) found → map seen found ≡ xs → xs ≡ typed is read rows
  shown_typed has seen show same_has same_seen rows found xs are good xs_are =
      sym xs_are ∙ ap (map seen) are ∙ map-map seen show rows ∙ (λ i. map (λ r. same_seen r i) rows)
      ∙ all_read rows (unmapped has is show same_has rows (subst (AllByRecursion (λ v. has v ≡ true)) are good))

-- what holds of all typed rows holds of those among some of the rows
pub typed_some : {X : Type 0} (P : X → Type 0) (is : Row → Bool) (read : Row → X) (part : Row → Bool) (rows : List Row) → AllByRecursion P (typed is read rows) → AllByRecursion P (typed is read (filter part rows))
typed_some P is read part [] all = tt
typed_some P is read part (r ∷ rows) all = elim (cases_Bool (is r)) [
  | inl typed_one ↦
      let both = rw typed_one at all in
      elim (cases_Bool (part r)) [
        | inl within ↦ rw (within, typed_one) (both.0, typed_some P is read part rows both.1)
        | inr without ↦ rw without (typed_some P is read part rows both.1)
      ]
  | inr untyped ↦
      let others = rw untyped at all in
      elim (cases_Bool (part r)) [
        | inl within ↦ rw (within, untyped) (typed_some P is read part rows others)
        | inr without ↦ rw without (typed_some P is read part rows others)
      ]
]

-- ---- values

pub and_true : (b : Bool) → (b && true) ≡ b
and_true true = refl
and_true false = refl

truth_back : (b : Bool) → is_true (from_truth (Rattle.std.proofs.Common.Some b)) ≡ b
truth_back true = refl
truth_back false = refl

turned : (s t : List ℕ) → bytes_eq s t ≡ bytes_eq t s
turned s t = elim (cases_Bool (bytes_eq s t)) [
  | inl e ↦ e ∙ sym ((bytes_eq-Decides t s).1 (sym ((bytes_eq-Decides s t).0 e)))
  | inr e ↦ elim (cases_Bool (bytes_eq t s)) [
    | inl f ↦ absurd (true≢false (sym ((bytes_eq-Decides s t).1 (sym ((bytes_eq-Decides t s).0 f))) ∙ e))
    | inr f ↦ e ∙ sym f
  ]
]

pub and_assoc : (a b c : Bool) → (a && (b && c)) ≡ ((a && b) && c)
and_assoc true b c = refl
and_assoc false b c = refl

-- SQL's = of a value and a parameter
pub same_word : (rule : List ℕ → Bool) (v w : Value) (t : List ℕ) → is_word rule v ≡ true → w ≡ Text t → is_true (binary (Compare Eq Binary) v w) ≡ bytes_eq t (bytes v)
unfolding binary
same_word rule Null w t h e = absurd cc
same_word rule (Int n) w t h e = absurd cc
same_word rule (Real x) w t h e = absurd cc
same_word rule (Text s) w t h e = rw e (truth_back (is_eq (value_cmp (Text s) (Text t))) ∙ ap is_eq (value_cmp-Text s t) ∙ is_eq-slice_cmp s t ∙ turned s t)
same_word rule (Blob b) w t h e = absurd cc

not_text : (v : Value) (t : List ℕ) → (class v ≡ 2 → ⊥) → is_eq (value_cmp v (Text t)) ≡ false
not_text v t other = ap is_eq (value_cmp-apart v (Text t) other) ∙ grind (arith, nat_tests)

-- the same, whatever the value is
pub equals_text : (v : Value) (t : List ℕ) → is_true (binary (Compare Eq Binary) v (Text t)) ≡ is_the_text t v
unfolding binary
equals_text Null t = refl
equals_text (Int n) t = truth_back _ ∙ not_text (Int n) t (λ e. cc)
equals_text (Real x) t = truth_back _ ∙ not_text (Real x) t (λ e. cc)
equals_text (Text s) t = same_word (λ _. true) (Text s) (Text t) t refl refl
equals_text (Blob b) t = truth_back _ ∙ not_text (Blob b) t (λ e. cc)

same_nats : (a b : ℕ) → is_eq (int_cmp (pos a) (pos b)) ≡ nat_eq b a
same_nats a b = grind (arith, ints, nat_tests)

same_int : (m n : ℕ) → is_true (binary (Compare Eq Binary) (Int (pos m)) (Int (pos n))) ≡ nat_eq n m
unfolding binary
same_int m n = truth_back (is_eq (value_cmp (Int (pos m)) (Int (pos n)))) ∙ ap is_eq (value_cmp-Int (pos m) (pos n)) ∙ same_nats m n

pub same_count : (limit : ℕ) (v w : Value) (n : ℕ) → is_count limit v ≡ true → w ≡ Int (pos n) → is_true (binary (Compare Eq Binary) v w) ≡ nat_eq n (number_in v)
same_count limit (Int (pos m)) w n h e = rw e (same_int m n)
same_count limit v w n h e = absurd cc

-- a number from 1 on is one from 0 on
pub counted : (limit : ℕ) (v : Value) → is_count limit v ≡ true → is_number limit v ≡ true
counted limit (Int (pos n)) h = (and_parts _ _ h).1
counted limit v h = absurd cc

-- where a column is the same in each row, the test is that of the parameter
pub same_the_number : (k : ℕ) (v w : Value) (n : ℕ) → is_the_number k v ≡ true → w ≡ Int (pos n) → is_true (binary (Compare Eq Binary) v w) ≡ nat_eq n k
same_the_number k (Int (pos m)) w n h e = rw e (same_int m n ∙ ap (nat_eq n) (sym ((Decides-eqb k m).0 h)))
same_the_number k v w n h e = absurd cc

negative : (m n : ℕ) → is_eq (int_cmp (negsuc m) (pos n)) ≡ false
negative m n = grind (arith, ints, nat_tests)

negative_int : (m n : ℕ) → is_true (binary (Compare Eq Binary) (Int (negsuc m)) (Int (pos n))) ≡ false
unfolding binary
negative_int m n = truth_back (is_eq (value_cmp (Int (negsuc m)) (Int (pos n)))) ∙ ap is_eq (value_cmp-Int (negsuc m) (pos n)) ∙ negative m n

-- the same, where the value is an integer
pub equals_number : (v : Value) (n : ℕ) → is_int v ≡ true → is_true (binary (Compare Eq Binary) v (Int (pos n))) ≡ is_the_number n v
equals_number (Int (pos m)) n h = same_int m n
equals_number (Int (negsuc m)) n h = negative_int m n
equals_number v n h = absurd cc

pub same_number : IsSame nat_eq
same_number a b = (Decides-eqb a b).0

pub same_day : IsSame int_eq
same_day a b = (Decides-int_eq a b).0

pub itself_number : (a : ℕ) → nat_eq a a ≡ true
itself_number a = (Decides-eqb a a).1 refl

-- a rowid that equals a parameter is it
pub id_is : (v : Value) (d : ℤ) → is_int v ≡ true → equal Binary v (Int d) ≡ true → v ≡ Int d
id_is (Int n) d h e = let tie : int_cmp n d ≡ Equal = sym (value_cmp-Int n d) ∙ (ties (Int n) (Int d) e).0 in ap Int (grind (arith, ints))
id_is v d h e = absurd cc

eta_lot : (a b : LotId) → a.gtin ≡ b.gtin → a.lot ≡ b.lot → a ≡ b
eta_lot a b g l = λ i. let r : LotId = record { gtin = g i; lot = l i } in r

pub same_lots : IsSame same_lot_id
same_lots a b h = let p = and_parts _ _ h in eta_lot a b (same_bytes a.gtin b.gtin p.0) (same_bytes a.lot b.lot p.1)

pub itself_lot : (a : LotId) → same_lot_id a a ≡ true
itself_lot a = itself_both _ _ (itself_bytes a.gtin) (itself_bytes a.lot)

-- ---- what is written reads back

pub at_most : (n limit : ℕ) → n ≤ limit → nat_le n limit ≡ true
at_most n limit h = grind (arith, nat_tests)

pub flag_back : (b : Bool) → flag_in (Int (pos (flag_number b))) ≡ b
flag_back true = refl
flag_back false = refl

pub bin_kind_back : (k : BinKind) → bin_kind_in (Text (bin_kind_word k)) ≡ k
bin_kind_back Store = refl
bin_kind_back Hold = refl

pub order_state_back : (s : OrderState) → order_state_in (Text (order_state_word s)) ≡ s
order_state_back Open = refl
order_state_back Done = refl
order_state_back Cancelled = refl

-- the word of open orders tells which are open
open_word : (t : List ℕ) → bytes_eq (codes "OPEN") t ≡ is_open_state (unwrap_or (order_state_of t) Cancelled)
open_word t = turned (codes "OPEN") t ∙ elim (cases_Bool (bytes_eq t (codes "OPEN"))) [
  | inl e ↦ rw e refl
  | inr e ↦ rw e (elim (cases_Bool (bytes_eq t (codes "DONE"))) [
    | inl f ↦ rw f refl
    | inr f ↦ rw f (elim (cases_Bool (bytes_eq t (codes "CANCELLED"))) [ inl h ↦ rw h refl | inr h ↦ rw h refl ])
  ])
]

pub open_is : (v : Value) → bytes_eq (codes "OPEN") (bytes v) ≡ is_open_state (order_state_in v)
open_is v = open_word (bytes v)

pub card_kind_back : (k : CardKind) → card_kind_in (Text (card_kind_word k)) ≡ k
card_kind_back Receipt = refl
card_kind_back WriteOn = refl
card_kind_back WriteOff = refl
card_kind_back Shipment = refl

-- ---- one row more of those that were read

pub one_more : {X : Type 0} (has : Row → Bool) (read : Row → X) (rows : List Row) (i : ℕ) (row : Row) (x : X) (xs : List X) → i < length rows → row ≡ get_or rows i row → has row ≡ true → read row ≡ x
    → AllByRecursion (λ v. has v ≡ true) (take i rows) × (map read (take i rows) ≡ xs) → AllByRecursion (λ v. has v ≡ true) (take (i + 1) rows) × (map read (take (i + 1) rows) ≡ xs ++ x ∷ [])
one_more has read rows i row x xs low is good reads done =
    let next : take (i + 1) rows ≡ take i rows ++ row ∷ [] = take_more rows i row low ∙ ap (λ r. take i rows ++ r ∷ []) (sym is) in (
      subst (AllByRecursion (λ v. has v ≡ true)) (sym next) (all-append (λ v. has v ≡ true) (take i rows) (row ∷ []) done.0 (good, tt)),
      ap (map read) next ∙ map-append read (take i rows) (row ∷ []) ∙ ap₂ (λ l y. l ++ y ∷ []) done.1 reads,
    )
