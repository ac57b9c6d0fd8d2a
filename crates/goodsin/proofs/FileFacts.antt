-- What the first records of a file, and all of them, make of its reading.
use Rattle.goodsin.proofs.Words.{◌≡◌, ◌∙◌, ◌+◌, ◌-◌, ◌≤◌, ◌∷◌, ◌++◌, [], ℕ, zero, suc, ℤ, List, Option, Some, None, Bool, true, false, if◌then◌else◌, length, sym, ap, refl, arith, append_assoc, Result, Ok, Err, Key, Command, State, before, file_read, file_records, row_read, rows_read, AreAll, Begins, HasOther, Fields, is_header, Header}
use Rattle.std.proofs.lemmas.List.{append-nil}
use Rattle.csv.specs.Machine.{Read, ends_at_end, field_after, fields_after, is_end, next_record, step}
use Rattle.csv.specs.Reading.{Reached, default_config, records_from, strip_bom}
use Rattle.csv.specs.declared.parser.Config.{Config}
use Rattle.csv.specs.declared.parser.State.TheVariants as st
use Rattle.goodsin.specs.declared.fault.FileFault.{FileFault}

none_some : (p : Read) → ◌≡◌ {A = _} None (Some p) → ⊥
none_some p e = cc e

some_same : (p q : Read) → Some p ≡ Some q → p ≡ q
some_same p q e = cc e

at_end : (cfg : Config) (s : State) (fields : Fields) (field : List ℕ) (p : Read) → next_record cfg s fields field [] ≡ Some p → (p.1 ≡ st.StartRecord) × (p.2 ≡ [])
unfolding next_record
at_end cfg s fields field p e = by (ends_at_end s) e
  where
    by : (b : Bool) → (if b then Some (fields ++ (field ∷ []), st.StartRecord, []) else None) ≡ Some p → (p.1 ≡ st.StartRecord) × (p.2 ≡ [])
    by true e = let one = some_same _ _ e in rw (← one) (refl, refl)
    by false e = absurd (none_some p e)

-- a record takes no more bytes than there are
takes_some : (cfg : Config) (s : State) (fields : Fields) (field : List ℕ) (xs : List ℕ) (p : Read)
    → next_record cfg s fields field xs ≡ Some p → length p.2 ≤ length xs
unfolding next_record
takes_some cfg s fields field [] p e = let last = at_end cfg s fields field p e in rw (last.1) (omega arith)
takes_some cfg s fields field (c ∷ xs) p e =
    by (is_end (step cfg s c).1) e (takes_some cfg (step cfg s c).0 (fields_after (step cfg s c).1 fields field) (field_after (step cfg s c).1 c field) xs p)
  where
    by : (b : Bool)
        → (if b then Some (fields_after (step cfg s c).1 fields field, (step cfg s c).0, xs)
        else next_record cfg (step cfg s c).0 (fields_after (step cfg s c).1 fields field) (field_after (step cfg s c).1 c field) xs) ≡ Some p
        → (next_record cfg (step cfg s c).0 (fields_after (step cfg s c).1 fields field) (field_after (step cfg s c).1 c field) xs ≡ Some p → length p.2 ≤ length xs)
        → length p.2 ≤ length (c ∷ xs)
    by true e more = let one = some_same _ _ e in rw (← one) (omega arith)
    by false e more = let size = more e in omega arith

-- and one of them, where there are any
takes : (cfg : Config) (s : State) (fields : Fields) (field : List ℕ) (c : ℕ) (xs : List ℕ) (p : Read)
    → next_record cfg s fields field (c ∷ xs) ≡ Some p → length p.2 ≤ length xs
unfolding next_record
takes cfg s fields field c xs p e =
    by (is_end (step cfg s c).1) e (takes_some cfg (step cfg s c).0 (fields_after (step cfg s c).1 fields field) (field_after (step cfg s c).1 c field) xs p)
  where
    by : (b : Bool)
        → (if b then Some (fields_after (step cfg s c).1 fields field, (step cfg s c).0, xs)
        else next_record cfg (step cfg s c).0 (fields_after (step cfg s c).1 fields field) (field_after (step cfg s c).1 c field) xs) ≡ Some p
        → (next_record cfg (step cfg s c).0 (fields_after (step cfg s c).1 fields field) (field_after (step cfg s c).1 c field) xs ≡ Some p → length p.2 ≤ length xs)
        → length p.2 ≤ length xs
    by true e more = let one = some_same _ _ e in rw (← one) (omega arith)
    by false e more = more e

-- behind the end of the text there is no record
nothing : (cfg : Config) → next_record cfg st.StartRecord [] [] [] ≡ None
unfolding next_record
nothing cfg = refl

-- a text has at most one record more than bytes
few : (cfg : Config) (s s2 : State) (xs ys : List ℕ) (rows : List Fields) → Reached cfg s xs rows s2 ys → length rows ≤ length xs + 1
unfolding Reached
few cfg s s2 xs ys [] h = omega arith
few cfg s s2 (c ∷ xs) ys (r ∷ rows) h =
    let size = takes cfg s [] [] c xs h.0 h.1 in
    let rest = few cfg h.0.1 s2 h.0.2 ys rows h.3 in
    omega arith
few cfg s s2 [] ys (r ∷ []) h = omega arith
few cfg s s2 [] ys (r ∷ q ∷ rows) h =
    let last = at_end cfg s [] [] h.0 h.1 in
    let next = rw (last.0, last.1) at h.3.1 in
    absurd (none_some h.3.0 (sym (nothing cfg) ∙ next))

-- the first records, and those behind them
from_reached : (cfg : Config) (n k : ℕ) (s s2 : State) (xs ys : List ℕ) (rows : List Fields) → Reached cfg s xs rows s2 ys → n ≡ length rows + k
    → records_from cfg n s xs ≡ rows ++ records_from cfg k s2 ys
unfolding Reached records_from
from_reached cfg n k s s2 xs ys [] h e = let same : n ≡ k = omega arith in rw (same, h.0, h.1) refl
from_reached cfg zero k s s2 xs ys (r ∷ rows) h e = absurd (omega arith)
from_reached cfg (suc n) k s s2 xs ys (r ∷ rows) h e =
    let less : n ≡ length rows + k = omega arith in
    let rest = from_reached cfg n k h.0.1 s2 h.0.2 ys rows h.3 less in
    rw (h.1, h.2, rest) refl

no_more : (cfg : Config) (k : ℕ) (s : State) (ys : List ℕ) → next_record cfg s [] [] ys ≡ None → records_from cfg k s ys ≡ []
unfolding records_from
no_more cfg zero s ys e = refl
no_more cfg (suc k) s ys e = rw e refl

-- the records of a text whose first ones are known
pub begins-records : (text : List ℕ) (rows : List Fields) → Begins text rows → (rest : List Fields) × (file_records text ≡ rows ++ rest)
begins-records text rows h =
    let size = few default_config st.StartRecord h.0 (strip_bom text) h.1 rows h.2 in
    let all : length (strip_bom text) + 1 ≡ length rows + (length (strip_bom text) + 1 - length rows) = omega arith in
    (_, from_reached default_config _ _ st.StartRecord h.0 (strip_bom text) h.1 rows h.2 all)

-- and of one whose records are all known
pub all-records : (text : List ℕ) (rows : List Fields) → AreAll text rows → file_records text ≡ rows
all-records text rows h =
    let size = few default_config st.StartRecord h.0 (strip_bom text) h.1 rows h.2 in
    let all : length (strip_bom text) + 1 ≡ length rows + (length (strip_bom text) + 1 - length rows) = omega arith in
    let whole = from_reached default_config _ _ st.StartRecord h.0 (strip_bom text) h.1 rows h.2 all in
    whole ∙ rw (no_more default_config (length (strip_bom text) + 1 - length rows) h.0 h.1 h.3) (append-nil rows)

-- rows, and what those behind them read as
abbrev joined : {X : Type 0} → List X → Result (List X) FileFault → Result (List X) FileFault
joined xs (Err fault) = Err fault
joined xs (Ok ys) = Ok (xs ++ ys)

joined-nil : {X : Type 0} (r : Result (List X) FileFault) → joined [] r ≡ r
joined-nil (Err fault) = refl
joined-nil (Ok ys) = refl

before-joined : {X : Type 0} (x : X) (xs : List X) (r : Result (List X) FileFault) → before (Ok x) (joined xs r) ≡ joined (x ∷ xs) r
before-joined x xs (Err fault) = refl
before-joined x xs (Ok ys) = refl

before-ok : {X : Type 0} (a : Result X FileFault) (b : Result (List X) FileFault) (rs : List X) → before a b ≡ Ok rs
    → (x : X) × (xs : List X) × (a ≡ Ok x) × (b ≡ Ok xs) × (rs ≡ x ∷ xs)
before-ok (Err fault) b rs e = cc e
before-ok (Ok x) (Err fault) rs e = cc e
before-ok (Ok x) (Ok xs) rs e = (x, xs, refl, refl, cc e)

one-more : {X : Type 0} (x : X) (xs : List X) (a : Result X FileFault) (b r : Result (List X) FileFault) (rs : List X) (r2 : Result (List X) FileFault)
    → a ≡ Ok x → b ≡ joined xs r → rs ≡ x ∷ xs → r ≡ r2 → before a b ≡ joined rs r2
one-more x xs a b r rs r2 first next are same = rw (first, next, are, same) (before-joined x xs r2)

-- the receipts of a file's rows
abbrev Rows : Type 0
Rows = List (Key × Command)

-- sound rows, and those behind them
rows-more : (today : ℤ) (row : ℕ) (fs gs : List Fields) (rs : Rows) → rows_read today row fs ≡ Ok rs
    → rows_read today row (fs ++ gs) ≡ joined rs (rows_read today (row + length fs) gs)
rows-more today row [] gs rs e =
    let none : rs ≡ [] = cc e in
    let at : row + 0 ≡ row = omega arith in
    rw (none, at) (sym (joined-nil (rows_read today row gs)))
rows-more today row (f ∷ fs) gs rs e =
    let (x, xs, first, rest, are) = before-ok (row_read today row f) (rows_read today (row + 1) fs) rs e in
    let next = rows-more today (row + 1) fs gs xs rest in
    let at : row + 1 + length fs ≡ row + length (f ∷ fs) = omega arith in
    one-more x xs (row_read today row f) _ (rows_read today (row + 1 + length fs) gs) rs _ first next are (ap (λ n. rows_read today n gs) at)

-- one more sound row
pub row-more : (today : ℤ) (row : ℕ) (fs : List Fields) (f : Fields) (rs : Rows) (r : Key × Command) → rows_read today 1 fs ≡ Ok rs
    → row ≡ 1 + length fs → row_read today row f ≡ Ok r → rows_read today 1 (fs ++ f ∷ []) ≡ Ok (rs ++ r ∷ [])
row-more today row fs f rs r e at is = rows-more today 1 fs (f ∷ []) rs e ∙ rw (← at, is) refl

-- the end of a file whose rows are sound
pub file-end : (today : ℤ) (text : List ℕ) (h : Fields) (fs : List Fields) (rs : Rows) → AreAll text (h ∷ fs) → is_header h ≡ true
    → rows_read today 1 fs ≡ Ok rs → file_read today text ≡ Ok rs
file-end today text h fs rs all header e = rw (all-records text (h ∷ fs) all, header) e

-- the first row that is not sound
pub file-fault : (today : ℤ) (text : List ℕ) (h : Fields) (fs : List Fields) (f : Fields) (rs : Rows) (row : ℕ) (fault : FileFault)
    → Begins text ((h ∷ fs) ++ f ∷ []) → is_header h ≡ true → rows_read today 1 fs ≡ Ok rs → row ≡ 1 + length fs → row_read today row f ≡ Err fault
    → file_read today text ≡ Err fault
file-fault today text h fs f rs row fault begins header e at is =
    let (rest, are) = begins-records text ((h ∷ fs) ++ f ∷ []) begins in
    let whole : file_records text ≡ h ∷ (fs ++ (f ∷ rest)) = are ∙ ap (λ (t : List Fields). h ∷ t) (append_assoc fs (f ∷ []) rest) in
    let tail = rows-more today 1 fs (f ∷ rest) rs e in
    rw (whole, header, tail, ← at, is) refl

-- no record, and a first one that is no header
pub no-header : (today : ℤ) (text : List ℕ) → AreAll text [] → file_read today text ≡ Err Header
no-header today text all = rw (all-records text [] all) refl

pub other-header : (today : ℤ) (text : List ℕ) (h : Fields) → Begins text (h ∷ []) → is_header h ≡ false → file_read today text ≡ Err Header
other-header today text h begins other =
    let (rest, are) = begins-records text (h ∷ []) begins in
    rw (are, other) refl

-- where the reader expects no length, no length is another
pub unexpected : {P : Type 0} (expected : Option ℕ) (text : List ℕ) (rows : List Fields) → expected ≡ None → HasOther text rows expected → P
unexpected expected text rows none h = let some : ◌≡◌ {A = Option ℕ} None (Some h.0) = sym none ∙ h.2 in cc some
