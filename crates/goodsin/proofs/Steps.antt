-- What one read adds to the records behind which a reader stands.
use Rattle.goodsin.proofs.Words.{◌≡◌, ◌≢◌, ◌∷◌, ◌++◌, [], ℕ, List, Option, Some, None, IfSome, option_map, true, false, sym, refl, State, Begins, HasOther, Stands, fault_of, Fields, Length, Memory, Reader as ReaderFault}
use Rattle.csv.specs.Machine.{Read}
use Rattle.csv.specs.Reading.{ExplainsRead, NextIs, Reached, ReadsNext, ReadRecord, default_config, expected_len, pending_of, reader_config, reader_state, source_of, strip_bom}
use Rattle.csv.specs.declared.error.ErrorKind.{ErrorKind}
use Rattle.csv.specs.declared.error.ErrorKind.TheVariants as kind
use Rattle.csv.specs.declared.parser.State.TheVariants as st
use Rattle.csv.specs.declared.reader.Reader.{Reader}
use Rattle.csv.proofs.ReadFacts.{reached-more, rows-more}

next_is : (o : Option Read) (f : Fields) (s : State) (z : List ℕ) → NextIs o true f s z → (p : Read) × (o ≡ Some p) × (p.0 ≡ f)
next_is None f s z n = cc n
next_is (Some p) f s z n = (p, refl, sym n.1)

took : (a b : State) (y : List ℕ) (text : List ℕ) (rows : List Fields) (f : Fields) (k : Option (List ℕ))
    → ReadsNext default_config a (Some y) k true f b → Reached default_config st.StartRecord (strip_bom text) rows a y → Begins text (rows ++ f ∷ [])
took a b y text rows f None r h = absurd r
took a b y text rows f (Some z) r h =
    let (p, is, same) = next_is _ f b z r in
    let whole = reached-more default_config st.StartRecord a (strip_bom text) y rows p h is in
    (p.1, p.2, rw same at whole)

-- a record that was read is the next one
pub more : {R : Type 0} (rem : R → Option (List ℕ)) (a b : Reader R) (f : Fields) (text : List ℕ) (rows : List Fields)
    → reader_config a ≡ default_config → ReadRecord rem a b true f → Stands rem text rows a → Stands rem text (rows ++ f ∷ []) b
more rem a b f text rows config r h = rows-more rem a b f default_config st.StartRecord (strip_bom text) h.0 rows config h.1 h.2 r

-- an error that is neither of the reader nor of memory comes of the next record's length
pub other : {R : Type 0} (rem : R → Option (List ℕ)) (a b : Reader R) (k : ErrorKind) (text : List ℕ) (rows : List Fields)
    → reader_config a ≡ default_config → ExplainsRead rem a b false k → fault_of k ≢ ReaderFault → fault_of k ≢ Memory → Stands rem text rows a
    → (fault_of k ≡ Length) × HasOther text rows (expected_len a)
other rem a b (kind.UnequalLengths pos expected len) text rows config why reader memory h =
    let t = took a.state b.state h.0 text rows why.3 (pending_of (rem b.rdr) b) (rw (config, h.1) at why.4) h.2 in
    (refl, (expected, why.3, why.1, rw (why.5) why.2, t))
other rem a b (kind.Io e) text rows config why reader memory h = absurd (reader refl)
other rem a b (kind.Utf8 pos err) text rows config why reader memory h = absurd (memory refl)
other rem a b kind.OutOfMemory text rows config why reader memory h = absurd (memory refl)
other rem a b (kind.Serialize e) text rows config why reader memory h = absurd (memory refl)
other rem a b (kind.Deserialize pos err) text rows config why reader memory h = absurd (memory refl)

-- before the first record
pub start : {R : Type 0} (rem : R → Option (List ℕ)) (k : Option (List ℕ)) (a : Reader R) → source_of rem a ≡ option_map strip_bom k → reader_state a ≡ st.StartRecord
    → IfSome k (λ text. Stands rem text [] a)
unfolding Reached
start rem None a source state = tt
start rem (Some text) a source state = (strip_bom text, source, (sym state, refl))

-- where a reader stands, its text begins
pub begun : {R : Type 0} (rem : R → Option (List ℕ)) (text : List ℕ) (rows : List Fields) (a : Reader R) → Stands rem text rows a → Begins text rows
begun rem text rows a h = (reader_state a, h.0, h.2)

-- a fact of known bytes gives another
pub on_known : (k : Option (List ℕ)) (P Q : List ℕ → Type 0) → ((text : List ℕ) → P text → Q text) → IfSome k P → IfSome k Q
on_known None P Q f h = tt
on_known (Some text) P Q f h = f text h
