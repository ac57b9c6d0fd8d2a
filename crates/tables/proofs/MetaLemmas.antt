-- What the query of `meta` means, and what it answers.
use Rattle.tables.proofs.Words.{◌≡◌, ℕ, true, false, List, [], ◌∷◌, codes, map, filter, find, pos, IsTrue, refl, ap, ◌∙◌, Equal, ◌↔◌, nat_eq, AllByRecursion, and_parts, Null, Int, Row, column, Term, col, Select, Schema, Database, reads_listing, State, Shown, IsPlain, command_of, reads_as, rowid, is_int, Has, value_cmp, all_has, MetaRow, META_ROWS, typed, is_the_number, schema_with, meta_table, is_meta_at, meta_in, has_meta, meta_read, MetaKey, same_meta, meta_key, meta_rows_rows, IsReady, AreRows, same, scan, alone, filter_same_on, passes, show, scanned, only_shown, and_true, same_the_number, equals_number, same_number, itself_number, typed-filter, both_typed, shown_typed, AtMostOne, one_by_rowid, few, IsSame, are_rows}
use Rattle.sqlite_tied.specs.Compute.{everything}
use Rattle.sqlite.specs.Listing.{understood}

abbrev pub tests : List Term
tests = same 0 0 ∷ []

abbrev pub key_cells : ℕ → Row
key_cells id = Int (pos id) ∷ []

-- the tests find the key that the parameters begin with
at_key : (version : ℕ) (params : Row) (id : ℕ) → column params 0 ≡ Int (pos id) → (r : Row) → is_meta_at version r ≡ true → passes params tests r ≡ same_meta id (meta_key (meta_in r))
at_key version params id e0 r h =
    let p0 = and_parts _ _ h in
    and_true _ ∙ same_the_number 1 (column r 0) (column params 0) id p0.0 e0

one_key : IsSame {K = MetaKey} same_meta
one_key = same_number

-- no key comes twice
one_row : (db : Database) → IsReady db → (params : Row) → AtMostOne (passes params tests) (db.trees meta_table.tree)
one_row db ready params = one_by_rowid (db.trees meta_table.tree) params

-- ---- SELECT

abbrev shown : List Term
shown = col 1 0 ∷ col 1 2 ∷ col 1 3 ∷ col 1 4 ∷ col 1 5 ∷ col 1 6 ∷ []

apart : (version : ℕ) (db : Database) (ready : IsReady db) (a b : Row) → Has (db.trees meta_table.tree) a → Has (db.trees meta_table.tree) b → is_meta_at version a ≡ true → is_meta_at version b ≡ true
    → same_meta (meta_key (meta_in a)) (meta_key (meta_in b)) ≡ true → value_cmp (rowid a) (rowid b) ≡ Equal
apart version db ready a b ha hb ta tb e =
    let s = meta_in a in
    let params = key_cells 1 in
    one_row db ready params b a hb ha (at_key version params 1 refl b tb ∙ e) (at_key version params 1 refl a ta ∙ itself_number 1)

abbrev pub meta_rows_text : List ℕ
meta_rows_text = META_ROWS.now

abbrev meta_rows_tests : List Term
meta_rows_tests = same 0 0 ∷ []

meta_rows_is : (rest : Schema) → (command_of (understood (schema_with rest) meta_rows_text) ≡ Select (alone (scan meta_table.tree meta_rows_tests shown [])) (codes "id" ∷ codes "mark" ∷ codes "version" ∷ codes "day" ∷ codes "acts" ∷ codes "shipments" ∷ [])) × (reads_listing (schema_with rest) meta_rows_text ≡ false)
unfolding understood everything
meta_rows_is rest = (refl, refl)

pub meta_rows_plain : (rest : Schema) → IsPlain (understood (schema_with rest) meta_rows_text)
unfolding understood everything
meta_rows_plain rest = (refl, refl)

meta_rows_at : (version : ℕ) (id : ℕ) (r : Row) → is_meta_at version r ≡ true → passes (Int (pos id) ∷ []) meta_rows_tests r ≡ (let key = meta_key (meta_in r) in nat_eq id key)
meta_rows_at version id r h =
    let p0 = and_parts _ _ h in
    and_true _ ∙ same_the_number 1 (column r 0) (Int (pos id)) id p0.0 refl

meta_rows_turn : (old new : State) (id : ℕ) (rows : List Row) → IsReady old.now → Shown meta_rows_text (Int (pos id) ∷ []) old new rows
    → rows ≡ map (show (Int (pos id) ∷ []) shown) (filter (passes (Int (pos id) ∷ []) meta_rows_tests) (old.now.trees meta_table.tree))
meta_rows_turn old new id rows ready h =
    let params = Int (pos id) ∷ [] in
    let read = reads_as meta_rows_text params old new (schema_with ready.has.rest) ready.has.is _ (meta_rows_is ready.has.rest).0 (meta_rows_plain ready.has.rest) (meta_rows_is ready.has.rest).1 rows h in
    let p = passes params meta_rows_tests in
    let all = old.now.trees meta_table.tree in
    only_shown params shown (filter p all) (few p all ready.rows.0.0 (one_row old.now ready params)) rows (scanned old.now.trees params meta_table.tree meta_rows_tests shown [] rows (read.answer Null))

-- the rows that were read
pub meta_rows_reads : (version : ℕ) (old new : State) (id : ℕ) (rows : List Row) (xs : List MetaRow) → IsReady old.now → Shown meta_rows_text (Int (pos id) ∷ []) old new rows
    → AllByRecursion (λ v. has_meta version v ≡ true) rows → map meta_read rows ≡ xs
    → AreRows {K = MetaKey} same_meta meta_key (λ key. nat_eq id key) (λ key. find (λ s. same_meta key (meta_key s)) (typed (is_meta_at version) meta_in (old.now.trees meta_table.tree))) xs
meta_rows_reads version old new id rows xs ready h has are =
    let params = Int (pos id) ∷ [] in
    let all = old.now.trees meta_table.tree in
    are_rows same_meta meta_key one_key (λ key. nat_eq id key) (is_meta_at version) meta_in all xs ready.rows.0.0 (apart version old.now ready)
    (shown_typed (is_meta_at version) meta_in (has_meta version) meta_read (show params shown) (λ r. refl) (λ r. refl) _ rows xs (meta_rows_turn old new id rows ready h) has are
    ∙ typed-filter (is_meta_at version) meta_in (passes params meta_rows_tests) (λ x. let key = meta_key x in nat_eq id key) (meta_rows_at version id) all)

-- they read as typed rows exactly if the stored ones do
pub meta_rows_typed : (version : ℕ) (old new : State) (id : ℕ) (rows : List Row) → IsReady old.now → Shown meta_rows_text (Int (pos id) ∷ []) old new rows
    → AllByRecursion (λ r. is_meta_at version r ≡ true) (meta_rows_rows id old.now.trees) ↔ AllByRecursion (λ v. has_meta version v ≡ true) rows
meta_rows_typed version old new id rows ready h =
    let params = Int (pos id) ∷ [] in
    let all = old.now.trees meta_table.tree in
    let same_rows = filter_same_on (passes params meta_rows_tests) (λ r. is_the_number id (column r 0)) all (λ r there. and_true _ ∙ equals_number (column r 0) id (all_has (λ r. IsTrue (is_int (rowid r))) all r ready.rows.0.1 there)) in
    both_typed (has_meta version) (is_meta_at version) (show params shown) (λ r. refl) (meta_rows_rows id old.now.trees) rows (meta_rows_turn old new id rows ready h ∙ ap (map (show params shown)) same_rows)
