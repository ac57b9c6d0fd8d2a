-- The tables of books in which nothing has been done.
use Rattle.store.proofs.Words.{◌≡◌, ℕ, true, false, List, [], IsTrue, Result, Ok, Err, OnOk, inl, inr, refl, sym, ap, ◌∙◌, ◌⊎◌, ℤ, Some, None, option_map, if◌then◌else◌, same_text, Tables, Hold, MetaRow, BinRow, RETURNS, returns_bin, tables_of, bin_row, State, Survives, Trees, IsReady, tables_in, AreTyped, first_rows, AreRowsOf, KeepsBooks}

abbrev pub first_meta : ℤ → MetaRow
first_meta day = record { day = day; acts = 0; shipments = 0 }

abbrev pub returns_row : BinRow
returns_row = record { name = RETURNS; kind = Hold }

bin_found : (name : List ℕ) → bin_row [] name ≡ (if same_text name RETURNS then Some returns_row else None)
bin_found name = elim (same_text name RETURNS) as (λ b. option_map (λ x. record { name = x.bin; kind = x.kind }) (if b then Some returns_bin else None) ≡ (if b then Some returns_row else None)) [ true ↦ refl | false ↦ refl ]

pub first_tables : (day : ℤ) → first_rows (first_meta day) returns_row ≡ tables_of day []
unfolding tables_of
first_tables day = λ i. let t : Tables = record (tables_of day []) { bin = λ b. sym (bin_found b) i } in t

pub rows_are : (day : ℤ) (name : List ℕ) (trees : Trees) → name ≡ RETURNS → tables_in trees ≡ first_rows (first_meta day) (record { name = name; kind = Hold }) → AreTyped trees → AreRowsOf day [] trees
rows_are day name trees is tables typed = record { tables = tables ∙ ap (λ n. first_rows (first_meta day) (record { name = n; kind = Hold })) is ∙ first_tables day; typed = typed }

pub books_made : {X E : Type 0} (r : Result X E) (day : ℤ) (name : List ℕ) (s : State) → name ≡ RETURNS → OnOk r (IsTrue s.is_open) → OnOk r (IsReady s.now)
    → OnOk r (tables_in s.now.trees ≡ first_rows (first_meta day) (record { name = name; kind = Hold })) → OnOk r (AreTyped s.now.trees) → (IsTrue s.is_open → s.committed ≡ s.now) → OnOk r (KeepsBooks day [] s × IsTrue s.is_open)
books_made (Ok x) day name s is up ready tables typed settled = (record { books = λ _. record { ready = ready; rows = rows_are day name s.now.trees is tables typed }; settled = settled }, up)
books_made (Err e) day name s is up ready tables typed settled = tt

-- a crash leaves what there was, or what two clauses tell
pub survives_both : (old new : State) (P Q R : Trees → Type 0) → ((db : Trees) → P db → Q db → R db) → Survives old new P → Survives old new Q → Survives old new R
survives_both old new P Q R so s t = record {
  clean = s.clean;
  shield = s.shield;
  counts = s.counts;
  limit = s.limit;
  closes = s.closes;
  crash = λ clean db left. both db (s.crash clean db left) (t.crash clean db left);
}
  where
    both : (db : Trees) → old.may_leave db ⊎ P db → old.may_leave db ⊎ Q db → old.may_leave db ⊎ R db
    both db (inl before) q = inl before
    both db (inr p) (inl before) = inl before
    both db (inr p) (inr q) = inr (so db p q)
