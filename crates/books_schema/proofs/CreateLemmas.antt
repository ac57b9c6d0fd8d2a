-- What making the tables of the books leaves in a database that has nothing.
use Rattle.books_schema.proofs.Words.{◌≡◌, IsTrue, true, [], Ok, Err, Result, OnOk, refl, sym, ap, subst, ◌∙◌, AllByRecursion, IsSound, Trees, Held, state, State, IsLive, all_weaker, the_tables, schema_0, IsRows, MetaRow, BinRow, tables_in, no_rows, with_meta, with_bin, the_rules, Keeps, AreTyped, Goes, tables_same, IsVoid, Holds, first_rows, IsGrown}
use Rattle.sqlite.specs.Store.{Ghosts}
use Rattle.books_schema.proofs.Texts.{the_schema, the_harmless}

-- nothing was added so far
pub void_grown : (s : State) → IsVoid s → IsGrown s.now.trees schema_0 schema_0 s
void_grown s void = record { added = []; split = refl; schema_is = void.schema_is; sound = void.sound; kept = tt; empty = tt; inside = void.inside }

module _ (trees : Trees) (empty : AllByRecursion (λ t. trees t.tree ≡ []) the_tables) where
  empty_rows : AllByRecursion (λ t. IsRows (trees t.tree)) the_tables
  empty_rows = all_weaker (λ t. trees t.tree ≡ []) (λ t. IsRows (trees t.tree)) (λ t e. rw e (tt, tt)) the_tables empty

  empty_tables : tables_in trees ≡ no_rows
  empty_tables = tables_same (λ tree. []) trees empty

  empty_typed : AreTyped trees
  empty_typed = record { each = all_weaker (λ t. trees t.tree ≡ []) (Keeps trees) (λ t none. subst (AllByRecursion (λ r. t.is r ≡ true)) (sym none) tt) the_rules empty }

-- all tables were added, so they have no rows
pub grown_holds : (base : Trees) (s : State) → IsGrown base schema_0 the_schema s → Holds no_rows s
grown_holds base s made =
    let empty : AllByRecursion (λ t. s.now.trees t.tree ≡ []) the_tables = subst (AllByRecursion (λ t. s.now.trees t.tree ≡ [])) (sym made.split) made.empty in
    record {
      ready = record {
        has = record { rest = record { tables = []; indexes = the_schema.indexes; views = [] }; is = made.schema_is; apart = refl; harmless = the_harmless };
        rows = empty_rows s.now.trees empty;
        sound = subst (λ t. IsSound t s.now.trees) made.schema_is made.sound;
      };
      tables = empty_tables s.now.trees empty;
      typed = empty_typed s.now.trees empty;
      inside = made.inside;
    }

-- two rows in the empty tables
pub filled : (meta : MetaRow) (bin : BinRow) (made put last : State) → Holds no_rows made → Goes (with_meta meta) made put → Goes (with_bin bin) put last → Holds (first_rows meta bin) last
filled meta bin made put last none p q = record {
  ready = q.ready;
  tables = q.tables ∙ ap (with_bin bin) (p.tables ∙ ap (with_meta meta) none.tables);
  typed = q.typed (p.typed none.typed);
  inside = q.mode ∙ p.mode ∙ none.inside;
}

-- a transaction that begins in a database that has nothing
pub begins_void : {S : Type 0} (g : Ghosts S) (old begun : Held S) → begun ≡ record old { in_transaction = true } → IsLive (state g old) → (state g old).now.schema ≡ schema_0
    → IsTrue (state g begun).is_open → IsVoid (state g begun)
begins_void g old begun is live empty up = rw is (record { schema_is = empty; sound = (live (rw is at up)).0; inside = refl })

pub on_ok_then : {X E P Q : Type 0} (r : Result X E) → (P → Q) → OnOk r P → OnOk r Q
on_ok_then (Ok x) f p = f p
on_ok_then (Err e) f p = tt
