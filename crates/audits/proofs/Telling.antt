-- One table after another.
use Rattle.audits.proofs.Words.{◌≡◌, ℕ, List, [], ◌∷◌, ◌++◌, ◌+◌, ◌<◌, ◌≤◌, length, take, get_or, ap, Vec, Global, Ordering, Option, None, Result, Ok, Err, IfOk, IfErr, refl, sym, subst, ◌∙◌, IfSome, take_more, take_all, Database, State, all-append, IsReady, tables_in, Keeps, TableFault, Foreign, Described, Finds, AreAll, rows_of, TableName, AreOnce, FindAlike, IsFirstOther, IsCompared, if_some, inside_itself, inside_then, RowKey, RowDiffers, SameCalled, Unread, Untyped, Store, Both, SameEach, IsUnread, AreSeen, Tells}
pub use Rattle.whole_tables.proofs.Calls.{unchanged_then, earlier}

module _ (P Q : Database → Database → Type 0) (o m n b c d : State) (r : Result (Option RowKey) Unread) (one : Tells P o m b c (Ok None)) (two : Tells Q m n c d r) where
  -- what was seen before the second
  first_seen : AreSeen o n b d → AreSeen o m b c
  first_seen seen = record { clean = earlier m n two.survives seen.clean; clean_too = earlier c d two.survives_too seen.clean_too; ready = seen.ready; ready_too = seen.ready_too }

  now_is : AreSeen o n b d → m.now ≡ o.now
  now_is seen = (one.same (first_seen seen) refl).1

  then_is : AreSeen o n b d → c.now ≡ b.now
  then_is seen = (one.same (first_seen seen) refl).2

  later_seen : AreSeen o n b d → AreSeen m n c d
  later_seen seen = record {
    clean = seen.clean;
    clean_too = seen.clean_too;
    ready = subst IsReady (sym (now_is seen)) seen.ready;
    ready_too = subst IsReady (sym (then_is seen)) seen.ready_too;
  }

  same_both : AreSeen o n b d → r ≡ Ok None → Both P Q o.now b.now × (n.now ≡ o.now) × (d.now ≡ b.now)
  same_both seen is =
      let p = one.same (first_seen seen) refl in
      let q = two.same (later_seen seen) is in
      ((p.0, subst (λ x. Q x b.now) (now_is seen) (subst (λ x. Q m.now x) (then_is seen) q.0)), q.1 ∙ p.1, q.2 ∙ p.2)

  differs_later : AreSeen o n b d → IfOk r (λ told. IfSome told (λ row. RowDiffers row (tables_in o.now.trees) (tables_in b.now.trees)))
  differs_later seen =
      subst (λ (x : Database). IfOk r (λ told. IfSome told (λ row. RowDiffers row (tables_in x.trees) (tables_in b.now.trees)))) (now_is seen)
      (subst (λ (x : Database). IfOk r (λ told. IfSome told (λ row. RowDiffers row (tables_in m.now.trees) (tables_in x.trees)))) (then_is seen) (two.differs (later_seen seen)))

  pub tells_both : Tells (Both P Q) o n b d r
  tells_both = record {
    same = same_both;
    differs = differs_later;
    unread = λ seen. subst (λ (x : Database). IfErr r (IsUnread x.trees)) (now_is seen) (two.unread (later_seen seen));
    survives = inside_then o m n one.survives two.survives;
    survives_too = inside_then b c d one.survives_too two.survives_too;
  }

pub tells_as : (P Q : Database → Database → Type 0) (o m b c : State) (r : Result (Option RowKey) Unread) → ((x y : Database) → P x y → Q x y) → Tells P o m b c r → Tells Q o m b c r
tells_as P Q o m b c r turned h = record {
  same = λ seen is. let s = h.same seen is in (turned o.now b.now s.0, s.1, s.2);
  differs = h.differs;
  unread = h.unread;
  survives = h.survives;
  survives_too = h.survives_too;
}

-- ---- the tables so far

pub tells_first : (o b : State) → Tells (SameEach []) o o b b (Ok None)
tells_first o b = record { same = λ seen is. (tt, refl, refl); differs = λ seen. tt; unread = λ seen. tt; survives = inside_itself o; survives_too = inside_itself b }

-- one table more, of which no row was told
pub tells_more : (names : List TableName) (i : ℕ) (name : TableName) (o m n b c d : State) → i < length names → name ≡ get_or names i name → Tells (SameEach (take i names)) o m b c (Ok None) → Tells (SameCalled name) m n c d (Ok None)
    → Tells (SameEach (take (i + 1) names)) o n b d (Ok None)
tells_more names i name o m n b c d low is one two =
    let next : take (i + 1) names ≡ take i names ++ name ∷ [] = take_more names i name low ∙ ap (λ x. take i names ++ x ∷ []) (sym is) in
    tells_as (Both (SameEach (take i names)) (SameCalled name)) (SameEach (take (i + 1) names)) o n b d (Ok None)
    (λ x y h. subst (λ l. SameEach l x y) (sym next) (all-append (λ k. SameCalled k x y) (take i names) (name ∷ []) h.0 (h.1, tt)))
    (tells_both (SameEach (take i names)) (SameCalled name) o m n b c d (Ok None) one two)

pub tells_all : (names : List TableName) (i : ℕ) (o m b c : State) → length names ≤ i → Tells (SameEach (take i names)) o m b c (Ok None) → Tells (SameEach names) o m b c (Ok None)
tells_all names i o m b c all one = subst (λ l. Tells (SameEach l) o m b c (Ok None)) (take_all i names all) one

-- ---- one table

module _ {X K : Type 0} (d : Described X K) (name : TableName) (order : K → K → Ordering) (named : K → RowKey) (it : IsCompared d name order named) where
  abbrev Found : State → State → Result (Vec X Global) TableFault → Type 0
  Found old new r = Finds {X = X} {A = Global} (AreAll d) d.is (rows_of d) old new r

  pub told_untyped : (o m b : State) → Found o m (Err Foreign) → Tells (SameCalled name) o m b b (Err (Untyped name))
  told_untyped o m b h = record {
    same = λ seen e. cc;
    differs = λ seen. tt;
    unread = λ seen. subst (λ rule. ¬ Keeps o.now.trees rule) (sym it.called) (h.foreign seen.clean seen.ready refl);
    survives = h.survives;
    survives_too = inside_itself b;
  }

  pub told_failed : (o m b : State) (r : Result (Vec X Global) TableFault) → Found o m r → Tells (SameCalled name) o m b b (Err Store)
  told_failed o m b r h = record { same = λ seen e. cc; differs = λ seen. tt; unread = λ seen. tt; survives = h.survives; survives_too = inside_itself b }

  pub told_failed_too : (o m b c : State) (r s : Result (Vec X Global) TableFault) → Found o m r → Found b c s → Tells (SameCalled name) o m b c (Err Store)
  told_failed_too o m b c r s h i = record { same = λ seen e. cc; differs = λ seen. tt; unread = λ seen. tt; survives = h.survives; survives_too = i.survives }

  pub told_rows : (o m b c : State) (mine theirs : Vec X Global) (told : Option RowKey) (xs ys : List X) → xs ≡ mine.items → ys ≡ theirs.items → Found o m (Ok mine) → Found b c (Ok theirs)
      → (AreOnce d.same d.key xs → AreOnce d.same d.key ys → told ≡ None → FindAlike d.same d.key xs ys)
      → (AreOnce d.same d.key xs → AreOnce d.same d.key ys → IfSome told (λ row. (k : K) × (row ≡ named k) × IsFirstOther d.same d.key order xs ys k))
      → Tells (SameCalled name) o m b c (Ok told)
  told_rows o m b c mine theirs told xs ys e f h i none some = record {
    same = λ seen is.
        let ours = subst (AreAll d (tables_in o.now.trees)) (sym e) (h.rows seen.clean seen.ready) in
        let others = subst (AreAll d (tables_in b.now.trees)) (sym f) (i.rows seen.clean_too seen.ready_too) in
        let no : told ≡ None = cc in
        let alike = none ours.once others.once no in (
          it.alike o.now b.now (record { same = λ k. sym (ours.found k refl) ∙ alike k ∙ others.found k refl; typed = h.typed seen.clean seen.ready }),
          (h.same seen.clean seen.ready).0.now_is,
          (i.same seen.clean_too seen.ready_too).0.now_is,
        );
    differs = λ seen.
        let ours = subst (AreAll d (tables_in o.now.trees)) (sym e) (h.rows seen.clean seen.ready) in
        let others = subst (AreAll d (tables_in b.now.trees)) (sym f) (i.rows seen.clean_too seen.ready_too) in
        if_some told _ _ (λ row first. subst (λ r. RowDiffers r (tables_in o.now.trees) (tables_in b.now.trees)) (sym first.1)
        (it.differs first.0 (tables_in o.now.trees) (tables_in b.now.trees) (λ same. first.2.differs (ours.found first.0 refl ∙ same ∙ sym (others.found first.0 refl))))) (some ours.once others.once);
    unread = λ seen. tt;
    survives = h.survives;
    survives_too = i.survives;
  }
