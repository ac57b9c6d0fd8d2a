-- A table by its halves.
use Rattle.audits.proofs.Words.{◌≡◌, ℤ, ◌++◌, Vec, Global, Bool, true, None, Result, Ok, Err, IfErr, OnOk, find, refl, sym, ap, ap₂, subst, ◌∙◌, Database, State, IsUnchanged, all-filter, typed, IsReady, tables_in, Keeps, TableFault, Foreign, inside_itself, inside_then, Described, IsLawful, Half, Lower, Upper, FindsHalf, is_in, halves_typed, halves_read, TableName, rule_called, SameTable, SameCalled, Unread, Untyped, Store, Both, IsUnread, AreSeen, Tells, SameHalf, TellsAlike}
use Rattle.audits.proofs.Telling.{earlier, unchanged_then}

-- ---- one half

module _ {X K : Type 0} (d : Described X K) (part : Half) (middle : ℤ) where
  abbrev Found : State → State → Result (Vec X Global) TableFault → Type 0
  Found old new r = FindsHalf {X = X} {A = Global} d part middle old new r

  pub half_untyped : (name : TableName) → rule_called name ≡ record { tree = d.layout.tree; is = d.is } → (o m b : State) → Found o m (Err Foreign) → TellsAlike (SameHalf d part middle) o m b b (Err (Untyped name))
  half_untyped name called o m b h = record {
    alike = λ seen e. cc;
    same = λ seen. tt;
    unread = λ seen. subst (λ rule. ¬ Keeps o.now.trees rule) (sym called) (λ all. h.foreign seen.clean seen.ready refl (all-filter (λ r. d.is r ≡ true) (is_in part middle) (o.now.trees d.layout.tree) all));
    survives = h.survives;
    survives_too = inside_itself b;
  }

  pub half_failed : (o m b : State) (r : Result (Vec X Global) TableFault) → Found o m r → TellsAlike (SameHalf d part middle) o m b b (Err Store)
  half_failed o m b r h = record { alike = λ seen e. cc; same = λ seen. tt; unread = λ seen. tt; survives = h.survives; survives_too = inside_itself b }

  pub half_failed_too : (o m b c : State) (r s : Result (Vec X Global) TableFault) → Found o m r → Found b c s → TellsAlike (SameHalf d part middle) o m b c (Err Store)
  half_failed_too o m b c r s h i = record { alike = λ seen e. cc; same = λ seen. tt; unread = λ seen. tt; survives = h.survives; survives_too = i.survives }

  pub half_told : (o m b c : State) (mine theirs : Vec X Global) (are : Bool) → (are ≡ true → mine.items ≡ theirs.items) → Found o m (Ok mine) → Found b c (Ok theirs) → TellsAlike (SameHalf d part middle) o m b c (Ok are)
  half_told o m b c mine theirs are is h i = record {
    alike = λ seen e. record {
      same = sym (h.rows seen.clean seen.ready) ∙ is (let yes : are ≡ true = cc in yes) ∙ i.rows seen.clean_too seen.ready_too;
      typed_rows = h.typed seen.clean seen.ready;
    };
    same = λ seen. (h.same seen.clean seen.ready, i.same seen.clean_too seen.ready_too);
    unread = λ seen. tt;
    survives = h.survives;
    survives_too = i.survives;
  }

-- ---- what is told of one thing and then of another

same_on : (o m n b c d : State) (r : Result Bool Unread) → IsUnchanged o m → IsUnchanged b c → OnOk r (IsUnchanged m n × IsUnchanged c d) → OnOk r (IsUnchanged o n × IsUnchanged b d)
same_on o m n b c d (Ok are) p q h = (unchanged_then o m n p h.0, unchanged_then b c d q h.1)
same_on o m n b c d (Err e) p q h = tt

module _ (P : Database → Database → Type 0) (o m b c : State) (are : Bool) (one : TellsAlike P o m b c (Ok are)) where
  -- nothing was told, and nothing changed
  as_told : Tells (λ x y. Unit {0}) o m b c (Ok None)
  as_told = record { same = λ seen e. (tt, (one.same seen).0.0.now_is, (one.same seen).1.0.now_is); differs = λ seen. tt; unread = λ seen. tt; survives = one.survives; survives_too = one.survives_too }

  pub both_alike : (Q : Database → Database → Type 0) (n d : State) (r : Result Bool Unread) → are ≡ true → TellsAlike Q m n c d r → TellsAlike (Both P Q) o n b d r
  both_alike Q n d r is two =
      let before : AreSeen o n b d → AreSeen o m b c = λ seen. record { clean = earlier m n two.survives seen.clean; clean_too = earlier c d two.survives_too seen.clean_too; ready = seen.ready; ready_too = seen.ready_too } in
      let now_is : AreSeen o n b d → m.now ≡ o.now = λ seen. (one.same (before seen)).0.0.now_is in
      let then_is : AreSeen o n b d → c.now ≡ b.now = λ seen. (one.same (before seen)).1.0.now_is in
      let later : AreSeen o n b d → AreSeen m n c d = λ seen. record { clean = seen.clean; clean_too = seen.clean_too; ready = subst IsReady (sym (now_is seen)) seen.ready; ready_too = subst IsReady (sym (then_is seen)) seen.ready_too } in
      record {
        alike = λ seen e. (
          one.alike (before seen) (ap (λ a. Ok a) is),
          subst (λ x. Q x b.now) (now_is seen) (subst (λ y. Q m.now y) (then_is seen) (two.alike (later seen) e)),
        );
        same = λ seen. let s = one.same (before seen) in same_on o m n b c d r s.0 s.1 (two.same (later seen));
        unread = λ seen. subst (λ (x : Database). IfErr r (IsUnread x.trees)) (now_is seen) (two.unread (later seen));
        survives = inside_then o m n one.survives two.survives;
        survives_too = inside_then b c d one.survives_too two.survives_too;
      }

-- ---- both halves

module _ {X K : Type 0} (d : Described X K) (laws : IsLawful d) (name : TableName) (called : (a b : Database) → SameTable d a b → SameCalled name a b) (middle : ℤ) where
  same_look : (a b : Database) → IsReady a → IsReady b → SameHalf d Lower middle a b → SameHalf d Upper middle a b → (k : K) → d.look (tables_in a.trees) k ≡ d.look (tables_in b.trees) k
  same_look a b ready ready_too low high k =
      let all : typed d.is d.reads (a.trees d.layout.tree) ≡ typed d.is d.reads (b.trees d.layout.tree) = halves_read d laws middle a ready ∙ ap₂ ◌++◌ low.same high.same ∙ sym (halves_read d laws middle b ready_too) in
      (λ i. laws.looks a.trees i k) ∙ ap (find (λ s. d.same k (d.key s))) all ∙ (λ i. sym (laws.looks b.trees) i k)

  pub halves_alike : (o m b c : State) (r : Result Bool Unread) → TellsAlike (Both (SameHalf d Lower middle) (SameHalf d Upper middle)) o m b c r → TellsAlike (SameCalled name) o m b c r
  halves_alike o m b c r h = record {
    alike = λ seen e.
        let both = h.alike seen e in
        called o.now b.now (record { same = same_look o.now b.now seen.ready seen.ready_too both.0 both.1; typed = halves_typed d laws middle o.now seen.ready both.0.typed_rows both.1.typed_rows });
    same = h.same;
    unread = h.unread;
    survives = h.survives;
    survives_too = h.survives_too;
  }
