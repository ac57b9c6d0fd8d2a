-- What is known of the books, once it is read.
use Rattle.slices.proofs.Words.{◌≡◌, Result, Ok, Err, OnOk, OnErr, IsTrue, sym, subst, arith, Tables, ITEMS_MAX, BINS_MAX, State, HasCleanDisk, IsReady, tables_in, TableFault, Put, IsRead, Knowing, AreBounds, KnowsFollowed, KnowsNoneFollowed, AreOpenLines, KnowsRows, HoldsOf, Knows, Followed, Bounds, Known}
use Rattle.slices.proofs.ReadSteps.{as_told}
use Rattle.slices.proofs.Covering.{covers_read, covers_urgent_read}
use Rattle.slices.proofs.StillKnown.{none_followed}

-- a number that is not below the limit tells nothing
none_bound : (t : Tables) (b : Bounds) → b ≡ record { items = ITEMS_MAX; bins = BINS_MAX } → AreBounds b t
none_bound t b none = subst (λ (x : Bounds). AreBounds x t) (sym none) (record { items = λ less. absurd (omega (arith, less)); bins = λ less. absurd (omega (arith, less)) })

-- the open orders, and no number
pub first_known : (t : Tables) (known : Known) → AreOpenLines t known.lines known.urgent → known.bounds ≡ record { items = ITEMS_MAX; bins = BINS_MAX } → KnowsRows t known.rows → HoldsOf known t
first_known t known lines bounds rows = record {
  lines = covers_read t known.lines known.urgent lines;
  urgent = covers_urgent_read t known.lines known.urgent lines;
  bounds = none_bound t known.bounds bounds;
  rows = rows;
}

-- with what a change puts; after a read that failed nothing is known of the rows that follow what is written
abbrev IsAdded : {X : Type 0} → Put → (was added : Known) → (old last : State) → Result X TableFault → Type 0
IsAdded puts was added = IsRead (Knowing (λ t. KnowsFollowed t was.rows.followed) (λ t. KnowsFollowed t added.rows.followed) (λ t _. Knows puts t added))

pub put_read : {X : Type 0} (puts : Put) (was added new : Known) (old last : State) (r : Result X TableFault) → IsAdded puts was added old last r → new ≡ record added { rows = record added.rows { followed = new.rows.followed } }
    → IsRead (λ t x. KnowsFollowed t was.rows.followed → Knows puts t new) old last r
put_read puts was added new old last r one same = as_told one (λ t x tells known.
    let told = (tells known).0 in
    subst (λ (k : Known). Knows puts t k) (sym same) (record { lines = told.lines; urgent = told.urgent }))

pub followed_read : {X : Type 0} (puts : Put) (was added new : Known) (old last : State) (r : Result X TableFault) → IsAdded puts was added old last r → OnOk r (new.rows.followed ≡ added.rows.followed) → OnErr r (KnowsNoneFollowed new.rows.followed)
    → HasCleanDisk last → IsReady old.now → IsTrue old.is_open → KnowsFollowed (tables_in old.now.trees) was.rows.followed → KnowsFollowed (tables_in old.now.trees) new.rows.followed
followed_read puts was added new old last (Ok x) one read unread clean ready up known = subst (λ (f : Followed). KnowsFollowed (tables_in old.now.trees) f) (sym read) ((one.answers clean ready up).1 known).1
followed_read puts was added new old last (Err e) one read unread clean ready up known = none_followed (tables_in old.now.trees) new.rows.followed unread
