-- The stock card of a lot, written part after part, and texts that are written at once.
use Rattle.house.proofs.Words.{◌≡◌, ℕ, ◌+◌, List, ◌++◌, Option, Some, None, Ok, Err, Result, refl, sym, ap, subst, ◌∙◌, inl, inr, append_assoc, ℤ, flat_map, Appends, Appends-trans, LotId, rest_after, Refusal, UnknownItem, UnknownLot, ItemRow, CardView, Ghosts, state, Survives, Act, IsHistory, lot_units_in_house, KnownLot, lots, lot_known, item_row, if_known, card_shown, card_of_lot, card_view, found_lot, last_line_tells_units, TextFault, card_text, card_start, card_line, card_end, AppendsBeginning, Writes, beginning_of_first, beginning_of_second, Connected, HoldsBooks, IsClean, IsHanded, NoBooks, head_of_card, card_head_shown, Refused, Store, Foreign, EachFault, Stopped, card_from, Stays, Puts, Tells, shown_text, stopped_at}
use Rattle.store.specs.declared.each_fault.EachFault.TheVariants.{Fault}
use Rattle.house.proofs.Handing.{all_written, some_written, cut_written}

module _ {S : Type 0} (g : Ghosts S) (first : ℤ) (acts : List Act) where
  -- The books

  same_books : (books : Connected S) → HoldsBooks g first acts books → Stays g first acts books books
  same_books books holds = record { holds = holds; kept = λ trees left. left }

  stays_on : (a b c : Connected S) → Stays g first acts a b → Stays g first acts b c → Stays g first acts a c
  stays_on a b c p q = record { holds = q.holds; kept = λ trees left. p.kept trees (q.kept trees left) }

  -- a query commits nothing
  pub stays_shown : (old new : Connected S) → Survives (state g old.conn) (state g new.conn) (λ _. ⊥) → IsClean g new → HoldsBooks g first acts new → Stays g first acts old new
  stays_shown old new survives clean holds = record {
    holds = holds;
    kept = λ trees left. elim (survives.crash clean trees left) [ inl before ↦ before | inr none ↦ absurd none ];
  }

  -- and neither does handing records on, on the books of a history
  stays_handed : (old new : Connected S) → IsHistory first acts → Survives (state g old.conn) (state g new.conn) (NoBooks (state g old.conn)) → IsClean g new
      → HoldsBooks g first acts old → HoldsBooks g first acts new → Stays g first acts old new
  stays_handed old new history survives clean was holds = record {
    holds = holds;
    kept = λ trees left. elim (survives.crash clean trees left) [ inl before ↦ before | inr none ↦ absurd (none first acts history was.keeps) ];
  }

  -- Parts of a text

  -- b behind a
  pub put_behind : {X : Type 0} (r : Result X EachFault) (a b : List ℕ) (was mid books : Connected S) (old between new : Option (List ℕ)) → Appends old between a → Stays g first acts was mid
      → Puts g first acts b mid books between new r → Puts g first acts (a ++ b) was books old new r
  put_behind (Ok x) a b was mid books old between new first_part stays h = (Appends-trans old between new a b first_part h.0, stays_on was mid books stays h.1)
  put_behind (Err (Fault (Refused why))) a b was mid books old between new first_part stays h = absurd h
  put_behind (Err (Fault Store)) a b was mid books old between new first_part stays h = (beginning_of_second old between new a b first_part h.0, stays_on was mid books stays h.1)
  put_behind (Err (Fault Foreign)) a b was mid books old between new first_part stays h = absurd h
  put_behind (Err Stopped) a b was mid books old between new first_part stays h = (beginning_of_second old between new a b first_part h.0, stays_on was mid books stays h.1)

  -- a was not written whole
  pub put_part : (fault : EachFault) (a b : List ℕ) (was books : Connected S) (old new : Option (List ℕ)) → Puts {X = Unit} g first acts a was books old new (Err fault)
      → Puts {X = Unit} g first acts (a ++ b) was books old new (Err fault)
  put_part (Fault (Refused why)) a b was books old new h = absurd h
  put_part (Fault Store) a b was books old new h = (beginning_of_first old new a b h.0, h.1)
  put_part (Fault Foreign) a b was books old new h = absurd h
  put_part Stopped a b was books old new h = (beginning_of_first old new a b h.0, h.1)

  -- the end of a text, over books that are not asked any more
  put_end : (r : Result Unit TextFault) (text : List ℕ) (books : Connected S) (old new : Option (List ℕ)) → HoldsBooks g first acts books → Writes r old new text
      → Puts g first acts text books books old new (stopped_at r)
  put_end (Ok done) text books old new holds written = (written, same_books books holds)
  put_end (Err fault) text books old new holds written = (written, same_books books holds)

  -- a was written, and then the end b
  pub put_whole : (r : Result Unit TextFault) (end : Result Unit EachFault) (a b : List ℕ) (was books : Connected S) (old between new : Option (List ℕ)) → Puts {X = Unit} g first acts a was books old between (Ok tt)
      → end ≡ stopped_at r → Writes r between new b → Puts g first acts (a ++ b) was books old new end
  put_whole r end a b was books old between new first_part is written =
      put_behind end a b was books books old between new first_part.0 first_part.1 (subst (λ e. Puts g first acts b books books between new e) (sym is) (put_end r b books between new first_part.1.holds written))

  -- Records

  module _ {K T : Type 0} (at : K → Option (List ℕ)) (line : T → List ℕ) (adds cuts : K → T → K → Type 0)
      (added : (before : K) (x : T) (after : K) → adds before x after → Appends (at before) (at after) (line x))
      (cut : (before : K) (x : T) (after : K) → cuts before x after → AppendsBeginning (at before) (at after) (line x)) where
    pub lines_put : (r : Result Unit EachFault) (xs : List T) (before after : K) (was books : Connected S) → IsHistory first acts → Survives (state g was.conn) (state g books.conn) (NoBooks (state g was.conn))
        → IsClean g books → HoldsBooks g first acts was → IsHanded g first acts adds cuts xs before after r books → Puts g first acts (flat_map line xs) was books (at before) (at after) r
    lines_put (Ok done) xs before after was books history survives clean holds h = (all_written at line adds cuts added cut before xs after h.0, stays_handed was books history survives clean holds h.1)
    lines_put (Err (Fault (Refused why))) xs before after was books history survives clean holds h = absurd h.0
    lines_put (Err (Fault Store)) xs before after was books history survives clean holds h = (some_written at line adds cuts added cut before xs after h.0, stays_handed was books history survives clean holds h.1)
    lines_put (Err (Fault Foreign)) xs before after was books history survives clean holds h = absurd h.0
    lines_put (Err Stopped) xs before after was books history survives clean holds h = (cut_written at line adds cuts added cut before xs after h.0, stays_handed was books history survives clean holds h.1)

  -- The whole

  told_by : {V : Type 0} (text : V → List ℕ) (shown : Result V Refusal) (view : V) (r : Result Unit EachFault) (was books : Connected S) (old new : Option (List ℕ)) → shown ≡ Ok view
      → Puts g first acts (text view) was books old new r → Tells g first acts text shown was books old new r
  told_by text shown view (Ok done) was books old new is h = (view, is, h.0, h.1)
  told_by text shown view (Err (Fault (Refused why))) was books old new is h = absurd h
  told_by text shown view (Err (Fault Store)) was books old new is h = (subst (λ s. AppendsBeginning old new (shown_text text s)) (sym is) h.0, h.1)
  told_by text shown view (Err (Fault Foreign)) was books old new is h = absurd h
  told_by text shown view (Err Stopped) was books old new is h = (view, is, h.0, h.1)

  -- a text that is shown was written, b behind a
  pub told_whole : {V : Type 0} (text : V → List ℕ) (shown : Result V Refusal) (view : V) (a b : List ℕ) (r : Result Unit EachFault) (was mid books : Connected S) (old between new : Option (List ℕ))
      → shown ≡ Ok view → a ++ b ≡ text view → Stays g first acts was mid → Appends old between a → Puts g first acts b mid books between new r → Tells g first acts text shown was books old new r
  told_whole text shown view a b r was mid books old between new is whole stays written h =
      told_by text shown view r was books old new is (subst (λ t. Puts g first acts t was books old new r) whole (put_behind r a b was mid books old between new written stays h))

  -- it was written by one call
  pub told_at_once : {V : Type 0} (text : V → List ℕ) (shown : Result V Refusal) (view : V) (r : Result Unit TextFault) (was books : Connected S) (old new : Option (List ℕ)) → shown ≡ Ok view
      → Stays g first acts was books → Writes r old new (text view) → Tells g first acts text shown was books old new (stopped_at r)
  told_at_once text shown view (Ok done) was books old new is stays written = (view, is, written, stays)
  told_at_once text shown view (Err fault) was books old new is stays written = (view, is, written, stays)

  -- its start was not written whole
  pub told_cut : {V : Type 0} (text : V → List ℕ) (shown : Result V Refusal) (view : V) (a b : List ℕ) (was books : Connected S) (old new : Option (List ℕ))
      → shown ≡ Ok view → a ++ b ≡ text view → Stays g first acts was books → AppendsBeginning old new a → Tells g first acts text shown was books old new (Err Stopped)
  told_cut text shown view a b was books old new is whole stays written = (view, is, subst (AppendsBeginning old new) whole (beginning_of_first old new a b written), stays)

-- Cards

module _ (first : ℤ) (acts : List Act) (l : LotId) where
  abbrev card_shows : CardView → Result CardView Refusal
  card_shows v = Ok v

  abbrev card_headed : ItemRow → ℤ → Result (ItemRow × ℤ) Refusal
  card_headed item expiry = Ok (item, expiry)

  item_of : {D : Type 0} → ItemRow → Result (ItemRow × D) Refusal → ItemRow
  item_of item (Ok head) = head.0
  item_of item (Err why) = item

  day_of : {D : Type 0} → D → Result (ItemRow × D) Refusal → D
  day_of day (Ok head) = head.1
  day_of day (Err why) = day

  card_of_known : (item row : ItemRow) (expiry : ℤ) (k : KnownLot) → l ≡ k.lot → card_headed item k.expiry ≡ card_headed row expiry
      → card_shows (card_view first acts item k) ≡ card_shows (card_from first acts l row expiry)
  unfolding item_of day_of
  card_of_known item row expiry k same e =
      subst (λ (m : LotId). card_shows (record { item = item; lot = m.lot; expiry = k.expiry; lines = card_of_lot first acts m; in_house = lot_units_in_house first acts m }) ≡ card_shows (card_from first acts l row expiry)) same
      (ap (λ (i : ItemRow). card_shows (card_from first acts l i k.expiry)) (ap (item_of row) e) ∙ ap (λ d. card_shows (card_from first acts l row d)) (ap (day_of expiry) e))

  card_at : (item : Option ItemRow) (known : Option KnownLot) (row : ItemRow) (expiry : ℤ) → ((k : KnownLot) → known ≡ Some k → l ≡ k.lot)
      → head_of_card (if_known item UnknownItem (λ i. if_known known UnknownLot (λ k. Ok (card_view first acts i k)))) ≡ Ok (row, expiry)
      → if_known item UnknownItem (λ i. if_known known UnknownLot (λ k. Ok (card_view first acts i k))) ≡ Ok (card_from first acts l row expiry)
  card_at None known row expiry own e = absurd (let it = e in cc)
  card_at (Some i) None row expiry own e = absurd (let it = e in cc)
  card_at (Some i) (Some k) row expiry own e = card_of_known i row expiry k (own k refl) e

  -- the card with the head that was read
  pub card_with_head : (item : ItemRow) (expiry : ℤ) → card_head_shown first acts l ≡ Ok (item, expiry) → card_shown first acts l ≡ Ok (card_from first acts l item expiry)
  card_with_head item expiry = card_at (item_row acts l.gtin) (lot_known acts l) item expiry (λ k. found_lot l (lots acts) k)

  -- the start, the lines and the end are the card
  pub card_whole : (item : ItemRow) (expiry : ℤ) (n : ℕ) → n ≡ 0
      → card_start item l.lot expiry ++ (flat_map card_line (card_of_lot first acts l) ++ card_end (rest_after n (card_of_lot first acts l))) ≡ card_text (card_from first acts l item expiry)
  card_whole item expiry n none =
      let lines = card_of_lot first acts l in
      sym (append_assoc (card_start item l.lot expiry) (flat_map card_line lines) (card_end (rest_after n lines)))
      ∙ ap (λ m. card_start item l.lot expiry ++ flat_map card_line lines ++ card_end m) (ap (λ m. rest_after m lines) none ∙ last_line_tells_units first acts l)
