-- The table `shipments`.
use Rattle.std.specs.Prelude.{◌∷◌}
use Rattle.tables.specs.Words.{ℕ, nat_le, nat_eq, filter, List, [], codes, refl, ◌∙◌, pos, and_parts, Null, Int, column, lit, col, Tables, ShipmentRow, ACTS_MAX, ADD_SHIPMENT, SHIPMENTS_OF, AreRows, is_the_number, shipments_table, is_stored_shipment, stored_shipment, same_shipment, shipment_key, shipment_mapping, shipment_rest, same, passes, scanned, only_shown, cast_number, cast_null, and_true, same_count, equals_number, same_number, itself_number, one_by_rowid, few, Described, IsLawful, Query, QueryIs, IsSought, by_id, rows_of, found_by_key}
use Rattle.sqlite.specs.Listing.{understood}
use Rattle.sqlite_tied.specs.Compute.{everything}

-- what the table is
abbrev pub shipments : Described ShipmentRow ℕ
shipments = record {
  place = 10;
  layout = by_id shipments_table.tree (codes "shipments") shipments_table.columns;
  is = is_stored_shipment;
  reads = stored_shipment;
  shown = col 1 0 ∷ col 1 2 ∷ col 1 3 ∷ col 1 4 ∷ [];
  has = shipment_mapping.columns.has 0;
  seen = λ v. shipment_mapping.of (shipment_mapping.columns.reads 0 v);
  key = shipment_key;
  same = same_shipment;
  cells = λ s. shipment_mapping.columns.cells (shipment_mapping.parts s);
  key_cells = λ number. Int (pos number) ∷ [];
  fits = λ s. shipment_mapping.columns.fits (shipment_mapping.parts s);
  look = λ t number. t.shipment number;
  set = λ f t. record t { shipment = f };
  tests = same 0 0 ∷ [];
  add = ADD_SHIPMENT.now;
  add_terms = col 0 0 ∷ lit Null ∷ col 0 1 ∷ col 0 2 ∷ col 0 3 ∷ [];
  source = λ s. Int (pos s.number) ∷ Null ∷ shipment_rest.cells (shipment_mapping.parts s).1;
}

-- the rows of a number
abbrev pub shipments_of : Query ShipmentRow ℕ ℕ
shipments_of = record {
  may = λ number. nat_le number ACTS_MAX;
  text = SHIPMENTS_OF.now;
  params = λ number. Int (pos number) ∷ [];
  tests = same 0 0 ∷ [];
  order = [];
  wanted = λ number s. nat_eq number s.number;
  stored = λ number r. is_the_number number (column r 0);
}

abbrev pub AreShipmentsOf : ℕ → Tables → List ShipmentRow → Type 0
AreShipmentsOf number t rows = AreRows {K = ℕ} same_shipment shipment_key (λ k. nat_eq number k) t.shipment rows

-- ---- what holds of them

pub shipments_laws : IsLawful shipments
unfolding understood everything
shipments_laws = record {
  placed_first = refl;
  placed = λ rest. refl;
  itself = itself_number;
  one_key = same_number;
  one_row = λ db ready params. one_by_rowid (db.trees shipments_table.tree) params;
  at_key = λ k r h. and_true _ ∙ same_count ACTS_MAX (column r 0) (Int (pos k)) k (and_parts _ _ h).0 refl;
  own_key = λ s r. refl;
  looks = λ trees. refl;
  sets = λ trees rows. refl;
  same_set = λ t. refl;
  ruled = refl;
  has_shown = λ params r. refl;
  seen_shown = λ params r. refl;
  add_is = λ rest. (refl, (refl, refl));
  added = λ s. refl;
  casts = λ s. rw (cast_null, cast_number (pos s.number), cast_number (pos s.act), cast_number s.day) refl;
  comes = λ s rows good. (refl, (good, refl));
}

of_is : QueryIs shipments shipments_of
unfolding understood everything
of_is rest = (refl, refl, (refl, refl))

pub shipments_of_laws : IsSought shipments shipments_of AreShipmentsOf
shipments_of_laws = record {
  is = of_is;
  at = λ number r h. shipments_laws.at_key number r h;
  at_stored = λ number r int. and_true _ ∙ equals_number (column r 0) number int;
  ordered = λ db ready number rows a.
      let params = shipments_of.params number in
      let all = db.trees shipments_table.tree in
      let p = passes params shipments_of.tests in
      only_shown params shipments.shown (filter p all) (few p all (rows_of shipments shipments_laws db ready).0 (one_by_rowid all params)) rows (scanned db.trees params shipments_table.tree shipments_of.tests shipments.shown [] rows a);
  finds = λ db ready number xs are. found_by_key shipments shipments_laws (λ k. nat_eq number k) db ready xs are;
}
