use Rattle.queries.proofs.Words.{◌≡◌, ℕ, List, subst, ◌∙◌, same_text, SqliteFailure, OutOfMemory, ItemKey, same_item, item_key, LotKey, same_lot, recall_key, ReservedKey, same_reserved, reserved_key, Each, AreLeast, items_of_lots, has_read, read_on, fails_first, fails_later, no_room_yet, and_known, known_told}
use Rattle.table_words.specs.Found.{AreRows}
use Rattle.queries.proofs.shown_expiring.read_items_of.Goals as goal

pub returns-in_err-gtins-clause-read : goal.returns-in_err-gtins-clause-read
returns-in_err-gtins-clause-read g c = no_room_yet (SqliteFailure OutOfMemory) c.from_residual.ensures

pub returns-in_err-items-clause-read : goal.returns-in_err-items-clause-read
returns-in_err-items-clause-read g c = fails_first c.from_residual-in_err-items.ensures c.in_err-items.ensures.read

pub returns-in_err-least-clause-read : goal.returns-in_err-least-clause-read
returns-in_err-least-clause-read g c = fails_later (has_read c.in_ok-items.ensures.read) c.from_residual-in_err-least.ensures c.in_err-least.ensures.read

pub returns-in_err-recalls-clause-read : goal.returns-in_err-recalls-clause-read
returns-in_err-recalls-clause-read g c = fails_later (read_on (has_read c.in_ok-items.ensures.read) c.in_ok-least.ensures.read) c.from_residual-in_err-recalls.ensures c.in_err-recalls.ensures.read

pub returns-in_err-reserved-clause-read : goal.returns-in_err-reserved-clause-read
returns-in_err-reserved-clause-read g c =
    fails_later (read_on (read_on (has_read c.in_ok-items.ensures.read) c.in_ok-least.ensures.read) c.in_ok-recalls.ensures.read) c.from_residual-in_err-reserved.ensures c.in_err-reserved.ensures.read

pub returns-clause-read : goal.returns-clause-read
returns-clause-read g c =
    let gtins = items_of_lots c.args.lots.now in
    let one : c.as_slice.result.now ≡ gtins = c.as_slice.ensures.value ∙ c.in_ok-gtins.ensures in
    let two : c.as_slice-2.result.now ≡ gtins = c.as_slice-2.ensures.value ∙ c.in_ok-gtins.ensures in
    let three : c.as_slice-3.result.now ≡ gtins = c.as_slice-3.ensures.value ∙ c.in_ok-gtins.ensures in
    let four : c.as_slice-4.result.now ≡ gtins = c.as_slice-4.ensures.value ∙ c.in_ok-gtins.ensures in
    known_told (and_known (and_known (and_known c.in_ok-items.ensures.read c.in_ok-least.ensures.read) c.in_ok-recalls.ensures.read) c.in_ok-reserved.ensures.read)
    (λ t h. record {
      own = subst (λ (l : List (List ℕ)). Each (λ g found. AreRows {K = ItemKey} same_item item_key (λ k. same_text g k) t.item found) l c.in_ok-items.items.items) one h.0.0.0;
      asked = subst (λ (l : List (List ℕ)). AreLeast l t c.in_ok-least.least.items) two h.0.0.1;
      recalled = subst (λ (l : List (List ℕ)). Each (λ g found. AreRows {K = LotKey} same_lot recall_key (λ k. same_text g k.gtin) t.recall found) l c.in_ok-recalls.recalls.items) three h.0.1;
      taken = subst (λ (l : List (List ℕ)). Each (λ g found. AreRows {K = ReservedKey} same_reserved reserved_key (λ k. same_text g k.1.gtin) (λ k. t.reserved k.0 k.1) found) l c.in_ok-reserved.reserved.items) four h.1;
    })
