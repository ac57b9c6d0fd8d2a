use Rattle.slices.proofs.Words.{◌≡◌, ℕ, List, filter, subst, ap, ◌∙◌, same_text, SqliteFailure, OutOfMemory, LotKey, same_lot, recall_key, is_ending, items_of_lots, not_recalled, Each}
use Rattle.table_words.specs.Found.{AreRows}
use Rattle.slices.proofs.ReadSteps.{has_read, read_on, and_then, so_told, fails_first, fails_later, no_room_left}
use Rattle.slices.proofs.day_items.read_ending.Goals as goal

pub returns-in_err-all-clause-read : goal.returns-in_err-all-clause-read
returns-in_err-all-clause-read g c = fails_first c.from_residual.ensures c.in_err-all.ensures.read

pub returns-in_err-least-clause-read : goal.returns-in_err-least-clause-read
returns-in_err-least-clause-read g c = fails_later (has_read c.in_ok-all.ensures.read) c.from_residual-in_err-least.ensures c.in_err-least.ensures.read

pub returns-in_err-ending-clause-read : goal.returns-in_err-ending-clause-read
returns-in_err-ending-clause-read g c = no_room_left (SqliteFailure OutOfMemory) (read_on (has_read c.in_ok-all.ensures.read) c.in_ok-least.ensures.read) c.from_residual-in_err-ending.ensures

pub returns-in_err-gtins-clause-read : goal.returns-in_err-gtins-clause-read
returns-in_err-gtins-clause-read g c = no_room_left (SqliteFailure OutOfMemory) (read_on (has_read c.in_ok-all.ensures.read) c.in_ok-least.ensures.read) c.from_residual-in_err-gtins.ensures

pub returns-in_err-recalls-clause-read : goal.returns-in_err-recalls-clause-read
returns-in_err-recalls-clause-read g c = fails_later (read_on (has_read c.in_ok-all.ensures.read) c.in_ok-least.ensures.read) c.from_residual-in_err-recalls.ensures c.in_err-recalls.ensures.read

pub returns-in_err-not_recalled-clause-read : goal.returns-in_err-not_recalled-clause-read
returns-in_err-not_recalled-clause-read g c =
    no_room_left (SqliteFailure OutOfMemory) (read_on (read_on (has_read c.in_ok-all.ensures.read) c.in_ok-least.ensures.read) c.in_ok-recalls.ensures.read) c.from_residual-in_err-not_recalled.ensures

pub returns-clause-read : goal.returns-clause-read
returns-clause-read g c =
    let old = c.args.old in
    let new = c.args.new in
    let all = c.in_ok-all.all.items in
    let least = c.in_ok-least.least.items in
    let recalls = c.in_ok-recalls.recalls.items in
    let ending_is : c.in_ok-ending.ending.items ≡ filter (is_ending old new least) all = c.in_ok-ending.ensures ∙ (λ i. filter (is_ending old new (c.as_slice.ensures.value i)) (c.as_slice-2.ensures.value i)) in
    let gtins_is : c.as_slice-4.result.now ≡ items_of_lots (filter (is_ending old new least) all) = c.as_slice-4.ensures.value ∙ c.in_ok-gtins.ensures ∙ ap items_of_lots (c.as_slice-3.ensures.value ∙ ending_is) in
    so_told (and_then (and_then c.in_ok-all.ensures.read c.in_ok-least.ensures.read) c.in_ok-recalls.ensures.read)
    (λ t h. record {
      all = all;
      read = h.0.0;
      least = least;
      least_read = h.0.1;
      recalls = recalls;
      recalls_read = subst (λ (l : List (List ℕ)). Each (λ g found. AreRows {K = LotKey} same_lot recall_key (λ k. same_text g k.gtin) t.recall found) l recalls) gtins_is h.1;
      lots = c.in_ok-not_recalled.ensures ∙ ap (λ l. not_recalled c.as_slice-6.result.now l) (c.as_slice-5.ensures.value ∙ ending_is) ∙ ap (λ l. not_recalled l (filter (is_ending old new least) all)) c.as_slice-6.ensures.value;
    })
