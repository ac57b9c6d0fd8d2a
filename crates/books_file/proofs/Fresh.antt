-- A file that was opened and settled, over which nothing has happened since.
use Rattle.std.proofs.Common.{◌≡◌, ℕ, Bool, List, [], ◌∷◌, ap₂, cond, inl, inr, subst}
use Rattle.sqlite_disk.specs.Events.{Event, replay, settled}
use Rattle.sqlite_disk.specs.History.{MayLeave}

module _ (log db : List ℕ) (mixes : Bool) where
  abbrev leaves : Bool → List Event → List ℕ → Type 0
  leaves is_log history c = let now = replay (cond is_log log db) history in MayLeave mixes now.seen now.synced now.steps c

  only_start : (is_log : Bool) (key : ℕ) (c : List ℕ) → leaves is_log (settled key ∷ []) c → c ≡ cond is_log log db
  only_start is_log key c (inl same) = same
  only_start is_log key c (inr same) = same

  -- a read returns what it held
  pub seen_held : (is_log which : Bool) (key : ℕ) (history : List Event) → is_log ≡ which → history ≡ settled key ∷ [] → (replay (cond is_log log db) history).seen ≡ cond which log db
  seen_held is_log which key history at fresh = ap₂ (λ w e. (replay (cond w log db) e).seen) at fresh

  -- and so does a stop
  pub only_held : (is_log which : Bool) (key : ℕ) (history : List Event) → is_log ≡ which → history ≡ settled key ∷ [] → (c : List ℕ) → leaves is_log history c → c ≡ cond which log db
  only_held is_log which key history at fresh c h = only_start which key c (subst (λ w. leaves w (settled key ∷ []) c) at (subst (λ e. leaves is_log e c) fresh h))
