-- A store over files that tell no lie has met none.
use Rattle.std.specs.Prelude.{◌≡◌, ◌&&◌, Bool, true, false, refl}
use Rattle.std.proofs.Common.{true≢false, sym}
use Rattle.sqlite_disk.specs.declared.Disk.{Ghosts}
use Rattle.sqlite_store.specs.declared.store.FileStore.{FileStore}
use Rattle.sqlite_store.specs.FileStore.{view}
use Rattle.sqlite_pool.specs.Pool.{state}
use Rattle.sqlite_trees.specs.View.{IsClean, doubt}

both : (a b : Bool) → a ≡ true → b ≡ true → doubt (a && b) ≡ 0
unfolding doubt
both true true p q = refl
both true false p q = absurd (true≢false (sym q))
both false b p q = absurd (true≢false (sym p))

-- the log and the database file
pub store_is_clean : {D : Type 0} (g : Ghosts D) → ((file : D) → g.is_clean file ≡ true) → (s : FileStore D g) → IsClean (view s)
unfolding state
store_is_clean g clean s = both _ _ (clean _) (clean _)
