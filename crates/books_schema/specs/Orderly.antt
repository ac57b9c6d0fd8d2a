-- The trees of a store's last commit are listed and in order, whatever its transaction is in.
use Rattle.std.specs.Prelude.{zero, suc, ◌==◌, true, false, if◌then◌else◌, List, [], ◌∷◌, map, IsTrue, refl}
use Rattle.std.proofs.Math.Logic.{∥∥₁_elim}
use Rattle.sqlite_disk.specs.declared.Disk.{Ghosts}
use Rattle.sqlite_wal.proofs.StateLemmas.{clean_of}
use Rattle.sqlite_trees.specs.declared.store.Shape.TheVariants.{Table}
use Rattle.sqlite_trees.specs.declared.memory.MemStore.{MemStore}
use Rattle.sqlite_trees.specs.declared.memory.tree.Tree.{Tree}
use Rattle.sqlite_trees.specs.Listing.{objects_are_listed, objects_are_ordered}
use Rattle.sqlite_trees.specs.Memory.{memory_view, heading, rows_of, forest, shapes, shape_of, objects_of}
use Rattle.sqlite_trees.specs.Objects.{catalog_tree, version_tree, version_rows, IsListed}
use Rattle.sqlite_trees.specs.Props.{IsShaped-prop, IsOrdered-prop}
use Rattle.sqlite_trees.specs.View.{View, IsShaped, IsOrdered}
use Rattle.sqlite_store.specs.FileStore.{state, view}
use Rattle.sqlite_store.specs.Listed.{catalog_rows, is_listed}
use Rattle.sqlite_store.specs.Saved.{kept_schema}
use Rattle.sqlite_store.specs.declared.store.FileStore.{FileStore}
use Rattle.sqlite_store.proofs.ListingLemmas.{all_ordered}

pub record IsInOrder (v : View) : Type 0 where
  pub listed : IsListed (v.committed catalog_tree) v.committed_shape v.committed_reals
  pub ordered : IsOrdered v.committed_shape v.committed

-- a store over files: its pages were checked as it was opened, and each commit keeps them sound
pub file_in_order : {D : Type 0} (g : Ghosts D) (it : FileStore D g) → IsTrue (view it).is_open → IsInOrder (view it)
file_in_order g it is_open = record {
  listed = rw (clean_of (state it) is_open, catalog_rows (state it).page_size (kept_schema it.saved it.schema.items) _) (is_listed (kept_schema it.saved it.schema.items));
  ordered = rw (clean_of (state it) is_open) (∥∥₁_elim (it.stored is_open) (IsOrdered-prop _ _) (λ stored. all_ordered stored.ours.file.db _));
}

rows_are_ordered : (trees : List Tree) → IsOrdered (shape_of trees) (rows_of trees)
rows_are_ordered [] t = refl
rows_are_ordered (x ∷ trees) zero = ∥∥₁_elim x.ordered (IsShaped-prop x.shape x.rows.items) (λ h. h)
rows_are_ordered (x ∷ trees) (suc t) = rows_are_ordered trees t

-- a store in memory
pub memory_in_order : (s : MemStore) → IsInOrder (memory_view s)
memory_in_order s = record {
  listed = objects_are_listed (map heading s.base.items);
  ordered = λ t.
      let trees = s.base.items in
      let below : IsShaped (shapes trees t) (forest trees t) =
      elim (t == catalog_tree) as (λ b. IsShaped (if b then Table else shape_of trees t) (if b then objects_of trees else rows_of trees t))
      [ true ↦ objects_are_ordered (map heading trees) 0 | false ↦ rows_are_ordered trees t ] in
      elim (t == version_tree) as (λ b. IsShaped (if b then Table else shapes trees t) (if b then version_rows s.base_version else forest trees t))
      [ true ↦ ((tt, tt), (refl, tt)) | false ↦ below ];
}
