use Rattle.rows_in_memory.proofs.Words.{◌≡◌, drop, with_keys, AreKeyed}
use Rattle.rows_in_memory.proofs.key_list.KeyList.add_all.Given as goal

-- what the rows that are left make of the values so far is what all of them make of those that there were
abbrev pub invariant-loop-row : goal.invariant-loop-row
invariant-loop-row g l =
    AreKeyed g.K.Ord.cmp g.K.KeyOf.key g.K.KeyOf.same l.initial.self.keys l.initial.self.values.items → AreKeyed g.K.Ord.cmp g.K.KeyOf.key g.K.KeyOf.same l.self.keys l.self.values.items
    × (with_keys g.K.KeyOf.same g.R.Has.of_row (drop l.row-index l.rows) l.self.values.items ≡ with_keys g.K.KeyOf.same g.R.Has.of_row l.rows l.initial.self.values.items)
