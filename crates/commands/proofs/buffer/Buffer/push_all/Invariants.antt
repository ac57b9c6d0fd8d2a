use Rattle.std.proofs.Common.{◌≡◌, ◌+◌, ◌≤◌, ◌++◌, length, take}
use Rattle.commands.proofs.buffer.Buffer.push_all.Given as goal

abbrev pub invariant-loop-byte : goal.invariant-loop-byte
invariant-loop-byte g l = (l.self ≡ l.initial.self ++ take l.byte-index l.more) × (length l.initial.self + length l.more ≤ g.row.N)
