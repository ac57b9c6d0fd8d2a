use Rattle.wire.proofs.Words.{◌≡◌, ◌+◌, ◌≤◌, ◌++◌, length, take, map, shown_byte}
use Rattle.wire.proofs.logging.push_word.Given as goal

abbrev pub invariant-loop-byte : goal.invariant-loop-byte
invariant-loop-byte l =
    (l.line ≡ l.initial.line ++ map shown_byte (take l.byte-index l.shown)) × (length l.line ≤ length l.initial.line + l.byte-index)
    × (length l.initial.line ≤ 201) × (length l.shown ≤ 200)
