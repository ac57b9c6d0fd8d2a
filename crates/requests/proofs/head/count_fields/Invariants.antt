use Rattle.requests.proofs.Words.{◌≡◌, ◌+◌, ◌≤◌, drop, map, length, count_by, All, header_bytes, IsHeaderWithin, is_named}
use Rattle.requests.proofs.head.count_fields.Given as goal

abbrev pub invariant-loop-header : goal.invariant-loop-header
invariant-loop-header l = (l.count + count_by (is_named l.name) (map (header_bytes l.text) (drop l.header-index l.headers)) ≡ count_by (is_named l.name) (map (header_bytes l.text) l.headers))
    × (l.count ≤ l.header-index) × All (IsHeaderWithin (length l.text)) l.headers
