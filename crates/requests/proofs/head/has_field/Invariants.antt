use Rattle.requests.proofs.Words.{◌≡◌, drop, map, length, list_any, All, header_bytes, IsHeaderWithin, is_named}
use Rattle.requests.proofs.head.has_field.Given as goal

abbrev pub invariant-loop-header : goal.invariant-loop-header
invariant-loop-header l = (list_any (is_named l.name) (map (header_bytes l.text) (drop l.header-index l.headers)) ≡ list_any (is_named l.name) (map (header_bytes l.text) l.headers))
    × All (IsHeaderWithin (length l.text)) l.headers
