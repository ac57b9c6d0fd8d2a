-- An item near its limit of units in the house.
use Rattle.machine.proofs.Words.{◌≡◌, ℕ, zero, suc, List, ◌∷◌, codes, refl, Some, None, OverUnits, Act, units_in_house, verdict}
use Rattle.machine.proofs.examples.ExampleHistories.{may_4, june_30, warehouse, OATS, A1, L1, delivered, receive}

-- n receipts of a million units
abbrev many : ℕ → List Act
many zero = warehouse
many (suc n) = delivered (codes "D-1") n (receive L1 june_30 A1 1_000_000) ∷ many n

abbrev nearly_full : List Act
nearly_full = delivered (codes "D-2") 1 (receive L1 june_30 A1 999_999) ∷ many 9_999

one_unit_is_missing : units_in_house may_4 nearly_full OATS ≡ 9_999_999_999
one_unit_is_missing = refl

the_last_unit_is_received : verdict may_4 nearly_full (receive L1 june_30 A1 1) ≡ None
the_last_unit_is_received = refl

one_more_is_over_the_limit : verdict may_4 (delivered (codes "D-3") 1 (receive L1 june_30 A1 1) ∷ nearly_full) (receive L1 june_30 A1 1) ≡ Some OverUnits
one_more_is_over_the_limit = refl
