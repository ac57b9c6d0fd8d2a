-- What is written piece after piece.
use Rattle.std.proofs.Common.{◌≡◌, ◌++◌, ℕ, List, Option, subst}
use Rattle.std.specs.Io.KnownBytes.{Appends}
use Rattle.std.proofs.KnownBytes.{Appends-trans}

-- seven pieces, three of which are known by what they spell
pub seven_written : (s0 s1 s2 s3 s4 s5 s6 s7 : Option (List ℕ)) (b1 b2 b3 b4 b5 b6 b7 gtin lot day : List ℕ) → b2 ≡ gtin → b4 ≡ lot → b6 ≡ day
    → Appends s0 s1 b1 → Appends s1 s2 b2 → Appends s2 s3 b3 → Appends s3 s4 b4 → Appends s4 s5 b5 → Appends s5 s6 b6 → Appends s6 s7 b7
    → Appends s0 s7 ((((((b1 ++ gtin) ++ b3) ++ lot) ++ b5) ++ day) ++ b7)
seven_written s0 s1 s2 s3 s4 s5 s6 s7 b1 b2 b3 b4 b5 b6 b7 gtin lot day is_gtin is_lot is_day p1 p2 p3 p4 p5 p6 p7 =
    Appends-trans s0 s6 s7 _ b7 (Appends-trans s0 s5 s6 _ day (Appends-trans s0 s4 s5 _ b5 (Appends-trans s0 s3 s4 _ lot
    (Appends-trans s0 s2 s3 _ b3 (Appends-trans s0 s1 s2 b1 gtin p1 (subst (Appends s1 s2) is_gtin p2)) p3) (subst (Appends s3 s4) is_lot p4)) p5) (subst (Appends s5 s6) is_day p6)) p7
