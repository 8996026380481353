-- Words that are put one behind the other. Assumes nothing.
use mathlib.Core.Path.{◌≡◌}
use mathlib.Core.List.{List, [], ◌∷◌}
use Prim.Native.Nat.{ℕ, suc, ◌+◌}
use native.Mathlib.Omega.{arith}
use lib.ListN.{set}
use lib.Seq.{sets}

pub five_stores : (w w1 w2 w3 w4 w5 : List ℕ) (at a b c d e : ℕ) → w1 ≡ set w at a → w2 ≡ set w1 (at + 1) b → w3 ≡ set w2 (at + 2) c
    → w4 ≡ set w3 (at + 3) d → w5 ≡ set w4 (at + 4) e → w5 ≡ sets w at (a ∷ b ∷ c ∷ d ∷ e ∷ [])
five_stores w w1 w2 w3 w4 w5 at a b c d e p1 p2 p3 p4 p5 =
    let k1 : at + 1 ≡ suc at = omega arith in
    let k2 : at + 2 ≡ suc (suc at) = omega arith in
    let k3 : at + 3 ≡ suc (suc (suc at)) = omega arith in
    let k4 : at + 4 ≡ suc (suc (suc (suc at))) = omega arith in
    rw (p5, p4, p3, p2, p1, k1, k2, k3, k4)
