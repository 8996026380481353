-- What the private functions of src/field.rt compute: octets as one number, and a field put into such a number. No public contract cites these.
-- Assumes nothing.
use Rattle.std.specs.Prelude.{ℕ, zero, suc, ◌+◌, ◌*◌, ◌/◌, ◌%◌, ◌^◌, ◌-◌, List, ◌∷◌}

-- the n low octets of v, and then l
unfoldable pub bytes : ℕ → ℕ → List ℕ → List ℕ
bytes zero v l = l
bytes (suc n) v l = bytes n (v / 256) (v % 256 ∷ l)

-- whole, with the w bits above its over low ones replaced by the low bits of v
unfoldable pub merge : ℕ → ℕ → ℕ → ℕ → ℕ
merge whole w over v = whole - whole % 2 ^ (w + over) + v % 2 ^ w * 2 ^ over + whole % 2 ^ over
