-- A part of a lent area: the octets that it has, and where it stands in memory. So a part is told from a copy with the same octets.
-- Assumes nothing.
use Rattle.std.specs.Prelude.{◌≡◌, List, ℕ, ◌+◌, take, drop}
use Rattle.std.specs.Borrow.{Bor}

-- r is the part of s from start on, n octets long: those octets, in the same block of memory, start octets behind the front of s
pub record PartOf (s : Bor (List ℕ)) (start n : ℕ) (r : Bor (List ℕ)) : Type 0 where
  pub octets : r.now ≡ take n (drop start s.now)
  pub block : r.ref_ptr.0 ≡ s.ref_ptr.0
  pub place : r.ref_ptr.1 ≡ start + s.ref_ptr.1
