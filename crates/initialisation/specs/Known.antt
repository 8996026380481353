-- When a ready tag has answered a beacon already (01, "The tag's link"): the beacon is its own, and the time went on, but not far.
-- Assumes nothing.
use Rattle.std.specs.Prelude.{ℕ, Bool, false, ◌&&◌, ℤ, pos, negsuc, ◌-ℤ◌, ◌==◌, nat_le}
use Rattle.initialisation.specs.declared.records.Beacon.{Beacon}
use Rattle.initialisation.specs.declared.records.Phase.{Phase}
use Rattle.initialisation.specs.declared.records.Phase.TheVariants.{Sleeping, Looking, Ready}

-- the time difference with its sign, new minus stored: pos n is n, and negsuc n is -(n + 1)
unfoldable pub elapsed : (time stored : ℕ) → ℤ
elapsed time stored = pos time -ℤ pos stored

-- the seconds after the stored time up to which a ready tag is silent to its beacon
abbrev pub longest_silence : ℕ
longest_silence = 254

-- 0 to 254 is soon; 255 or more, and every negative difference (H), is not
abbrev pub is_soon : ℤ → Bool
is_soon (pos n) = nat_le n longest_silence
is_soon (negsuc n) = false

abbrev pub same_beacon : Beacon → Beacon → Bool
same_beacon a b = a.manufacturer == b.manufacturer && a.individual == b.individual

-- ready, with the same beacon, and soon after the stored time
abbrev pub is_known : Phase → (stored : ℕ) → Beacon → (time : ℕ) → Bool
is_known Sleeping stored beacon time = false
is_known Looking stored beacon time = false
is_known (Ready own lid) stored beacon time = same_beacon own beacon && is_soon (elapsed time stored)
