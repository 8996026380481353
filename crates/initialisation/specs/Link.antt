-- The tag's link (01, "The tag's link"): the ranges of its record, and the release and tick calls, which change the phase only.
-- Assumes nothing.
use Rattle.std.specs.Prelude.{◌≡◌, ℕ, Result, Ok, Err, ◌+◌, ◌-◌, ◌%◌, ◌^◌, Bool, true, false, not, ◌&&◌, List, [], ◌∷◌, ◌==◌, nat_le, nat_lt}
use Rattle.refusals.specs.Check.{pick, Check, check, first_of, Answer, refused, accepted}
use Rattle.refusals.specs.declared.Refusal.{Refusal}
use Rattle.refusals.specs.Refusal.{number_of}
use Rattle.initialisation.specs.declared.records.Beacon.{Beacon}
use Rattle.initialisation.specs.declared.records.Phase.{Phase}
use Rattle.initialisation.specs.declared.records.Phase.TheVariants.{Sleeping, Looking, Ready}
use Rattle.initialisation.specs.declared.records.Link.{Link}

-- ---- ranges

-- a LID is below 2^28
abbrev pub lid_in_range : ℕ → Bool
lid_in_range lid = nat_lt lid (2 ^ 28)

-- a beacon of 16 and 27 bits, and a LID
abbrev pub ready_in_range : Beacon → ℕ → Bool
ready_in_range beacon lid = nat_lt beacon.manufacturer (2 ^ 16) && (nat_lt beacon.individual (2 ^ 27) && lid_in_range lid)

abbrev pub phase_in_range : Phase → Bool
phase_in_range Sleeping = true
phase_in_range Looking = true
phase_in_range (Ready beacon lid) = ready_in_range beacon lid

-- time and tick may be any
abbrev pub link_in_range : Link → Bool
link_in_range link = phase_in_range link.phase

-- ---- what the calls ask

-- ready under this LID
abbrev pub is_ready_under : ℕ → Phase → Bool
is_ready_under lid Sleeping = false
is_ready_under lid Looking = false
is_ready_under lid (Ready beacon own) = own == lid

-- the ticks, milliseconds, without a BST after which a tag sleeps
abbrev pub awake_ticks : ℕ
awake_ticks = 100

-- the ticks that have passed since the last one, modulo 2^32
abbrev pub ticks_since : (tick last : ℕ) → ℕ
ticks_since tick last = (tick + (2 ^ 32 - last)) % 2 ^ 32

-- so many have passed since the tick last awake
abbrev pub is_asleep : (tick last : ℕ) → Bool
is_asleep tick last = nat_le awake_ticks (ticks_since tick last)

-- ---- the calls

-- the link in another phase
abbrev pub in_phase : Phase → Link → Link
in_phase phase link = record { time = link.time; tick = link.tick; phase = phase }

-- what a call answers, and the link after it
pub record Changed : Type 0 where
  pub answer : Answer (Unit {0})
  pub link : Link

-- a refusal changes nothing
unfoldable pub changed : List Check → Link → Link → Changed
changed checks before after =
    pick (first_of checks == 0) (record { answer = accepted tt; link = after }) (record { answer = refused (first_of checks); link = before })

-- release of our LID makes it looking
unfoldable pub release_of : ℕ → Link → Changed
release_of lid link =
    changed
    (check 3 (not (lid_in_range lid)) ∷ check 23 (not (link_in_range link)) ∷ check 25 (not (is_ready_under lid link.phase)) ∷ [])
    link (in_phase Looking link)

-- a tick call makes it sleeping, if it is asleep by then
unfoldable pub tick_of : ℕ → Link → Changed
tick_of tick link = changed (check 23 (not (link_in_range link)) ∷ []) link (pick (is_asleep tick link.tick) (in_phase Sleeping link) link)

-- 01's number for each case of the answer
abbrev pub answer_of : Result (Unit {0}) Refusal → Answer (Unit {0})
answer_of (Ok done) = accepted tt
answer_of (Err refusal) = refused (number_of refusal)

-- the contracts
pub record ReleaseGives (lid : ℕ) (link : Link) (r : Result (Unit {0}) Refusal) (after : Link) : Type 0 where
  pub answer_is : answer_of r ≡ (release_of lid link).answer
  pub link_is : after ≡ (release_of lid link).link

pub record TickGives (tick : ℕ) (link : Link) (r : Result (Unit {0}) Refusal) (after : Link) : Type 0 where
  pub answer_is : answer_of r ≡ (tick_of tick link).answer
  pub link_is : after ≡ (tick_of tick link).link
