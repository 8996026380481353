-- The link as six words (01, "The tag's link": sleeping, looking, or ready with beacon and LID; the stored time and the tick last awake): phase number,
-- manufacturer, individual, LID, time, tick. Words that are no link are one out of range, which each call refuses as 23.
-- Assumes nothing.
use Rattle.std.specs.Prelude.{ℕ, ◌-◌, ◌^◌, ◌<◌, ◌≡◌, true, false, List, [], ◌∷◌, length, get_or, replicate, eqb}
use Rattle.refusals.specs.Check.{pick}
use Rattle.initialisation.specs.declared.records.Beacon.{Beacon}
use Rattle.initialisation.specs.declared.records.Phase.{Phase}
use Rattle.initialisation.specs.declared.records.Phase.TheVariants.{Sleeping, Looking, Ready}
use Rattle.initialisation.specs.declared.records.Link.{Link}
use Rattle.initialisation.specs.Link.{link_in_range}
use Rattle.words.specs.Word.{narrow_to}

abbrev pub link_length : ℕ
link_length = 6

-- ---- packing

abbrev pub no_beacon : Beacon
no_beacon = record { manufacturer = 0; individual = 0 }

abbrev pub phase_number : Phase → ℕ
phase_number Sleeping = 0
phase_number Looking = 1
phase_number (Ready beacon lid) = 2

-- what a phase does not have is 0
abbrev pub phase_beacon : Phase → Beacon
phase_beacon Sleeping = no_beacon
phase_beacon Looking = no_beacon
phase_beacon (Ready beacon lid) = beacon

abbrev pub phase_lid : Phase → ℕ
phase_lid Sleeping = 0
phase_lid Looking = 0
phase_lid (Ready beacon lid) = lid

unfoldable pub link_words : Link → List ℕ
link_words link =
    let phase = link.phase in
    phase_number phase
    ∷ narrow_to 32 (phase_beacon phase).manufacturer
    ∷ narrow_to 32 (phase_beacon phase).individual
    ∷ phase_lid phase
    ∷ link.time
    ∷ link.tick
    ∷ []

-- lent words after a link is put there: six of them are the link's, and any other number stays as it was
unfoldable pub with_link : Link → List ℕ → List ℕ
with_link link words = pick (eqb (length words) link_length) (link_words link) words

-- ---- unpacking

-- ready under a LID that no link has
abbrev pub no_phase : Phase
no_phase = Ready no_beacon (2 ^ 32 - 1)

-- the phase of a number, where this is the ready one
unfoldable pub phase_numbered : ℕ → Phase → Phase
phase_numbered p ready = pick (eqb p 0) Sleeping (pick (eqb p 1) Looking (pick (eqb p 2) ready no_phase))

unfoldable pub phase_in : List ℕ → Phase
phase_in words =
    pick (eqb (length words) link_length)
    (phase_numbered (get_or words 0 0) (Ready (record { manufacturer = get_or words 1 0; individual = get_or words 2 0 }) (get_or words 3 0)))
    no_phase

unfoldable pub link_in : List ℕ → Link
link_in words = record { time = get_or words 4 0; tick = get_or words 5 0; phase = phase_in words }

-- ---- promises (proofs/LinkLaws.antt proves each; `put_link` cites the second, `link_in` the others)

-- a link in range is what its words are
unfoldable pub UnpackingLink : Type 0
UnpackingLink = (link : Link) → link_in_range link ≡ true → link_in (link_words link) ≡ link

-- so six words hold the link that was put into them
unfoldable pub UnpackingPutLink : Type 0
UnpackingPutLink =
    (link : Link) (words : List ℕ) → link_in_range link ≡ true → length words ≡ link_length → link_in (with_link link words) ≡ link

-- words of another length are a link out of range
unfoldable pub OtherLinkLength : Type 0
OtherLinkLength = (words : List ℕ) → (length words ≡ link_length → ⊥) → link_in_range (link_in words) ≡ false

-- and so are those with another phase number than 0 to 2
unfoldable pub OtherPhase : Type 0
OtherPhase = (words : List ℕ) → 2 < get_or words 0 0 → link_in_range (link_in words) ≡ false

-- words that are all zero are a link that sleeps
unfoldable pub FirstLink : Type 0
FirstLink = link_in (replicate link_length 0) ≡ record { time = 0; tick = 0; phase = Sleeping }
