-- Laws of the link's words: what is put reads back, and words that are no link are out of range. Assumes nothing.
use mathlib.Core.Path.{◌≡◌, refl, ap, ◌∙◌}
use mathlib.Core.Bool.{true, ◌&&◌}
use mathlib.Core.List.{List, [], ◌∷◌, ◌++◌, append-nil}
use Prim.Native.Nat.{ℕ, ◌+◌, ◌<◌, ◌^◌}
use native.Mathlib.Omega.{arith}
use lib.ListN.{length, get_or, drop}
use lib.Seq.{sets, sets-eq, drop-length}
use borrow.Author.Tests.{eq-eqb, ne_eqb, ltb-true}
use lib.Dec.{eqb, ltb}
use Rattle.refusals.proofs.Tests.{by_cases}
use Rattle.apdu_format.proofs.Tests.{both}
use Rattle.initialisation.specs.declared.records.Beacon.{Beacon}
use Rattle.initialisation.specs.declared.records.Phase.{Phase}
use Rattle.initialisation.specs.declared.records.Phase.TheVariants.{Sleeping, Looking, Ready}
use Rattle.initialisation.specs.declared.records.Link.{Link}
use Rattle.initialisation.specs.Link.{phase_in_range}
use Rattle.words.specs.LinkWords.{phase_number, phase_beacon, phase_lid, link_words, with_link, phase_numbered, phase_in, link_in, UnpackingLink, UnpackingPutLink, OtherLinkLength, OtherPhase, FirstLink}
use Rattle.words.specs.Word.{narrow_to}
use Rattle.words.proofs.Words.{narrow_small}

-- ---- putting

-- putting as many words as there are leaves just these
pub put_all : (vs l : List ℕ) → length l ≡ length vs → sets l 0 vs ≡ vs
put_all vs l e =
    let z : 0 + length vs ≡ length l = omega arith in
    sets-eq vs l 0 (omega arith) ∙ ap (λ (k : ℕ). vs ++ drop k l) z ∙ ap (λ (r : List ℕ). vs ++ r) (drop-length l) ∙ append-nil vs

module _ (link : Link) (words : List ℕ) where
  pub put_none : (length words ≡ 6 → ⊥) → words ≡ with_link link words
  unfolding with_link
  put_none n = simp (ne_eqb _ _ n)

  pub put_six : {phase lid : ℕ} {beacon : Beacon} {after : List ℕ} → length words ≡ 6
      → phase ≡ phase_number link.phase → beacon ≡ phase_beacon link.phase → lid ≡ phase_lid link.phase
      → after ≡ phase ∷ narrow_to 32 beacon.manufacturer ∷ narrow_to 32 beacon.individual ∷ lid ∷ link.time ∷ link.tick ∷ []
      → after ≡ with_link link words
  unfolding with_link link_words
  put_six n p b l e = simp (eq-eqb _ _ n, ← p, ← b, ← l) e

  -- the words put one by one
  pub put_each : {phase lid : ℕ} {beacon : Beacon} {after : List ℕ} → length words ≡ 6
      → phase ≡ phase_number link.phase → beacon ≡ phase_beacon link.phase → lid ≡ phase_lid link.phase
      → after ≡ sets words 0 (phase ∷ narrow_to 32 beacon.manufacturer ∷ narrow_to 32 beacon.individual ∷ lid ∷ link.time ∷ link.tick ∷ [])
      → after ≡ with_link link words
  put_each n p b l e = put_six n p b l (e ∙ put_all _ words n)

-- ---- reading back

back_in : (time tick : ℕ) (phase : Phase) → phase_in_range phase ≡ true
    → link_in (link_words (record { time = time; tick = tick; phase = phase })) ≡ record { time = time; tick = tick; phase = phase }
unfolding link_in link_words phase_in phase_numbered
back_in time tick Sleeping e = refl
back_in time tick Looking e = refl
back_in time tick (Ready beacon lid) e =
    let b = both (ltb beacon.manufacturer (2 ^ 16)) (ltb beacon.individual (2 ^ 27) && ltb lid (2 ^ 28)) e in
    let d = both (ltb beacon.individual (2 ^ 27)) (ltb lid (2 ^ 28)) b.1 in
    let m : beacon.manufacturer < 2 ^ 16 = ltb-true _ _ b.0 in
    let i : beacon.individual < 2 ^ 27 = ltb-true _ _ d.0 in
    simp (← narrow_small 32 beacon.manufacturer (omega arith), ← narrow_small 32 beacon.individual (omega arith))

pub unpacking_link : UnpackingLink
unfolding UnpackingLink
unpacking_link link e = back_in link.time link.tick link.phase e

pub unpacking_put_link : UnpackingPutLink
unfolding UnpackingPutLink UnpackingLink with_link
unpacking_put_link link words e n = rw (eq-eqb (length words) 6 n) (unpacking_link link e)

pub first_link : FirstLink
unfolding FirstLink link_in phase_in phase_numbered
first_link = refl

-- ---- what is refused

pub other_link_length : OtherLinkLength
unfolding OtherLinkLength link_in phase_in
other_link_length words n = simp (ne_eqb _ _ n)

pub other_phase : OtherPhase
unfolding OtherPhase link_in phase_in phase_numbered
other_phase words h =
    by_cases (eqb (length words) 6)
    (λ e. simp (e, ne_eqb (get_or words 0 0) 0 (λ z. omega arith), ne_eqb (get_or words 0 0) 1 (λ z. omega arith), ne_eqb (get_or words 0 0) 2 (λ z. omega arith)))
    (λ e. simp e)
