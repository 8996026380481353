-- The words after a link call are the link after it: what is put there is in range. Assumes nothing.
use Prim.Native.Nat.{ℕ, ◌^◌}
use mathlib.Core.Path.{◌≡◌, refl, ap, sym, ◌∙◌}
use mathlib.Core.Bool.{Bool, true, false, not, ◌&&◌}
use mathlib.Core.List.{List, [], ◌∷◌}
use lib.ListN.{length}
use lib.Dec.{eqb, ltb}
use borrow.Author.Tests.{eqb-true, eqb-false, not-false}
use Rattle.std.specs.Prelude.{Option, Some, None}
use Rattle.refusals.specs.Check.{Check, check, first_of}
use Rattle.refusals.proofs.Tests.{by_test, by_cases, and_true, first_none}
use Rattle.apdu_format.specs.Table.{layout_of}
use Rattle.apdu_format.specs.Rules.{shape, checks_of, brings}
use Rattle.apdu_format.specs.Reading.{Value, fields, numbers_of, through}
use Rattle.apdu_format.specs.Writing.{fields_fit, fits, is_value, put_value, put_first, put, puts, written, none, in_range}
use Rattle.apdu_format.proofs.Tests.{both, never}
use Rattle.apdu.specs.declared.lists.Row.{Row}
use Rattle.apdu.specs.declared.lists.Entry.{Entry}
use Rattle.apdu.specs.declared.records.Bst.{Bst}
use Rattle.apdu.specs.declared.records.Message.TheVariants as kind
use Rattle.apdu.specs.Values.{bit_of, bst_values, values_of}
use Rattle.apdu.specs.Sound.{well_formed}
use Rattle.apdu.proofs.Formed.{formed_ranges}
use Rattle.apdu.specs.declared.lists.Lists.{Lists}
use Rattle.apdu_reading.specs.declared.front.Answer as reader
use Rattle.apdu_reading.specs.declared.front.Answer.TheVariants as answer
use Rattle.initialisation.specs.declared.records.Phase.{Phase}
use Rattle.initialisation.specs.declared.records.Phase.TheVariants.{Sleeping, Looking, Ready}
use Rattle.initialisation.specs.declared.records.Link.{Link}
use Rattle.initialisation.specs.Link.{lid_in_range, phase_in_range, link_in_range, is_ready_under, is_asleep, Changed, changed, release_of, tick_of}
use Rattle.initialisation.specs.Elements.{elements_sound}
use Rattle.initialisation.specs.declared.hearing.Taken.{Taken}
use Rattle.initialisation.specs.Hearing.{Call, configuration_in_range, records_in_range, hearing_refusal, beacon_of, sent, woken, phase_after, link_after, reply_to, Heard, heard_of}
use Rattle.words.specs.LinkWords.{with_link, link_in, UnpackingPutLink, OtherLinkLength}
use Rattle.words.proofs.LinkLaws.{unpacking_put_link, other_link_length}
use Rattle.exports.specs.LinkCalls.{change_words, reply_words, Effect, heard_effect, offer_of, Brought, call_of, offered_effect, read_effect, offered_link, heard_link, KeptReleased, KeptTicked, KeptHeard}

-- ---- what is put

module _ (words : List ℕ) (here : link_in_range (link_in words) ≡ true) where
  six_words : length words ≡ 6
  unfolding OtherLinkLength
  six_words =
      by_cases (eqb (length words) 6) (λ t. eqb-true (length words) 6 t)
      (λ t. never (sym (other_link_length words (eqb-false (length words) 6 t)) ∙ here))

  put_back : (link : Link) → link_in_range link ≡ true → link_in (with_link link words) ≡ link
  unfolding UnpackingPutLink
  put_back link h = unpacking_put_link link words h six_words

-- ---- release and tick

module _ (words : List ℕ) where
  -- both links are in range where no check holds
  abbrev InRange : List Check → Link → Type 0
  InRange checks after = first_of checks ≡ 0 → (link_in_range (link_in words) ≡ true) × (link_in_range after ≡ true)

  change_kept : (checks : List Check) (after : Link) → InRange checks after
      → let c = changed checks (link_in words) after in link_in (change_words c.answer c.link words) ≡ c.link
  unfolding changed change_words
  change_kept checks after ranges =
      by_test (λ (c : Changed). link_in (change_words c.answer c.link words) ≡ c.link) (eqb (first_of checks) 0)
      (λ t. let h = ranges (eqb-true (first_of checks) 0 t) in put_back words h.0 after h.1) (λ t. refl)

  -- a check of the link, the first of these
  link_checked : (rest : List Check) → first_of (check 23 (not (link_in_range (link_in words))) ∷ rest) ≡ 0 → link_in_range (link_in words) ≡ true
  link_checked rest e = not-false (link_in_range (link_in words)) (first_none 22 (not (link_in_range (link_in words))) rest e).0

pub kept_released : KeptReleased
unfolding KeptReleased release_of
kept_released lid words r words' g =
    let behind = check 25 (not (is_ready_under lid (link_in words).phase)) ∷ [] in
    ap link_in g.words_are
    ∙ change_kept words _ _
    (λ e. (link_checked words behind (first_none 2 (not (lid_in_range lid)) (check 23 (not (link_in_range (link_in words))) ∷ behind) e).1, refl))

pub kept_ticked : KeptTicked
unfolding KeptTicked tick_of
kept_ticked tick words r words' g =
    ap link_in g.words_are
    ∙ change_kept words _ _
    (λ e.
    let h = link_checked words [] e in
    (h, by_test (λ (l : Link). link_in_range l ≡ true) (is_asleep tick (link_in words).tick) (λ t. refl) (λ t. h)))

-- ---- BST

-- the leading part of a message that is written: a beacon of 16 and 27 bits
lead_fits : (has : Bool) (m i : ℕ) (rest : List Value) → (written (fields (8 ∷ []) ∷ fields (bit_of has ∷ m ∷ i ∷ []) ∷ rest)).ok ≡ true
    → (ltb m (2 ^ 16) ≡ true) × (ltb i (2 ^ 27) ≡ true)
unfolding written puts through put put_first put_value is_value fits fields_fit shape checks_of brings numbers_of layout_of first_of
lead_fits true m i rest h =
    by_cases (ltb m (2 ^ 16)) (λ a. (a, by_cases (ltb i (2 ^ 27)) (λ b. b) (λ b. never (rw (a, b) at h)))) (λ a. never (rw a at h))
lead_fits false m i rest h =
    by_cases (ltb m (2 ^ 16)) (λ a. (a, by_cases (ltb i (2 ^ 27)) (λ b. b) (λ b. never (rw (a, b) at h)))) (λ a. never (rw a at h))

beacon_fits : (s : List ℕ) (m : Bst) (es : List Entry) (rs : List Row) → well_formed s (kind.Bst m) es rs ≡ true
    → (ltb m.manufacturer (2 ^ 16) ≡ true) × (ltb m.individual (2 ^ 27) ≡ true)
unfolding in_range values_of bst_values
beacon_fits s m es rs h =
    let vs = values_of s (kind.Bst m) es rs in
    lead_fits m.has_others m.manufacturer m.individual _ (both (written vs).ok (none (written vs).left) (formed_ranges s (kind.Bst m) es rs h)).0

woken_in_range : (p : Phase) → phase_in_range p ≡ true → phase_in_range (woken p) ≡ true
woken_in_range Sleeping h = refl
woken_in_range Looking h = refl
woken_in_range (Ready beacon lid) h = h

module _ (c : Call) where
  -- what the checks tell
  record Passed : Type 0 where
    lid : lid_in_range c.lid ≡ true
    link : link_in_range c.link ≡ true
    formed : well_formed c.lent (kind.Bst c.bst) c.lists.entries c.lists.rows ≡ true

  passed : hearing_refusal c ≡ 0 → Passed
  unfolding hearing_refusal records_in_range
  passed e =
      let fine = records_in_range c.link c.bst c.lists c.lent c.configuration in
      let elements = elements_sound (length c.marks) c.own in
      let formed = well_formed c.lent (kind.Bst c.bst) c.lists.entries c.lists.rows in
      let a = first_none 0 (ltb (length c.out) 512) (check 3 (not (lid_in_range c.lid)) ∷ check 26 (not elements) ∷ check 23 (not fine) ∷ []) e in
      let b = first_none 2 (not (lid_in_range c.lid)) (check 26 (not elements) ∷ check 23 (not fine) ∷ []) a.1 in
      let d = first_none 25 (not elements) (check 23 (not fine) ∷ []) b.1 in
      let f = both (link_in_range c.link) (formed && configuration_in_range c.configuration) (not-false fine (first_none 22 (not fine) [] d.1).0) in
      record { lid = not-false (lid_in_range c.lid) b.0; link = f.0; formed = (both formed (configuration_in_range c.configuration) f.1).0 }

  after_in_range : Passed → link_in_range (link_after c) ≡ true
  after_in_range p = go (sent c)
    where
      go : (f : Option Taken) → phase_in_range (phase_after f c.link.phase (beacon_of c.bst) c.lid) ≡ true
      go None = woken_in_range c.link.phase p.link
      go (Some t) =
          let b = beacon_fits c.lent c.bst c.lists.entries c.lists.rows p.formed in
          and_true b.0 (and_true b.1 p.lid)

  heard_kept : (words : List ℕ) → c.link ≡ link_in words → link_in (reply_words (heard_of c).reply (heard_of c).link words) ≡ (heard_of c).link
  unfolding heard_of reply_words
  heard_kept words is =
      by_test (λ (h : Heard). link_in (reply_words h.reply h.link words) ≡ h.link) (eqb (hearing_refusal c) 0)
      (λ t.
      let p = passed (eqb-true (hearing_refusal c) 0 t) in
      go (sent c) (put_back words (sym (ap link_in_range is) ∙ p.link) (link_after c) (after_in_range p)))
      (λ t. sym is)
    where
      go : (f : Option Taken) → link_in (with_link (link_after c) words) ≡ link_after c
          → link_in (reply_words (reply_to f c.marks c.configuration) (link_after c) words) ≡ link_after c
      go None e = e
      go (Some t) e = e

module _ (b : Brought) (s : List ℕ) (lists : Lists) where
  offer_kept : (o : Option Bst) → link_in (offered_effect b s lists o).words ≡ offered_link b s lists o
  unfolding offered_effect heard_effect offered_link
  offer_kept None = refl
  offer_kept (Some bst) = heard_kept (call_of b s lists bst) b.words refl

  bst_kept : (a : reader.Answer) → link_in (read_effect b s lists a).words ≡ heard_link b s lists a
  unfolding read_effect heard_link
  bst_kept (answer.Refused k p) = refl
  bst_kept (answer.Message m) = offer_kept (offer_of m)

pub kept_heard : KeptHeard
unfolding KeptHeard
kept_heard b s r words' out' g =
    ap (λ (e : Effect). link_in e.words) g.is ∙ bst_kept b s g.reading.lists g.reading.answer
