-- The BST call: what its checks tell, and one law for each way out.
-- Assumes nothing.
use Rattle.std.proofs.Common.{◌≡◌, ℕ, ◌^◌, ◌<◌, ◌≤◌, Bool, true, false, not, ◌&&◌, eqb, ltb, leb, List, [], ◌∷◌, length, sym, ap, ◌∙◌, arith, ltb-false, eq-eqb, ne_eqb, leb-true}
use borrow.Author.Tests.{not-false}
use Rattle.refusals.specs.Check.{check, first_of}
use Rattle.refusals.proofs.Tests.{by_test, first_none}
use Rattle.bits.specs.Strings.{is_inside, string_at}
use Rattle.apdu_format.proofs.Tests.{both as both_true}
use Rattle.apdu.specs.declared.lists.Entry.{Entry}
use Rattle.apdu.specs.declared.records.Bst.{Bst}
use Rattle.apdu.specs.declared.records.Message.TheVariants as kind
use Rattle.apdu.specs.Sound.{well_formed}
use Rattle.initialisation.specs.declared.records.Beacon.{Beacon}
use Rattle.initialisation.specs.declared.records.Phase.{Phase}
use Rattle.initialisation.specs.declared.records.Phase.TheVariants.{Ready}
use Rattle.initialisation.specs.declared.records.Link.{Link}
use Rattle.initialisation.specs.declared.records.Element.{Element}
use Rattle.initialisation.specs.declared.records.Elements.{Elements}
use Rattle.initialisation.specs.Link.{lid_in_range, link_in_range}
use Rattle.initialisation.specs.Elements.{element_sound, none_has, each_sound, own_elements, elements_sound}
use Rattle.std.specs.Prelude.{Option, None, Some, Ok, Err}
use Rattle.refusals.specs.declared.Refusal.{Refusal}
use Rattle.refusals.specs.declared.Refusal.TheVariants as refusal
use Rattle.refusals.specs.Refusal.{number_of}
use Rattle.initialisation.specs.Offer.{or_else, first_served, profile_of, offered_by, element_of, pair_of}
use Rattle.initialisation.specs.Known.{is_known}
use Rattle.initialisation.specs.declared.hearing.Taken.{Taken}
use Rattle.initialisation.specs.Hearing.{Call, configuration_in_range, records_in_range, hearing_checks, hearing_refusal, both, beacon_of, sent_for, sent, woken, heard_of, BstGives}
use Rattle.initialisation.specs.Searching.{Sends}
use Rattle.initialisation.proofs.BstLaws.{profiles_inside, time_fits}
use Rattle.initialisation.proofs.VstLaws.{Sendable}

-- ---- what is found

served_low : (l : List ℕ) (p : ℕ) → first_served l ≡ Some p → p ≤ 1
unfolding first_served
served_low [] p h = let z : ◌≡◌ {A = ℕ} 0 1 = cc in absurd (omega arith)
served_low (x ∷ l) p h =
    by_test (λ (f : Option ℕ). f ≡ Some p → p ≤ 1) (leb x 1) (λ t h. let e : x ≡ p = cc in omega (arith, leb-true x 1 t)) (λ t h. served_low l p h) h

either : {A : Type 0} {P : Type 0} (a b : Option A) {x : A} → (a ≡ Some x → P) → (b ≡ Some x → P) → or_else a b ≡ Some x → P
either None b f g h = g h
either (Some y) b f g h = f h

element_sound_law : (octets : ℕ) (es : List Element) (aid : ℕ) (e : Element) → each_sound octets es ≡ true → element_of aid es ≡ Some e → element_sound octets e ≡ true
unfolding element_of each_sound
element_sound_law octets [] aid e s h = let z : ◌≡◌ {A = ℕ} 0 1 = cc in absurd (omega arith)
element_sound_law octets (x ∷ es) aid e s h =
    let a = both_true (element_sound octets x) (none_has x.eid es && each_sound octets es) s in
    let b = both_true (none_has x.eid es) (each_sound octets es) a.1 in
    by_test (λ (f : Option Element). f ≡ Some e → element_sound octets e ≡ true) (eqb x.aid aid) (λ t h. let i : x ≡ e = cc in rw (← i) a.0)
    (λ t h. element_sound_law octets es aid e b.1 h) h

pair_sound : (octets : ℕ) (es : List Element) (os : List Entry) (e : Element) → each_sound octets es ≡ true → pair_of os es ≡ Some e → element_sound octets e ≡ true
unfolding pair_of
pair_sound octets es [] e s h = let z : ◌≡◌ {A = ℕ} 0 1 = cc in absurd (omega arith)
pair_sound octets es (o ∷ os) e s h = either (element_of o.aid es) (pair_of os es) (λ k. element_sound_law octets es o.aid e s k) (λ k. pair_sound octets es os e s k) h

-- both are found
pub record Parts (f : Option ℕ) (g : Option Element) (t : Taken) : Type 0 where
  pub profile : f ≡ Some t.profile
  pub element : g ≡ Some t.element

parts : (f : Option ℕ) (g : Option Element) (t : Taken) → both f g ≡ Some t → Parts f g t
parts None g t h = let z : ◌≡◌ {A = ℕ} 0 1 = cc in absurd (omega arith)
parts (Some p) None t h = let z : ◌≡◌ {A = ℕ} 0 1 = cc in absurd (omega arith)
parts (Some p) (Some e) t h =
    let i : record { profile = p; element = e } ≡ t = cc in
    record { profile = ap (λ (u : Taken). Some u.profile) i; element = ap (λ (u : Taken). Some u.element) i }

-- ---- the checks

pub refusal_is : (c : Call) {n : ℕ} {s f : Bool} → n ≡ first_of (hearing_checks (length c.out) c.lid s f) → s ≡ elements_sound (length c.marks) c.own
    → f ≡ records_in_range c.link c.bst c.lists c.lent c.configuration → n ≡ hearing_refusal c
unfolding hearing_refusal
refusal_is c {n} {s} {f} e a b =
    e ∙ ap (λ (x : Bool). first_of (hearing_checks (length c.out) c.lid x f)) a
    ∙ ap (λ (x : Bool). first_of (hearing_checks (length c.out) c.lid (elements_sound (length c.marks) c.own) x)) b

pub record Checked (c : Call) : Type 0 where
  pub room : 512 ≤ length c.out
  pub few : c.own.count ≤ 8
  pub each : each_sound (length c.marks) (own_elements c.own) ≡ true
  pub formed : well_formed c.lent (kind.Bst c.bst) c.lists.entries c.lists.rows ≡ true
  pub ranges : configuration_in_range c.configuration ≡ true

pub checked : (c : Call) → hearing_refusal c ≡ 0 → Checked c
unfolding hearing_refusal elements_sound records_in_range
checked c h =
    let fine = records_in_range c.link c.bst c.lists c.lent c.configuration in
    let sound = elements_sound (length c.marks) c.own in
    let a = first_none 0 (ltb (length c.out) 512) (check 3 (not (lid_in_range c.lid)) ∷ check 26 (not sound) ∷ check 23 (not fine) ∷ []) h in
    let b = first_none 2 (not (lid_in_range c.lid)) (check 26 (not sound) ∷ check 23 (not fine) ∷ []) a.1 in
    let d = first_none 25 (not sound) (check 23 (not fine) ∷ []) b.1 in
    let e = first_none 22 (not fine) [] d.1 in
    let s = both_true (leb c.own.count 8) (each_sound (length c.marks) (own_elements c.own)) (not-false sound d.0) in
    let f = both_true (link_in_range c.link) (well_formed c.lent (kind.Bst c.bst) c.lists.entries c.lists.rows && configuration_in_range c.configuration) (not-false fine e.0) in
    let g = both_true (well_formed c.lent (kind.Bst c.bst) c.lists.entries c.lists.rows) (configuration_in_range c.configuration) f.1 in
    record { room = ltb-false (length c.out) 512 a.0; few = leb-true c.own.count 8 s.0; each = s.1; formed = g.0; ranges = g.1 }

-- what the call asks of the search, once no check holds
pub choosable : (c : Call) → hearing_refusal c ≡ 0 → (c.own.count ≤ 8) × (is_inside (length c.lent) c.bst.profiles c.bst.profile_count ≡ true) × (c.bst.time < 2 ^ 32)
choosable c h =
    let k = checked c h in
    (k.few, profiles_inside c.lent c.bst c.lists.entries c.lists.rows k.formed, time_fits c.lent c.bst c.lists.entries c.lists.rows k.formed)

-- what is sent was taken
pub taken_parts : (c : Call) (t : Taken) → Some t ≡ sent c → Parts (profile_of c.lent c.bst) (pair_of (offered_by c.bst c.lists.entries) (own_elements c.own)) t
unfolding sent_for
taken_parts c t s =
    let f = profile_of c.lent c.bst in
    let g = pair_of (offered_by c.bst c.lists.entries) (own_elements c.own) in
    by_test (λ (x : Option Taken). x ≡ Some t → Parts f g t) (is_known c.link.phase c.link.time (beacon_of c.bst) c.bst.time)
    (λ x e. let z : ◌≡◌ {A = ℕ} 0 1 = cc in absurd (omega arith)) (λ x e. parts f g t e) (sym s)

-- what is sent can be sent
pub sendable : (c : Call) (t : Taken) → hearing_refusal c ≡ 0 → Some t ≡ sent c → Sendable c.marks t c.configuration
sendable c t h s =
    let k = checked c h in
    let p = taken_parts c t s in
    record {
      served = unfold profile_of in served_low (c.bst.profile ∷ string_at c.lent c.bst.profiles c.bst.profile_count) t.profile p.profile;
      sound = pair_sound (length c.marks) (own_elements c.own) (offered_by c.bst c.lists.entries) t.element k.each p.element;
      ranges = k.ranges;
    }

-- ---- what is decided

pub known_is : (link : Link) (bst : Bst) {k : Bool} {b : Beacon} → k ≡ is_known link.phase link.time b bst.time → b ≡ beacon_of bst
    → is_known link.phase link.time (beacon_of bst) bst.time ≡ k
known_is link bst p e = sym (p ∙ ap (λ (b : Beacon). is_known link.phase link.time b bst.time) e)

module _ (link : Link) (bst : Bst) (entries : List Entry) (lent : List ℕ) (own : Elements) where
  abbrev profile : Option ℕ
  profile = profile_of lent bst

  abbrev pair : Option Element
  pair = pair_of (offered_by bst entries) (own_elements own)

  abbrev known : Bool
  known = is_known link.phase link.time (beacon_of bst) bst.time

  pub known_stays : known ≡ true → None ≡ sent_for link bst entries lent own
  unfolding sent_for
  known_stays h = rw h

  module _ (h : known ≡ false) where
    pub no_profile : profile ≡ None → None ≡ sent_for link bst entries lent own
    unfolding sent_for
    no_profile e = rw (h, e)

    module _ {p : ℕ} (e : profile ≡ Some p) where
      pub no_pair : pair ≡ None → None ≡ sent_for link bst entries lent own
      unfolding sent_for
      no_pair f = rw (h, e, f)

      pub starts : {x : Element} → pair ≡ Some x → Some (record { profile = p; element = x }) ≡ sent_for link bst entries lent own
      unfolding sent_for
      starts f = rw (h, e, f)

-- ---- the ways out

-- no refusal has the number 0
numbered : (r : Refusal) → 0 < number_of r
numbered refusal.StoreOrOutputLength = omega arith
numbered refusal.TableNotSound = omega arith
numbered refusal.LidOutOfRange = omega arith
numbered refusal.LsduLength = omega arith
numbered refusal.HeaderNotValid = omega arith
numbered refusal.NumberReserved = omega arith
numbered refusal.NoPayload = omega arith
numbered refusal.NotOpen = omega arith
numbered refusal.NoFreeSlot = omega arith
numbered refusal.CounterNotExpected = omega arith
numbered refusal.CounterExhausted = omega arith
numbered refusal.MessageTooLong = omega arith
numbered refusal.CutShort = omega arith
numbered refusal.OctetsLeft = omega arith
numbered refusal.ChoiceUnknown = omega arith
numbered refusal.ExtensionBit = omega arith
numbered refusal.ContainerKind = omega arith
numbered refusal.CountTooLarge = omega arith
numbered refusal.TooDeep = omega arith
numbered refusal.ApduTooLong = omega arith
numbered refusal.OutputTooSmall = omega arith
numbered refusal.RecordOutOfRange = omega arith
numbered refusal.NotServed = omega arith
numbered refusal.LinkNotReady = omega arith
numbered refusal.ListNotSound = omega arith

module _ (c : Call) where
  pub refused_gives : {r : Refusal} → number_of r ≡ hearing_refusal c → BstGives c (Err r) c.link c.out
  unfolding heard_of
  refused_gives {r} e =
      let k = ne_eqb (hearing_refusal c) 0 (λ z. omega (arith, numbered r, e)) in
      record { reply_is = rw (k, e); link_is = rw k; output_is = rw k }

  module _ (h : hearing_refusal c ≡ 0) where
    pub silent_gives : {p : Phase} → None ≡ sent c → p ≡ woken c.link.phase → BstGives c (Ok None) (record { time = c.bst.time; tick = c.tick; phase = p }) c.out
    unfolding heard_of
    silent_gives s e =
        let k = eq-eqb (hearing_refusal c) 0 h in
        record { reply_is = rw (k, sym s); link_is = rw (k, sym s, e); output_is = rw (k, sym s) }

    pub started_gives : (t : Taken) {b : Beacon} {n : ℕ} {out : List ℕ} → Some t ≡ sent c → b ≡ beacon_of c.bst
        → Sends t.profile t.element c.configuration c.marks n c.out out
        → BstGives c (Ok (Some n)) (record { time = c.bst.time; tick = c.tick; phase = Ready b c.lid }) out
    unfolding heard_of
    started_gives t s e w =
        let k = eq-eqb (hearing_refusal c) 0 h in
        record { reply_is = rw (k, sym s, w.octets); link_is = rw (k, sym s, e); output_is = w.output ∙ rw (k, sym s) }
