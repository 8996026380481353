-- The BST call (01, "The tag's link"), sentence by sentence: its checks; the stored time and tick and the waking; what the tag takes; silence, fresh start
-- and VST. Proved of it in specs/Theorems.antt: what a VST says, and when one is sent.
-- Assumes nothing.
use Rattle.std.specs.Prelude.{◌≡◌, ℕ, Option, None, Some, Result, Ok, Err, ◌^◌, Bool, true, not, ◌&&◌, List, [], ◌∷◌, ◌++◌, length, take, drop, ◌==◌, nat_lt}
use Rattle.refusals.specs.Check.{pick, Check, check, first_of}
use Rattle.refusals.specs.declared.Refusal.{Refusal}
use Rattle.refusals.specs.Refusal.{number_of}
use Rattle.apdu_format.specs.Component.{octet_string}
use Rattle.apdu_format.specs.Reading.{Value}
use Rattle.apdu_format.specs.Writing.{size, encoded_octets}
use Rattle.apdu.specs.declared.lists.Entry.{Entry}
use Rattle.apdu.specs.declared.lists.Lists.{Lists}
use Rattle.apdu.specs.declared.records.Bst.{Bst}
use Rattle.apdu.specs.declared.records.Vst.{Vst}
use Rattle.apdu.specs.declared.records.Message.TheVariants as kind
use Rattle.apdu.specs.Values.{values_of}
use Rattle.apdu.specs.Sound.{well_formed}
use Rattle.initialisation.specs.declared.records.Beacon.{Beacon}
use Rattle.initialisation.specs.declared.records.Phase.{Phase}
use Rattle.initialisation.specs.declared.records.Phase.TheVariants.{Sleeping, Looking, Ready}
use Rattle.initialisation.specs.declared.records.Link.{Link}
use Rattle.initialisation.specs.declared.records.Element.{Element}
use Rattle.initialisation.specs.declared.records.Elements.{Elements}
use Rattle.initialisation.specs.declared.records.Configuration.{Configuration}
use Rattle.initialisation.specs.declared.hearing.Taken.{Taken}
use Rattle.initialisation.specs.Link.{lid_in_range, link_in_range}
use Rattle.initialisation.specs.Elements.{own_elements, elements_sound}
use Rattle.initialisation.specs.Offer.{profile_of, offered_by, pair_of}
use Rattle.initialisation.specs.Known.{is_known}

-- what a BST call brings; `lent` are the octets of the BST record's strings, `marks` those of the elements'
pub record Call : Type 0 where
  pub link : Link
  pub bst : Bst
  pub lists : Lists
  pub lent : List ℕ
  pub tick : ℕ
  pub lid : ℕ
  pub own : Elements
  pub marks : List ℕ
  pub configuration : Configuration
  pub out : List ℕ

abbrev pub call : Link → Bst → Lists → List ℕ → (tick lid : ℕ) → Elements → List ℕ → Configuration → List ℕ → Call
call link bst lists lent tick lid own marks k out =
    record { link = link; bst = bst; lists = lists; lent = lent; tick = tick; lid = lid; own = own; marks = marks; configuration = k; out = out }

-- ---- checks

-- the octets that an output must have
abbrev pub least_output : ℕ
least_output = 512

-- class of 15 bits, maker and status of 16
unfoldable pub configuration_in_range : Configuration → Bool
configuration_in_range k = nat_lt k.class (2 ^ 15) && (nat_lt k.maker (2 ^ 16) && nat_lt k.status (2 ^ 16))

-- any of the three records: link, BST, configuration
unfoldable pub records_in_range : Link → Bst → Lists → List ℕ → Configuration → Bool
records_in_range link bst lists lent k =
    link_in_range link && (well_formed lent (kind.Bst bst) lists.entries lists.rows && configuration_in_range k)

abbrev pub hearing_checks : (octets lid : ℕ) (sound fine : Bool) → List Check
hearing_checks octets lid sound fine =
    check 1 (nat_lt octets least_output) ∷ check 3 (not (lid_in_range lid)) ∷ check 26 (not sound) ∷ check 23 (not fine) ∷ []

-- the refusal of a call, or 0
unfoldable pub hearing_refusal : Call → ℕ
hearing_refusal c =
    first_of
    (hearing_checks (length c.out) c.lid (elements_sound (length c.marks) c.own)
    (records_in_range c.link c.bst c.lists c.lent c.configuration))

-- ---- what is taken

-- no profile or no pair: nothing
abbrev pub both : Option ℕ → Option Element → Option Taken
both None e = None
both (Some p) None = None
both (Some p) (Some e) = Some (record { profile = p; element = e })

abbrev pub beacon_of : Bst → Beacon
beacon_of bst = record { manufacturer = bst.manufacturer; individual = bst.individual }

-- what a VST is sent for: what is taken, unless the tag is ready, with the same beacon, and the time difference 0 to 254
unfoldable pub sent_for : Link → Bst → List Entry → List ℕ → Elements → Option Taken
sent_for link bst entries lent own =
    pick (is_known link.phase link.time (beacon_of bst) bst.time) None
    (both (profile_of lent bst) (pair_of (offered_by bst entries) (own_elements own)))

abbrev pub sent : Call → Option Taken
sent c = sent_for c.link c.bst c.lists.entries c.lent c.own

-- ---- the link afterwards

-- a BST wakes a sleeping tag to looking
abbrev pub woken : Phase → Phase
woken Sleeping = Looking
woken Looking = Looking
woken (Ready beacon lid) = Ready beacon lid

-- silent: the phase stays; a VST: ready under the fresh LID
abbrev pub phase_after : Option Taken → Phase → Beacon → (lid : ℕ) → Phase
phase_after None phase beacon lid = woken phase
phase_after (Some t) phase beacon lid = Ready beacon lid

-- every BST stores its time and tick
abbrev pub link_after : Call → Link
link_after c =
    record { time = c.bst.time; tick = c.tick; phase = phase_after (sent c) c.link.phase (beacon_of c.bst) c.lid }

-- ---- the VST

-- the one entry: empty mark, no parameter
abbrev pub entry_of : Element → Entry
entry_of e =
    record {
      has_eid = true;
      has_parameter = nat_lt 0 e.mark_length;
      aid = e.aid;
      eid = e.eid;
      kind = octet_string;
      n = e.mark_length;
      start = 0;
      rows = 0;
    }

-- the mark of an element
abbrev pub mark_of : Element → List ℕ → List ℕ
mark_of e marks = take e.mark_length (drop e.mark marks)

-- status present, fill 0
abbrev pub vst_of : ℕ → Configuration → Vst
vst_of profile k = record { fill = 0; profile = profile; applications = 1; class = k.class; maker = k.maker; has_status = true; status = k.status }

unfoldable pub vst_for : Taken → List ℕ → Configuration → List Value
vst_for t marks k = values_of (mark_of t.element marks) (kind.Vst (vst_of t.profile k)) (entry_of t.element ∷ []) []

-- ---- the call

-- 01's number, silence, or a VST of so many octets
pub data Reply : Type 0 where
  refused : ℕ → Reply
  silent : Reply
  vst : ℕ → Reply

abbrev pub reply_to : Option Taken → List ℕ → Configuration → Reply
reply_to None marks k = silent
reply_to (Some t) marks k = vst (size (vst_for t marks k))

-- the VST's octets from the front, and every other octet as it was
abbrev pub output_for : Option Taken → List ℕ → Configuration → List ℕ → List ℕ
output_for None marks k out = out
output_for (Some t) marks k out = let vs = vst_for t marks k in encoded_octets vs ++ drop (size vs) out

-- what a call answers, and the link and the output after it
pub record Heard : Type 0 where
  pub reply : Reply
  pub link : Link
  pub out : List ℕ

-- a refusal changes nothing
unfoldable pub heard_of : Call → Heard
heard_of c =
    pick (hearing_refusal c == 0)
    (record {
      reply = reply_to (sent c) c.marks c.configuration;
      link = link_after c;
      out = output_for (sent c) c.marks c.configuration c.out;
    })
    (record { reply = refused (hearing_refusal c); link = c.link; out = c.out })

-- 01's number and values for each case of the answer
abbrev pub reply_of : Result (Option ℕ) Refusal → Reply
reply_of (Ok None) = silent
reply_of (Ok (Some n)) = vst n
reply_of (Err refusal) = refused (number_of refusal)

-- the contract
pub record BstGives (c : Call) (r : Result (Option ℕ) Refusal) (link : Link) (out : List ℕ) : Type 0 where
  pub reply_is : reply_of r ≡ (heard_of c).reply
  pub link_is : link ≡ (heard_of c).link
  pub output_is : out ≡ (heard_of c).out
