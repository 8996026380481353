-- Cases of the BST call and the tick call, computed by the definitions: a sleeping tag that has no pair, or one; a ready tag whose beacon's time is 254 later,
-- 255 later, or earlier; 01's VST with a mark of six octets; 99 and 100 ticks.
-- Assumes nothing.
use Rattle.std.proofs.Common.{◌≡◌, ℕ, ◌+◌, false, List, [], ◌∷◌, ◌++◌, map, length, take, replicate, refl}
use Rattle.refusals.specs.Check.{first_of}
use Rattle.bits.specs.Bits.{digits, bits, number, octets}
use Rattle.bits.specs.Strings.{is_inside, string_at}
use Rattle.apdu_format.specs.Table.{layout_of}
use Rattle.apdu_format.specs.Rules.{shape, checks_of, brings, announced, present, times, content}
use Rattle.apdu_format.specs.Reading.{numbers_of, through}
use Rattle.apdu_format.specs.Writing.{field_bits, fields_fit, bits_of, are_bits, fits, is_value, put_value, put_first, put, puts, written, none, in_range, encode, size, encoded_octets}
use Rattle.apdu.specs.declared.lists.Entry.{Entry}
use Rattle.apdu.specs.declared.records.Bst.{Bst}
use Rattle.apdu.specs.Values.{head_values, rows_values, entry_values, entries_values, entry_rows, rows_of, ids_at, bst_values, vst_values, values_of}
use Rattle.apdu.specs.Sound.{entry_sound, entries_sound, bst_sound, sound, rows_present, rows_fit, well_formed}
use Rattle.initialisation.specs.declared.records.Beacon.{Beacon}
use Rattle.initialisation.specs.declared.records.Phase.{Phase}
use Rattle.initialisation.specs.declared.records.Phase.TheVariants.{Sleeping, Looking, Ready}
use Rattle.initialisation.specs.declared.records.Link.{Link}
use Rattle.initialisation.specs.Link.{changed, tick_of}
use Rattle.initialisation.specs.Elements.{element_sound, none_has, each_sound, elements_sound}
use Rattle.initialisation.specs.Offer.{first_served, profile_of, offered_by, element_of, pair_of}
use Rattle.initialisation.specs.Known.{elapsed}
use Rattle.initialisation.specs.Hearing.{call, configuration_in_range, records_in_range, hearing_refusal, sent_for, vst_for, Reply, silent, vst, Heard, heard_of}

abbrev link_in : Phase → ℕ → ℕ → Link
link_in phase time tick = record { time = time; tick = tick; phase = phase }

abbrev beacon : Beacon
beacon = record { manufacturer = 6; individual = 19088743 }

abbrev entry_for : ℕ → Entry
entry_for aid = record { has_eid = false; has_parameter = false; aid = aid; eid = 0; kind = 0; n = 0; start = 0; rows = 0 }

-- a BST of that beacon with one mandatory application, at time 1,600,000,000 and tick 9, for a tag with element 1 of application 1
abbrev bst : Bst
bst =
    record {
      manufacturer = 6;
      individual = 19088743;
      time = 1600000000;
      profile = 0;
      mandatory = 1;
      has_others = false;
      others = 0;
      profiles = 0;
      profile_count = 0;
    }

-- the link, the offered AID, the octets of the element's mark, and the status
pub record Case : Type 0 where
  pub link : Link
  pub aid : ℕ
  pub mark : List ℕ
  pub status : ℕ
  -- expected: how many octets the VST has (none: silent), the octets at the output's front, and the link
  pub reply : Reply
  pub front : List ℕ
  pub after : Link

abbrev case : Link → ℕ → List ℕ → ℕ → Reply → List ℕ → Link → Case
case link aid mark status reply front after =
    record { link = link; aid = aid; mark = mark; status = status; reply = reply; front = front; after = after }

abbrev heard : Case → Heard
heard c =
    heard_of
    (call c.link bst (record { entries = entry_for c.aid ∷ []; rows = [] }) [] 9 7
    (record { list = record { eid = 1; aid = 1; mark = 0; mark_length = length c.mark } ∷ []; count = 1 }) c.mark
    (record { class = 1; maker = 5; status = c.status }) (replicate 512 255))

-- the reply, the link, and the output up to one octet behind what is expected
abbrev told : Case → Reply × Link × List ℕ
told c = let h = heard c in (h.reply, h.link, take (length c.front + 1) h.out)

abbrev expected : Case → Reply × Link × List ℕ
expected c = (c.reply, c.after, c.front ++ (255 ∷ []))

-- 9000018101800100050000
abbrev plain_vst : List ℕ
plain_vst = 144 ∷ 0 ∷ 1 ∷ 129 ∷ 1 ∷ 128 ∷ 1 ∷ 0 ∷ 5 ∷ 0 ∷ 0 ∷ []

-- 01's VST: 900001C1010206112233445566800100058000
abbrev marked_vst : List ℕ
marked_vst = 144 ∷ 0 ∷ 1 ∷ 193 ∷ 1 ∷ 2 ∷ 6 ∷ 17 ∷ 34 ∷ 51 ∷ 68 ∷ 85 ∷ 102 ∷ 128 ∷ 1 ∷ 0 ∷ 5 ∷ 128 ∷ 0 ∷ []

abbrev fresh : Link
fresh = link_in (Ready beacon 7) 1600000000 9

abbrev cases : List Case
cases =
    -- a sleeping tag without a pair wakes and is silent; with a pair it answers in the same call
    case (link_in Sleeping 5 6) 2 [] 0 silent [] (link_in Looking 1600000000 9)
    ∷ case (link_in Sleeping 1600000000 6) 1 [] 0 (vst 11) plain_vst fresh
    -- a looking tag with a mark
    ∷ case (link_in Looking 5 6) 1 (17 ∷ 34 ∷ 51 ∷ 68 ∷ 85 ∷ 102 ∷ []) 32768 (vst 19) marked_vst fresh
    -- a ready tag: 254 later, 255 later, 1 earlier, another beacon
    ∷ case (link_in (Ready beacon 3) 1599999746 6) 1 [] 0 silent [] (link_in (Ready beacon 3) 1600000000 9)
    ∷ case (link_in (Ready beacon 3) 1599999745 6) 1 [] 0 (vst 11) plain_vst fresh
    ∷ case (link_in (Ready beacon 3) 1600000001 6) 1 [] 0 (vst 11) plain_vst fresh
    ∷ case (link_in (Ready (record { manufacturer = 6; individual = 5 }) 3) 1600000000 6) 1 [] 0 (vst 11) plain_vst fresh
    -- a ready tag without a pair stays ready, and stores the time
    ∷ case (link_in (Ready beacon 3) 5 6) 2 [] 0 silent [] (link_in (Ready beacon 3) 1600000000 9)
    ∷ []

pub heard_so : map told cases ≡ map expected cases
unfolding heard_of hearing_refusal first_of elements_sound each_sound element_sound none_has is_inside records_in_range well_formed in_range written puts through put put_first put_value is_value fits fields_fit are_bits shape checks_of numbers_of brings present layout_of announced times content none values_of bst_values vst_values head_values rows_values entries_values entry_values entry_rows rows_of ids_at sound rows_present rows_fit bst_sound entries_sound entry_sound configuration_in_range sent_for profile_of first_served string_at offered_by pair_of element_of elapsed vst_for encode encoded_octets size octets number bits_of field_bits digits bits
heard_so = refl

-- 99 and 100 ticks, and a tick before the last
pub ticks_so : ((tick_of 109 (link_in Looking 1 10)).link ≡ link_in Looking 1 10) × ((tick_of 110 (link_in Looking 1 10)).link ≡ link_in Sleeping 1 10) × ((tick_of 9 (link_in Looking 1 10)).link ≡ link_in Sleeping 1 10)
unfolding tick_of changed first_of
ticks_so = (refl, refl, refl)
