-- Computed cases of the tag's link (01, "The tag's link"): BST calls with reply, link and output after them; release and tick calls with answer and link.
-- The tag has element 1 of application 1 with 01's mark of six octets, and the elements 2 and 3 of application 2 without a mark. A BST comes at time
-- 1,600,000,000 and tick 9 with the fresh LID 7.
-- Assumes nothing.
use Rattle.std.specs.Prelude.{◌≡◌, ℕ, Err, ◌-◌, ◌^◌, false, List, [], ◌∷◌, ◌++◌, map, length, replicate, nat_lt}
use Rattle.refusals.specs.Check.{Answer, accepted}
use Rattle.refusals.specs.Check as check
use Rattle.refusals.specs.declared.Refusal.{Refusal}
use Rattle.refusals.specs.Refusal.{number_of}
use Rattle.apdu.specs.declared.lists.Entry.{Entry}
use Rattle.apdu.specs.declared.records.Bst.{Bst}
use Rattle.initialisation.specs.declared.records.Beacon.{Beacon}
use Rattle.initialisation.specs.declared.records.Phase.{Phase}
use Rattle.initialisation.specs.declared.records.Phase.TheVariants.{Sleeping, Looking, Ready}
use Rattle.initialisation.specs.declared.records.Link.{Link}
use Rattle.initialisation.specs.declared.records.Element.{Element}
use Rattle.initialisation.specs.declared.records.Elements.{Elements}
use Rattle.initialisation.specs.Link.{Changed, release_of, tick_of, answer_of}
use Rattle.initialisation.specs.Hearing.{Call, call, Reply, refused, silent, vst, Heard, heard_of}

-- ---- the tag and the beacon

abbrev pub link_with : Phase → (time tick : ℕ) → Link
link_with phase time tick = record { time = time; tick = tick; phase = phase }

abbrev pub beacon : Beacon
beacon = record { manufacturer = 6; individual = 19088743 }

abbrev pub element : (eid aid mark n : ℕ) → Element
element eid aid mark n = record { eid = eid; aid = aid; mark = mark; mark_length = n }

abbrev pub marks : List ℕ
marks = 0xFF ∷ 0x11 ∷ 0x22 ∷ 0x33 ∷ 0x44 ∷ 0x55 ∷ 0x66 ∷ []

abbrev pub own : Elements
own = record { list = element 1 1 1 6 ∷ element 2 2 7 0 ∷ element 3 2 7 0 ∷ []; count = 3 }

-- two of one eid
abbrev pub unsound : Elements
unsound = record { list = element 1 1 1 6 ∷ element 1 2 7 0 ∷ []; count = 2 }

-- ---- BST calls

-- the octets in which a BST's list of profiles stands: up to three, 3, 1 and 0
abbrev pub lent : List ℕ
lent = 0xFF ∷ 3 ∷ 1 ∷ 0 ∷ []

abbrev pub bst_of : (individual profile listed : ℕ) → (mandatory others : List ℕ) → Bst
bst_of individual profile listed mandatory others =
    record {
      manufacturer = 6;
      individual = individual;
      time = 1600000000;
      profile = profile;
      mandatory = length mandatory;
      has_others = nat_lt 0 (length others);
      others = length others;
      profiles = 8;
      profile_count = listed;
    }

abbrev pub entry_for : (aid : ℕ) → Entry
entry_for aid = record { has_eid = false; has_parameter = false; aid = aid; eid = 0; kind = 0; n = 0; start = 0; rows = 0 }

abbrev pub brings : Link → Bst → (aids : List ℕ) → (lid : ℕ) → Elements → (status octets : ℕ) → Call
brings link bst aids lid own status octets =
    call link bst (record { entries = map entry_for aids; rows = [] }) lent 9 lid own marks
    (record { class = 1; maker = 5; status = status }) (replicate octets 255)

pub record Case : Type 0 where
  pub call : Call
  pub gives : Heard

-- a BST with its profile, so many in its list, and the AIDs of its mandatory and its other applications; then what it gives
abbrev pub hears : Link → (profile listed : ℕ) → (mandatory others : List ℕ) → Reply → (front : List ℕ) → Link → Case
hears link profile listed mandatory others reply front after =
    record {
      call = brings link (bst_of 19088743 profile listed mandatory others) (mandatory ++ others) 7 own 32768 512;
      gives = record { reply = reply; link = after; out = front ++ replicate (512 - length front) 255 };
    }

-- a BST of application 1 whose call is refused, and changes nothing
abbrev pub refuses : Link → (individual lid : ℕ) → Elements → (status octets number : ℕ) → Case
refuses link individual lid own status octets number =
    record {
      call = brings link (bst_of individual 0 0 (1 ∷ []) []) (1 ∷ []) lid own status octets;
      gives = record { reply = refused number; link = link; out = replicate octets 255 };
    }

-- 01's VST: element 1 of application 1, six-octet mark
abbrev pub marked_vst : List ℕ
marked_vst = 0x90 ∷ 0 ∷ 1 ∷ 0xC1 ∷ 1 ∷ 2 ∷ 6 ∷ 0x11 ∷ 0x22 ∷ 0x33 ∷ 0x44 ∷ 0x55 ∷ 0x66 ∷ 0x80 ∷ 1 ∷ 0 ∷ 5 ∷ 0x80 ∷ 0 ∷ []

-- element 2 of application 2: an empty mark is no parameter
abbrev pub plain_vst : (profile : ℕ) → List ℕ
plain_vst profile = 0x90 ∷ profile ∷ 1 ∷ 0x82 ∷ 2 ∷ 0x80 ∷ 1 ∷ 0 ∷ 5 ∷ 0x80 ∷ 0 ∷ []

abbrev pub fresh : Link
fresh = link_with (Ready beacon 7) 1600000000 9

-- ready with that beacon, at a stored time
abbrev pub ready_at : (time : ℕ) → Link
ready_at time = link_with (Ready beacon 3) time 6

-- the same after a silent call
abbrev pub kept : Link
kept = link_with (Ready beacon 3) 1600000000 9

abbrev pub bst_cases : List Case
bst_cases =
    -- a sleeping tag without a pair wakes and is silent; with one it answers in the same call, as a looking one does
    hears (link_with Sleeping 5 6) 0 0 (3 ∷ []) [] silent [] (link_with Looking 1600000000 9)
    ∷ hears (link_with Sleeping 1600000000 6) 0 0 (2 ∷ []) [] (vst 11) (plain_vst 0) fresh
    ∷ hears (link_with Looking 5 6) 0 0 (1 ∷ []) [] (vst 19) marked_vst fresh
    -- a ready tag: 0, 254 and 255 later, 1 earlier, another beacon in either number
    ∷ hears (ready_at 1600000000) 0 0 (2 ∷ []) [] silent [] kept
    ∷ hears (ready_at 1599999746) 0 0 (2 ∷ []) [] silent [] kept
    ∷ hears (ready_at 1599999745) 0 0 (2 ∷ []) [] (vst 11) (plain_vst 0) fresh
    ∷ hears (ready_at 1600000001) 0 0 (2 ∷ []) [] (vst 11) (plain_vst 0) fresh
    ∷ hears (link_with (Ready (record { manufacturer = 6; individual = 5 }) 3) 1600000000 6) 0 0 (2 ∷ []) [] (vst 11) (plain_vst 0) fresh
    ∷ hears (link_with (Ready (record { manufacturer = 5; individual = 19088743 }) 3) 1600000000 6) 0 0 (2 ∷ []) [] (vst 11) (plain_vst 0) fresh
    -- without a pair or a profile it stays ready, however late
    ∷ hears (ready_at 5) 0 0 (3 ∷ []) [] silent [] kept
    ∷ hears (ready_at 5) 2 1 (2 ∷ []) [] silent [] kept
    -- the BST's profile, else the first in its list that is 0 or 1
    ∷ hears (link_with Looking 5 6) 1 3 (2 ∷ []) [] (vst 11) (plain_vst 1) fresh
    ∷ hears (link_with Looking 5 6) 2 3 (2 ∷ []) [] (vst 11) (plain_vst 1) fresh
    ∷ hears (link_with Looking 5 6) 2 0 (2 ∷ []) [] silent [] (link_with Looking 1600000000 9)
    -- the first pair by the applications, mandatory ones first
    ∷ hears (link_with Looking 5 6) 0 0 (3 ∷ 2 ∷ 1 ∷ []) [] (vst 11) (plain_vst 0) fresh
    ∷ hears (link_with Looking 5 6) 0 0 (3 ∷ 2 ∷ []) (1 ∷ []) (vst 11) (plain_vst 0) fresh
    ∷ hears (link_with Looking 5 6) 0 0 (3 ∷ []) (1 ∷ 2 ∷ []) (vst 19) marked_vst fresh
    -- checks in order: 1, 3, 26, and 23 for the link, the BST and the configuration
    ∷ refuses (link_with Looking 5 6) (2 ^ 27) (2 ^ 28) unsound (2 ^ 16) 511 1
    ∷ refuses (link_with Looking 5 6) (2 ^ 27) (2 ^ 28) unsound (2 ^ 16) 512 3
    ∷ refuses (link_with Looking 5 6) (2 ^ 27) (2 ^ 28 - 1) unsound (2 ^ 16) 512 26
    ∷ refuses (link_with (Ready beacon (2 ^ 28)) 5 6) 19088743 7 own 0 512 23
    ∷ refuses (link_with Looking 5 6) (2 ^ 27) 7 own 0 512 23
    ∷ refuses (link_with Looking 5 6) 19088743 7 own (2 ^ 16) 512 23
    ∷ []

-- ---- release and tick calls

pub record ChangeCase : Type 0 where
  pub call : Changed
  pub gives : Changed

abbrev pub gives : Changed → Answer (Unit {0}) → Link → ChangeCase
gives call answer link = record { call = call; gives = record { answer = answer; link = link } }

abbrev pub change_cases : List ChangeCase
change_cases =
    -- release of our LID
    gives (release_of 3 (ready_at 5)) (accepted tt) (link_with Looking 5 6)
    ∷ gives (release_of 4 (ready_at 5)) (check.refused 25) (ready_at 5)
    ∷ gives (release_of 3 (link_with Looking 5 6)) (check.refused 25) (link_with Looking 5 6)
    ∷ gives (release_of 3 (link_with Sleeping 5 6)) (check.refused 25) (link_with Sleeping 5 6)
    ∷ gives (release_of 4 (link_with (Ready beacon (2 ^ 28)) 5 6)) (check.refused 23) (link_with (Ready beacon (2 ^ 28)) 5 6)
    ∷ gives (release_of (2 ^ 28) (link_with (Ready beacon (2 ^ 28)) 5 6)) (check.refused 3) (link_with (Ready beacon (2 ^ 28)) 5 6)
    -- 99 and 100 ticks, modulo 2^32
    ∷ gives (tick_of 105 (ready_at 5)) (accepted tt) (ready_at 5)
    ∷ gives (tick_of 106 (ready_at 5)) (accepted tt) (link_with Sleeping 5 6)
    ∷ gives (tick_of 5 (ready_at 5)) (accepted tt) (link_with Sleeping 5 6)
    ∷ gives (tick_of 98 (link_with Looking 5 (2 ^ 32 - 1))) (accepted tt) (link_with Looking 5 (2 ^ 32 - 1))
    ∷ gives (tick_of 99 (link_with Looking 5 (2 ^ 32 - 1))) (accepted tt) (link_with Sleeping 5 (2 ^ 32 - 1))
    ∷ gives (tick_of 106 (link_with (Ready beacon (2 ^ 28)) 5 6)) (check.refused 23) (link_with (Ready beacon (2 ^ 28)) 5 6)
    ∷ []

-- ---- what is proved

pub record LinkCasesHold : Type 0 where
  pub bsts : map (λ (c : Case). heard_of c.call) bst_cases ≡ map (λ (c : Case). c.gives) bst_cases
  pub changes : map (λ (c : ChangeCase). c.call) change_cases ≡ map (λ (c : ChangeCase). c.gives) change_cases
  -- a refusal is told as its own number, also one that no release or tick call has
  pub numbers : (refusal : Refusal) → answer_of (Err refusal) ≡ check.refused (number_of refusal)
