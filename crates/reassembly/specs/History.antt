-- What is held of a pair, from the history of calls alone: the fragments accepted since its last opening (counter 0, itself included), if
-- no last mark, expiry or release closed it. Said twice: as a split of the history at the last opening, and as a fold; demand 3 says that
-- the two agree.
-- Assumes nothing.
use Rattle.std.specs.Prelude.{ℕ, ◌≡◌, Bool, true, false, not, ◌&&◌, ◌||◌, List, [], ◌∷◌, ◌++◌, length, eqb}
use Rattle.refusals.specs.Check.{pick}
use Rattle.slots.specs.Sweep.{is_aged}
use Rattle.reassembly.specs.Checks.{fragment_in, payload_of}
use Rattle.reassembly.specs.Ledger.{Call, fragment, expiry, release, Report, refusing, dropping, delivering}

-- a call with what it reported
pub record Event : Type 0 where
  pub call : Call
  pub report : Report

abbrev pub is_accepted : Report → Bool
is_accepted (refusing number) = false
is_accepted (dropping dropped) = true
is_accepted (delivering dropped message) = true

-- ---- octets

-- the payload octets of a call, and those that are accepted
abbrev pub payload_octets : Call → ℕ
payload_octets (fragment lid tick lsdu output) = length (payload_of lsdu)
payload_octets (expiry tick limit) = 0
payload_octets (release lid) = 0

abbrev pub accepted_in : Event → ℕ
accepted_in e = pick (is_accepted e.report) (payload_octets e.call) 0

-- the octets that a call delivers, and those that it reports dropped
abbrev pub delivered_octets : Report → ℕ
delivered_octets (refusing number) = 0
delivered_octets (dropping dropped) = 0
delivered_octets (delivering dropped message) = length message

abbrev pub dropped_octets : Report → ℕ
dropped_octets (refusing number) = 0
dropped_octets (dropping dropped) = dropped
dropped_octets (delivering dropped message) = dropped

abbrev pub delivered_in : Event → ℕ
delivered_in e = delivered_octets e.report

abbrev pub dropped_in : Event → ℕ
dropped_in e = dropped_octets e.report

-- ---- as a split of the history

-- a fragment of the pair, and an accepted one
abbrev pub is_fragment : ℕ → ℕ → Call → Bool
is_fragment lid number (fragment lid' tick lsdu output) = eqb lid' lid && eqb (fragment_in lsdu).number number
is_fragment lid number (expiry tick limit) = false
is_fragment lid number (release lid') = false

abbrev pub accepts : ℕ → ℕ → Event → Bool
accepts lid number e = is_accepted e.report && is_fragment lid number e.call

-- a fragment call's LSDU and tick
abbrev pub lsdu_of : Call → List ℕ
lsdu_of (fragment lid tick lsdu output) = lsdu
lsdu_of (expiry tick limit) = []
lsdu_of (release lid) = []

abbrev pub tick_of : Call → ℕ
tick_of (fragment lid tick lsdu output) = tick
tick_of (expiry tick limit) = tick
tick_of (release lid) = 0

-- an opening of the pair: an accepted fragment with counter 0, not marked last
abbrev pub opens : ℕ → ℕ → Event → Bool
opens lid number e = accepts lid number e && (not (fragment_in (lsdu_of e.call)).last && eqb (fragment_in (lsdu_of e.call)).counter 0)

-- an accepted call that closes the pair's message, opened at that tick: a last mark, an expiry of its age, a release of its LID
abbrev pub closes_by : ℕ → ℕ → (opened : ℕ) → Call → Bool
closes_by lid number opened (fragment lid' tick lsdu output) = is_fragment lid number (fragment lid' tick lsdu output) && (fragment_in lsdu).last
closes_by lid number opened (expiry tick limit) = is_aged tick limit opened
closes_by lid number opened (release lid') = eqb lid' lid

abbrev pub closes : ℕ → ℕ → (opened : ℕ) → Event → Bool
closes lid number opened e = is_accepted e.report && closes_by lid number opened e.call

-- none of the events opens or closes the pair's message
unfoldable pub undisturbed : ℕ → ℕ → (opened : ℕ) → List Event → Bool
undisturbed lid number opened [] = true
undisturbed lid number opened (e ∷ es) = not (opens lid number e || closes lid number opened e) && undisturbed lid number opened es

-- the payloads of the pair's accepted fragments
unfoldable pub payloads_in : ℕ → ℕ → List Event → List (List ℕ)
payloads_in lid number [] = []
payloads_in lid number (e ∷ es) = pick (accepts lid number e) (payload_of (lsdu_of e.call) ∷ payloads_in lid number es) (payloads_in lid number es)

-- The pair's message is open since its last opening, at that tick and with these payloads: the history splits there, and nothing behind
-- it opens or closes the pair.
pub record OpenSince (lid number : ℕ) (history : List Event) (tick : ℕ) (payloads : List (List ℕ)) : Type 0 where
  pub before : List Event
  pub opening : Event
  pub after : List Event
  pub split : history ≡ before ++ (opening ∷ after)
  pub is_opening : opens lid number opening ≡ true
  pub still_open : undisturbed lid number (tick_of opening.call) after ≡ true
  pub tick_is : tick ≡ tick_of opening.call
  pub payloads_are : payloads ≡ payload_of (lsdu_of opening.call) ∷ payloads_in lid number after

-- ---- as a fold

-- no open message, or one with its opening tick and the payloads so far
pub data Open : Type 0 where
  closed : Open
  opened : (tick : ℕ) (payloads : List (List ℕ)) → Open

abbrev pub continued : Open → List ℕ → Open
continued closed payload = closed
continued (opened tick payloads) payload = opened tick (payloads ++ (payload ∷ []))

abbrev pub expired : ℕ → ℕ → Open → Open
expired tick limit closed = closed
expired tick limit (opened tick' payloads) = pick (is_aged tick limit tick') closed (opened tick' payloads)

-- what an accepted call makes of the pair's message
abbrev pub after_call : ℕ → ℕ → Call → Open → Open
after_call lid number (fragment lid' tick lsdu output) o =
    pick (eqb lid' lid && eqb (fragment_in lsdu).number number)
    (pick (fragment_in lsdu).last closed (pick (eqb (fragment_in lsdu).counter 0) (opened tick (payload_of lsdu ∷ [])) (continued o (payload_of lsdu))))
    o
after_call lid number (expiry tick limit) o = expired tick limit o
after_call lid number (release lid') o = pick (eqb lid' lid) closed o

-- the pair's message after the events
unfoldable pub held_after : ℕ → ℕ → Open → List Event → Open
held_after lid number o [] = o
held_after lid number o (e ∷ es) = held_after lid number (pick (is_accepted e.report) (after_call lid number e.call o) o) es
