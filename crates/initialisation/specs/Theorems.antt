-- What is proved of the BST call beyond its definition (proofs/Theorems.antt): a VST that is sent reads back as what was taken; a silent or refused call
-- leaves the output; the fresh LID is taken exactly when a VST is sent.
-- Assumes nothing.
use Rattle.std.specs.Prelude.{◌≡◌, ℕ, ◌≤◌, Some, List, [], ◌∷◌, ◌++◌, take, nat_lt}
use Rattle.apdu_format.specs.Reading.{Value, fields}
use Rattle.apdu_format.specs.RoundTrip.{ReadAs}
use Rattle.apdu.specs.Values.{bit_of, num, str, if}
use Rattle.initialisation.specs.declared.records.Configuration.{Configuration}
use Rattle.initialisation.specs.declared.records.Phase.TheVariants.{Ready}
use Rattle.initialisation.specs.declared.hearing.Taken.{Taken}
use Rattle.initialisation.specs.Elements.{own_elements}
use Rattle.initialisation.specs.Offer.{profile_of, offered_by, pair_of}
use Rattle.initialisation.specs.Hearing.{Call, beacon_of, woken, mark_of, refused, silent, vst, heard_of}

-- the values of a VST: choice 9, fill 0, the profile, one application; its entry with an eid, with a parameter unless the mark is empty, AID, eid and mark;
-- and the configuration with its status
unfoldable pub vst_says : Taken → List ℕ → Configuration → List Value
vst_says t marks k =
    let e = t.element in
    let marked = nat_lt 0 e.mark_length in
    fields (9 ∷ []) ∷ fields (0 ∷ []) ∷ num t.profile ∷ num 1
    ∷ fields (1 ∷ bit_of marked ∷ 0 ∷ e.aid ∷ []) ∷ num e.eid
    ∷ (if marked (num 2 ∷ str (mark_of e marks) 0 e.mark_length) ++ (fields (1 ∷ k.class ∷ []) ∷ fields (k.maker ∷ []) ∷ fields (k.status ∷ []) ∷ []))

-- a VST of n octets was sent: they stand at the output's front, and are read as those values of the profile and the pair that the BST call takes
pub record VstSent (c : Call) (n : ℕ) : Type 0 where
  pub taken : Taken
  pub profile_taken : profile_of c.lent c.bst ≡ Some taken.profile
  pub pair_taken : pair_of (offered_by c.bst c.lists.entries) (own_elements c.own) ≡ Some taken.element
  pub short : n ≤ 512
  pub reads : ReadAs (take n (heard_of c).out) (vst_says taken c.marks c.configuration)
  pub fresh : (heard_of c).link.phase ≡ Ready (beacon_of c.bst) c.lid

-- a silent call leaves the output and stays in its phase, awake
pub record StaysSilent (c : Call) : Type 0 where
  pub output : (heard_of c).out ≡ c.out
  pub phase : (heard_of c).link.phase ≡ woken c.link.phase

-- a refused call changes nothing
pub record ChangesNothing (c : Call) : Type 0 where
  pub output : (heard_of c).out ≡ c.out
  pub link : (heard_of c).link ≡ c.link

-- one of the three, by the reply
pub record Hears (c : Call) : Type 0 where
  pub sent : (n : ℕ) → (heard_of c).reply ≡ vst n → VstSent c n
  pub quiet : (heard_of c).reply ≡ silent → StaysSilent c
  pub denied : (k : ℕ) → (heard_of c).reply ≡ refused k → ChangesNothing c
