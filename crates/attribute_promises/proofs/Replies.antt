-- Every reply is well formed: it repeats numbers that reading has found in range, its status is small, its string or its values lie inside the octets in
-- which they stand. Status replies and ECHO's are short besides, so that writing refuses nothing.
-- Assumes nothing.
use Prim.Native.Nat.{ℕ, ◌<◌, ◌≤◌}
use mathlib.Core.Path.{◌≡◌, refl, ◌∙◌}
use mathlib.Core.Bool.{Bool, true, false}
use mathlib.Core.List.{List, [], ◌∷◌, ◌++◌, append-nil}
use native.Mathlib.Omega.{arith}
use lib.Dec.{ltb}
use lib.ListN.{length}
use borrow.Author.Tests.{le-ltb, ltb-false}
use Rattle.refusals.specs.Check.{pick, first_of}
use Rattle.refusals.proofs.Tests.{by_cases, and_true}
use Rattle.apdu_format.specs.Component.{Component, choice, lead, integer, container}
use Rattle.apdu_format.specs.Table.{layout_of}
use Rattle.apdu_format.specs.Rules.{shape, checks_of, present, brings, announced, when}
use Rattle.apdu_format.specs.Reading.{Value, fields, numbers_of, sum, need}
use Rattle.apdu_format.specs.Writing.{fields_fit, fits, is_value, size}
use Rattle.apdu.specs.declared.records.Request.{Request}
use Rattle.apdu.specs.declared.records.SetRequest.{SetRequest}
use Rattle.apdu.specs.declared.records.GetRequest.{GetRequest}
use Rattle.apdu.specs.Values.{bit_of, num, num_if, head_values, rows_values, action_response_values, response_values, get_response_values, values_of}
use Rattle.apdu.specs.Sound.{part_fits, parts_fit, closes, rows_sound, container_sound, action_response_sound, get_response_sound, sound, rows_present, rows_fit, well_formed}
use Rattle.apdu_writing.specs.Answer.{write_refusal, answered, write_answer}
use Rattle.attributes.specs.Serving.{writes as outcome_by}
use Rattle.attributes.specs.Serving.{least_output, Reply, refused_at, replied, no_entries, sent, get_refusal, set_reply, echo_reply}
use Rattle.attribute_promises.proofs.Repeated.{Repeats, Echoes}
use Rattle.attribute_promises.proofs.Writing.{Writes, one, joined, within, nothing, number, box_written, finished}

-- ---- the front of a reply

-- the leading part of a reply of choice k, whose first bit says whether there is an iid, brings eid, iid and the components is
pub record Leads (k : ℕ) (p : Bool) (gs : List ℕ) (is : List Component) : Type 0 where
  pub chosen : is_value choice 32 (fields (k ∷ [])) ≡ true
  pub led : is_value (lead k) 32 (fields (bit_of p ∷ gs)) ≡ true
  pub body : brings (lead k) (bit_of p ∷ gs) ≡ integer ∷ (when p (integer ∷ []) ++ is)
  pub half : need (shape (lead k)) ≤ 4

module _ {eid iid : ℕ} {p : Bool} (g : Repeats eid p iid) (is : List Component) (rest : List Value) where
  iid_written : Writes (when p (integer ∷ []) ++ is) (num_if p iid ++ rest) 32 is rest 32 8
  iid_written = by p g.iid_low
    where
      by : (p : Bool) → (p ≡ true → iid < 128) → Writes (when p (integer ∷ []) ++ is) (num_if p iid ++ rest) 32 is rest 32 8
      by true h = number iid is rest 32 (h refl)
      by false h = within 8 (nothing is rest 32) (omega arith)

  pub begun : (k : ℕ) (gs : List ℕ) → Leads k p gs is → Writes (choice ∷ []) (fields (k ∷ []) ∷ fields (bit_of p ∷ gs) ∷ num eid ∷ (num_if p iid ++ rest)) 32 is rest 32 24
  unfolding brings announced numbers_of shape need sum
  begun k gs l =
      let vs = num eid ∷ (num_if p iid ++ rest) in
      let v = fields (bit_of p ∷ gs) in
      let a : Writes (choice ∷ []) (fields (k ∷ []) ∷ v ∷ vs) 32 (lead k ∷ []) (v ∷ vs) 32 4 = one choice [] (fields (k ∷ [])) (v ∷ vs) 32 l.chosen refl refl (omega arith) in
      let b : Writes (lead k ∷ []) (v ∷ vs) 32 (integer ∷ (when p (integer ∷ []) ++ is)) vs 32 4 = one (lead k) [] v vs 32 l.led (append-nil _ ∙ l.body) refl l.half in
      let c = number eid (when p (integer ∷ []) ++ is) (num_if p iid ++ rest) 32 g.eid_low in
      within 24 (joined a (joined b (joined c iid_written))) (omega arith)

-- ---- a reply that writing does not refuse

abbrev pub values_by : Reply → List Value
values_by q = values_of q.lent q.message no_entries q.attributes

pub record Fine (q : Reply) : Type 0 where
  pub formed : well_formed q.lent q.message no_entries q.attributes ≡ true
  pub short : size (values_by q) ≤ 512

-- of one that is well formed 21 is the only refusal
pub sent_formed : (q : Reply) → well_formed q.lent q.message no_entries q.attributes ≡ true → (w out : List ℕ) → least_output ≤ length out
    → (sent q w out).outcome ≡ pick (ltb 512 (size (values_by q))) (refused_at 21 512) (replied (size (values_by q)))
unfolding sent write_answer answered write_refusal first_of outcome_by
sent_formed q formed w out room =
    let z = size (values_by q) in
    by_cases (ltb 512 z)
    (λ t. rw (formed, t))
    (λ t. let k = ltb-false 512 z t in let b : ltb (length out) z ≡ false = le-ltb (length out) z (omega (arith, k, room)) in rw (formed, t, b))

pub sent_fine : (q : Reply) → Fine q → (w out : List ℕ) → least_output ≤ length out → (sent q w out).outcome ≡ replied (size (values_by q))
sent_fine q f w out room = sent_formed q f.formed w out room ∙ rw (le-ltb 512 (size (values_by q)) f.short)

-- ---- a status

set_leads : (p : Bool) → Leads 5 p (1 ∷ 0 ∷ []) (integer ∷ [])
unfolding is_value fits fields_fit shape checks_of first_of numbers_of layout_of brings present need sum
set_leads true = record { chosen = refl; led = refl; body = refl; half = omega arith }
set_leads false = record { chosen = refl; led = refl; body = refl; half = omega arith }

get_leads : (p : Bool) → Leads 7 p (0 ∷ 1 ∷ 0 ∷ []) (integer ∷ [])
unfolding is_value fits fields_fit shape checks_of first_of numbers_of layout_of brings present need sum
get_leads true = record { chosen = refl; led = refl; body = refl; half = omega arith }
get_leads false = record { chosen = refl; led = refl; body = refl; half = omega arith }

pub set_fine : (s : List ℕ) (m : SetRequest) (status : ℕ) → Repeats m.eid m.has_iid m.iid → status < 128 → Fine (set_reply s m status)
unfolding set_reply well_formed values_of response_values sound rows_fit rows_present
set_fine s m status g h =
    let f = finished (joined (begun g (integer ∷ []) (num status ∷ []) 5 (1 ∷ 0 ∷ []) (set_leads m.has_iid)) (number status [] [] 32 h)) in
    record { formed = and_true f.0 refl; short = omega (arith, f.1) }

pub get_fine : (s : List ℕ) (m : GetRequest) (status : ℕ) → Repeats m.eid m.has_iid m.iid → status < 128 → Fine (get_refusal s m status)
unfolding get_refusal well_formed values_of get_response_values sound get_response_sound rows_fit rows_present
get_fine s m status g h =
    let f = finished (joined (begun g (integer ∷ []) (num status ∷ []) 7 (0 ∷ 1 ∷ 0 ∷ []) (get_leads m.has_iid)) (number status [] [] 32 h)) in
    record { formed = and_true f.0 refl; short = omega (arith, f.1) }

-- ---- ECHO

echo_leads : (p : Bool) → Leads 1 p (1 ∷ 0 ∷ 0 ∷ []) (container 1 ∷ [])
unfolding is_value fits fields_fit shape checks_of first_of numbers_of layout_of brings present need sum
echo_leads true = record { chosen = refl; led = refl; body = refl; half = omega arith }
echo_leads false = record { chosen = refl; led = refl; body = refl; half = omega arith }

pub echo_fine : (s : List ℕ) (m : Request) → Echoes s m → Fine (echo_reply s m)
unfolding echo_reply well_formed values_of action_response_values head_values rows_values sound action_response_sound container_sound part_fits rows_sound parts_fit closes rows_fit rows_present
echo_fine s m x =
    let e = x.string in
    let f =
    finished (joined (begun x.repeats (container 1 ∷ []) (head_values s 2 m.n m.start ++ []) 1 (1 ∷ 0 ∷ 0 ∷ []) (echo_leads m.has_iid))
    (box_written s m.start m.n x.inside x.short [] [] 32)) in
    record { formed = rw e (and_true f.0 (and_true (and_true x.inside refl) refl)); short = rw e (omega (arith, f.1, x.short)) }
