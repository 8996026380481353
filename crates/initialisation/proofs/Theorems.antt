-- What is sent reads back; silence and refusals leave the output; the fresh LID is taken exactly when a VST is sent.
-- Assumes nothing.
use Rattle.std.proofs.Common.{◌≡◌, ℕ, ◌*◌, ◌≤◌, Bool, true, false, eqb, ltb, List, [], ◌∷◌, ◌++◌, length, take, drop, sym, refl, ap, ◌∙◌, arith, take_at, eqb-true}
use Rattle.refusals.proofs.Tests.{by_cases}
use Rattle.bits.specs.Bits.{bits}
use Rattle.bits.proofs.Laws.{length_octets}
use Rattle.apdu_format.specs.Reading.{Value, fields, string}
use Rattle.apdu_format.specs.Writing.{encode, size, encoded_octets}
use Rattle.apdu_format.specs.RoundTrip.{ReadAs}
use Rattle.apdu.specs.declared.records.Message.TheVariants as kind
use Rattle.apdu.specs.Values.{bit_of, num, if, head_values, rows_values, entry_values, entries_values, rows_of, vst_values, values_of}
use Rattle.apdu_writing.proofs.RoundTrip.{written_reads}
use Rattle.initialisation.specs.declared.records.Configuration.{Configuration}
use Rattle.std.specs.Prelude.{Option, None, Some}
use Rattle.initialisation.specs.declared.hearing.Taken.{Taken}
use Rattle.initialisation.specs.Hearing.{Call, hearing_refusal, beacon_of, sent, phase_after, link_after, entry_of, mark_of, vst_of, vst_for, Reply, refused, silent, vst, output_for, Heard, heard_of}
use Rattle.initialisation.specs.Theorems.{vst_says, VstSent, Hears}
use Rattle.initialisation.proofs.VstLaws.{Sendable, no_rows, vst_passes, vst_short}
use Rattle.initialisation.proofs.HearingLaws.{checked, sendable, taken_parts}

-- ---- what a VST says

tail : (q : Bool) (a b c d : Value) (rest : List Value) → (if q ((a ∷ b ∷ c ∷ d ∷ []) ++ []) ++ []) ++ rest ≡ if q (a ∷ b ∷ c ∷ d ∷ []) ++ rest
tail true a b c d rest = refl
tail false a b c d rest = refl

-- the values written are those that a VST says
values_said : (t : Taken) (marks : List ℕ) (k : Configuration) → vst_for t marks k ≡ vst_says t marks k
unfolding vst_for vst_says values_of vst_values entries_values entry_values rows_values rows_of head_values
values_said t marks k =
    let e = t.element in
    let q = ltb 0 e.mark_length in
    rw (no_rows e)
    (ap
    (λ (l : List Value). fields (9 ∷ []) ∷ fields (0 ∷ []) ∷ num t.profile ∷ num 1 ∷ fields (1 ∷ bit_of q ∷ 0 ∷ e.aid ∷ []) ∷ num e.eid ∷ l)
    (tail q (num 2) (fields (0 ∷ [])) (fields (e.mark_length ∷ [])) (string 0 (take (8 * e.mark_length) (drop 0 (bits (mark_of e marks)))))
    (fields (1 ∷ k.class ∷ []) ∷ fields (k.maker ∷ []) ∷ fields (k.status ∷ []) ∷ [])))

octets_long : (vs : List Value) → length (encoded_octets vs) ≡ size vs
unfolding encoded_octets
octets_long vs = length_octets (size vs) (encode vs)

-- what is written reads back
reads_back : (marks : List ℕ) (t : Taken) (k : Configuration) (out : List ℕ) → Sendable marks t k → 512 ≤ length out → ReadAs (encoded_octets (vst_for t marks k)) (vst_for t marks k)
unfolding vst_for
reads_back marks t k out can room =
    written_reads (mark_of t.element marks) (kind.Vst (vst_of t.profile k)) (entry_of t.element ∷ []) [] out (vst_passes marks t k can [] [] (length out) room)

-- ---- the three ways of a call

data Way (c : Call) : Type 0 where
  denied : (k : ℕ) → heard_of c ≡ record { reply = refused k; link = c.link; out = c.out } → Way c
  quiet : sent c ≡ None → heard_of c ≡ record { reply = silent; link = link_after c; out = c.out } → Way c
  started : (t : Taken) → sent c ≡ Some t → hearing_refusal c ≡ 0
      → heard_of c ≡ record { reply = vst (size (vst_for t c.marks c.configuration)); link = link_after c; out = output_for (Some t) c.marks c.configuration c.out } → Way c

by_found : {A P : Type 0} (f : Option A) → (f ≡ None → P) → ((x : A) → f ≡ Some x → P) → P
by_found None g h = g refl
by_found (Some x) g h = h x refl

way : (c : Call) → Way c
unfolding heard_of
way c =
    by_cases (eqb (hearing_refusal c) 0)
    (λ e. by_found (sent c) (λ s. quiet s (rw (e, s))) (λ t s. started t s (eqb-true (hearing_refusal c) 0 e) (rw (e, s))))
    (λ e. denied (hearing_refusal c) (rw e))

-- ---- the theorem

impossible : {P : Type 0} (a b : Reply) {r : Reply} → r ≡ a → r ≡ b → (a ≡ b → ⊥) → P
impossible a b x y n = absurd (n (sym x ∙ y))

hears_by : (c : Call) → Way c → Hears c
hears_by c (denied k e) =
    let r : (heard_of c).reply ≡ refused k = ap (λ (h : Heard). h.reply) e in
    record {
      sent = λ n h. impossible (refused k) (vst n) r h (λ x. let z : ◌≡◌ {A = ℕ} 0 1 = cc in omega arith);
      quiet = λ h. impossible (refused k) silent r h (λ x. let z : ◌≡◌ {A = ℕ} 0 1 = cc in omega arith);
      denied = λ j h. record { output = ap (λ (h : Heard). h.out) e; link = ap (λ (h : Heard). h.link) e };
    }
hears_by c (quiet s e) =
    let r : (heard_of c).reply ≡ silent = ap (λ (h : Heard). h.reply) e in
    record {
      sent = λ n h. impossible silent (vst n) r h (λ x. let z : ◌≡◌ {A = ℕ} 0 1 = cc in omega arith);
      quiet = λ h.
          record {
            output = ap (λ (h : Heard). h.out) e;
            phase = ap (λ (h : Heard). h.link.phase) e ∙ ap (λ (f : Option Taken). phase_after f c.link.phase (beacon_of c.bst) c.lid) s;
          };
      denied = λ j h. impossible silent (refused j) r h (λ x. let z : ◌≡◌ {A = ℕ} 0 1 = cc in omega arith);
    }
hears_by c (started t s none e) =
    let r : (heard_of c).reply ≡ vst (size (vst_for t c.marks c.configuration)) = ap (λ (h : Heard). h.reply) e in
    record {
      sent = λ n h. went n (sym r ∙ h);
      quiet = λ h. impossible (vst (size (vst_for t c.marks c.configuration))) silent r h (λ x. let z : ◌≡◌ {A = ℕ} 0 1 = cc in omega arith);
      denied = λ j h. impossible (vst (size (vst_for t c.marks c.configuration))) (refused j) r h (λ x. let z : ◌≡◌ {A = ℕ} 0 1 = cc in omega arith);
    }
  where
    went : (n : ℕ) → vst (size (vst_for t c.marks c.configuration)) ≡ vst n → VstSent c n
    went n h =
        let vs = vst_for t c.marks c.configuration in
        let i : size vs ≡ n = cc in
        let can = sendable c t none (sym s) in
        let p = taken_parts c t (sym s) in
        let l : length (encoded_octets vs) ≡ n = octets_long vs ∙ i in
        record {
          taken = t;
          profile_taken = p.profile;
          pair_taken = p.element;
          short = rw (← i) (vst_short c.marks t c.configuration can);
          reads =
              rw (ap (λ (h : Heard). take n h.out) e ∙ take_at (encoded_octets vs) (drop (size vs) c.out) n l, ← values_said t c.marks c.configuration)
              (reads_back c.marks t c.configuration c.out can (checked c none).room);
          fresh = ap (λ (h : Heard). h.link.phase) e ∙ ap (λ (f : Option Taken). phase_after f c.link.phase (beacon_of c.bst) c.lid) s;
        }

-- every call is one of the three, by its reply
pub hears : (c : Call) → Hears c
hears c = hears_by c (way c)
