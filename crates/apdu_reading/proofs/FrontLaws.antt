-- A whole message: refused, too long, with octets left behind it, or read.
-- Assumes nothing.
use Prim.Native.Nat.{ℕ, ◌*◌, ◌/◌, ◌≤◌, ◌<◌}
use mathlib.Core.Path.{◌≡◌, refl, ap, sym, ◌∙◌}
use mathlib.Core.List.{List, [], ◌∷◌}
use mathlib.Core.Bool.{true, false}
use mathlib.Core.Logic.{◌⊎◌, inl, inr}
use native.Mathlib.Omega.{arith}
use lib.ListN.{length}
use lib.Dec.{eqb, ltb}
use borrow.Author.Tests.{eq-eqb, ne_eqb, le-ltb, lt-ltb, eqb-true, eqb-false}
use Rattle.refusals.proofs.Tests.{by_cases}
use Rattle.apdu_format.specs.Limits.{longest_message}
use Rattle.apdu_format.specs.Component.{choice}
use Rattle.apdu_format.specs.Reading.{octet_of, refused, outcome, read_front, alone, read_message}
use Rattle.apdu.specs.declared.lists.Entry.{Entry}
use Rattle.apdu.specs.declared.lists.Lists.{Lists}
use Rattle.apdu.specs.declared.records.Message.{Message}
use Rattle.apdu_reading.specs.declared.cursor.Cursor.{Cursor}
use Rattle.apdu_reading.specs.declared.front.Answer.{Answer}
use Rattle.apdu_reading.specs.declared.front.Answer.TheVariants as answer
use Rattle.apdu_reading.specs.declared.front.Reading.{Reading}
use Rattle.apdu_reading.specs.Cursor.{cursor, state_of, component, ReadsTo}
use Rattle.apdu_reading.specs.Messages.{MessageRead}
use Rattle.apdu_reading.specs.Answers.{told, outcome_of, tidy_by, Tidy, sound_by, SoundRecord, few_by, FewRows, no_lists, refusal, first, ended_by, answer_of, place_of, Reads}
use Rattle.apdu_reading.proofs.Pieces.{sees}
use Rattle.apdu_reading.proofs.Chains.{itself, enter}
use Rattle.apdu_reading.proofs.Boxes.{unused}
use Rattle.apdu_reading.proofs.ChoiceLaws.{no_entries_tidy}

-- ---- refusals

refusal_tidy : (k p : ℕ) → Tidy (refusal k p)
unfolding refusal tidy_by
refusal_tidy k p = record { is = (refl, no_entries_tidy refl, unused) }

refusal_sound : (s : List ℕ) (k p : ℕ) → SoundRecord s (refusal k p)
unfolding refusal sound_by
refusal_sound s k p = record { is = tt }

refusal_few : (k p : ℕ) → FewRows (refusal k p)
unfolding refusal few_by
refusal_few k p = record { is = tt }

refusal_outcome : (s : List ℕ) (k p : ℕ) → outcome_of s (refusal k p) ≡ refused k p
unfolding refusal outcome_of told
refusal_outcome s k p = refl

refusal_answers : (s : List ℕ) (k p : ℕ) → read_message s ≡ refused k p → {q : Reading} → q ≡ refusal k p → Reads s q
refusal_answers s k p e f =
    rw f
    (record {
      outcome = refusal_outcome s k p ∙ sym e;
      tidy = refusal_tidy k p;
      sound = refusal_sound s k p;
      few = refusal_few k p;
      rows = unfold refusal in refl;
      entries = unfold refusal in refl;
    })

pub too_long : (s : List ℕ) → longest_message < length s → {q : Reading} → q ≡ refusal 21 512 → Reads s q
unfolding read_message
too_long s h f = refusal_answers s 21 512 (rw (lt-ltb _ _ h)) f

-- ---- the end of a message

module _ (s : List ℕ) (c : Cursor) where
  pub ended_fault : (c.fault ≡ 0 → ⊥) → c ≡ ended_by s c
  unfolding ended_by
  ended_fault n = rw (ne_eqb _ _ n)

  pub ended_whole : c.fault ≡ 0 → length s * 8 ≤ c.at → c ≡ ended_by s c
  unfolding ended_by
  ended_whole z h = let k : 8 * length s ≤ c.at = omega arith in rw (eq-eqb _ _ z, le-ltb _ _ k)

  pub ended_left : c.fault ≡ 0 → c.at < length s * 8 → cursor c.at c.begun c.room 14 (c.at / 8) 0 0 ≡ ended_by s c
  unfolding ended_by
  ended_left z h = let k : c.at < 8 * length s = omega arith in rw (eq-eqb _ _ z, lt-ltb _ _ k)

-- ---- what the reader comes to

module _ (s : List ℕ) (short : length s ≤ longest_message) (r : Cursor) where
  reads_as : {vs : List _} → ReadsTo s (choice ∷ []) first r vs → read_message s ≡ alone s (outcome (state_of r vs))
  unfolding read_message read_front state_of
  reads_as p = rw (le-ltb _ _ short) (ap (λ d. alone s (outcome d)) (p.so []))

  stopped : {vs : List _} → ReadsTo s (choice ∷ []) first r vs → (r.fault ≡ 0 → ⊥) → read_message s ≡ refused r.fault r.position
  unfolding outcome state_of alone
  stopped p n = reads_as p ∙ rw (ne_eqb _ _ n)

  -- a choice that is refused
  pub choice_refused : r ≡ component s choice first → (r.fault ≡ 0 → ⊥) → {q : Reading} → q ≡ refusal r.fault r.position → Reads s q
  choice_refused e n f =
      let p : ReadsTo s (choice ∷ []) first r (sees s choice first ∷ []) = enter choice first {vs = []} e (λ h. absurd (n h)) (λ h. itself r) in
      refusal_answers s r.fault r.position (stopped p n) f

  -- a message, and what is behind it
  module _ {m : Message} {l : Lists} (p : MessageRead s r m l) {e : Cursor} (f : e ≡ ended_by s r) where
    left : ltb r.at (8 * length s) ≡ true → r.fault ≡ 0 → read_message s ≡ refused 14 (r.at / 8)
    unfolding outcome state_of alone octet_of
    left w z = reads_as p.reads ∙ rw (eq-eqb _ _ z, w)

    pub message_refused : (e.fault ≡ 0 → ⊥) → {q : Reading} → q ≡ refusal e.fault e.position → Reads s q
    unfolding ended_by
    message_refused n g =
        by_cases (eqb r.fault 0)
        (λ u. by_cases (ltb r.at (8 * length s)) (λ w. refusal_answers s 14 (r.at / 8) (left w (eqb-true _ _ u)) (g ∙ rw (f, u, w))) (λ w. absurd (n (rw (f, u, w) (eqb-true _ _ u)))))
        (λ u. refusal_answers s r.fault r.position (stopped p.reads (eqb-false _ _ u)) (g ∙ rw (f, u)))

    -- nothing is left
    whole : e.fault ≡ 0 → (r.fault ≡ 0) × (e ≡ r) × (ltb r.at (8 * length s) ≡ false)
    unfolding ended_by
    whole z =
        by_cases (eqb r.fault 0)
        (λ u.
        by_cases (ltb r.at (8 * length s))
        (λ w. let q : e ≡ cursor r.at r.begun r.room 14 (r.at / 8) 0 0 = f ∙ rw (u, w) in absurd (fourteen (sym (ap (λ (c : Cursor). c.fault) q) ∙ z)))
        (λ w. (eqb-true _ _ u, f ∙ rw (u, w), w)))
        (λ u. let q : e ≡ r = f ∙ rw u in absurd (eqb-false _ _ u (sym (ap (λ (c : Cursor). c.fault) q) ∙ z)))
      where
        fourteen : ◌≡◌ {A = ℕ} 14 0 → ⊥
        fourteen e = omega arith

    pub message_answered : e.fault ≡ 0 → {n : Message} → n ≡ m → {es : List Entry} → es ≡ l.entries
        → Reads s (record { answer = answer.Message n; end = e.at; lists = record { entries = es; rows = l.rows } })
    unfolding outcome_of told tidy_by sound_by few_by outcome state_of alone
    message_answered z i j =
        let w = whole z in
        rw (w.1, i, j)
        (record {
          outcome = sym (reads_as p.reads ∙ rw (eq-eqb _ _ w.0, w.2));
          tidy = record { is = p.tidy w.0 };
          sound = record { is = p.sound w.0 };
          few = record { is = p.few };
          rows = p.rows;
          entries = p.entries;
        })

    -- both by one end: a refusal's lists are cleared, a message's are kept
    pub message_told : {a : Answer} → a ≡ answer_of e m → {k : ℕ} → k ≡ place_of e → {t : Lists}
        → ((e.fault ≡ 0 → ⊥) × (t ≡ no_lists)) ⊎ ((e.fault ≡ 0) × (t ≡ l)) → Reads s (record { answer = a; end = k; lists = t })
    unfolding refusal answer_of place_of
    message_told i j (inl w) = message_refused w.0 (rw (i, j, w.1, ne_eqb _ _ w.0))
    message_told i j (inr w) = rw (i, j, w.1, eq-eqb _ _ w.0) (message_answered w.0 refl refl)
