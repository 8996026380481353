-- Demand 3, by one induction over the run: the engine's state stays in agreement with the ledger, and the ledger with the history.
use mathlib.Core.Path.{◌≡◌, refl, sym, ap, ◌∙◌, subst}
use mathlib.Core.Bool.{true}
use mathlib.Core.List.{List, [], ◌∷◌, ◌++◌, map, tail}
use Prim.Native.Nat.{ℕ, ◌+◌, ◌<◌}
use native.Mathlib.Omega.{arith}
use lib.ListN.{length, get_or}
use lib.Count.{ones}
use Rattle.refusals.specs.Check.{pick}
use Rattle.slots.specs.declared.Table.{Table}
use Rattle.slots.specs.Slots.{free, empty_table, is_busy, holds_pair, word_of, index_of, total, held_of}
use Rattle.slots.specs.Model.{all_sound, distinct}
use Rattle.slots.proofs.WordLaws.{ones_word}
use Rattle.reassembly.specs.Checks.{fragment_in}
use Rattle.reassembly.specs.Ledger.{Call, fragment, expiry, release, Report, delivering, Message, those, octets_of, first_or, ledger_step, ledger_reports, ledger_after}
use Rattle.reassembly.specs.History.{Event, is_accepted, Open, opened, after_call, held_after, OpenSince, accepted_in, delivered_in, dropped_in}
use Rattle.reassembly.specs.Runs.{Kept, Ran, ended, fragmented, expired, released}
use Rattle.reassembly.specs.Holding.{slot_at, busy_at, HoldsAt}
use Rattle.reassembly.specs.Demand3.{Demanded}
use Rattle.reassembly.proofs.Perm.{none}
use Rattle.reassembly.proofs.Views.{views, Same}
use Rattle.reassembly.proofs.Pairs.{Inv, count_same}
use Rattle.reassembly.proofs.Joins.{Agrees}
use Rattle.reassembly.proofs.Steps.{sound_known, fragment_agrees, expiry_agrees, release_agrees}
use Rattle.reassembly.proofs.Balance.{step_balanced, held_same}
use Rattle.reassembly.proofs.Accounts.{open_in, step_held, Delivers, step_delivers}
use Rattle.reassembly.proofs.HeldLaws.{few_of, holds_of, its_slot, its_message, own_busy, own_pair, others_zero}
use Rattle.reassembly.proofs.Splits.{fold_of, split_of}

inv_empty : (store : List ℕ) → Inv empty_table store []
unfolding word_of distinct all_sound Same views
inv_empty store = record { word = refl; eight = refl; sound = refl; apart = refl; same = none }

-- ---- one event

module _ (n : ℕ) (c : Call) (report : Report) (t : Table) (store : List ℕ) (l : List Message) (i : Inv t store l) (same : report ≡ (ledger_step n c l).report) where
  abbrev event : Event
  event = record { call = c; report = report }

  event_balanced : accepted_in event + total octets_of l ≡ delivered_in event + dropped_in event + total octets_of (ledger_step n c l).kept
  event_balanced = rw same (step_balanced n c l (few_of (record { table = t; store = store }) l i))

  event_held : (lid number : ℕ) → open_in lid number (ledger_step n c l).kept ≡ pick (is_accepted report) (after_call lid number c (open_in lid number l)) (open_in lid number l)
  event_held lid number = rw same (step_held n c l lid number (few_of (record { table = t; store = store }) l i lid number))

-- ---- along a run

-- what a run that starts in agreement with a ledger shows
record Along (n : ℕ) (calls : List Call) (l : List Message) (history : List Event) (left : Kept) : Type 0 where
  pub called : map (λ (e : Event). e.call) history ≡ calls
  pub reports : map (λ (e : Event). e.report) history ≡ ledger_reports n calls l
  pub balance : total accepted_in history + total octets_of l ≡ total delivered_in history + total dropped_in history + total held_of left.table.slots
  pub inv : Inv left.table left.store (ledger_after n calls l)
  pub holds : (lid number : ℕ) → open_in lid number (ledger_after n calls l) ≡ held_after lid number (open_in lid number l) history
  pub delivers : (before after : List Event) (lid tick output dropped : ℕ) (lsdu message : List ℕ)
      → history ≡ before ++ (record { call = fragment lid tick lsdu output; report = delivering dropped message } ∷ after)
      → (kept : List Message) × (open_in lid (fragment_in lsdu).number kept ≡ held_after lid (fragment_in lsdu).number (open_in lid (fragment_in lsdu).number l) before)
      × Delivers lid tick lsdu message kept

-- one more call in front
more : (n : ℕ) (c : Call) (calls : List Call) (report : Report) (t : Table) (store : List ℕ) (l : List Message) (history : List Event) (left : Kept) {t' : Table} {store' : List ℕ}
    → Inv t store l → Agrees report t' store' (ledger_step n c l) n → Along n calls (ledger_step n c l).kept history left
    → Along n (c ∷ calls) l (record { call = c; report = report } ∷ history) left
unfolding ledger_reports ledger_after held_after total
more n c calls report t store l history left i a rest = record {
  called = ap (λ (cs : List Call). c ∷ cs) rest.called;
  reports = λ j. a.report_same j ∷ rest.reports j;
  balance = omega (arith, event_balanced n c report t store l i a.report_same, rest.balance);
  inv = rest.inv;
  holds = λ lid number. rest.holds lid number ∙ ap (λ (o : Open). held_after lid number o history) (event_held n c report t store l i a.report_same lid number);
  delivers = split;
}
  where
    event : Event
    event = record { call = c; report = report }

    split : (before after : List Event) (lid tick output dropped : ℕ) (lsdu message : List ℕ)
        → event ∷ history ≡ before ++ (record { call = fragment lid tick lsdu output; report = delivering dropped message } ∷ after)
        → (kept : List Message) × (open_in lid (fragment_in lsdu).number kept ≡ held_after lid (fragment_in lsdu).number (open_in lid (fragment_in lsdu).number l) before)
        × Delivers lid tick lsdu message kept
    split [] after lid tick output dropped lsdu message e =
        let first = ap (first_or event) e in
        let call : c ≡ fragment lid tick lsdu output = ap (λ (x : Event). x.call) first in
        let made : (ledger_step n (fragment lid tick lsdu output) l).report ≡ delivering dropped message =
        ap (λ (x : Call). (ledger_step n x l).report) (sym call) ∙ sym a.report_same ∙ ap (λ (x : Event). x.report) first in
        (l, refl, step_delivers n lid tick output lsdu l dropped message made)
    split (x ∷ before) after lid tick output dropped lsdu message e =
        let first = ap (first_or event) e in
        let r = rest.delivers before after lid tick output dropped lsdu message (ap tail e) in
        let number = (fragment_in lsdu).number in (
          r.0,
          r.1 ∙ ap (λ (o : Open). held_after lid number o before)
              (event_held n c report t store l i a.report_same lid number ∙ ap (λ (y : Event). pick (is_accepted y.report) (after_call lid number y.call (open_in lid number l)) (open_in lid number l)) first),
          r.2,
        )

along : {calls : List Call} {t : Table} {store : List ℕ} {history : List Event} {left : Kept} → Ran calls t store history left
    → (n : ℕ) (l : List Message) → length store ≡ n → Inv t store l → Along n calls l history left
unfolding ledger_reports ledger_after held_after total
along {t = t} {store = store} ended n l e i = record {
  called = refl;
  reports = refl;
  balance = omega (arith, held_same t.slots store l i.sound i.same);
  inv = i;
  holds = λ lid number. refl;
  delivers = none_delivered;
}
  where
    none_delivered : (before after : List Event) (lid tick output dropped : ℕ) (lsdu message : List ℕ)
        → [] ≡ before ++ (record { call = fragment lid tick lsdu output; report = delivering dropped message } ∷ after)
        → (kept : List Message) × (open_in lid (fragment_in lsdu).number kept ≡ held_after lid (fragment_in lsdu).number (open_in lid (fragment_in lsdu).number l) before)
        × Delivers lid tick lsdu message kept
    none_delivered [] after lid tick output dropped lsdu message e = absurd (omega (arith, ap length e))
    none_delivered (x ∷ before) after lid tick output dropped lsdu message e = absurd (omega (arith, ap length e))
along {t = t} {store = store} (fragmented {lid} {tick} {lsdu} {output} {calls} {history = history} {left = left} r t' store' output' g rest) n l e i =
    let a : Agrees _ t' store' (ledger_step n (fragment lid tick lsdu (length output)) l) n = rw e at (fragment_agrees lid tick lsdu t store output l i r t' store' output' g) in
    more n _ calls _ t store l history left i a (along rest n _ a.long a.inv)
along {t = t} {store = store} (expired {tick} {limit} {calls} {history = history} {left = left} r t' g rest) n l e i =
    let a : Agrees _ t' store (ledger_step n (expiry tick limit) l) n = rw e at (expiry_agrees t store l i r t' tick limit g) in
    more n _ calls _ t store l history left i a (along rest n _ a.long a.inv)
along {t = t} {store = store} (released {lid} {calls} {history = history} {left = left} r t' g rest) n l e i =
    let a : Agrees _ t' store (ledger_step n (release lid) l) n = rw e at (release_agrees t store l i r t' lid g) in
    more n _ calls _ t store l history left i a (along rest n _ a.long a.inv)

-- ---- the whole list

pub demanded : Demanded
unfolding Demanded total those
demanded store calls history left ran = record {
  of_calls = a.called;
  as_ledger = a.reports;
  balance = omega (arith, a.balance);
  by_split = λ lid number. split_of lid number history;
  by_fold = λ lid number. fold_of lid number history;
  has_slot = λ lid number tick payloads s. (index_of lid number left.table.slots, holds_of left kept i lid number tick payloads (a.holds lid number ∙ fold_of lid number history tick payloads s));
  has_message = message;
  one_each = one;
  as_many = ap ones i.word ∙ ones_word left.table.slots ∙ count_same free left.table.slots left.store kept i.apart i.same;
  others_free = λ j h z. others_zero left kept i j z;
  table_is_sound = sound_known i;
  has_eight = i.eight;
  delivered_alone = λ before after lid tick output dropped lsdu message e. (a.delivers before after lid tick output dropped lsdu message e).2.at_once;
  delivered_since = λ before after lid tick output dropped lsdu message e c.
      let d = a.delivers before after lid tick output dropped lsdu message e in
      let s = d.2.since c in
      (s.0, s.1, split_of lid (fragment_in lsdu).number before s.0 s.1 (sym d.1 ∙ s.2), s.3);
}
  where
    a : Along (length store) calls [] history left
    a = along ran (length store) [] refl (inv_empty store)

    kept : List Message
    kept = ledger_after (length store) calls []

    i : Inv left.table left.store kept
    i = a.inv

    -- a busy slot is its pair's, and the message is open
    message : (j : ℕ) → j < 8 → busy_at left j ≡ true → (payloads : List (List ℕ)) × OpenSince (slot_at left j).lid (slot_at left j).number history (slot_at left j).tick payloads
        × HoldsAt left j (slot_at left j).lid (slot_at left j).number (slot_at left j).tick payloads
    message j h b =
        let s = slot_at left j in
        let here = its_slot left kept i s.lid s.number j (own_pair left kept i j b) in
        let busy : is_busy (get_or left.table.slots (index_of s.lid s.number left.table.slots) free) ≡ true = ap (λ (k : ℕ). is_busy (slot_at left k)) (sym here) ∙ own_busy left kept i j b in
        let m = its_message left kept i s.lid s.number busy in
        let o = m.1 ∙ ap (λ (k : ℕ). opened (slot_at left k).tick m.0) (sym here) in (
          m.0,
          split_of s.lid s.number history s.tick m.0 (sym (a.holds s.lid s.number) ∙ o),
          subst (λ (k : ℕ). HoldsAt left k s.lid s.number s.tick m.0) (sym here) (holds_of left kept i s.lid s.number s.tick m.0 o),
        )

    one : (j k : ℕ) → j < 8 → k < 8 → busy_at left j ≡ true → busy_at left k ≡ true → (slot_at left j).lid ≡ (slot_at left k).lid → (slot_at left j).number ≡ (slot_at left k).number → j ≡ k
    one j k h g b c x y =
        let s = slot_at left k in
        its_slot left kept i s.lid s.number j (subst (λ (l : ℕ). holds_pair l s.number (slot_at left j) ≡ true) x (subst (λ (l : ℕ). holds_pair (slot_at left j).lid l (slot_at left j) ≡ true) y (own_pair left kept i j b)))
        ∙ sym (its_slot left kept i s.lid s.number k (own_pair left kept i k c))
