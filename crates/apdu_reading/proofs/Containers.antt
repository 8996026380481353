-- Containers up to their rows.
-- Assumes nothing.
use Prim.Native.Nat.{ℕ, suc, ◌+◌, ◌-◌, ◌≤◌, ◌<◌}
use mathlib.Core.Path.{◌≡◌, refl, ap, sym, ◌∙◌}
use mathlib.Core.List.{List, [], ◌∷◌, ◌++◌, append_assoc}
use mathlib.Core.Bool.{Bool, true, false, ◌||◌, not}
use native.Mathlib.Omega.{arith}
use lib.ListN.{length}
use lib.Dec.{ltb, eqb}
use borrow.Author.Tests.{eq-eqb, ne_eqb, ltb-false, eqb-true, eqb-false}
use Rattle.refusals.specs.Check.{check, first_of}
use Rattle.refusals.proofs.Tests.{by_cases, first_none}
use Rattle.bits.specs.Bits.{bits}
use Rattle.apdu_format.specs.Limits.{most_counted, deepest}
use Rattle.apdu_format.specs.Component.{Component, integer, string_form, id_count, row_count, container}
use Rattle.apdu_format.specs.Rules.{brings, content, times, announced, known_kind}
use Rattle.apdu_format.specs.Reading.{Value, numbers_of, Step, runs}
use Rattle.apdu_format.proofs.Tests.{never}
use Rattle.apdu_format.proofs.Runs.{runs_none, runs_one}
use Rattle.apdu.specs.Values.{num, str, id_list, head_values}
use Rattle.apdu.specs.Tidy.{start_tidy}
use Rattle.apdu.proofs.Laws.{zero_tidy}
use Rattle.apdu_reading.specs.declared.cursor.Cursor.{Cursor}
use Rattle.apdu_reading.specs.declared.container.Head.{Head}
use Rattle.apdu.specs.Sound.{nested, part_fits}
use Rattle.apdu_reading.specs.Cursor.{state_of, component, ReadsTo, Inside}
use Rattle.apdu.specs.RowCounters.{row}
use Rattle.apdu_reading.specs.Rows.{Opens}
use Rattle.apdu_reading.specs.Lists.{Leads}
use Rattle.apdu_reading.proofs.Pieces.{sees, silent}
use Rattle.apdu_reading.proofs.Components.{rest, rows_extended, kind_extended}
use Rattle.apdu_reading.proofs.Numbers.{ReadAs, extended_read}
use Rattle.apdu_reading.proofs.Chains.{more, took, state_log, valued, itself, clean, enter}
use Rattle.apdu_reading.proofs.Strings.{fault_of_law, room_of, integer_reads, integer_room}

abbrev pub head : ℕ → ℕ → ℕ → Cursor → Head
head k n start c = record { kind = k; n = n; start = start; cursor = c }

-- what a string or a list of ids ensures
abbrev Ensured : List ℕ → List Component → Cursor → Cursor → List Value → Type 0
Ensured s is c r vs = ReadsTo s is c r vs × (r.value < 128) × (r.room ≡ c.room) × Inside s true r

pub one : (s : List ℕ) (i : Component) (b : Cursor) {d : Cursor} → d ≡ component s i b → (log : List Value) → runs (bits s) (i ∷ []) (state_of b log) ≡ runs (bits s) (more s i b) (state_of d (log ++ (sees s i b ∷ [])))
one s i b z log = rw z (runs_one (bits s) i (state_of b log) ∙ ap (λ (t : Step). runs (bits s) t.more t.state) (took s i b log))

-- ---- a count of rows

module _ (s : List ℕ) (depth : ℕ) (k : Cursor) {d : Cursor} (y : d ≡ component s (row_count depth) k) where
  rows_read : d.fault ≡ 0 → ReadAs s (row_count depth) k (λ room v. check 18 (ltb most_counted v || ltb room v) ∷ [])
  rows_read g = extended_read (rows_extended depth) s k (fault_of_law y g)

  rows_value : (g : d.fault ≡ 0) → d.value ≡ rest s k.at
  rows_value g = ap (λ (q : Cursor). q.value) (y ∙ (rows_read g).is)

  rows_saw : d.fault ≡ 0 → sees s (row_count depth) k ≡ num d.value
  rows_saw g = (rows_read g).saw ∙ ap num (sym (rows_value g))

  few : (a b : Bool) → (a || b) ≡ false → b ≡ false
  few true b h = let y : ◌≡◌ {A = ℕ} 0 1 = cc in absurd (omega arith)
  few false b h = h

  pub count_room : d.fault ≡ 0 → d.room + d.value ≡ k.room
  unfolding announced
  count_room g =
      let r = rows_read g in
      let n = rest s k.at in
      let q = few (ltb most_counted n) (ltb k.room n) (first_none 17 (ltb most_counted n || ltb k.room n) [] r.right).0 in
      let fit : n ≤ k.room = ltb-false _ _ q in
      let a : d.room ≡ k.room - n = ap (λ (q : Cursor). q.room) (y ∙ r.is) in
      omega (arith, rows_value g)

  -- what the count brings: its rows, or nothing where it is refused
  rows_more : more s (row_count depth) k ≡ times d.value (row depth)
  unfolding brings numbers_of times
  rows_more =
      by_cases (eqb d.fault 0)
      (λ p. rw (← y, p, rows_saw (eqb-true _ _ p)))
      (λ p.
      let z : d.value ≡ 0 = ap (λ (q : Cursor). q.value) y ∙ silent s (row_count depth) k (λ w. eqb-false _ _ p (ap (λ (q : Cursor). q.fault) y ∙ w)) in
      rw (← y, p, z))

  pub count_leads : Leads s (row_count depth ∷ []) k (times d.value (row depth)) d (num d.value ∷ [])
  count_leads =
      record {
        so = λ log.
            one s (row_count depth) k y log
            ∙ ap (λ (is : List Component). runs (bits s) is (state_of d (log ++ (sees s (row_count depth) k ∷ [])))) rows_more
            ∙ ap (runs (bits s) (times d.value (row depth))) (state_log d _ _ (λ g. rw (rows_saw g)));
      }

-- ---- a container

module _ (s : List ℕ) (depth : ℕ) (c : Cursor) {k : Cursor} (x : k ≡ component s (container depth) c) where
  pub opens_fault : (k.fault ≡ 0 → ⊥) → Opens s depth c (head 0 0 0 k)
  unfolding times
  opens_fault n =
      let r : ReadsTo s (container depth ∷ []) c k (head_values s 0 0 0) =
      valued (λ h. absurd (n h)) (enter (container depth) c {vs = []} x (λ h. absurd (n h)) (λ h. itself k)) in
      record {
        so = λ log. r.so log ∙ sym (runs_none (bits s) (state_of k (log ++ head_values s 0 0 0)));
        deep = λ h. refl;
        room = λ h. absurd (n h);
        small = (omega arith, omega arith);
        clean = λ h. absurd (n h);
        parts = λ h. absurd (n h);
        tidy = zero_tidy;
      }

  module _ (h : k.fault ≡ 0) where
    read : ReadAs s (container depth) c (λ room v. check 19 (ltb deepest depth) ∷ check 17 (not (known_kind v)) ∷ [])
    read = extended_read (kind_extended depth) s c (fault_of_law x h)

    kind_value : k.value ≡ rest s c.at
    kind_value = ap (λ (q : Cursor). q.value) (x ∙ read.is)

    kind_saw : sees s (container depth) c ≡ num k.value
    kind_saw = read.saw ∙ ap num (sym kind_value)

    kind_room : k.room ≡ c.room
    unfolding announced
    kind_room = room_of s (container depth) c (λ fs. refl) x

    passed : (ltb deepest depth ≡ false) × (first_of (check 17 (not (known_kind k.value)) ∷ []) ≡ 0)
    passed = rw kind_value (first_none 18 (ltb deepest depth) (check 17 (not (known_kind (rest s c.at))) ∷ []) read.right)

    not_deep : 4 < depth → ⊥
    not_deep d = let l = ltb-false deepest depth passed.0 in omega arith

    kind_known : known_kind k.value ≡ true
    kind_known = unnot (known_kind k.value) (first_none 16 (not (known_kind k.value)) [] passed.1).0
      where
        unnot : (b : Bool) → not b ≡ false → b ≡ true
        unnot true e = refl
        unnot false e = let z : ◌≡◌ {A = ℕ} 0 1 = cc in absurd (omega arith)

    pub is_list : (k.value ≡ 2 → ⊥) → (k.value ≡ 7 → ⊥) → (k.value ≡ 8 → ⊥) → k.value ≡ 9
    is_list a b d = eqb-true _ _ (rw (ne_eqb _ _ a, ne_eqb _ _ b, ne_eqb _ _ d) at kind_known)

    -- a container without rows
    plain : (K n start : ℕ) {is : List Component} {d : Cursor} {vs : List Value} → ReadsTo s is k d vs → nested K n ≡ 0 → content depth k.value ≡ is → num k.value ∷ vs ≡ head_values s K n start
        → d.room ≡ k.room → K < 128 → n < 128 → (d.fault ≡ 0 → part_fits (length s) K n start ≡ true) → start_tidy K start → Opens s depth c (head K n start d)
    unfolding brings numbers_of times
    plain K n start {is} {d} {vs} r z a b q u v f t =
        let whole : ReadsTo s (container depth ∷ []) c d (head_values s K n start) =
        valued (λ g. ap (λ (v : Value). v ∷ vs) kind_saw ∙ b) (enter (container depth) c x (λ g. rw (kind_saw, a) r) (λ g. absurd (g h))) in
        record {
          so = λ log. whole.so log ∙ rw z (sym (runs_none (bits s) (state_of d (log ++ head_values s K n start))));
          deep = λ g. z;
          room = λ g. rw z (omega (arith, kind_room));
          small = (u, v);
          clean = λ g. clean whole g;
          parts = f;
          tidy = t;
        }

    pub opens_string : k.value ≡ 2 → {d : Cursor} → Ensured s (string_form ∷ []) k d (str s d.start d.value) → Opens s depth c (head 2 d.value d.start d)
    opens_string e {d} r =
        plain 2 d.value d.start r.0 refl (unfold content in rw e) (unfold head_values in rw e) r.2 (omega arith) r.1
        (λ g. unfold part_fits in r.3.so g) (record { are = λ z. never (sym z) })

    pub opens_ids : k.value ≡ 8 → {d : Cursor} → Ensured s (id_count ∷ []) k d (id_list s d.start d.value) → Opens s depth c (head 8 d.value d.start d)
    opens_ids e {d} r =
        plain 8 d.value d.start r.0 refl (unfold content in rw e) (unfold head_values in rw e) r.2 (omega arith) r.1
        (λ g. unfold part_fits in r.3.so g) (record { are = λ z. never (sym z) })

    pub opens_integer : k.value ≡ 7 → {d : Cursor} → (d ≡ component s integer k) × (d.value < 128) → Opens s depth c (head 7 d.value 0 d)
    opens_integer e {d} y =
        plain 7 d.value 0 (integer_reads s k y.0) refl (unfold content in rw e) (unfold head_values in rw e) (integer_room s k y.0) (omega arith) y.1
        (λ g. unfold part_fits in refl) zero_tidy

    -- an attribute list
    module _ (e : k.value ≡ 9) {d : Cursor} (y : d ≡ component s (row_count (suc depth)) k) (low : d.value < 128) where
      kind_more : more s (container depth) c ≡ row_count (suc depth) ∷ []
      unfolding brings numbers_of content
      kind_more = rw (← x, eq-eqb _ _ h, kind_saw, e)

      pub opens_rows : Opens s depth c (head 9 d.value 0 d)
      unfolding head_values
      opens_rows =
          record {
            so = λ log.
                one s (container depth) c x log
                ∙ ap (λ (is : List Component). runs (bits s) is (state_of k (log ++ (sees s (container depth) c ∷ [])))) kind_more
                ∙ (count_leads s (suc depth) k y).so (log ++ (sees s (container depth) c ∷ []))
                ∙ ap (λ (l : List Value). runs (bits s) (times d.value (row (suc depth))) (state_of d l))
                (append_assoc log (sees s (container depth) c ∷ []) (num d.value ∷ []) ∙ ap (λ (v : Value). log ++ (v ∷ num d.value ∷ [])) (kind_saw ∙ ap num e));
            deep = λ g. absurd (not_deep g);
            room = λ g. count_room s (suc depth) k y g ∙ kind_room;
            small = (omega arith, low);
            clean = λ g. read.clean;
            parts = λ g. unfold part_fits in refl;
            tidy = zero_tidy;
          }
