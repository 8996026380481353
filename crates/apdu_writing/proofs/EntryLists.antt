-- Application entries one after the other, each with its rows.
-- Assumes nothing.
use Prim.Native.Nat.{ℕ, suc, ◌+◌, ◌-◌, ◌*◌, ◌≤◌, ◌<◌}
use mathlib.Core.Path.{◌≡◌, refl, ap, sym, ◌∙◌}
use mathlib.Core.List.{List, [], ◌∷◌, ◌++◌}
use mathlib.Core.Bool.{Bool, true, false, ◌&&◌, not}
use native.Mathlib.Omega.{arith}
use native.Mathlib.Numerals.{add-one}
use lib.ListN.{length, take, drop, get_or, length-drop}
use lib.Seq.{take-suc, take_all, drop-drop, length-take-le, get_or-take, get_or-drop}
use lib.Dec.{ltb}
use borrow.Author.Tests.{ltb-true, not-true, not-false}
use Rattle.refusals.specs.Check.{first_of}
use Rattle.bits.specs.Bits.{write_field}
use Rattle.apdu_format.specs.Component.{integer, entry, entry_count, container}
use Rattle.apdu_format.specs.Rules.{shape, checks_of, brings, announced, when, times, is_set}
use Rattle.apdu_format.specs.Reading.{fields, numbers_of, sum}
use Rattle.apdu_format.specs.Writing.{fits, is_value, fields_fit}
use Rattle.apdu_format.proofs.Tests.{never}
use Rattle.apdu.specs.declared.lists.Row.{Row}
use Rattle.apdu.specs.declared.lists.Entry.{Entry}
use Rattle.apdu.specs.Values.{bit_of, num, num_if, if, container_values, entry_values, entries_values, list_values, entry_rows, rows_of, empty_entry}
use Rattle.apdu.proofs.Laws.{and_unit, own_values, rows_of_snoc, entries_snoc, sound_snoc}
use Rattle.apdu_writing.specs.declared.quill.Quill.{Quill}
use Rattle.apdu_writing.specs.declared.entries.EntriesPut.{EntriesPut}
use Rattle.apdu.specs.Sound.{sound_if, container_sound, entry_sound, entries_sound}
use Rattle.apdu_writing.specs.Quill.{limited, Put, Moves, Puts}
use Rattle.apdu_writing.specs.Applications.{Listed, list_rows, Lists}
use Rattle.apdu_writing.proofs.Chains.{nothing, idle, then, and_then, before, limit, limit_stopped}
use Rattle.apdu_writing.proofs.Leaves.{packed, leaf, in_number}
use Rattle.apdu_writing.proofs.Leads.{is_set_law, bit_fits}
use Rattle.apdu_writing.proofs.Components.{there_sound, absent_sound}

-- ---- one entry

module _ (e : Entry) where
  abbrev fs : List ℕ
  fs = bit_of e.has_eid ∷ bit_of e.has_parameter ∷ 0 ∷ e.aid ∷ []

  entry_range : (room : ℕ) → ltb e.aid 32 ≡ is_value entry room (fields fs)
  unfolding is_value fits shape fields_fit checks_of first_of numbers_of
  entry_range room = rw (bit_fits e.has_eid, bit_fits e.has_parameter) (sym (and_unit (ltb e.aid 32 && true) ∙ and_unit (ltb e.aid 32)))

  entry_packed : {x y z : ℕ} → x ≡ bit_of e.has_eid → y ≡ bit_of e.has_parameter → (e.aid < 32 → z ≡ e.aid) → ltb e.aid 32 ≡ true
      → 128 * x + 64 * y + z ≡ packed (1 ∷ 1 ∷ 1 ∷ 5 ∷ []) fs
  unfolding packed sum
  entry_packed p q f g = let h = f (ltb-true e.aid 32 g) in omega arith

  entry_lead : {x y z : ℕ} {c r : Quill} {o o' : List ℕ} → x ≡ bit_of e.has_eid → y ≡ bit_of e.has_parameter → (e.aid < 32 → z ≡ e.aid)
      → Put 1 (ltb e.aid 32) c r (write_field o (8 * c.at) 8 (128 * x + 64 * y + z)) o o'
      → Moves true (entry ∷ []) (when e.has_eid (integer ∷ []) ++ when e.has_parameter (container 1 ∷ [])) c r o o' (fields fs ∷ [])
  unfolding brings announced numbers_of sum
  entry_lead {x} {y} {z} {c} {r} {o} p q f m =
      rw (← brought)
      (leaf entry (fields fs) m
      (in_number entry (1 ∷ 1 ∷ 1 ∷ 5 ∷ []) fs (128 * x + 64 * y + z) (ltb e.aid 32) c.room o (8 * c.at) (unfold shape in refl) (omega arith) (entry_range c.room) (entry_packed p q f)) refl)
    where
      brought : when (is_set fs 0) (integer ∷ []) ++ when (is_set fs 1) (container 1 ∷ []) ≡ when e.has_eid (integer ∷ []) ++ when e.has_parameter (container 1 ∷ [])
      brought = rw (is_set_law e.has_eid, is_set_law e.has_parameter)

  -- with its own rows, at the front of rs
  pub entry_by : (s : List ℕ) (rs : List Row) {own x y z : ℕ} {c d f r : Quill} {o o₁ o₂ o₃ : List ℕ} → own ≡ entry_rows e → x ≡ bit_of e.has_eid → y ≡ bit_of e.has_parameter → (e.aid < 32 → z ≡ e.aid)
      → Put 1 (ltb e.aid 32) c d (write_field o (8 * c.at) 8 (128 * x + 64 * y + z)) o o₁
      → Puts true (when e.has_eid (integer ∷ [])) d f o₁ o₂ (num_if e.has_eid e.eid)
      → Puts (sound_if e.has_parameter (container_sound (length s) e.kind e.n e.start (take own rs))) (when e.has_parameter (container 1 ∷ [])) f r o₂ o₃ (if e.has_parameter (container_values s e.kind e.n e.start (take own rs)))
      → Puts (entry_sound (length s) e (take (entry_rows e) rs)) (entry ∷ []) c r o o₃ (entry_values s e (take (entry_rows e) rs))
  unfolding entry_sound entry_values
  entry_by s rs h p q g m eid par = then (entry_lead p q g m) (and_then eid (rw h at par))

-- ---- the first i of these entries are written

pub record Turns (s : List ℕ) (all : List Entry) (n : ℕ) (rs : List Row) (first i used : ℕ) (c d : Quill) (o o' : List ℕ) : Type 0 where
  pub so : Moves (entries_sound (length s) (take i all) (drop first rs)) (times n (entry ∷ [])) (times (n - i) (entry ∷ [])) c d o o' (entries_values s (take i all) (drop first rs))
  pub is : used ≡ first + rows_of (take i all)

pub turns_none : (s : List ℕ) (all : List Entry) (n : ℕ) (rs : List Row) (first : ℕ) (c : Quill) (o : List ℕ) → Turns s all n rs first 0 first c c o o
unfolding entries_sound entries_values rows_of
turns_none s all n rs first c o = let e : n - 0 ≡ n = omega arith in record { so = rw e (nothing (times n (entry ∷ [])) c o); is = omega arith }

module _ (es : List Entry) (from n i : ℕ) (e : length es ≡ 32) (f : from ≤ 16) (g : n ≤ 16) where
  abbrev all : List Entry
  all = take n (drop from es)

  all_length : length all ≡ n
  all_length = length-take-le n (drop from es) (omega (arith, length-drop from es))

  pub all_entry : i < n → get_or es (from + i) empty_entry ≡ get_or all i empty_entry
  all_entry h = sym (get_or-drop from es i empty_entry) ∙ sym (get_or-take n (drop from es) i empty_entry h)

  module _ {s : List ℕ} {rs : List Row} {first used : ℕ} {c d : Quill} {o o₁ : List ℕ} (p : Turns s all n rs first i used c d o o₁) where
    pub turns_more : {w : Entry} {own : ℕ} {r : Quill} {o₂ : List ℕ} → w ≡ get_or es (from + i) empty_entry → own ≡ entry_rows w → i < n
        → Puts (entry_sound (length s) w (take (entry_rows w) (drop used rs))) (entry ∷ []) d r o₁ o₂ (entry_values s w (take (entry_rows w) (drop used rs)))
        → Turns s all n rs first (i + 1) (used + own) c r o o₂
    unfolding times
    turns_more {w} x own h q =
        let t : take (i + 1) all ≡ take i all ++ (w ∷ []) =
        ap (λ (k : ℕ). take k all) (add-one i) ∙ take-suc all i empty_entry (omega (arith, all_length)) ∙ ap (λ (y : Entry). take i all ++ (y ∷ [])) (sym (x ∙ all_entry h)) in
        let m : n - i ≡ suc (n - (i + 1)) = omega arith in
        let u : drop used rs ≡ drop (rows_of (take i all)) (drop first rs) = ap (λ (k : ℕ). drop k rs) p.is ∙ sym (drop-drop (rows_of (take i all)) first rs) in
        record {
          so =
              rw (t, sound_snoc (length s) (take i all) w (drop first rs), entries_snoc s (take i all) w (drop first rs))
              (then (rw m at p.so) (before (times (n - (i + 1)) (entry ∷ [])) (rw u at q)));
          is = let k = rows_of_snoc (take i all) w in let j = p.is in rw t (omega arith);
        }

    pub turns_all : {b : Quill} {o₀ : List ℕ} → i ≡ n → used ≤ first + 255 * i → Moves true (entry_count ∷ []) (times n (entry ∷ [])) b c o₀ o (num n ∷ [])
        → Listed s es from n rs first b (record { quill = d; used = used }) o₀ o₁
    unfolding times
    turns_all h k m =
        let t : take i all ≡ all = take_all i all (omega (arith, all_length)) in
        let z : n - i ≡ 0 = omega arith in
        record {
          so = then m (rw (t, z) at p.so);
          used = λ x. p.is ∙ ap (λ (l : List Entry). first + rows_of l) t;
          few = λ x. g;
          near = omega arith;
        }

pub turns_stopped : (s : List ℕ) (es : List Entry) (from n : ℕ) (rs : List Row) (first : ℕ) {b c : Quill} {o₀ o : List ℕ} → not c.ok ≡ true
    → Moves true (entry_count ∷ []) (times n (entry ∷ [])) b c o₀ o (num n ∷ []) → Listed s es from n rs first b (record { quill = c; used = first }) o₀ o
turns_stopped s es from n rs first {b} {c} h m =
    let no = not-true c.ok h in
    record { so = then m (idle no no); used = λ x. never (sym no ∙ x); few = λ x. never (sym no ∙ x); near = omega arith }

-- ---- a list, and perhaps a second behind it

module _ (s : List ℕ) (es : List Entry) (n : ℕ) (p : Bool) (k : ℕ) (rs : List Row) {c : Quill} {o : List ℕ} {t : EntriesPut} {o₁ : List ℕ} (l : Listed s es 0 n rs 0 c t o o₁) where
  first_list : Puts (entries_sound (length s) (take n es) rs) (entry_count ∷ []) c t.quill o o₁ (list_values s n (take n es) rs)
  first_list = rw (← own_values s (take n es) rs) l.so

  one_stopped : t.quill.ok ≡ false → Lists s es n p k rs c t.quill o o₁
  one_stopped h = record { between = t.quill; half = o₁; first = first_list; second = idle h h }

  one_list : p ≡ false → {r : Quill} → r ≡ limited t.used t.quill → Lists s es n p k rs c r o o₁
  one_list h e =
      record {
        between = t.quill;
        half = o₁;
        first = first_list;
        second = limit (absent_sound _ _ _ _ p h _) {n = list_rows es n p k} t.used (λ g. let u = l.used g in rw h (omega arith)) e;
      }

  module _ {u : EntriesPut} {o₂ : List ℕ} (h : p ≡ true) (came : t.quill.ok ≡ true) (m : Listed s es n k rs t.used t.quill u o₁ o₂) where
    abbrev es₂ : List Entry
    es₂ = take k (drop n es)

    abbrev rs₂ : List Row
    rs₂ = drop (rows_of (take n es)) rs

    used_before : t.used ≡ rows_of (take n es)
    used_before = let e = l.used came in omega arith

    used_both : u.quill.ok ≡ true → u.used ≡ list_rows es n p k
    used_both g = let a = used_before in let e = m.used g in rw h (omega arith)

    second_list : Puts (sound_if p (entries_sound (length s) es₂ rs₂)) (when p (entry_count ∷ [])) t.quill u.quill o₁ o₂ (if p (list_values s k es₂ rs₂))
    second_list =
        let more : Puts (entries_sound (length s) es₂ rs₂) (entry_count ∷ []) t.quill u.quill o₁ o₂ (list_values s k es₂ rs₂) =
        rw (← own_values s es₂ rs₂) (rw used_before at m.so) in
        there_sound p h more

    two_lists : {r : Quill} → r ≡ limited u.used u.quill → Lists s es n p k rs c r o o₂
    two_lists e = record { between = t.quill; half = o₁; first = first_list; second = limit second_list u.used used_both e }

    two_stopped : u.quill.ok ≡ false → Lists s es n p k rs c u.quill o o₂
    two_stopped g = record { between = t.quill; half = o₁; first = first_list; second = limit_stopped second_list (list_rows es n p k) g }

-- the next list is the first; or it is the second and the last
pub data Stage (s : List ℕ) (es : List Entry) (n : ℕ) (p : Bool) (k : ℕ) (rs : List Row) (c : Quill) (o : List ℕ) (more : Bool) (from count used : ℕ) (q : Quill) (o₁ : List ℕ) : Type 0 where
  begins : more ≡ p → from ≡ 0 → count ≡ n → used ≡ 0 → q ≡ c → o₁ ≡ o → Stage s es n p k rs c o more from count used q o₁
  goes_on : p ≡ true → more ≡ false → from ≡ n → count ≡ k → q.ok ≡ true → Listed s es 0 n rs 0 c (record { quill = q; used = used }) o o₁ → Stage s es n p k rs c o more from count used q o₁

pub stage_first : (s : List ℕ) (es : List Entry) (n : ℕ) (p : Bool) (k : ℕ) (rs : List Row) (c : Quill) (o : List ℕ) → Stage s es n p k rs c o p 0 n 0 c o
stage_first s es n p k rs c o = begins refl refl refl refl refl refl

module _ {s : List ℕ} {es : List Entry} {n : ℕ} {p : Bool} {k : ℕ} {rs : List Row} {c : Quill} {o : List ℕ} {more : Bool} {from count used : ℕ} {q : Quill} {o₁ : List ℕ} where
  pub stage_low : Stage s es n p k rs c o more from count used q o₁ → (from ≤ 16) × (used < 65536)
  stage_low (begins a b d e f g) = (omega arith, omega arith)
  stage_low (goes_on a b d e f l) = (omega (arith, l.few f), omega (arith, l.near))

  module _ {t : EntriesPut} {o₂ : List ℕ} where
    pub stage_stopped : Stage s es n p k rs c o more from count used q o₁ → Listed s es from count rs used q t o₁ o₂ → not t.quill.ok ≡ true → Lists s es n p k rs c t.quill o o₂
    stage_stopped (begins a b d e f g) m h = one_stopped s es n p k rs (rw (b, d, e, f, g) at m) (not-true t.quill.ok h)
    stage_stopped (goes_on a b d e f l) m h = two_stopped s es n p k rs l a f (rw (d, e) at m) (not-true t.quill.ok h)

    pub stage_last : Stage s es n p k rs c o more from count used q o₁ → Listed s es from count rs used q t o₁ o₂ → not more ≡ true
        → {r : Quill} → r ≡ limited t.used t.quill → Lists s es n p k rs c r o o₂
    stage_last (begins a b d e f g) m h z = one_list s es n p k rs (rw (b, d, e, f, g) at m) (sym a ∙ not-true more h) z
    stage_last (goes_on a b d e f l) m h z = two_lists s es n p k rs l a f (rw (d, e) at m) z

    pub stage_next : Stage s es n p k rs c o more from count used q o₁ → Listed s es from count rs used q t o₁ o₂ → not t.quill.ok ≡ false → not more ≡ false
        → Stage s es n p k rs c o false n k t.used t.quill o₂
    stage_next (begins a b d e f g) m h i = goes_on (sym a ∙ not-false more i) refl refl refl (not-false t.quill.ok h) (rw (b, d, e, f, g) at m)
    stage_next (goes_on a b d e f l) m h i = never (sym b ∙ not-false more i)

pub last_less : (more : Bool) → not more ≡ false → bit_of false < bit_of more
last_less true h = omega arith
last_less false h = never (sym h)
