-- Laws of parts, containers and lists as text, one for each way through the code.
-- Assumes nothing.
use Prim.Native.Nat.{ℕ, zero, suc, ◌+◌, ◌-◌, ◌*◌, ◌/◌, ◌%◌, ◌≤◌, ◌<◌}
use mathlib.Core.Path.{◌≡◌, refl, ap, sym, ◌∙◌}
use mathlib.Core.Bool.{Bool, true, false, ◌&&◌}
use mathlib.Core.List.{List, [], ◌∷◌, ◌++◌, append_assoc}
use native.Mathlib.Omega.{arith}
use lib.Dec.{leb}
use mir.Val.{bool_byte}
use Rattle.apdu.specs.Values.{bit_of}
use lib.ListN.{length, get_or}
use borrow.Author.Tests.{eq-eqb, ne_eqb, leb-true}
use Rattle.refusals.proofs.Tests.{by_test, by_cases, and_true, and_left, and_right}
use Rattle.bits.specs.Bits.{field}
use Rattle.bits.specs.Strings.{is_inside, string_at}
use Rattle.bits.proofs.Strings.{length_string}
use Rattle.bench_lines.specs.Numerals.{digit_for}
use Rattle.bench_lines.specs.Line.{hex_text}
use Rattle.apdu_text.specs.Words.{octets_of, eid_of, ids_of, attributes_of}
use Rattle.apdu_text.specs.Parts.{decimal, shown, part_at, between, numbers, number_list, list_front, container_front, seam, going_on}
use Rattle.apdu_text.specs.Ink.{Writes, stack_of}
use Rattle.apdu_text.specs.declared.pen.Pen.{Pen}
use Rattle.apdu_text.proofs.Inking.{Leaves, leaves_more, leaves_none, leaves_as, leaves_end, none_writes, writes_then}

-- ---- how many octets of a part are shown

module _ (octets start n : ℕ) where
  pub shown_outside : is_inside octets start n ≡ false → 0 ≡ shown octets start n
  unfolding shown
  shown_outside t = rw (and_left (is_inside 65536 start n) t)

  pub shown_far : is_inside 65536 start n ≡ false → 0 ≡ shown octets start n
  unfolding shown
  shown_far t = rw (and_right (is_inside octets start n) t)

  pub shown_inside : is_inside octets start n ≡ true → is_inside 65536 start n ≡ true → n ≡ shown octets start n
  unfolding shown
  shown_inside t u = rw (and_true t u)

pub reach : (octets start n : ℕ) {most k : ℕ} → most ≡ shown octets start n → k < most → start + 8 * k < 524288
unfolding shown is_inside
reach octets start n {most} {k} e h =
    by_cases (leb (start + 8 * n) (8 * 65536))
    (λ t. omega (arith, leb-true (start + 8 * n) (8 * 65536) t, few))
    (λ t. let z : most ≡ 0 = e ∙ rw (and_right (is_inside octets start n) t) in absurd (omega arith))
  where
    few : shown octets start n ≤ n
    few = by_test (λ (m : ℕ). m ≤ n) (is_inside octets start n && is_inside 65536 start n) (λ t. omega arith) (λ t. omega arith)

pub part_small : (octets start n : ℕ) {most : ℕ} → most ≡ shown octets start n → most ≤ 65536
part_small octets start n {most = zero} e = omega arith
part_small octets start n {most = suc k} e = omega (arith, reach octets start n {most = suc k} {k = k} e (omega arith))

length_hex : (s : List ℕ) → length (hex_text s) ≡ 2 * length s
unfolding hex_text
length_hex [] = refl
length_hex (o ∷ s) = omega (arith, length_hex s)

pub part_length : (s : List ℕ) (start n : ℕ) {most : ℕ} → most ≡ shown (length s) start n → 2 * most ≡ length (hex_text (part_at s start n))
unfolding part_at
part_length s start n e = let k = shown (length s) start n in omega (arith, length_hex (string_at s start k), length_string s start k)

-- ---- the octets of a part in turns

module _ (s : List ℕ) (start : ℕ) where
  abbrev left : ℕ → ℕ → List ℕ
  left most k = string_at s (start + 8 * k) (most - k)

  pub part_all : (n : ℕ) {most : ℕ} → most ≡ shown (length s) start n → part_at s start n ≡ left most 0
  unfolding part_at
  part_all n {most} e =
      let a : start + 8 * 0 ≡ start = omega arith in
      let b : most - 0 ≡ most = omega arith in
      rw (a, b, e)

  part_next : (most k : ℕ) → k < most → left most k ≡ field s (start + 8 * k) 8 ∷ left most (k + 1)
  unfolding string_at
  part_next most k h =
      let a : most - k ≡ suc (most - (k + 1)) = omega arith in
      let b : start + 8 * k + 8 ≡ start + 8 * (k + 1) = omega arith in
      rw (a, b)

  part_none : (most k : ℕ) → most ≤ k → left most k ≡ []
  unfolding string_at
  part_none most k h = let a : most - k ≡ 0 = omega arith in rw a

  module _ {text : List ℕ} {o : Pen} (most k : ℕ) {p : Pen} where
    pub part_more : Leaves text o (hex_text (left most k)) p → k < most → {x : ℕ} {q : Pen} → x ≡ field s (start + 8 * k) 8
        → Writes (digit_for (x / 16) ∷ (digit_for (x % 16) ∷ [])) p q → Leaves text o (hex_text (left most (k + 1))) q
    unfolding hex_text
    part_more l h {x} e w = leaves_more {a = digit_for (x / 16) ∷ (digit_for (x % 16) ∷ [])} (leaves_as (ap hex_text (part_next most k h) ∙ rw (← e) refl) l) w

    pub part_end : Leaves text o (hex_text (left most k)) p → most ≤ k → Writes text o p
    unfolding hex_text
    part_end l h = leaves_none (leaves_as (ap hex_text (part_none most k h)) l)

    module _ (end : List ℕ) (l : Leaves text o (numbers (left most k) ++ end) p) where
      number_front : k < most → {x : ℕ} → x ≡ field s (start + 8 * k) 8 → numbers (left most k) ++ end ≡ decimal x ++ (between (left most (k + 1)) ++ (numbers (left most (k + 1)) ++ end))
      unfolding numbers
      number_front h {x} e =
          rw (part_next most k h, ← e)
          (append_assoc (decimal x) (between (left most (k + 1)) ++ numbers (left most (k + 1))) end
          ∙ ap (λ (t : List ℕ). decimal x ++ t) (append_assoc (between (left most (k + 1))) (numbers (left most (k + 1))) end))

      pub number_more : k + 1 < most → {x : ℕ} {q w : Pen} → x ≡ field s (start + 8 * k) 8 → Writes (decimal x) p q → Writes (44 ∷ []) q w
          → Leaves text o (numbers (left most (k + 1)) ++ end) w
      unfolding between
      number_more h e i j =
          let some : between (left most (k + 1)) ≡ 44 ∷ [] = ap (λ (t : List ℕ). between t) (part_next most (k + 1) h) in
          leaves_more {a = 44 ∷ []} (leaves_as (rw some) (leaves_more (leaves_as (number_front (omega arith) e) l) i)) j

      pub number_last : k < most → most ≤ k + 1 → {x : ℕ} {q : Pen} → x ≡ field s (start + 8 * k) 8 → Writes (decimal x) p q
          → Leaves text o (numbers (left most (k + 1)) ++ end) q
      unfolding between
      number_last h g e i =
          let none : between (left most (k + 1)) ≡ [] = ap (λ (t : List ℕ). between t) (part_none most (k + 1) g) in
          leaves_as (rw none) (leaves_more (leaves_as (number_front h e) l) i)

      pub numbers_end : most ≤ k → {q : Pen} → Writes end p q → Writes text o q
      unfolding numbers
      numbers_end h i = leaves_end (leaves_as (rw (part_none most k h)) l) i

pub list_writes : (l : List ℕ) {o p q : Pen} → Writes (91 ∷ []) o p → Writes (numbers l ++ (93 ∷ [])) p q → Writes (number_list l) o q
unfolding number_list
list_writes l p q = writes_then p q

-- ---- containers

pub number_as : (name : List ℕ) {n k : ℕ} {o q : Pen} → n ≡ k → Writes (name ++ decimal n) o q → Writes (name ++ decimal k) o q
number_as name e x = rw e at x

pub bit_as : (b : Bool) → bool_byte b ≡ bit_of b
bit_as true = refl
bit_as false = refl

module _ (n : ℕ) {o p : Pen} where
  pub list_empty : n ≡ 0 → Writes (91 ∷ []) o p → {q : Pen} → Writes (93 ∷ []) p q → Writes (list_front n) o q
  unfolding list_front
  list_empty e x y = rw (eq-eqb n 0 e) (writes_then x y)

  pub list_filled : (n ≡ 0 → ⊥) → Writes (91 ∷ []) o p → Writes (list_front n) o p
  unfolding list_front
  list_filled e x = rw (ne_eqb n 0 e) x

module _ (s : List ℕ) (kind n start : ℕ) {o q : Pen} where
  pub front_octets : kind ≡ 2 → Writes (octets_of ++ hex_text (part_at s start n)) o q → Writes (container_front s kind n start) o q
  unfolding container_front
  front_octets e x = rw (eq-eqb kind 2 e) x

  pub front_eid : kind ≡ 7 → Writes (eid_of ++ decimal n) o q → Writes (container_front s kind n start) o q
  unfolding container_front
  front_eid e x = rw e x

  pub front_ids : kind ≡ 8 → Writes (ids_of ++ number_list (part_at s start n)) o q → Writes (container_front s kind n start) o q
  unfolding container_front
  front_ids e x = rw e x

  pub front_list : kind ≡ 9 → Writes (attributes_of ++ list_front n) o q → Writes (container_front s kind n start) o q
  unfolding container_front
  front_list e x = rw e x

pub front_none : (s : List ℕ) (kind n start : ℕ) (o : Pen) → (kind ≡ 2 → ⊥) → (kind ≡ 7 → ⊥) → (kind ≡ 8 → ⊥) → (kind ≡ 9 → ⊥) → Writes (container_front s kind n start) o o
unfolding container_front
front_none s kind n start o a b d e = rw (ne_eqb kind 2 a, ne_eqb kind 7 b, ne_eqb kind 8 d, ne_eqb kind 9 e) (none_writes o)

-- ---- the open lists

module _ (due : List ℕ) (k : ℕ) (some : 0 < k) where
  pub stack_front : stack_of due k ≡ get_or due (k - 1) 0 ∷ stack_of due (k - 1)
  unfolding stack_of
  stack_front = let e : k ≡ suc (k - 1) = omega arith in ap (λ (j : ℕ). stack_of due j) e

seam_ends : (x : ℕ) (due : List ℕ) → x ≡ 0 → seam (x ∷ due) ≡ 93 ∷ seam due
unfolding seam
seam_ends zero due e = refl
seam_ends (suc x) due e = absurd (omega arith)

seam_goes : (x : ℕ) (due : List ℕ) → (x ≡ 0 → ⊥) → seam (x ∷ due) ≡ 44 ∷ []
unfolding seam
seam_goes zero due e = absurd (e refl)
seam_goes (suc x) due e = refl

going_ends : (x : ℕ) (due : List ℕ) → x ≡ 0 → going_on (x ∷ due) ≡ going_on due
unfolding going_on
going_ends zero due e = refl
going_ends (suc x) due e = absurd (omega arith)

going_goes : (x : ℕ) (due : List ℕ) → (x ≡ 0 → ⊥) → going_on (x ∷ due) ≡ x ∷ due
unfolding going_on
going_goes zero due e = absurd (e refl)
going_goes (suc x) due e = refl

module _ {text : List ℕ} {o : Pen} (due : List ℕ) (k : ℕ) {p : Pen} (l : Leaves text o (seam (stack_of due k)) p) where
  pub seam_more : 0 < k → get_or due (k - 1) 0 ≡ 0 → {q : Pen} → Writes (93 ∷ []) p q → Leaves text o (seam (stack_of due (k - 1))) q
  seam_more h e x = leaves_more {a = 93 ∷ []} (leaves_as (ap seam (stack_front due k h) ∙ seam_ends (get_or due (k - 1) 0) (stack_of due (k - 1)) e) l) x

  pub seam_comma : 0 < k → (get_or due (k - 1) 0 ≡ 0 → ⊥) → {q : Pen} → Writes (44 ∷ []) p q → Writes text o q
  seam_comma h e x = leaves_none (leaves_more {a = 44 ∷ []} (leaves_as (ap seam (stack_front due k h) ∙ seam_goes (get_or due (k - 1) 0) (stack_of due (k - 1)) e) l) x)

  pub seam_none : k ≡ 0 → Writes text o p
  unfolding seam stack_of
  seam_none e = leaves_none (rw e at l)

module _ (all due : List ℕ) (k : ℕ) (l : going_on all ≡ going_on (stack_of due k)) where
  pub going_more : 0 < k → get_or due (k - 1) 0 ≡ 0 → going_on all ≡ going_on (stack_of due (k - 1))
  going_more h e = l ∙ ap going_on (stack_front due k h) ∙ going_ends (get_or due (k - 1) 0) (stack_of due (k - 1)) e

  pub going_stop : 0 < k → (get_or due (k - 1) 0 ≡ 0 → ⊥) → stack_of due k ≡ going_on all
  going_stop h e = stack_front due k h ∙ sym (l ∙ ap going_on (stack_front due k h) ∙ going_goes (get_or due (k - 1) 0) (stack_of due (k - 1)) e)

  pub going_none : k ≡ 0 → stack_of due 0 ≡ going_on all
  unfolding stack_of going_on
  going_none e = sym (l ∙ rw e refl)
