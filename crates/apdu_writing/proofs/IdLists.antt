-- Lists of ids: they are written as one string of octets, if the first bit of each octet is 0.
-- Assumes nothing.
use Prim.Native.Nat.{ℕ, zero, suc, ◌+◌, ◌-◌, ◌*◌, ◌≤◌, ◌<◌}
use mathlib.Core.Path.{◌≡◌, refl, ap, sym, ◌∙◌}
use mathlib.Core.List.{List, [], ◌∷◌, ◌++◌, append_assoc, append-nil}
use mathlib.Core.Bool.{true, false, ◌&&◌}
use mathlib.Core.Logic.{◌⊎◌, inl, inr}
use native.Mathlib.Numerals.{add-one}
use native.Mathlib.Omega.{arith}
use lib.ListN.{length, drop}
use lib.Dec.{ltb, eqb}
use borrow.Author.Tests.{lt-ltb, le-ltb, eqb-true, eqb-false}
use Rattle.refusals.specs.Check.{pick, first_of}
use Rattle.refusals.proofs.Tests.{by_cases, and_true, and_right}
use Rattle.bits.specs.Bits.{Bits, bits, digits, number, field, put_bits}
use Rattle.bits.specs.Strings.{is_inside, string_at, write_string, each_first_bit_clear, first_bits_clear}
use Rattle.bits.proofs.Laws.{bits_small, below_drop, length_bits, number_add, number_lt}
use Rattle.bits.proofs.Strings.{length_string, bits_snoc}
use Rattle.apdu_format.specs.Component.{Component, integer, list_start}
use Rattle.apdu_format.specs.Rules.{shape, checks_of, brings, announced, times}
use Rattle.apdu_format.specs.Reading.{Value, fields, string, numbers_of, sum, value_at, fields_of}
use Rattle.apdu_format.specs.Writing.{Pen, bits_of, fits, is_value, fields_fit, are_bits}
use Rattle.apdu_format.proofs.Tests.{never, both}
use Rattle.apdu.specs.Values.{id_at, ids_at}
use Rattle.apdu.proofs.Laws.{and_unit}
use Rattle.apdu_writing.specs.declared.quill.Quill.{Quill}
use Rattle.apdu_writing.specs.Quill.{least, behind, Put, pen_at, writes, Stops, Puts}
use Rattle.apdu_writing.proofs.Levels.{writes_none, writes_append, writes_dead, writes_fine, writes_wrong}
use Rattle.apdu_writing.proofs.Leaves.{packed, pack, least_least, wrong}
use Rattle.apdu_writing.proofs.Components.{octets_put}

-- ---- one id

id_range : (a b n : ℕ) → a < 2 → b < 128 → n ≡ a * 128 + b → ltb n 128 ≡ ((ltb a 2 && (ltb b 128 && true)) && eqb (pick (eqb a 1) 16 0) 0)
id_range a b n h k e =
    by_cases (eqb a 1)
    (λ g. let m = eqb-true a 1 g in rw (le-ltb n 128 (omega arith), g) (sym (and_right (ltb a 2 && (ltb b 128 && true)) refl)))
    (λ g. let m = eqb-false a 1 g in rw (lt-ltb n 128 (omega (arith, m)), g, lt-ltb a 2 h, lt-ltb b 128 k))

module _ (s : List ℕ) (at : ℕ) where
  abbrev l : List ℕ
  l = drop at (bits s)

  abbrev first : ℕ
  first = number 1 l

  abbrev other : ℕ
  other = number 7 (drop 1 l)

  octet_is : field s at 8 ≡ first * 128 + other
  unfolding field
  octet_is = number_add 1 7 l

  first_lt : first < 2
  first_lt = number_lt 1 l (below_drop at (bits_small s))

  other_lt : other < 128
  other_lt = number_lt 7 (drop 1 l) (below_drop 1 (below_drop at (bits_small s)))

  id_is : id_at s at ≡ fields (first ∷ other ∷ [])
  unfolding shape value_at fields_of
  id_is = refl

  -- an id is in range where its octet's first bit is 0
  pub id_fits : (room : ℕ) → ltb (field s at 8) 128 ≡ is_value integer room (id_at s at)
  unfolding is_value fits shape fields_fit checks_of first_of numbers_of
  id_fits room = rw id_is (id_range first other (field s at 8) first_lt other_lt octet_is)

  -- its bits are those of its octet
  pub id_bits : bits_of (shape integer) (id_at s at) ≡ digits 8 (field s at 8)
  unfolding bits_of shape numbers_of packed sum fields_fit
  id_bits =
      let v : packed (1 ∷ 7 ∷ []) (first ∷ other ∷ []) ≡ field s at 8 = let m = octet_is in omega arith in
      let f : fields_fit (1 ∷ 7 ∷ []) (first ∷ other ∷ []) ≡ true = rw (lt-ltb first 2 first_lt, lt-ltb other 128 other_lt) in
      rw id_is (sym (pack (1 ∷ 7 ∷ []) (first ∷ other ∷ []) f) ∙ ap (digits 8) v)

-- ---- a component that brings nothing, before others

module _ (i : Component) (v : Value) (is : List Component) (room : ℕ) (rest : List Value) (b : List ℕ) where
  lone_fine : brings i (numbers_of v) ≡ [] → announced i (numbers_of v) ≡ 0 → is_value i room v ≡ true
      → writes ((i ∷ []) ++ is) (pen_at (v ∷ rest) room b) ≡ writes is (pen_at rest room (b ++ bits_of (shape i) v))
  lone_fine none free h =
      let k : room - announced i (numbers_of v) ≡ room = omega arith in
      let to = b ++ bits_of (shape i) v in
      writes_append (i ∷ []) is (pen_at (v ∷ rest) room b)
      ∙ ap (writes is)
      (writes_fine i room v rest b h ∙ ap (λ (js : List Component). writes js (pen_at rest (room - announced i (numbers_of v)) to)) none
      ∙ writes_none (pen_at rest (room - announced i (numbers_of v)) to) ∙ ap (λ (n : ℕ). pen_at rest n to) k)

  lone_wrong : is_value i room v ≡ false → (writes ((i ∷ []) ++ is) (pen_at (v ∷ rest) room b)).ok ≡ false
  lone_wrong h =
      ap (λ (p : Pen). p.ok) (writes_append (i ∷ []) is (pen_at (v ∷ rest) room b))
      ∙ writes_dead is (writes (i ∷ []) (pen_at (v ∷ rest) room b)) (writes_wrong i room v rest b h)

-- ---- ids in a row

abbrev ints : ℕ → List Component
ints n = times n (integer ∷ [])

module _ (s : List ℕ) (start room : ℕ) where
  -- the last of the ids is the first of the rest
  last_id : (n m : ℕ) (rest : List Value) (b : List ℕ)
      → writes (ints (suc n + m)) (pen_at (ids_at s start (suc n) ++ rest) room b) ≡ writes (ints (n + suc m)) (pen_at (ids_at s start n ++ (id_at s (start + 8 * n) ∷ rest)) room b)
  unfolding ids_at
  last_id n m rest b =
      let e : suc n + m ≡ n + suc m = omega arith in
      ap (λ (k : ℕ). writes (ints k) (pen_at (ids_at s start (suc n) ++ rest) room b)) e
      ∙ ap (λ (vs : List Value). writes (ints (n + suc m)) (pen_at vs room b)) (append_assoc (ids_at s start n) (id_at s (start + 8 * n) ∷ []) rest)

  pub ids_so : (n : ℕ) → each_first_bit_clear s start n ≡ true → (m : ℕ) (rest : List Value) (b : List ℕ)
      → writes (ints (n + m)) (pen_at (ids_at s start n ++ rest) room b) ≡ writes (ints m) (pen_at rest room (b ++ bits (string_at s start n)))
  unfolding each_first_bit_clear ids_at string_at bits times
  ids_so zero h m rest b = let e : zero + m ≡ m = omega arith in rw (e, append-nil)
  ids_so (suc n) h m rest b =
      let at = start + 8 * n in
      let w = bits (string_at s start n) in
      let q = both (each_first_bit_clear s start n) (ltb (field s at 8) 128) h in
      let d : (b ++ w) ++ bits_of (shape integer) (id_at s at) ≡ b ++ bits (string_at s start (suc n)) =
      append_assoc b w (bits_of (shape integer) (id_at s at)) ∙ ap (λ (k : List ℕ). b ++ k) (ap (λ (k : List ℕ). w ++ k) (id_bits s at) ∙ sym (ap (λ (k : ℕ). bits (string_at s start k)) (sym (add-one n)) ∙ bits_snoc s start n)) in
      last_id n m rest b ∙ ids_so n q.0 (suc m) (id_at s at ∷ rest) b
      ∙ lone_fine integer (id_at s at) (ints m) room rest (b ++ w) (unfold brings in refl) (unfold announced in refl) (sym (id_fits s at room) ∙ q.1)
      ∙ ap (λ (k : List ℕ). writes (ints m) (pen_at rest room k)) d

  pub ids_stop : (n : ℕ) → each_first_bit_clear s start n ≡ false → (m : ℕ) (rest : List Value) (b : List ℕ)
      → (writes (ints (n + m)) (pen_at (ids_at s start n ++ rest) room b)).ok ≡ false
  unfolding each_first_bit_clear times
  ids_stop zero h m rest b = never (sym h)
  ids_stop (suc n) h m rest b =
      let at = start + 8 * n in
      ap (λ (p : Pen). p.ok) (last_id n m rest b)
      ∙ by_cases (each_first_bit_clear s start n)
      (λ g.
      let f : ltb (field s at 8) 128 ≡ false = rw g at h in
      ap (λ (p : Pen). p.ok) (ids_so n g (suc m) (id_at s at ∷ rest) b)
      ∙ lone_wrong integer (id_at s at) (ints m) room rest (b ++ bits (string_at s start n)) (sym (id_fits s at room) ∙ f))
      (λ g. ids_stop n g (suc m) (id_at s at ∷ rest) b)

-- ---- a list behind its count

module _ (s : List ℕ) (start n room : ℕ) where
  abbrev list_parts : List Component
  list_parts = (list_start ∷ []) ++ ints n

  abbrev listed : List Value
  listed = string start [] ∷ ids_at s start n

  -- the place where a list starts takes no bit
  start_so : (rest : List Value) (b : List ℕ) → writes list_parts (pen_at (listed ++ rest) room b) ≡ writes (ints (n + 0)) (pen_at (ids_at s start n ++ rest) room b)
  unfolding bits_of shape
  start_so rest b =
      let vs = ids_at s start n ++ rest in
      let e : n ≡ n + 0 = omega arith in
      lone_fine list_start (string start []) (ints n) room vs b (unfold brings in refl) (unfold announced in refl) (unfold is_value fits shape checks_of first_of are_bits in refl)
      ∙ ap (λ (k : List ℕ). writes (ints n) (pen_at vs room k)) (append-nil b) ∙ ap (λ (k : ℕ). writes (ints k) (pen_at vs room b)) e

  -- the list is written as the n octets of s from bit place start
  pub record AsString : Type 0 where
    pub here : is_inside (length s) start n ≡ true
    pub so : (rest : List Value) (b : List ℕ) → writes list_parts (pen_at (listed ++ rest) room b) ≡ writes [] (pen_at rest room (b ++ bits (string_at s start n)))
    pub small : Bits (bits (string_at s start n))
    pub long : length (bits (string_at s start n)) ≡ 8 * n
    pub ink : (o : List ℕ) (at : ℕ) → at + 8 * n ≤ 8 * length o → write_string s start n o at ≡ put_bits o at (bits (string_at s start n))

  pub list_fine : first_bits_clear s start n ≡ true → AsString
  unfolding first_bits_clear times
  list_fine h =
      let q = both (is_inside (length s) start n) (each_first_bit_clear s start n) h in
      record {
        here = q.0;
        so = λ rest b. start_so rest b ∙ ids_so s start room n q.1 0 rest b;
        small = bits_small (string_at s start n);
        long = length_bits (string_at s start n) ∙ ap (λ (k : ℕ). 8 * k) (length_string s start n);
        ink = λ o at k. octets_put s start n o at q.0 k;
      }

  -- it is outside, or one of its ids is out of range
  pub list_wrong : first_bits_clear s start n ≡ false → (is_inside (length s) start n ≡ false) ⊎ Stops list_parts room listed
  unfolding first_bits_clear
  list_wrong h =
      by_cases (is_inside (length s) start n)
      (λ here.
      let f : each_first_bit_clear s start n ≡ false = rw here at h in
      inr (record { so = λ rest b. ap (λ (p : Pen). p.ok) (start_so rest b) ∙ ids_stop s start room n f 0 rest b }))
      inl

-- ---- in the code

pub clear_inside : (s : List ℕ) (start n : ℕ) → (first_bits_clear s start n && is_inside (length s) start n) ≡ first_bits_clear s start n
unfolding first_bits_clear
clear_inside s start n = by_cases (is_inside (length s) start n) (λ h. rw h (and_unit (each_first_bit_clear s start n))) (λ h. rw h)

pub list_put : (s : List ℕ) (start n : ℕ) {c r : Quill} {o o' : List ℕ} → Put n (first_bits_clear s start n) c r (write_string s start n o (8 * c.at)) o o'
    → Puts (is_inside (length s) start n) ((list_start ∷ []) ++ times n (integer ∷ [])) c r o o' (string start [] ∷ ids_at s start n)
unfolding behind
list_put s start n {c} {r} {o} {o'} p =
    let fine = first_bits_clear s start n in
    let ok : r.ok ≡ (c.ok && fine) = ap (λ (z : Quill). z.ok) p.is in
    record {
      good = λ h.
          let a = both c.ok fine (sym ok ∙ h) in
          let q = list_fine s start n c.room a.1 in
          let room : r.room ≡ c.room = ap (λ (z : Quill). z.room) p.is in
          let at : r.at ≡ least (c.at + n) = ap (λ (z : Quill). z.at) p.is ∙ rw (and_true a.0 a.1) in
          let w = bits (string_at s start n) in
          record {
            holds = q.here;
            came = a.0;
            w = w;
            small = q.small;
            k = n;
            whole = q.long;
            so = λ rest b. q.so rest b ∙ ap (λ (k : ℕ). writes [] (pen_at rest k (b ++ w))) (sym room);
            to = ap least at ∙ least_least (c.at + n);
            ink = λ octs near fits. p.out ∙ rw (and_true a.0 a.1) (q.ink o (8 * c.at) (omega arith));
          };
      bad = λ h k. list_wrong s start n c.room (wrong c.ok fine k (sym ok ∙ h));
    }
