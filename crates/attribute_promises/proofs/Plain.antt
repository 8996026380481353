-- The numbers of a message that was read and whose components have no number above 127: each number of one field, or behind an extension bit, is at most 127.
-- Assumes nothing.
use Prim.Native.Nat.{ℕ, zero, suc, ◌-◌, ◌^◌, ◌<◌, ◌≤◌}
use mathlib.Core.Path.{◌≡◌, refl, ap, sym, ◌∙◌}
use mathlib.Core.Bool.{Bool, true, false, ◌&&◌}
use mathlib.Core.List.{List, [], ◌∷◌, ◌++◌}
use native.Mathlib.Omega.{arith}
use lib.Dec.{ltb, eqb}
use borrow.Author.Tests.{ltb-true}
use Rattle.refusals.specs.Check.{first_of}
use Rattle.refusals.proofs.Tests.{by_cases, by_test, and_true}
use Rattle.apdu_format.specs.Component.{Component, choice, lead, integer, fixed, string_form, string_length, string_octets, id_count, list_start, row_count, entry_count, entry, container, class, octet_string, dsrc_eid, attribute_id_list, attribute_list}
use Rattle.apdu_format.specs.Table.{Part, always, given, layout_of}
use Rattle.apdu_format.specs.Rules.{widths, raw, shape, checks_of, present, brings, announced, times, when, content, is_set, after}
use Rattle.apdu_format.specs.Reading.{Value, fields, string, numbers_of}
use Rattle.apdu_format.specs.Writing.{Pen, fields_fit, fits, bits_of, is_value, none, written, in_range}
use Rattle.apdu_format.proofs.Tests.{both, never}
use Rattle.apdu_writing.specs.Quill.{pen_at, writes}
use Rattle.apdu_writing.proofs.Levels.{writes_append, writes_dead, writes_fine, writes_wrong, writes_none}

-- ---- components

abbrev pub plain : Component → Bool
plain choice = false
plain (lead k) = false
plain integer = true
plain (fixed n) = false
plain string_form = true
plain string_length = true
plain (string_octets n) = true
plain id_count = true
plain list_start = true
plain (row_count d) = true
plain entry_count = true
plain entry = true
plain (container d) = true
plain class = false

abbrev pub plains : List Component → Bool
plains [] = true
plains (i ∷ is) = plain i && plains is

pub plains_append : (is js : List Component) → plains is ≡ true → plains js ≡ true → plains (is ++ js) ≡ true
plains_append [] js p q = q
plains_append (i ∷ is) js p q = let b = both (plain i) (plains is) p in and_true b.0 (plains_append is js b.1 q)

plains_times : (n : ℕ) (is : List Component) → plains is ≡ true → plains (times n is) ≡ true
unfolding times
plains_times zero is p = refl
plains_times (suc n) is p = plains_append is (times n is) p (plains_times n is p)

pub plains_when : (b : Bool) (is : List Component) → plains is ≡ true → plains (when b is) ≡ true
plains_when true is p = p
plains_when false is p = refl

plains_content : (d k : ℕ) → plains (content d k) ≡ true
unfolding content
plains_content d k =
    by_test (λ (l : List Component). plains l ≡ true) (eqb k octet_string) (λ t. refl)
    (λ t.
    by_test (λ (l : List Component). plains l ≡ true) (eqb k dsrc_eid) (λ u. refl)
    (λ u. by_test (λ (l : List Component). plains l ≡ true) (eqb k attribute_id_list) (λ w. refl) (λ w. plains_when (eqb k attribute_list) (row_count (suc d) ∷ []) refl)))

brings_plain : (i : Component) (fs : List ℕ) → plain i ≡ true → plains (brings i fs) ≡ true
unfolding brings
brings_plain choice fs p = never p
brings_plain (lead k) fs p = never p
brings_plain integer fs p = refl
brings_plain (fixed n) fs p = never p
brings_plain string_form fs p = refl
brings_plain string_length fs p = refl
brings_plain (string_octets n) fs p = refl
brings_plain id_count fs p = plains_times (after fs) (integer ∷ []) refl
brings_plain list_start fs p = refl
brings_plain (row_count d) fs p = plains_times (after fs) (integer ∷ container d ∷ []) refl
brings_plain entry_count fs p = plains_times (after fs) (entry ∷ []) refl
brings_plain entry fs p =
    plains_append (when (is_set fs 0) (integer ∷ [])) (when (is_set fs 1) (container 1 ∷ [])) (plains_when (is_set fs 0) (integer ∷ []) refl) (plains_when (is_set fs 1) (container 1 ∷ []) refl)
brings_plain (container d) fs p = plains_content d (after fs)
brings_plain class fs p = never p

-- ---- values

-- a number of one field, or behind an extension bit, is at most 127
abbrev pub Low : Value → Type 0
Low (fields []) = Unit {0}
Low (fields (a ∷ [])) = a < 128
Low (fields (a ∷ b ∷ [])) = b < 128
Low (fields (a ∷ b ∷ c ∷ fs)) = Unit {0}
Low (string at l) = Unit {0}

abbrev pub AllLow : List Value → Type 0
AllLow [] = Unit {0}
AllLow (v ∷ vs) = Low v × AllLow vs

two : (a b : ℕ) → fields_fit (1 ∷ 7 ∷ []) (a ∷ b ∷ []) ≡ true → b < 128
unfolding fields_fit
two a b h = ltb-true b 128 (both (ltb b 128) true (both (ltb a 2) (ltb b 128 && true) h).1).0

extensible_low : (v : Value) → fits (widths (1 ∷ 7 ∷ [])) v ≡ true → Low v
unfolding fits fields_fit
extensible_low (fields []) h = tt
extensible_low (fields (a ∷ [])) h = never (both (ltb a 2) false h).1
extensible_low (fields (a ∷ b ∷ [])) h = two a b h
extensible_low (fields (a ∷ b ∷ c ∷ fs)) h = tt
extensible_low (string at l) h = tt

-- a component of one field, of at most seven bits
single_low : (w : ℕ) (v : Value) → 2 ^ w ≤ 128 → fits (widths (w ∷ [])) v ≡ true → Low v
unfolding fits fields_fit
single_low w (fields []) k h = tt
single_low w (fields (a ∷ [])) k h = let l = ltb-true a (2 ^ w) (both (ltb a (2 ^ w)) true h).0 in omega (arith, l, k)
single_low w (fields (a ∷ b ∷ [])) k h = never (both (ltb a (2 ^ w)) false h).1
single_low w (fields (a ∷ b ∷ c ∷ fs)) k h = tt
single_low w (string at l) k h = tt

raw_low : (n : ℕ) (v : Value) → fits (raw n) v ≡ true → Low v
unfolding fits
raw_low n (fields fs) h = never h
raw_low n (string at l) h = tt

entry_low : (v : Value) → fits (widths (1 ∷ 1 ∷ 1 ∷ 5 ∷ [])) v ≡ true → Low v
unfolding fits fields_fit
entry_low (fields []) h = tt
entry_low (fields (a ∷ [])) h = never (both (ltb a 2) false h).1
entry_low (fields (a ∷ b ∷ [])) h = never (both (ltb b 2) false (both (ltb a 2) (ltb b 2 && false) h).1).1
entry_low (fields (a ∷ b ∷ c ∷ fs)) h = tt
entry_low (string at l) h = tt

pub fit : (i : Component) (room : ℕ) (v : Value) → is_value i room v ≡ true → fits (shape i) v ≡ true
unfolding is_value
fit i room v h = (both (fits (shape i) v) (eqb (first_of (checks_of i room (numbers_of v))) 0) h).0

value_low : (i : Component) (room : ℕ) (v : Value) → plain i ≡ true → is_value i room v ≡ true → Low v
unfolding shape
value_low choice room v p h = never p
value_low (lead k) room v p h = never p
value_low integer room v p h = extensible_low v (fit integer room v h)
value_low (fixed n) room v p h = never p
value_low string_form room v p h = single_low 1 v (omega arith) (fit string_form room v h)
value_low string_length room v p h = single_low 7 v (omega arith) (fit string_length room v h)
value_low (string_octets n) room v p h = raw_low n v (fit (string_octets n) room v h)
value_low id_count room v p h = extensible_low v (fit id_count room v h)
value_low list_start room v p h = raw_low 0 v (fit list_start room v h)
value_low (row_count d) room v p h = extensible_low v (fit (row_count d) room v h)
value_low entry_count room v p h = extensible_low v (fit entry_count room v h)
value_low entry room v p h = entry_low v (fit entry room v h)
value_low (container d) room v p h = extensible_low v (fit (container d) room v h)
value_low class room v p h = never p

-- ---- the pen

module _ (i : Component) (is : List Component) (v : Value) (rest : List Value) (room : ℕ) (b : List ℕ) where
  abbrev behind : Pen
  behind = pen_at rest (room - announced i (numbers_of v)) (b ++ bits_of (shape i) v)

  pub stepped : is_value i room v ≡ true → writes (i ∷ is) (pen_at (v ∷ rest) room b) ≡ writes (brings i (numbers_of v) ++ is) behind
  stepped t =
      writes_append (i ∷ []) is (pen_at (v ∷ rest) room b) ∙ ap (writes is) (writes_fine i room v rest b t) ∙ sym (writes_append (brings i (numbers_of v)) is behind)

  pub is_value_law : (writes (i ∷ is) (pen_at (v ∷ rest) room b)).ok ≡ true → is_value i room v ≡ true
  is_value_law h =
      by_cases (is_value i room v) (λ t. t)
      (λ t. never (sym (ap (λ (p : Pen). p.ok) (writes_append (i ∷ []) is (pen_at (v ∷ rest) room b)) ∙ writes_dead is (writes (i ∷ []) (pen_at (v ∷ rest) room b)) (writes_wrong i room v rest b t)) ∙ h))

all_low : (vs : List Value) (is : List Component) (room : ℕ) (b : List ℕ) → plains is ≡ true → (writes is (pen_at vs room b)).ok ≡ true → none (writes is (pen_at vs room b)).left ≡ true → AllLow vs
unfolding none
all_low [] is room b p h z = tt
all_low (v ∷ rest) [] room b p h z = never (ap (λ (q : Pen). none q.left) (sym (writes_none (pen_at (v ∷ rest) room b))) ∙ z)
all_low (v ∷ rest) (i ∷ is) room b p h z =
    let t = is_value_law i is v rest room b h in
    let e = stepped i is v rest room b t in
    let q = both (plain i) (plains is) p in
    let js = brings i (numbers_of v) ++ is in (
      value_low i room v q.0 t,
      all_low rest js (room - announced i (numbers_of v)) (b ++ bits_of (shape i) v) (plains_append (brings i (numbers_of v)) is (brings_plain i (numbers_of v) q.0) q.1)
          (ap (λ (x : Pen). x.ok) (sym e) ∙ h) (ap (λ (x : Pen). none x.left) (sym e) ∙ z),
    )

-- ---- lists of values

pub low_front : (us vs : List Value) → AllLow (us ++ vs) → AllLow us
low_front [] vs h = tt
low_front (u ∷ us) vs h = (h.0, low_front us vs h.1)

pub low_back : (us vs : List Value) → AllLow (us ++ vs) → AllLow vs
low_back [] vs h = h
low_back (u ∷ us) vs h = low_back us vs h.1

-- ---- messages

-- the components behind the leading part are plain
abbrev plain_body : List Part → Bool
plain_body [] = true
plain_body (always i ∷ ps) = plain i && plain_body ps
plain_body (given n i ∷ ps) = plain i && plain_body ps

present_plain : (fs : List ℕ) (ps : List Part) → plain_body ps ≡ true → plains (present fs ps) ≡ true
unfolding present
present_plain fs [] p = refl
present_plain fs (always i ∷ ps) p = let b = both (plain i) (plain_body ps) p in and_true b.0 (present_plain fs ps b.1)
present_plain fs (given n i ∷ ps) p =
    let b = both (plain i) (plain_body ps) p in
    plains_append (when (is_set fs n) (i ∷ [])) (present fs ps) (plains_when (is_set fs n) (i ∷ []) (and_true b.0 refl)) (present_plain fs ps b.1)

module _ (k : ℕ) (body : plain_body (layout_of k).body ≡ true) (fs : List ℕ) (rest : List Value) where
  lead_low : (room : ℕ) (b : List ℕ) → (writes (lead k ∷ []) (pen_at (fields fs ∷ rest) room b)).ok ≡ true → none (writes (lead k ∷ []) (pen_at (fields fs ∷ rest) room b)).left ≡ true → AllLow rest
  unfolding numbers_of brings
  lead_low room b h z =
      let v = fields fs in
      let e = stepped (lead k) [] v rest room b (is_value_law (lead k) [] v rest room b h) in
      all_low rest (present fs (layout_of k).body ++ []) (room - announced (lead k) fs) (b ++ bits_of (shape (lead k)) v) (plains_append (present fs (layout_of k).body) [] (present_plain fs (layout_of k).body body) refl)
      (ap (λ (x : Pen). x.ok) (sym e) ∙ h) (ap (λ (x : Pen). none x.left) (sym e) ∙ z)

  -- behind the leading part no number is above 127
  pub message_low : in_range (fields (k ∷ []) ∷ fields fs ∷ rest) ≡ true → AllLow rest
  unfolding in_range written writes brings numbers_of announced
  message_low h =
      let vs = fields fs ∷ rest in
      let c = fields (k ∷ []) in
      let q = both (writes (choice ∷ []) (pen_at (c ∷ vs) 32 [])).ok (none (writes (choice ∷ []) (pen_at (c ∷ vs) 32 [])).left) h in
      let e = stepped choice [] c vs 32 [] (is_value_law choice [] c vs 32 [] q.0) in
      lead_low 32 ([] ++ bits_of (shape choice) c) (ap (λ (x : Pen). x.ok) (sym e) ∙ q.0) (ap (λ (x : Pen). none x.left) (sym e) ∙ q.1)
