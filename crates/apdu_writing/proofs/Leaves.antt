-- One component that the code writes as one field, or as octets.
-- Assumes nothing.
use Prim.Native.Nat.{ℕ, suc, ◌+◌, ◌-◌, ◌*◌, ◌^◌, ◌≤◌, ◌<◌}
use mathlib.Core.Path.{◌≡◌, refl, ap, sym, ◌∙◌}
use mathlib.Core.List.{List, [], ◌∷◌, ◌++◌, append_assoc}
use mathlib.Core.Bool.{Bool, true, false, ◌&&◌}
use mathlib.Core.Logic.{inr}
use native.Mathlib.Nat.{mul-le-mul_right, suc-mul}
use native.Mathlib.Omega.{arith}
use lib.ListN.{length}
use lib.Dec.{ltb, eqb}
use lib.Pow.{high, pow-add}
use borrow.Author.Tests.{ltb-true, le-leb}
use Rattle.refusals.specs.Check.{first_of}
use Rattle.refusals.proofs.Tests.{and_true}
use Rattle.bits.specs.Bits.{Bits, put_bits, digits, field_fits, write_field}
use Rattle.bits.proofs.Laws.{digits_small, length_digits, digits_add, digits_above}
use Rattle.apdu_format.specs.Component.{Component}
use Rattle.apdu_format.specs.Rules.{widths, shape, checks_of, brings, announced}
use Rattle.apdu_format.specs.Reading.{Value, fields, numbers_of, sum}
use Rattle.apdu_format.specs.Writing.{Pen, bits_of, fits, is_value, field_bits, fields_fit}
use Rattle.apdu_format.proofs.Tests.{never, both}
use Rattle.apdu_writing.specs.declared.quill.Quill.{Quill}
use Rattle.apdu_writing.specs.Quill.{quill, least, behind, Put, pen_at, writes, Moves}
use Rattle.apdu_writing.proofs.Levels.{writes_fine, writes_wrong}
use Rattle.apdu_writing.proofs.Chains.{least_add}

-- ---- fields in one number

-- fields of these widths as one number
unfoldable pub packed : List ℕ → List ℕ → ℕ
packed [] fs = 0
packed (w ∷ ws) [] = 0
packed (w ∷ ws) (f ∷ fs) = f * 2 ^ sum ws + packed ws fs

packed_lt : (ws fs : List ℕ) → fields_fit ws fs ≡ true → packed ws fs < 2 ^ sum ws
unfolding packed fields_fit sum
packed_lt [] fs h = omega arith
packed_lt (w ∷ ws) [] h = never h
packed_lt (w ∷ ws) (f ∷ fs) h =
    let q = both (ltb f (2 ^ w)) (fields_fit ws fs) h in
    block f w (packed ws fs) (sum ws) (ltb-true f (2 ^ w) q.0) (packed_lt ws fs q.1)
  where
    block : (f w p s : ℕ) → f < 2 ^ w → p < 2 ^ s → f * 2 ^ s + p < 2 ^ (w + s)
    block f w p s h k =
        let m : suc f * 2 ^ s ≤ 2 ^ w * 2 ^ s = mul-le-mul_right (2 ^ s) h in
        rw (pow-add 2 w s) (omega (arith, suc-mul f (2 ^ s)))

pub pack : (ws fs : List ℕ) → fields_fit ws fs ≡ true → digits (sum ws) (packed ws fs) ≡ field_bits ws fs
unfolding packed fields_fit sum field_bits digits
pack [] [] h = refl
pack [] (f ∷ fs) h = never h
pack (w ∷ ws) [] h = never h
pack (w ∷ ws) (f ∷ fs) h =
    let q = both (ltb f (2 ^ w)) (fields_fit ws fs) h in
    digits_add w (sum ws) (f * 2 ^ sum ws + packed ws fs)
    ∙ ap (λ (n : ℕ). digits w n ++ digits (sum ws) (f * 2 ^ sum ws + packed ws fs)) (high f (sum ws) (packed_lt ws fs q.1))
    ∙ ap (λ (l : List ℕ). digits w f ++ l) (digits_above (sum ws) f (packed ws fs) ∙ pack ws fs q.1)

-- ---- one component

-- the bits written are those of a value, if it is in range
pub record Writes (i : Component) (v : Value) (w : ℕ) (fine : Bool) (room : ℕ) (x o : List ℕ) (at : ℕ) : Type 0 where
  pub range : fine ≡ is_value i room v
  pub small : fine ≡ true → Bits (bits_of (shape i) v)
  pub long : fine ≡ true → length (bits_of (shape i) v) ≡ w
  pub put : fine ≡ true → at + w ≤ 8 * length o → x ≡ put_bits o at (bits_of (shape i) v)

pub least_least : (n : ℕ) → least (least n) ≡ least n
least_least n = ap least (plus (least n)) ∙ least_add n 0 ∙ ap least (sym (plus n))
  where
    plus : (n : ℕ) → n ≡ n + 0
    plus n = omega arith

pub wrong : (a b : Bool) → a ≡ true → (a && b) ≡ false → b ≡ false
wrong true b h k = k
wrong false b h k = never h

-- a quill that differs from r in its room only
pub leaf_spent : (i : Component) (v : Value) {k : ℕ} {fine : Bool} {c r e : Quill} {x o o' : List ℕ}
    → Put k fine c r x o o' → Writes i v (8 * k) fine c.room x o (8 * c.at) → e ≡ quill r.at (r.room - announced i (numbers_of v)) r.ok
    → Moves true (i ∷ []) (brings i (numbers_of v)) c e o o' (v ∷ [])
unfolding behind
leaf_spent i v {k} {fine} {c} {r} {e} {x} {o} {o'} p q s =
    let ok : e.ok ≡ (c.ok && fine) = ap (λ (z : Quill). z.ok) s ∙ ap (λ (z : Quill). z.ok) p.is in
    let m = bits_of (shape i) v in
    record {
      good = λ h.
          let a = both c.ok fine (sym ok ∙ h) in
          let room : e.room ≡ c.room - announced i (numbers_of v) = ap (λ (z : Quill). z.room) s ∙ ap (λ (z : Quill). z.room - announced i (numbers_of v)) p.is in
          let at : e.at ≡ least (c.at + k) = ap (λ (z : Quill). z.at) s ∙ ap (λ (z : Quill). z.at) p.is ∙ rw (and_true a.0 a.1) in
          record {
            holds = refl;
            came = a.0;
            w = m;
            small = q.small a.1;
            k = k;
            whole = q.long a.1;
            so = λ rest b. writes_fine i c.room v rest b (sym q.range ∙ a.1) ∙ ap (λ (l : ℕ). writes (brings i (numbers_of v)) (pen_at rest l (b ++ m))) (sym room);
            to = ap least at ∙ least_least (c.at + k);
            ink = λ octs near fits. p.out ∙ rw (and_true a.0 a.1) (q.put a.1 (omega arith));
          };
      bad = λ h g.
          let f : fine ≡ false = wrong c.ok fine g (sym ok ∙ h) in
          inr (record { so = λ rest b. writes_wrong i c.room v rest b (sym q.range ∙ f) });
    }

pub leaf : (i : Component) (v : Value) {k : ℕ} {fine : Bool} {c r : Quill} {x o o' : List ℕ}
    → Put k fine c r x o o' → Writes i v (8 * k) fine c.room x o (8 * c.at) → announced i (numbers_of v) ≡ 0
    → Moves true (i ∷ []) (brings i (numbers_of v)) c r o o' (v ∷ [])
leaf i v {r = r} p q n = leaf_spent i v p q (ap (λ (k : ℕ). quill r.at k r.ok) (rw n (omega arith)))

-- a component of one field in the code
pub in_field : (i : Component) (v : Value) (w n : ℕ) (fine : Bool) (room : ℕ) (o : List ℕ) (at : ℕ) → w ≤ 48 → fine ≡ is_value i room v
    → (fine ≡ true → digits w n ≡ bits_of (shape i) v) → Writes i v w fine room (write_field o at w n) o at
unfolding write_field field_fits
in_field i v w n fine room o at h e f =
    record {
      range = e;
      small = λ g. rw (← f g) (digits_small w n);
      long = λ g. ap length (sym (f g)) ∙ length_digits w n;
      put = λ g k. rw (le-leb w 48 h, le-leb (at + w) (8 * length o) k) (ap (put_bits o at) (f g));
    }

-- a component whose fields stand in one number
pub in_number : (i : Component) (ws fs : List ℕ) (n : ℕ) (fine : Bool) (room : ℕ) (o : List ℕ) (at : ℕ) → shape i ≡ widths ws → sum ws ≤ 48
    → fine ≡ is_value i room (fields fs) → (fine ≡ true → n ≡ packed ws fs) → Writes i (fields fs) (sum ws) fine room (write_field o at (sum ws) n) o at
unfolding is_value fits bits_of numbers_of
in_number i ws fs n fine room o at s h e f =
    in_field i (fields fs) (sum ws) n fine room o at h e
    (λ g.
    let k : fields_fit ws fs ≡ true = rw s at (both (fits (shape i) (fields fs)) (eqb (first_of (checks_of i room fs)) 0) (sym e ∙ g)).0 in
    rw s (ap (digits (sum ws)) (f g) ∙ pack ws fs k))

-- two components in one field of the code: the first, which is in range, brings the second
pub leaf_two : (i j : Component) (v u : Value) (n : ℕ) {w : ℕ} {fine : Bool} {c r : Quill} {o o' : List ℕ} → Put w fine c r (write_field o (8 * c.at) (8 * w) n) o o' → w ≤ 6
    → brings i (numbers_of v) ≡ j ∷ [] → announced i (numbers_of v) ≡ 0 → announced j (numbers_of u) ≡ 0 → is_value i c.room v ≡ true → fine ≡ is_value j c.room u
    → (fine ≡ true → digits (8 * w) n ≡ bits_of (shape i) v ++ bits_of (shape j) u) → Moves true (i ∷ []) (brings j (numbers_of u)) c r o o' (v ∷ u ∷ [])
unfolding behind write_field field_fits
leaf_two i j v u n {w} {fine} {c} {r} {o} {o'} p h e k l here range f =
    let ok : r.ok ≡ (c.ok && fine) = ap (λ (z : Quill). z.ok) p.is in
    let room : r.room ≡ c.room = ap (λ (z : Quill). z.room) p.is in
    let m = bits_of (shape i) v ++ bits_of (shape j) u in
    let first : (rest : List Value) (b : List ℕ) → writes (i ∷ []) (pen_at (v ∷ rest) c.room b) ≡ writes (j ∷ []) (pen_at rest c.room (b ++ bits_of (shape i) v)) = λ rest b.
    writes_fine i c.room v rest b here ∙ ap (λ (q : List Component). writes q (pen_at rest (c.room - announced i (numbers_of v)) (b ++ bits_of (shape i) v))) e
    ∙ ap (λ (q : ℕ). writes (j ∷ []) (pen_at rest q (b ++ bits_of (shape i) v))) (less c.room k) in
    record {
      good = λ g.
          let a = both c.ok fine (sym ok ∙ g) in
          let at : r.at ≡ least (c.at + w) = ap (λ (z : Quill). z.at) p.is ∙ rw (and_true a.0 a.1) in
          let d : digits (8 * w) n ≡ m = f a.1 in
          record {
            holds = refl;
            came = a.0;
            w = m;
            small = rw (← d) (digits_small (8 * w) n);
            k = w;
            whole = ap length (sym d) ∙ length_digits (8 * w) n;
            so = λ rest b.
                first (u ∷ rest) b ∙ writes_fine j c.room u rest (b ++ bits_of (shape i) v) (sym range ∙ a.1)
                ∙ ap (λ (q : ℕ). writes (brings j (numbers_of u)) (pen_at rest q ((b ++ bits_of (shape i) v) ++ bits_of (shape j) u))) (less c.room l ∙ sym room)
                ∙ ap (λ (q : List ℕ). writes (brings j (numbers_of u)) (pen_at rest r.room q)) (append_assoc b (bits_of (shape i) v) (bits_of (shape j) u));
            to = ap least at ∙ least_least (c.at + w);
            ink = λ octs near fits. p.out ∙ rw (and_true a.0 a.1, le-leb (8 * w) 48 (omega arith), le-leb (8 * c.at + 8 * w) (8 * length o) (omega arith)) (ap (put_bits o (8 * c.at)) d);
          };
      bad = λ g q.
          let b : fine ≡ false = wrong c.ok fine q (sym ok ∙ g) in
          inr (record { so = λ rest t. ap (λ (z : Pen). z.ok) (first (u ∷ rest) t) ∙ writes_wrong j c.room u rest (t ++ bits_of (shape i) v) (sym range ∙ b) });
    }
  where
    less : (a : ℕ) {n : ℕ} → n ≡ 0 → a - n ≡ a
    less a e = omega arith
