-- The choice and the leading part of each kind, which the code writes together, and the components that they bring.
-- Assumes nothing.
use Prim.Native.Nat.{ℕ, ◌+◌, ◌*◌, ◌≤◌, ◌<◌}
use mathlib.Core.Path.{◌≡◌, refl, ap, sym, ◌∙◌}
use mathlib.Core.List.{List, [], ◌∷◌, ◌++◌, append-nil}
use mathlib.Core.Bool.{Bool, true, false, ◌&&◌}
use native.Mathlib.Omega.{arith}
use lib.Dec.{ltb, eqb}
use Rattle.std.specs.Int.{from_bool}
use borrow.Author.Tests.{ltb-true, lt-ltb, lt-leb}
use Rattle.refusals.specs.Check.{first_of}
use Rattle.bits.specs.Bits.{digits, write_field}
use Rattle.apdu_format.specs.Component.{choice, lead, integer}
use Rattle.apdu_format.specs.Table.{Layout, layout_of}
use Rattle.apdu_format.specs.Rules.{shape, checks_of, brings, announced, present, when}
use Rattle.apdu_format.specs.Reading.{fields, numbers_of, sum}
use Rattle.apdu_format.specs.Writing.{bits_of, fits, is_value, field_bits, fields_fit}
use Rattle.apdu.specs.declared.records.Response.{Response}
use Rattle.apdu.specs.Values.{bit_of, num, num_if, response_values}
use Rattle.apdu_writing.specs.declared.quill.Quill.{Quill}
use Rattle.apdu_writing.specs.Quill.{Put, Moves, Puts, As}
use Rattle.apdu_writing.proofs.Leaves.{packed, pack, leaf_two}
use Rattle.apdu_writing.proofs.Chains.{nothing, then, and_then}
use Rattle.apdu.proofs.Laws.{and_unit}

choice_range : (k room : ℕ) → k < 10 → is_value choice room (fields (k ∷ [])) ≡ true
unfolding is_value fits shape fields_fit checks_of first_of numbers_of
choice_range k room h = rw (lt-ltb k 16 (omega arith), lt-leb 10 k h)

-- choice k and the leading part behind it, whose fields stand in the number v of so many octets
pub lead_by : (k : ℕ) (ws fs : List ℕ) (v : ℕ) (fine : Bool) (octets : ℕ) {c r : Quill} {o o' : List ℕ} → k < 10 → (layout_of k).after ≡ ws → 8 * octets ≡ sum (4 ∷ ws) → octets ≤ 6
    → fine ≡ fields_fit ws fs → (fine ≡ true → v ≡ packed (4 ∷ ws) (k ∷ fs)) → Put octets fine c r (write_field o (8 * c.at) (8 * octets) v) o o'
    → Moves true (choice ∷ []) (present fs (layout_of k).body) c r o o' (fields (k ∷ []) ∷ fields fs ∷ [])
unfolding brings announced numbers_of
lead_by k ws fs v fine octets {c} {r} {o} h e s l f g p =
    leaf_two choice (lead k) (fields (k ∷ [])) (fields fs) v p l refl refl refl (choice_range k c.room h) (f ∙ range) number
  where
    range : fields_fit ws fs ≡ is_value (lead k) c.room (fields fs)
    range = unfold is_value fits shape checks_of first_of numbers_of in (rw e (sym (and_unit (fields_fit ws fs))))

    number : fine ≡ true → digits (8 * octets) v ≡ bits_of (shape choice) (fields (k ∷ [])) ++ bits_of (shape (lead k)) (fields fs)
    number t =
        let w : fields_fit (4 ∷ ws) (k ∷ fs) ≡ true = unfold fields_fit in rw (lt-ltb k 16 (omega arith)) (sym f ∙ t) in
        ap (λ (n : ℕ). digits n v) s ∙ ap (digits (sum (4 ∷ ws))) (g t) ∙ pack (4 ∷ ws) (k ∷ fs) w
        ∙ (unfold bits_of shape field_bits numbers_of in rw (e, append-nil (digits 4 k)))

pub is_set_law : (p : Bool) → eqb (bit_of p) 1 ≡ p
is_set_law true = refl
is_set_law false = refl

-- a bit as the library converts it
pub bit_is : (p : Bool) {x : ℕ} → x ≡ from_bool p → x ≡ bit_of p
bit_is true e = e
bit_is false e = e

pub bit_fits : (p : Bool) → ltb (bit_of p) 2 ≡ true
bit_fits true = refl
bit_fits false = refl

-- ---- the choice and four bits: three presence bits, and a fill or mode

-- the leading part of four fields of one bit
pub nibble : (k f₁ f₂ f₃ f₄ v : ℕ) (fine : Bool) {c r : Quill} {o o' : List ℕ} → k < 10 → (layout_of k).after ≡ 1 ∷ 1 ∷ 1 ∷ 1 ∷ []
    → fine ≡ (ltb f₁ 2 && (ltb f₂ 2 && (ltb f₃ 2 && (ltb f₄ 2 && true)))) → (fine ≡ true → v ≡ 16 * k + 8 * f₁ + 4 * f₂ + 2 * f₃ + f₄)
    → Put 1 fine c r (write_field o (8 * c.at) 8 v) o o'
    → Moves true (choice ∷ []) (present (f₁ ∷ f₂ ∷ f₃ ∷ f₄ ∷ []) (layout_of k).body) c r o o' (fields (k ∷ []) ∷ fields (f₁ ∷ f₂ ∷ f₃ ∷ f₄ ∷ []) ∷ [])
nibble k f₁ f₂ f₃ f₄ v fine h e f g p =
    lead_by k (1 ∷ 1 ∷ 1 ∷ 1 ∷ []) (f₁ ∷ f₂ ∷ f₃ ∷ f₄ ∷ []) v fine 1 h e (unfold sum in refl) (omega arith) (f ∙ (unfold fields_fit in refl)) (λ t. g t ∙ (unfold packed sum in omega arith)) p

pub bits_and : (a b d e : Bool) → true ≡ (ltb (bit_of a) 2 && (ltb (bit_of b) 2 && (ltb (bit_of d) 2 && (ltb (bit_of e) 2 && true))))
bits_and a b d e = rw (bit_fits a, bit_fits b, bit_fits d, bit_fits e)

pub bits_fill : (a b d : Bool) (n : ℕ) → ltb n 2 ≡ (ltb (bit_of a) 2 && (ltb (bit_of b) 2 && (ltb (bit_of d) 2 && (ltb n 2 && true))))
bits_fill a b d n = rw (bit_fits a, bit_fits b, bit_fits d) (sym (and_unit (ltb n 2)))

pub bits_fill_mode : (a b d : Bool) (n : ℕ) → ltb n 2 ≡ (ltb (bit_of a) 2 && (ltb (bit_of b) 2 && (ltb n 2 && (ltb (bit_of d) 2 && true))))
bits_fill_mode a b d n = rw (bit_fits a, bit_fits b, bit_fits d) (sym (and_unit (ltb n 2)))

-- ---- event or set response

module _ (m : Response) (k : ℕ) {x y z : ℕ} {c r : Quill} {o o' : List ℕ} (small : k < 10) (p : x ≡ bit_of m.has_iid) (q : y ≡ bit_of m.has_ret) (f : m.fill < 4 → z ≡ m.fill)
    (put : Put 1 (ltb m.fill 4) c r (write_field o (8 * c.at) 8 (16 * k + 8 * x + 4 * y + z)) o o') where
  abbrev fs : List ℕ
  fs = bit_of m.has_iid ∷ bit_of m.has_ret ∷ m.fill ∷ []

  response_lead : layout_of k ≡ layout_of 3
      → Moves true (choice ∷ []) ((integer ∷ []) ++ (when m.has_iid (integer ∷ []) ++ (when m.has_ret (integer ∷ []) ++ []))) c r o o' (fields (k ∷ []) ∷ fields fs ∷ [])
  response_lead e =
      rw (← brought)
      (lead_by k (1 ∷ 1 ∷ 2 ∷ []) fs (16 * k + 8 * x + 4 * y + z) (ltb m.fill 4) 1 small (ap (λ (l : Layout). l.after) e ∙ (unfold layout_of in refl))
      (unfold sum in refl) (omega arith) fit value put)
    where
      fit : ltb m.fill 4 ≡ fields_fit (1 ∷ 1 ∷ 2 ∷ []) fs
      fit = unfold fields_fit in rw (bit_fits m.has_iid, bit_fits m.has_ret) (sym (and_unit (ltb m.fill 4)))

      value : ltb m.fill 4 ≡ true → 16 * k + 8 * x + 4 * y + z ≡ packed (4 ∷ 1 ∷ 1 ∷ 2 ∷ []) (k ∷ fs)
      value g = let h = f (ltb-true m.fill 4 g) in unfold packed sum in omega arith

      brought : present fs (layout_of k).body ≡ (integer ∷ []) ++ (when m.has_iid (integer ∷ []) ++ (when m.has_ret (integer ∷ []) ++ []))
      brought = rw e (unfold present layout_of in rw (is_set_law m.has_iid, is_set_law m.has_ret))

  pub response_by : {e g t : Quill} {o₁ o₂ o₃ : List ℕ} → Puts true (integer ∷ []) r e o' o₁ (num m.eid ∷ [])
      → Puts true (when m.has_iid (integer ∷ [])) e g o₁ o₂ (num_if m.has_iid m.iid)
      → Puts true (when m.has_ret (integer ∷ [])) g t o₂ o₃ (num_if m.has_ret m.ret)
      → As k 3 (Puts true (choice ∷ []) c t o o₃ (fields (k ∷ []) ∷ response_values m))
  unfolding response_values
  response_by {t = t} {o₃ = o₃} eid iid ret = record { so = λ e. then (response_lead e) (and_then eid (and_then iid (and_then ret (nothing [] t o₃)))) }
