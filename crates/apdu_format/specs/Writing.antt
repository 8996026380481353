-- Writing (01, "Messages"): the values of a message along the same components, with the checks that reading makes of each.
-- Assumes nothing.
use Rattle.std.specs.Prelude.{ℕ, zero, suc, ◌+◌, ◌-◌, ◌*◌, ◌/◌, ◌^◌, List, [], ◌∷◌, ◌++◌, Bool, true, false, ◌&&◌, not, length, ltb, eqb}
use Rattle.refusals.specs.Check.{pick, check, first_of}
use Rattle.bits.specs.Bits.{digits, octets}
use Rattle.apdu_format.specs.Limits.{longest_message, most_rows}
use Rattle.apdu_format.specs.Component.{Component, choice}
use Rattle.apdu_format.specs.Rules.{Shape, widths, raw, shape, checks_of, brings, announced}
use Rattle.apdu_format.specs.Reading.{Value, fields, string, numbers_of, through, levels}

-- ---- one component

unfoldable pub field_bits : List ℕ → List ℕ → List ℕ
field_bits [] fs = []
field_bits (w ∷ ws) [] = []
field_bits (w ∷ ws) (f ∷ fs) = digits w f ++ field_bits ws fs

-- as many fields as widths, each in its range
unfoldable pub fields_fit : List ℕ → List ℕ → Bool
fields_fit [] [] = true
fields_fit [] (f ∷ fs) = false
fields_fit (w ∷ ws) [] = false
fields_fit (w ∷ ws) (f ∷ fs) = ltb f (2 ^ w) && fields_fit ws fs

-- the bits of a value
unfoldable pub bits_of : Shape → Value → List ℕ
bits_of (widths ws) v = field_bits ws (numbers_of v)
bits_of (raw n) (fields fs) = []
bits_of (raw n) (string at l) = l

unfoldable pub are_bits : List ℕ → Bool
are_bits [] = true
are_bits (x ∷ l) = ltb x 2 && are_bits l

-- a value has this shape, and each field its range
unfoldable pub fits : Shape → Value → Bool
fits (widths ws) (fields fs) = fields_fit ws fs
fits (widths ws) (string at l) = false
fits (raw n) (fields fs) = false
fits (raw n) (string at l) = eqb (length l) (8 * n) && are_bits l

-- v is a value of i: its fields have their widths, and reading would not refuse it
unfoldable pub is_value : Component → ℕ → Value → Bool
is_value i room v = fits (shape i) v && eqb (first_of (checks_of i room (numbers_of v))) 0

-- ---- one step

pub record Pen : Type 0 where
  pub left : List Value  -- what is still to write
  pub room : ℕ  -- how many attribute rows may still be announced
  pub ok : Bool  -- whether every value so far is in range
  pub out : List ℕ  -- the bits written

pub record PenStep : Type 0 where
  pub pen : Pen
  pub more : List Component

abbrev pub broken : PenStep
broken = record { pen = record { left = []; room = 0; ok = false; out = [] }; more = [] }

unfoldable pub put_value : Component → Pen → Value → List Value → PenStep
put_value i p v vs =
    pick (is_value i p.room v)
    (record {
      pen = record { left = vs; room = p.room - announced i (numbers_of v); ok = true; out = p.out ++ bits_of (shape i) v };
      more = brings i (numbers_of v);
    })
    broken

unfoldable pub put_first : Component → Pen → List Value → PenStep
put_first i p [] = broken
put_first i p (v ∷ vs) = put_value i p v vs

unfoldable pub put : Component → Pen → PenStep
put i p = pick p.ok (put_first i p p.left) broken

-- ---- a message

unfoldable pub puts : ℕ → List Component → Pen → Pen
puts zero is p = p
puts (suc l) is p = through (λ i p. let t = put i p in puts l t.more t.pen) is p

abbrev pub pen : List Value → Pen
pen vs = record { left = vs; room = most_rows; ok = true; out = [] }

unfoldable pub written : List Value → Pen
written vs = puts levels (choice ∷ []) (pen vs)

unfoldable pub none : List Value → Bool
none [] = true
none (v ∷ vs) = false

-- every value is in range, and there is one for each component: the condition of 23
unfoldable pub in_range : List Value → Bool
in_range vs = (written vs).ok && none (written vs).left

-- the message's bits and octets
unfoldable pub encode : List Value → List ℕ
encode vs = (written vs).out

unfoldable pub size : List Value → ℕ
size vs = length (encode vs) / 8

unfoldable pub encoded_octets : List Value → List ℕ
encoded_octets vs = octets (size vs) (encode vs)

-- the refusal of writing to an output of n octets, or 0
unfoldable pub write_refusal : List Value → ℕ → ℕ
write_refusal vs n = first_of (check 23 (not (in_range vs)) ∷ check 21 (ltb longest_message (size vs)) ∷ check 22 (ltb n (size vs)) ∷ [])
