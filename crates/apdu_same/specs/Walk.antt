-- What the functions that walk through two records compute, and what that says of the values. No public contract cites these.
-- Assumes nothing.
use Rattle.std.specs.Prelude.{ℕ, ◌≡◌, List, [], ◌∷◌, ◌++◌, Bool, true, false, ◌&&◌, ◌||◌, take, drop, eqb}
use Rattle.refusals.specs.Check.{pick}
use Rattle.bits.specs.Strings.{same_string}
use Rattle.apdu_format.specs.Component.{octet_string, attribute_id_list, attribute_list}
use Rattle.apdu_format.specs.Reading.{Value}
use Rattle.apdu.specs.declared.lists.Row.{Row}
use Rattle.apdu.specs.declared.lists.Entry.{Entry}
use Rattle.apdu.specs.Values.{bit_of, entry_rows}
use Rattle.apdu_same.specs.Comparison.{same_message}

-- ---- what is compared

-- what went before agrees, and this does where it is there
unfoldable pub same_if : Bool → Bool → Bool → Bool
same_if before p x = before && pick p x true

-- two strings or two lists of ids
unfoldable pub same_part : List ℕ → (start n : ℕ) → List ℕ → (at m : ℕ) → Bool
same_part s start n t at m = eqb n m && same_string s start t at n

-- a container up to its rows
unfoldable pub same_head : List ℕ → (kind n start : ℕ) → List ℕ → (kind n start : ℕ) → Bool
same_head s k n start t l m at = eqb k l && (eqb n m && pick (eqb k octet_string || eqb k attribute_id_list) (same_string s start t at n) true)

unfoldable pub same_row : List ℕ → Row → List ℕ → Row → Bool
same_row s v t w = eqb v.id w.id && same_head s v.kind v.n v.start t w.kind w.n w.start

unfoldable pub same_rows : List ℕ → List Row → List ℕ → List Row → Bool
same_rows s [] t [] = true
same_rows s [] t (w ∷ ws) = false
same_rows s (v ∷ vs) t [] = false
same_rows s (v ∷ vs) t (w ∷ ws) = same_row s v t w && same_rows s vs t ws

-- a container with its rows
unfoldable pub same_box : List ℕ → (kind n start : ℕ) → List Row → List ℕ → (kind n start : ℕ) → List Row → Bool
same_box s k n start vs t l m at ws = same_head s k n start t l m at && pick (eqb k attribute_list) (same_rows s vs t ws) true

-- an attribute list: its count, and its rows
unfoldable pub same_list : List ℕ → ℕ → List Row → List ℕ → ℕ → List Row → Bool
same_list s n vs t m ws = eqb n m && same_rows s vs t ws

-- an entry up to the rows of its parameter
unfoldable pub same_entry : List ℕ → Entry → List ℕ → Entry → Bool
same_entry s e t f =
    same_if
    (same_if (eqb (bit_of e.has_eid) (bit_of f.has_eid) && (eqb (bit_of e.has_parameter) (bit_of f.has_parameter) && eqb e.aid f.aid)) e.has_eid
    (eqb e.eid f.eid))
    e.has_parameter (same_head s e.kind e.n e.start t f.kind f.n f.start)

-- the parameter of an entry is an attribute list
unfoldable pub lists_rows : Entry → Bool
lists_rows e = e.has_parameter && eqb e.kind attribute_list

unfoldable pub same_entries : List ℕ → List Entry → List Row → List ℕ → List Entry → List Row → Bool
same_entries s [] vs t [] ws = true
same_entries s [] vs t (f ∷ fs) ws = false
same_entries s (e ∷ es) vs t [] ws = false
same_entries s (e ∷ es) vs t (f ∷ fs) ws =
    (same_entry s e t f && pick (lists_rows e) (same_rows s (take (entry_rows e) vs) t (take (entry_rows f) ws)) true) && same_entries s es (drop (entry_rows e) vs) t fs (drop (entry_rows f) ws)

-- a list of entries: its count, and they
unfoldable pub same_applications : List ℕ → ℕ → List Entry → List Row → List ℕ → ℕ → List Entry → List Row → Bool
same_applications s n es vs t m fs ws = eqb n m && same_entries s es vs t fs ws

-- ---- what it says of the values

-- with whatever follows, the values agree where r is true and what follows agrees
pub record Agree (us vs : List Value) (r : Bool) : Type 0 where
  pub so : (us' vs' : List Value) → same_message (us ++ us') (vs ++ vs') ≡ (r && same_message us' vs')

-- so it is of sound records
pub record Compares (f g : Bool) (us vs : List Value) (r : Bool) : Type 0 where
  pub so : f ≡ true → g ≡ true → Agree us vs r
