-- What stands in the fields of a message as text: numbers in decimal, strings in upper-case hex, lists in brackets with commas, containers, rows and
-- entries. s are the lent octets. A number out of range is shown as it is. A part that lies outside the lent octets, or behind the first 65,536 of them,
-- is shown as an empty one.
-- Assumes nothing.
use Rattle.std.specs.Prelude.{ℕ, zero, suc, ◌-◌, Bool, ◌&&◌, List, [], ◌∷◌, ◌++◌, length, take, drop, eqb}
use Rattle.refusals.specs.Check.{pick}
use Rattle.bits.specs.Strings.{is_inside, string_at}
use Rattle.apdu_format.specs.Component.{octet_string, dsrc_eid, attribute_id_list, attribute_list}
use Rattle.apdu.specs.declared.lists.Row.{Row}
use Rattle.apdu.specs.declared.lists.Entry.{Entry}
use Rattle.apdu.specs.Values.{entry_rows}
use Rattle.apdu.specs.Sound.{nested}
use Rattle.bench_lines.specs.Numerals.{decimal_before}
use Rattle.bench_lines.specs.Line.{hex_text}
use Rattle.apdu_text.specs.Words.{octets_of, eid_of, ids_of, attributes_of}

-- ---- numbers and strings

-- a number in decimal, without leading zeros
unfoldable pub decimal : ℕ → List ℕ
decimal n = decimal_before n []

-- how many octets or ids of a part are shown
unfoldable pub shown : (octets start n : ℕ) → ℕ
shown octets start n = pick (is_inside octets start n && is_inside 65536 start n) n 0

-- the octets of a part
unfoldable pub part_at : List ℕ → (start n : ℕ) → List ℕ
part_at s start n = string_at s start (shown (length s) start n)

-- a text if it is there
abbrev pub when : Bool → List ℕ → List ℕ
when p l = pick p l []

-- `,` where more follows
unfoldable pub between : {A : Type 0} → List A → List ℕ
between [] = []
between (x ∷ xs) = 44 ∷ []

-- numbers with commas between them
unfoldable pub numbers : List ℕ → List ℕ
numbers [] = []
numbers (n ∷ ns) = decimal n ++ (between ns ++ numbers ns)

-- `[1,2]`
unfoldable pub number_list : List ℕ → List ℕ
number_list ns = 91 ∷ (numbers ns ++ (93 ∷ []))

-- ---- containers and attribute rows

-- `[`, and `]` at once for a list of no rows
unfoldable pub list_front : ℕ → List ℕ
list_front n = 91 ∷ when (eqb n 0) (93 ∷ [])

-- a container up to its rows: `octets:4142`, `eid:5`, `ids:[1,2]`, `attributes:[`; nothing for another kind
unfoldable pub container_front : List ℕ → (kind n start : ℕ) → List ℕ
container_front s kind n start =
    pick (eqb kind octet_string) (octets_of ++ hex_text (part_at s start n))
    (pick (eqb kind dsrc_eid) (eid_of ++ decimal n)
    (pick (eqb kind attribute_id_list) (ids_of ++ number_list (part_at s start n))
    (pick (eqb kind attribute_list) (attributes_of ++ list_front n) [])))

-- `5=` and the container up to its rows
unfoldable pub row_front : List ℕ → Row → List ℕ
row_front s r = decimal r.id ++ (61 ∷ container_front s r.kind r.n r.start)

-- Rows lie flat, those of a list behind it. due says how many rows are still to come in each open list, the innermost first.

-- behind a row: `]` for each list that ends there, and `,` if another goes on
unfoldable pub seam : (due : List ℕ) → List ℕ
seam [] = []
seam (zero ∷ due) = 93 ∷ seam due
seam (suc n ∷ due) = 44 ∷ []

-- the lists that go on
unfoldable pub going_on : (due : List ℕ) → List ℕ
going_on [] = []
going_on (zero ∷ due) = going_on due
going_on (suc n ∷ due) = suc n ∷ due

-- with a list of n rows more
unfoldable pub opened : ℕ → (due : List ℕ) → List ℕ
opened n due = pick (eqb n 0) due (n ∷ due)

-- rows, as far as lists are open
unfoldable pub rows_text : List ℕ → (due : List ℕ) → List Row → List ℕ
rows_text s due [] = []
rows_text s [] (r ∷ rs) = []
rows_text s (d ∷ due) (r ∷ rs) =
    row_front s r
    ++ (when (eqb (nested r.kind r.n) 0) (seam ((d - 1) ∷ due))
    ++ rows_text s (pick (eqb (nested r.kind r.n) 0) (going_on ((d - 1) ∷ due)) (nested r.kind r.n ∷ ((d - 1) ∷ due))) rs)

-- a container with its rows
unfoldable pub container_text : List ℕ → (kind n start : ℕ) → List Row → List ℕ
container_text s kind n start rs = container_front s kind n start ++ rows_text s (opened (nested kind n) []) rs

-- `[5=octets:4142,6=eid:3]`
unfoldable pub attribute_rows : List ℕ → ℕ → List Row → List ℕ
attribute_rows s n rs = list_front n ++ rows_text s (opened n []) rs

-- ---- application entries

-- AID, `/EID` if present, `=container` if it has a parameter
unfoldable pub entry_text : List ℕ → Entry → List Row → List ℕ
entry_text s e rs =
    decimal e.aid
    ++ (when e.has_eid (47 ∷ decimal e.eid) ++ when e.has_parameter (61 ∷ container_text s e.kind e.n e.start rs))

-- entries with commas between them, each with its own rows
unfoldable pub entries_text : List ℕ → List Entry → List Row → List ℕ
entries_text s [] rs = []
entries_text s (e ∷ es) rs = entry_text s e (take (entry_rows e) rs) ++ (between es ++ entries_text s es (drop (entry_rows e) rs))

-- `[1/2=octets:11,3]`
unfoldable pub entry_list : List ℕ → List Entry → List Row → List ℕ
entry_list s es rs = 91 ∷ (entries_text s es rs ++ (93 ∷ []))
