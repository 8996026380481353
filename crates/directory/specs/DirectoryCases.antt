-- Computed cases of Directory.antt, Gathered.antt and Part.antt (01, "Reading and setting attributes"): small lists of rows, mostly
-- over a factory area of six octets and a writable area of four; whether they are sound, which row has an id, what both calls
-- answer, and which part of which area lookup hands back.
-- Assumes nothing.
use Rattle.std.specs.Prelude.{ℕ, zero, suc, ◌≡◌, Bool, true, false, Option, Some, None, Result, Ok, Err, List, [], ◌∷◌, map, length, replicate}
use Rattle.std.specs.Borrow.{Bor}
use Rattle.refusals.specs.Check.{Answer, refused, accepted}
use Rattle.refusals.specs.Refusal.{answer_of}
use Rattle.refusals.specs.declared.Refusal.{Refusal}
use Rattle.refusals.specs.declared.Refusal.TheVariants.{ListNotSound, NoPayload}
use Rattle.directory.specs.declared.Row.{Row}
use Rattle.directory.specs.declared.Directory.{Directory}
use Rattle.directory.specs.Part.{PartOf}
use Rattle.directory.specs.Directory.{sound_directory, index_of, row_of, finding, lookup_row, LookedUp, knowing}
use Rattle.directory.specs.Gathered.{no_directory, with_row, gathered, list_of}

-- ---- rows

-- rows of the two areas; and one of the writable area that is protected
abbrev pub in_factory : (id start length : ℕ) → Row
in_factory id start length = record { id = id; writable = false; start = start; length = length; protected = false }

abbrev pub in_writable : (id start length : ℕ) → Row
in_writable id start length = record { id = id; writable = true; start = start; length = length; protected = false }

abbrev pub guarded : (id start length : ℕ) → Row
guarded id start length = record { id = id; writable = true; start = start; length = length; protected = true }

-- all zero
abbrev pub zeros : Row
zeros = in_factory 0 0 0

-- so many rows with ids from 0 on, without octets
unfoldable pub many : ℕ → List Row
many zero = []
many (suc n) = in_factory n 0 0 ∷ many n

-- attribute 5 is two octets of the factory area, 6 the four behind it, 7 three of the writable area
abbrev pub three : List Row
three = in_factory 5 0 2 ∷ guarded 7 1 3 ∷ in_factory 6 2 4 ∷ []

-- the same id twice
abbrev pub twice : List Row
twice = in_factory 5 0 2 ∷ in_factory 6 2 4 ∷ in_writable 5 1 3 ∷ []

-- ---- soundness

pub record Areas : Type 0 where
  pub factory : ℕ
  pub writable : ℕ
  pub rows : List Row
  pub sound : Bool

abbrev pub sound : (factory writable : ℕ) → List Row → Areas
sound factory writable rows = record { factory = factory; writable = writable; rows = rows; sound = true }

abbrev pub unsound : (factory writable : ℕ) → List Row → Areas
unsound factory writable rows = record { factory = factory; writable = writable; rows = rows; sound = false }

abbrev pub soundness : List Areas
soundness =
    sound 0 0 []
    -- parts lie inside their own area
    ∷ sound 6 4 three
    ∷ unsound 5 4 three
    ∷ unsound 6 3 three
    ∷ sound 9 0 (in_factory 1 4 5 ∷ [])
    ∷ unsound 0 9 (in_factory 1 4 5 ∷ [])
    ∷ unsound 3 9 (in_factory 1 4 0 ∷ [])
    -- ids up to 127, lengths up to 127
    ∷ sound 6 4 (in_factory 1 0 1 ∷ in_factory 127 1 1 ∷ [])
    ∷ unsound 6 4 (in_factory 1 0 1 ∷ in_factory 128 1 1 ∷ [])
    ∷ sound 200 4 (in_factory 1 1 127 ∷ [])
    ∷ unsound 200 4 (in_factory 1 1 128 ∷ [])
    -- ids differ, in both areas
    ∷ unsound 6 4 twice
    ∷ unsound 6 4 (in_factory 6 0 2 ∷ in_factory 5 2 2 ∷ in_writable 5 0 1 ∷ [])
    -- no two rows share an octet; in the two areas they may have the same places
    ∷ unsound 6 4 (in_factory 5 0 2 ∷ in_factory 6 1 2 ∷ [])
    ∷ unsound 6 4 (in_factory 6 1 2 ∷ in_factory 5 0 2 ∷ [])
    ∷ unsound 6 4 (in_writable 5 1 1 ∷ in_factory 6 0 2 ∷ in_writable 7 0 3 ∷ [])
    ∷ unsound 6 4 (in_writable 7 0 3 ∷ in_factory 6 0 2 ∷ in_writable 5 1 1 ∷ [])
    ∷ sound 6 4 (in_factory 5 0 2 ∷ in_writable 6 1 2 ∷ [])
    ∷ sound 6 4 (in_factory 6 2 2 ∷ in_factory 5 0 2 ∷ [])
    -- a row without octets shares none
    ∷ sound 6 4 (in_factory 5 0 3 ∷ in_factory 6 1 0 ∷ [])
    ∷ sound 6 4 (in_factory 6 1 0 ∷ in_factory 5 0 3 ∷ [])
    -- at most 32 rows
    ∷ sound 6 4 (many 32)
    ∷ unsound 6 4 (many 33)
    ∷ []

-- ---- looking up, in areas of six and four octets

pub record Seen : Type 0 where
  pub index : ℕ
  pub has : Row
  pub finds : Option Row
  pub gives : Row
  pub known : Answer Bool

pub record Lookup : Type 0 where
  pub rows : List Row
  pub id : ℕ
  pub sees : Seen

abbrev pub seen : Lookup → Seen
seen c = record {
  index = index_of c.id c.rows;
  has = row_of c.id c.rows;
  finds = finding c.rows c.id;
  gives = lookup_row 6 4 c.rows c.id;
  known = knowing 6 4 c.rows c.id;
}

-- known; unknown, at the index past the rows; known in rows that are not sound; and with more than 32 rows
abbrev pub knows : List Row → (id index : ℕ) → Row → Lookup
knows rows id index r = record {
  rows = rows;
  id = id;
  sees = record { index = index; has = r; finds = Some r; gives = r; known = accepted true };
}

abbrev pub unknown : List Row → (id index : ℕ) → Lookup
unknown rows id index = record {
  rows = rows;
  id = id;
  sees = record { index = index; has = zeros; finds = None; gives = zeros; known = accepted false };
}

abbrev pub not_sound : List Row → (id index : ℕ) → Row → Lookup
not_sound rows id index r = record {
  rows = rows;
  id = id;
  sees = record { index = index; has = r; finds = Some r; gives = zeros; known = refused 26 };
}

abbrev pub too_many : List Row → (id index : ℕ) → Row → Lookup
too_many rows id index r = record {
  rows = rows;
  id = id;
  sees = record { index = index; has = r; finds = None; gives = zeros; known = refused 26 };
}

abbrev pub lookups : List Lookup
lookups =
    knows three 5 0 (in_factory 5 0 2)
    ∷ knows three 7 1 (guarded 7 1 3)
    ∷ knows three 6 2 (in_factory 6 2 4)
    ∷ unknown three 9 3
    ∷ unknown [] 0 0
    -- the first of two
    ∷ not_sound twice 5 0 (in_factory 5 0 2)
    ∷ not_sound (in_factory 6 3 4 ∷ in_writable 5 1 1 ∷ []) 5 1 (in_writable 5 1 1)
    ∷ knows (many 32) 30 1 (in_factory 30 0 0)
    ∷ too_many (many 33) 30 2 (in_factory 30 0 0)
    ∷ []

-- an answer's own value, and a refusal's own number, whichever it is
abbrev pub answers : List (Result Bool Refusal)
answers = Ok true ∷ Ok false ∷ Err ListNotSound ∷ Err NoPayload ∷ []

-- ---- rows by value

-- the count, and how many rows it stands for
abbrev pub counts : Directory → List ℕ
counts d = d.count ∷ length (list_of d) ∷ []

-- 33 for any more
abbrev pub counted : List (List ℕ)
counted =
    counts no_directory ∷ counts (gathered three) ∷ counts (gathered (many 32)) ∷ counts (gathered (many 33)) ∷ counts (gathered (many 35))
    ∷ counts (record { rows = many 32; count = 40 }) ∷ []

-- ---- parts of the two areas

abbrev pub factory : Bor (List ℕ)
factory = record { ref_ptr = (3, 16); now = 0x41 ∷ 0x42 ∷ 0x43 ∷ 0x44 ∷ 0x45 ∷ 0x46 ∷ [] }

abbrev pub writable : Bor (List ℕ)
writable = record { ref_ptr = (4, 40); now = 0x51 ∷ 0x52 ∷ 0x53 ∷ 0x54 ∷ [] }

-- octets at a place of a block of memory
abbrev pub lent : (block place : ℕ) → List ℕ → Bor (List ℕ)
lent block place octets = record { ref_ptr = (block, place); now = octets }

-- ---- what is proved

pub record DirectoryCasesHold : Type 0 where
  pub soundly : map (λ (c : Areas). sound_directory c.factory c.writable c.rows) soundness ≡ map (λ (c : Areas). c.sound) soundness
  pub looking : map seen lookups ≡ map (λ (c : Lookup). c.sees) lookups
  pub answering : map answer_of answers ≡ accepted true ∷ accepted false ∷ refused 26 ∷ refused 7 ∷ []
  pub counting : counted ≡ (0 ∷ 0 ∷ []) ∷ (3 ∷ 3 ∷ []) ∷ (32 ∷ 32 ∷ []) ∷ (33 ∷ 33 ∷ []) ∷ (33 ∷ 33 ∷ []) ∷ (40 ∷ 33 ∷ []) ∷ []
  -- up to 32 rows by value are those rows in order, the others zero; more are 33 of zeros, and the 32 stay as they are
  pub gathering : (gathered three).rows ≡ in_factory 5 0 2 ∷ guarded 7 1 3 ∷ in_factory 6 2 4 ∷ replicate 29 zeros
  pub listing : list_of (gathered three) ≡ three
  pub too_many_rows : list_of (gathered (many 33)) ≡ replicate 33 zeros
  pub one_more : (with_row (gathered (many 32)) (in_factory 40 0 0)).rows ≡ many 32
  -- three octets from the third on: those octets, there; not other or fewer octets, not in another block, not at another place
  pub part : PartOf factory 2 3 (lent 3 18 (0x43 ∷ 0x44 ∷ 0x45 ∷ []))
  pub not_others : PartOf factory 2 3 (lent 3 18 (0x43 ∷ 0x44 ∷ 0x46 ∷ [])) → ⊥
  pub not_fewer : PartOf factory 2 3 (lent 3 18 (0x43 ∷ 0x44 ∷ [])) → ⊥
  pub not_a_copy : PartOf factory 2 3 (lent 5 18 (0x43 ∷ 0x44 ∷ 0x45 ∷ [])) → ⊥
  pub not_elsewhere : PartOf factory 2 3 (lent 3 16 (0x43 ∷ 0x44 ∷ 0x45 ∷ [])) → ⊥
  -- attributes 5 and 7; the empty part at the factory area's front for one that is unknown, and for rows that are not sound
  pub of_factory : LookedUp three factory writable 5 (lent 3 16 (0x41 ∷ 0x42 ∷ []))
  pub of_writable : LookedUp three factory writable 7 (lent 4 41 (0x52 ∷ 0x53 ∷ 0x54 ∷ []))
  pub of_none : LookedUp three factory writable 9 (lent 3 16 [])
  pub of_not_sound : LookedUp twice factory writable 5 (lent 3 16 [])
  pub not_the_other : LookedUp three factory writable 7 (lent 3 17 (0x42 ∷ 0x43 ∷ 0x44 ∷ [])) → ⊥
