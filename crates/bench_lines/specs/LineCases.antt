-- Computed cases of Line.antt, Text.antt and Numerals.antt (01, "The bench program"): what is printed, character by character, and what
-- a line is read as.
-- Assumes nothing.
use Rattle.std.specs.Prelude.{ℕ, ◌≡◌, List, [], ◌∷◌, ◌++◌, map, replicate}
use Rattle.refusals.specs.Check.{Answer, refused, accepted}
use Rattle.bench_lines.specs.declared.BenchAnswer.TheVariants as answer
use Rattle.bench_lines.specs.declared.Totals.{Totals}
use Rattle.bench_lines.specs.Line.{Fields, read_line, line_text}
use Rattle.bench_lines.specs.Text.{heading_text, answer_line_text, totals_text}

abbrev pub totals : (taken out lost kept : ℕ) → Totals
totals taken out lost kept = record { accepted = taken; delivered = out; dropped = lost; held = kept }

abbrev pub fields : (lid tick octets : ℕ) → Fields
fields lid tick octets = record { lid = lid; tick = tick; octets = octets }

-- ---- printing

pub record PrintCase : Type 0 where
  pub text : List ℕ
  pub is : List ℕ

abbrev pub prints : List ℕ → List ℕ → PrintCase
prints text is = record { text = text; is = is }

abbrev pub pictures : List PrintCase
pictures =
    -- 01's picture: heading, three lines and totals
    -- `line answer octets dropped`
    prints heading_text (108 ∷ 105 ∷ 110 ∷ 101 ∷ 32 ∷ 97 ∷ 110 ∷ 115 ∷ 119 ∷ 101 ∷ 114 ∷ 32 ∷ 111 ∷ 99 ∷ 116 ∷ 101 ∷ 116 ∷ 115 ∷ 32 ∷ 100 ∷ 114 ∷ 111 ∷ 112 ∷ 112 ∷ 101 ∷ 100 ∷ 10 ∷ [])
    -- `1 held 2 0`
    ∷ prints (answer_line_text 1 answer.Held 2 0) (49 ∷ 32 ∷ 104 ∷ 101 ∷ 108 ∷ 100 ∷ 32 ∷ 50 ∷ 32 ∷ 48 ∷ 10 ∷ [])
    -- `2 whole 3 0`
    ∷ prints (answer_line_text 2 answer.Whole 3 0) (50 ∷ 32 ∷ 119 ∷ 104 ∷ 111 ∷ 108 ∷ 101 ∷ 32 ∷ 51 ∷ 32 ∷ 48 ∷ 10 ∷ [])
    -- `3 refused-8 0 0`
    ∷ prints (answer_line_text 3 (answer.Refused 8) 0 0) (51 ∷ 32 ∷ 114 ∷ 101 ∷ 102 ∷ 117 ∷ 115 ∷ 101 ∷ 100 ∷ 45 ∷ 56 ∷ 32 ∷ 48 ∷ 32 ∷ 48 ∷ 10 ∷ [])
    -- `accepted 3 delivered 3 dropped 0 held 0`
    ∷ prints (totals_text (totals 3 3 0 0)) (97 ∷ 99 ∷ 99 ∷ 101 ∷ 112 ∷ 116 ∷ 101 ∷ 100 ∷ 32 ∷ 51 ∷ 32 ∷ 100 ∷ 101 ∷ 108 ∷ 105 ∷ 118 ∷ 101 ∷ 114 ∷ 101 ∷ 100 ∷ 32 ∷ 51 ∷ 32 ∷ 100 ∷ 114 ∷ 111 ∷ 112 ∷ 112 ∷ 101 ∷ 100 ∷ 32 ∷ 48 ∷ 32 ∷ 104 ∷ 101 ∷ 108 ∷ 100 ∷ 32 ∷ 48 ∷ 10 ∷ [])
    -- numbers that differ, of one to four digits: no column and no total stands for another
    -- `1009 refused-12 508 70`
    ∷ prints (answer_line_text 1009 (answer.Refused 12) 508 70) (49 ∷ 48 ∷ 48 ∷ 57 ∷ 32 ∷ 114 ∷ 101 ∷ 102 ∷ 117 ∷ 115 ∷ 101 ∷ 100 ∷ 45 ∷ 49 ∷ 50 ∷ 32 ∷ 53 ∷ 48 ∷ 56 ∷ 32 ∷ 55 ∷ 48 ∷ 10 ∷ [])
    -- `accepted 10 delivered 9 dropped 800 held 7654`
    ∷ prints (totals_text (totals 10 9 800 7654)) (97 ∷ 99 ∷ 99 ∷ 101 ∷ 112 ∷ 116 ∷ 101 ∷ 100 ∷ 32 ∷ 49 ∷ 48 ∷ 32 ∷ 100 ∷ 101 ∷ 108 ∷ 105 ∷ 118 ∷ 101 ∷ 114 ∷ 101 ∷ 100 ∷ 32 ∷ 57 ∷ 32 ∷ 100 ∷ 114 ∷ 111 ∷ 112 ∷ 112 ∷ 101 ∷ 100 ∷ 32 ∷ 56 ∷ 48 ∷ 48 ∷ 32 ∷ 104 ∷ 101 ∷ 108 ∷ 100 ∷ 32 ∷ 55 ∷ 54 ∷ 53 ∷ 52 ∷ 10 ∷ [])
    -- a line: LID of seven hex digits, tick, LSDU in hex, capital letters; of an empty LSDU the space stays
    -- `0000001 0 11AABB`
    ∷ prints (line_text 1 0 (0x11 ∷ 0xAA ∷ 0xBB ∷ [])) (48 ∷ 48 ∷ 48 ∷ 48 ∷ 48 ∷ 48 ∷ 49 ∷ 32 ∷ 48 ∷ 32 ∷ 49 ∷ 49 ∷ 65 ∷ 65 ∷ 66 ∷ 66 ∷ [])
    -- `ABCDEF9 40960 09F0`
    ∷ prints (line_text 0xABCDEF9 40960 (0x09 ∷ 0xF0 ∷ [])) (65 ∷ 66 ∷ 67 ∷ 68 ∷ 69 ∷ 70 ∷ 57 ∷ 32 ∷ 52 ∷ 48 ∷ 57 ∷ 54 ∷ 48 ∷ 32 ∷ 48 ∷ 57 ∷ 70 ∷ 48 ∷ [])
    -- `0000000 10 `
    ∷ prints (line_text 0 10 []) (48 ∷ 48 ∷ 48 ∷ 48 ∷ 48 ∷ 48 ∷ 48 ∷ 32 ∷ 49 ∷ 48 ∷ 32 ∷ [])
    ∷ []

-- ---- reading

-- a line, the octets that the buffer has room for, and the answer
pub record ReadCase : Type 0 where
  pub line : List ℕ
  pub room : ℕ
  pub gives : Answer Fields

abbrev pub reads : List ℕ → ℕ → Answer Fields → ReadCase
reads line room gives = record { line = line; room = room; gives = gives }

-- LID 0, a tick of so many digits 0 before its 7, and an empty LSDU: ten characters besides the zeros
abbrev pub zeros : ℕ → List ℕ
zeros n = replicate 7 48 ++ (32 ∷ (replicate n 48 ++ (55 ∷ 32 ∷ [])))

abbrev pub lines : List ReadCase
lines =
    -- 01's lines are read; digits of either case; an empty LSDU
    -- `0000001 0 11AABB`
    reads (48 ∷ 48 ∷ 48 ∷ 48 ∷ 48 ∷ 48 ∷ 49 ∷ 32 ∷ 48 ∷ 32 ∷ 49 ∷ 49 ∷ 65 ∷ 65 ∷ 66 ∷ 66 ∷ []) 128 (accepted (fields 1 0 3))
    -- `0000001 5 93CC`
    ∷ reads (48 ∷ 48 ∷ 48 ∷ 48 ∷ 48 ∷ 48 ∷ 49 ∷ 32 ∷ 53 ∷ 32 ∷ 57 ∷ 51 ∷ 67 ∷ 67 ∷ []) 128 (accepted (fields 1 5 2))
    -- `a_bc_de_f9 4294967295 `
    ∷ reads (97 ∷ 66 ∷ 99 ∷ 68 ∷ 101 ∷ 70 ∷ 57 ∷ 32 ∷ 52 ∷ 50 ∷ 57 ∷ 52 ∷ 57 ∷ 54 ∷ 55 ∷ 50 ∷ 57 ∷ 53 ∷ 32 ∷ []) 0 (accepted (fields 0xABCDEF9 4294967295 0))
    -- `0000002 007 0a`
    ∷ reads (48 ∷ 48 ∷ 48 ∷ 48 ∷ 48 ∷ 48 ∷ 50 ∷ 32 ∷ 48 ∷ 48 ∷ 55 ∷ 32 ∷ 48 ∷ 97 ∷ []) 1 (accepted (fields 2 7 1))
    -- an LSDU that the buffer has no room for is 22
    -- `0000001 0 11AABB`
    ∷ reads (48 ∷ 48 ∷ 48 ∷ 48 ∷ 48 ∷ 48 ∷ 49 ∷ 32 ∷ 48 ∷ 32 ∷ 49 ∷ 49 ∷ 65 ∷ 65 ∷ 66 ∷ 66 ∷ []) 2 (refused 22)
    -- not of the form: six digits, eight digits, no tick, a tick of 2^32, a tick in hex, half an octet, no second space, two spaces, a sign
    -- `000001 0 11`
    ∷ reads (48 ∷ 48 ∷ 48 ∷ 48 ∷ 48 ∷ 49 ∷ 32 ∷ 48 ∷ 32 ∷ 49 ∷ 49 ∷ []) 128 (refused 0)
    -- `00000001 0 11`
    ∷ reads (48 ∷ 48 ∷ 48 ∷ 48 ∷ 48 ∷ 48 ∷ 48 ∷ 49 ∷ 32 ∷ 48 ∷ 32 ∷ 49 ∷ 49 ∷ []) 128 (refused 0)
    -- `0000001  11`
    ∷ reads (48 ∷ 48 ∷ 48 ∷ 48 ∷ 48 ∷ 48 ∷ 49 ∷ 32 ∷ 32 ∷ 49 ∷ 49 ∷ []) 128 (refused 0)
    -- `0000001 4294967296 11`
    ∷ reads (48 ∷ 48 ∷ 48 ∷ 48 ∷ 48 ∷ 48 ∷ 49 ∷ 32 ∷ 52 ∷ 50 ∷ 57 ∷ 52 ∷ 57 ∷ 54 ∷ 55 ∷ 50 ∷ 57 ∷ 54 ∷ 32 ∷ 49 ∷ 49 ∷ []) 128 (refused 0)
    -- `0000001 A 11`
    ∷ reads (48 ∷ 48 ∷ 48 ∷ 48 ∷ 48 ∷ 48 ∷ 49 ∷ 32 ∷ 65 ∷ 32 ∷ 49 ∷ 49 ∷ []) 128 (refused 0)
    -- `0000001 0 111`
    ∷ reads (48 ∷ 48 ∷ 48 ∷ 48 ∷ 48 ∷ 48 ∷ 49 ∷ 32 ∷ 48 ∷ 32 ∷ 49 ∷ 49 ∷ 49 ∷ []) 128 (refused 0)
    -- `0000001 0`
    ∷ reads (48 ∷ 48 ∷ 48 ∷ 48 ∷ 48 ∷ 48 ∷ 49 ∷ 32 ∷ 48 ∷ []) 128 (refused 0)
    -- `0000001 0  11`
    ∷ reads (48 ∷ 48 ∷ 48 ∷ 48 ∷ 48 ∷ 48 ∷ 49 ∷ 32 ∷ 48 ∷ 32 ∷ 32 ∷ 49 ∷ 49 ∷ []) 128 (refused 0)
    -- `000000G 0 11`
    ∷ reads (48 ∷ 48 ∷ 48 ∷ 48 ∷ 48 ∷ 48 ∷ 71 ∷ 32 ∷ 48 ∷ 32 ∷ 49 ∷ 49 ∷ []) 128 (refused 0)
    -- `0000001 0 1G`
    ∷ reads (48 ∷ 48 ∷ 48 ∷ 48 ∷ 48 ∷ 48 ∷ 49 ∷ 32 ∷ 48 ∷ 32 ∷ 49 ∷ 71 ∷ []) 128 (refused 0)
    -- 600 characters are a line, 601 are not
    ∷ reads (zeros 590) 128 (accepted (fields 0 7 0))
    ∷ reads (zeros 591) 128 (refused 0)
    ∷ []

-- what is proved
pub record LineCasesHold : Type 0 where
  pub printing : map (λ (p : PrintCase). p.text) pictures ≡ map (λ (p : PrintCase). p.is) pictures
  pub reading : map (λ (l : ReadCase). read_line l.line l.room) lines ≡ map (λ (l : ReadCase). l.gives) lines
