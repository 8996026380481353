-- Computed cases of Header.antt and of the records in RoundTrip.antt, with 01's octet pictures ("Fragment header"): what octets
-- are read as; what writing a header answers and leaves in the output; what the answers of both calls mean; and when octets read
-- are octets written again.
-- Assumes nothing.
use Rattle.std.specs.Prelude.{ℕ, ◌≡◌, Bool, true, false, List, [], ◌∷◌, map, length, Result, Ok, Err}
use Rattle.refusals.specs.Check.{Answer, refused, accepted}
use Rattle.refusals.specs.declared.Refusal.{Refusal}
use Rattle.refusals.specs.declared.Refusal.TheVariants as refusal
use Rattle.header.specs.declared.Header.{Header}
use Rattle.header.specs.declared.HeaderRead.{HeaderRead}
use Rattle.header.specs.Header.{read_header, read_answer, write_header, write_answer, output_after}
use Rattle.header.specs.RoundTrip.{Rewritten, WrittenAs}

-- last mark, message number and counter; and with the size in octets
abbrev pub made : Bool → (number counter : ℕ) → Header
made last number counter = record { last = last; number = number; counter = counter }

abbrev pub sized : Bool → (number counter size : ℕ) → HeaderRead
sized last number counter size = record { header = made last number counter; size = size }

-- ---- reading

pub record Reading : Type 0 where
  pub octets : List ℕ
  pub gives : Answer HeaderRead

abbrev pub reads : List ℕ → Bool → (number counter size : ℕ) → Reading
reads s last number counter size = record { octets = s; gives = accepted (sized last number counter size) }

abbrev pub refuses : List ℕ → Reading
refuses s = record { octets = s; gives = refused 5 }

abbrev pub readings : List Reading
readings =
    -- 01's pictures
    reads (0x91 ∷ []) true 2 0 1
    ∷ reads (0x97 ∷ []) true 2 3 1
    ∷ reads (0x10 ∷ 0x09 ∷ []) false 2 4 2
    ∷ reads (0xFE ∷ 0xFF ∷ []) true 15 511 2
    ∷ reads (0x10 ∷ 0x08 ∷ 0x00 ∷ []) false 2 512 3
    ∷ reads (0x96 ∷ 0xFE ∷ 0xFE ∷ []) true 2 65535 3
    -- longer than needed: counter 3 in two, 511 in three
    ∷ refuses (0x10 ∷ 0x07 ∷ [])
    ∷ refuses (0x10 ∷ 0x06 ∷ 0xFE ∷ [])
    -- cut short; the third octet's bit 0 is 1
    ∷ refuses []
    ∷ refuses (0x10 ∷ [])
    ∷ refuses (0x10 ∷ 0x08 ∷ [])
    ∷ refuses (0x10 ∷ 0x08 ∷ 0x01 ∷ [])
    -- numbers 0 and 1 too; what follows is passed over
    ∷ reads (0x81 ∷ 0x01 ∷ 0x01 ∷ []) true 0 0 1
    ∷ reads (0x08 ∷ 0x09 ∷ 0x01 ∷ []) false 1 4 2
    ∷ []

-- ---- writing

-- what writing a header to the front of an output answers, and what the output is afterwards
pub record Left : Type 0 where
  pub answer : Answer ℕ
  pub output : List ℕ

pub record Writing : Type 0 where
  pub header : Header
  pub output : List ℕ
  pub gives : Left

abbrev pub wrote : Writing → Left
wrote c =
    let answer = write_header c.header (length c.output) in
    record { answer = answer; output = output_after answer c.header c.output }

abbrev pub writes : Header → List ℕ → ℕ → List ℕ → Writing
writes h before n after = record { header = h; output = before; gives = record { answer = accepted n; output = after } }

abbrev pub keeps : Header → List ℕ → ℕ → Writing
keeps h before k = record { header = h; output = before; gives = record { answer = refused k; output = before } }

abbrev pub writings : List Writing
writings =
    -- 01's pictures; what stands behind them stays
    writes (made true 2 0) (1 ∷ []) 1 (0x91 ∷ [])
    ∷ writes (made true 2 3) (1 ∷ 2 ∷ 3 ∷ []) 1 (0x97 ∷ 2 ∷ 3 ∷ [])
    ∷ writes (made false 2 4) (1 ∷ 2 ∷ []) 2 (0x10 ∷ 0x09 ∷ [])
    ∷ writes (made true 15 511) (1 ∷ 2 ∷ 3 ∷ []) 2 (0xFE ∷ 0xFF ∷ 3 ∷ [])
    ∷ writes (made false 2 512) (1 ∷ 2 ∷ 3 ∷ []) 3 (0x10 ∷ 0x08 ∷ 0x00 ∷ [])
    ∷ writes (made true 2 65535) (1 ∷ 2 ∷ 3 ∷ 4 ∷ []) 3 (0x96 ∷ 0xFE ∷ 0xFE ∷ 4 ∷ [])
    ∷ writes (made true 0 0) (1 ∷ []) 1 (0x81 ∷ [])
    -- an output that is too short is 22
    ∷ keeps (made true 2 3) [] 22
    ∷ keeps (made false 2 4) (1 ∷ []) 22
    ∷ keeps (made false 2 512) (1 ∷ 2 ∷ []) 22
    -- a field out of range is 23, and goes before 22
    ∷ keeps (made false 16 0) (1 ∷ []) 23
    ∷ keeps (made true 2 65536) (1 ∷ 2 ∷ 3 ∷ 4 ∷ []) 23
    ∷ keeps (made true 2 65536) [] 23
    ∷ []

-- ---- answers: an answer's own values, and a refusal's own number, whichever it is

abbrev pub answers_of_reading : List (Result HeaderRead Refusal)
answers_of_reading = Ok (sized true 3 4 6) ∷ Err refusal.HeaderNotValid ∷ Err refusal.NoPayload ∷ []

abbrev pub answers_of_writing : List (Result ℕ Refusal)
answers_of_writing = Ok 6 ∷ Err refusal.OutputTooSmall ∷ Err refusal.RecordOutOfRange ∷ Err refusal.NoPayload ∷ []

-- ---- what is proved

pub record HeaderCasesHold : Type 0 where
  pub reading : map (λ (c : Reading). read_header c.octets) readings ≡ map (λ (c : Reading). c.gives) readings
  pub writing : map wrote writings ≡ map (λ (c : Writing). c.gives) writings
  pub reading_answers : map read_answer answers_of_reading ≡ accepted (sized true 3 4 6) ∷ refused 5 ∷ refused 7 ∷ []
  pub writing_answers : map write_answer answers_of_writing ≡ accepted 6 ∷ refused 22 ∷ refused 23 ∷ refused 7 ∷ []
  -- 91, read, is written again: to an output that is long enough, and refused by one that is too short
  pub again : Rewritten (0x91 ∷ 0xEE ∷ []) (sized true 2 0 1) (7 ∷ 8 ∷ [])
  pub again_refused : Rewritten (0x91 ∷ 0xEE ∷ []) (sized true 2 0 1) []
  -- not where more is said to be read than there is; not where the number is out of range (18 has the low bits of 2); not where
  -- other octets were read
  pub not_inside : Rewritten (0x91 ∷ []) (sized true 2 0 2) [] → ⊥
  pub not_in_range : Rewritten (0x91 ∷ []) (sized true 18 0 1) (7 ∷ []) → ⊥
  pub not_same : Rewritten (0x97 ∷ []) (sized true 2 0 1) (7 ∷ []) → ⊥
  -- octets that hold a header in two octets; not in three, and not another header
  pub holding : WrittenAs (0x10 ∷ 0x09 ∷ 0xEE ∷ []) (made false 2 4) 2
  pub not_in_three : WrittenAs (0x10 ∷ 0x09 ∷ 0xEE ∷ []) (made false 2 4) 3 → ⊥
  pub not_another : WrittenAs (0x10 ∷ 0x09 ∷ 0xEE ∷ []) (made false 2 5) 2 → ⊥
