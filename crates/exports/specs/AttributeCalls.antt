-- The request and lookup calls over words (01, "Reading and setting attributes"): the directory is the rows that the lent words are. An export cannot hand
-- back a part of an area, so lookup puts area, start and length into lent words; fewer than three of them are an output too small (22).
-- Assumes nothing.
use Rattle.std.specs.Prelude.{ℕ, ◌<◌, Bool, true, false, ◌≡◌, List, ltb, length}
use Rattle.refusals.specs.Check.{pick, Answer}
use Rattle.refusals.specs.Check as checks
use Rattle.directory.specs.declared.Row.{Row}
use Rattle.directory.specs.Directory.{largest_id, sound_directory, knowing, lookup_row}
use Rattle.attributes.specs.declared.answers.RequestAnswer.{RequestAnswer}
use Rattle.attributes.specs.Serving.{Tag, Outcome, refused, refused_at, silent, replied, told_of, Answered}
use Rattle.words.specs.Answer.{answer_number, Says, SaysRefused}
use Rattle.words.specs.RowWords.{with_part}
use Rattle.words.specs.Word.{narrow_to}
use Rattle.exports.specs.Messages.{refusal_number, refusal_at}

-- ---- request

-- kind 0: no reply; kind 1: a reply of so many octets
unfoldable pub outcome_number : Outcome → ℕ
outcome_number (refused k) = refusal_number k
outcome_number (refused_at k p) = refusal_at k p
outcome_number silent = answer_number 0 0 0 0
outcome_number (replied n) = answer_number 0 1 n 0

-- the contract: r is the answer of a request call, packed; the writable area and the output afterwards are that call's
pub record RequestGives (tag : Tag) (s out : List ℕ) (r : ℕ) (w out' : List ℕ) : Type 0 where
  pub call : RequestAnswer
  pub answered : Answered tag s out call w out'
  pub is : r ≡ outcome_number (told_of call.outcome)

-- ---- lookup

-- kind 1: known, kind 0: unknown; of so many words for the part
unfoldable pub lookup_number : Answer Bool → ℕ → ℕ
lookup_number (checks.refused k) n = refusal_number k
lookup_number (checks.accepted known) n = pick (ltb n 3) (refusal_number 22) (answer_number 0 (pick known 1 0) 0 0)

-- the row's part; a refusal changes nothing
unfoldable pub lookup_words : Answer Bool → Row → List ℕ → List ℕ
lookup_words (checks.refused k) row part = part
lookup_words (checks.accepted known) row part = with_part row part

-- the contract: 26, 22, or whether the id is known, with the part of the row that lookup gives
pub record LookupGives (factory writable : ℕ) (rows : List Row) (id : ℕ) (part : List ℕ) (r : ℕ) (part' : List ℕ) : Type 0 where
  pub is : r ≡ lookup_number (knowing factory writable rows id) (length part)
  pub part_is : part' ≡ lookup_words (knowing factory writable rows id) (lookup_row factory writable rows id) part

-- ---- what a caller takes out of a number r

unfoldable pub OutcomeSays : (r : ℕ) → Outcome → Type 0
OutcomeSays r (refused k) = SaysRefused r k 0
OutcomeSays r (refused_at k p) = SaysRefused r k p
OutcomeSays r silent = Says r 0 0 0 0
OutcomeSays r (replied n) = Says r 0 1 n 0

unfoldable pub LookupSays : (r : ℕ) → Answer Bool → (n : ℕ) → Type 0
LookupSays r (checks.refused k) n = SaysRefused r k 0
LookupSays r (checks.accepted known) n = pick (ltb n 3) (SaysRefused r 22 0) (Says r 0 (pick known 1 0) 0 0)

-- ---- promises (proofs/AttributeNumbers.antt proves each; `request` cites the first, `lookup` the others)

-- what is taken out of the number is what the request call answers
unfoldable pub UnpackingRequest : Type 0
UnpackingRequest =
    (tag : Tag) (s out : List ℕ) (r : ℕ) (w out' : List ℕ) (g : RequestGives tag s out r w out') → OutcomeSays r (told_of g.call.outcome)

-- and what lookup answers, of so many words for the part
unfoldable pub UnpackingLookup : Type 0
UnpackingLookup =
    (factory writable : ℕ) (rows : List Row) (id n : ℕ) → let a = knowing factory writable rows id in LookupSays (lookup_number a n) a n

-- every id above 127 is unknown to a sound directory, however large
unfoldable pub LargeSought : Type 0
LargeSought =
    (factory writable : ℕ) (rows : List Row) (id : ℕ) → sound_directory factory writable rows ≡ true → largest_id < id
    → knowing factory writable rows (narrow_to 8 id) ≡ checks.accepted false
