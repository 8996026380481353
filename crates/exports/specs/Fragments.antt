-- Joining as exported: the table lives in 41 words that the caller lends (words, TableWords), and an answer is one number (words, Answer). Each promise cites
-- the contract of the proved call, of the table that the words are. A refusal leaves the words as they were; else they are those of the call's table. In
-- each case unpacking them afterwards gives the call's table, so a list of exported calls on the same words and store is a list of calls in the sense of
-- demand 3.
-- Assumes nothing.
use Rattle.std.specs.Prelude.{ℕ, ◌≡◌, Bool, List, Result, Ok, Err, is_ok}
use Rattle.refusals.specs.Check.{pick}
use Rattle.refusals.specs.declared.Refusal.{Refusal}
use Rattle.refusals.specs.Refusal.{number_of}
use Rattle.slots.specs.declared.Table.{Table}
use Rattle.slots.specs.Sweep.{ExpiryGives, ReleaseGives}
use Rattle.reassembly.specs.declared.Accepted.{Accepted}
use Rattle.reassembly.specs.declared.Accepted.TheVariants.{Held, Whole}
use Rattle.reassembly.specs.Engine.{FragmentGives}
use Rattle.words.specs.Answer.{answer_number, Says, SaysRefused}
use Rattle.words.specs.TableWords.{table_in, table_words}

-- ---- the table's words after a call

-- only an accepted call puts its table
unfoldable pub kept_words : (taken : Bool) → Table → List ℕ → List ℕ
kept_words taken table words = pick taken (table_words table) words

-- ---- a fragment: kind 1 held, kind 2 whole, with its octets and those dropped

unfoldable pub fragment_number : Result Accepted Refusal → ℕ
fragment_number (Ok (Held octets dropped)) = answer_number 0 1 octets dropped
fragment_number (Ok (Whole octets dropped)) = answer_number 0 2 octets dropped
fragment_number (Err refusal) = answer_number (number_of refusal) 0 0 0

-- what a caller takes out of a number r is the answer: kind, octets and octets dropped, or the refusal's number
unfoldable pub FragmentSays : (r : ℕ) → Result Accepted Refusal → Type 0
FragmentSays r (Ok (Held octets dropped)) = Says r 0 1 octets dropped
FragmentSays r (Ok (Whole octets dropped)) = Says r 0 2 octets dropped
FragmentSays r (Err refusal) = SaysRefused r (number_of refusal) 0

-- the contract: the result r, and the table's words, the store and the output afterwards
pub record FragmentExported (lid tick : ℕ) (lsdu words store output : List ℕ) (r : ℕ) (words' store' output' : List ℕ) : Type 0 where
  pub answer : Result Accepted Refusal
  pub table : Table
  pub gives : FragmentGives lid tick lsdu (table_in words) store output answer table store' output'
  pub number_is : r ≡ fragment_number answer
  pub says : FragmentSays r answer
  pub words_are : words' ≡ kept_words (is_ok answer) table words
  pub table_back : table_in words' ≡ table

-- ---- expiry and release: the octets dropped

unfoldable pub sweep_number : Result ℕ Refusal → ℕ
sweep_number (Ok octets) = answer_number 0 0 octets 0
sweep_number (Err refusal) = answer_number (number_of refusal) 0 0 0

unfoldable pub SweepSays : (r : ℕ) → Result ℕ Refusal → Type 0
SweepSays r (Ok octets) = Says r 0 0 octets 0
SweepSays r (Err refusal) = SaysRefused r (number_of refusal) 0

-- what both promise of a call: its answer and the table that it leaves
pub record SweepExported (words : List ℕ) (answer : Result ℕ Refusal) (table : Table) (r : ℕ) (words' : List ℕ) : Type 0 where
  pub number_is : r ≡ sweep_number answer
  pub says : SweepSays r answer
  pub words_are : words' ≡ kept_words (is_ok answer) table words
  pub table_back : table_in words' ≡ table

-- the contracts
pub record ExpiryExported (tick limit : ℕ) (words : List ℕ) (r : ℕ) (words' : List ℕ) : Type 0 where
  pub answer : Result ℕ Refusal
  pub table : Table
  pub gives : ExpiryGives tick limit (table_in words) answer table
  pub exported : SweepExported words answer table r words'

pub record ReleaseExported (lid : ℕ) (words : List ℕ) (r : ℕ) (words' : List ℕ) : Type 0 where
  pub answer : Result ℕ Refusal
  pub table : Table
  pub gives : ReleaseGives lid (table_in words) answer table
  pub exported : SweepExported words answer table r words'
