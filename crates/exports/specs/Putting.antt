-- What private functions of src/ do with a call's table, whatever the words. No public contract cites these.
-- Assumes nothing.
use Rattle.std.specs.Prelude.{ℕ, ◌≡◌, Bool, List, Result, is_ok}
use Rattle.refusals.specs.Check.{pick}
use Rattle.refusals.specs.declared.Refusal.{Refusal}
use Rattle.slots.specs.declared.Table.{Table}
use Rattle.reassembly.specs.declared.Accepted.{Accepted}
use Rattle.reassembly.specs.Engine.{FragmentGives}
use Rattle.bench_lines.specs.Line.{read_line}
use Rattle.bench_joining.specs.declared.Columns.{Columns}
use Rattle.bench_joining.specs.Joined.{LsduJoined, LineJoined, lsdu_of}
use Rattle.words.specs.TableWords.{table_in, table_after}
use Rattle.exports.specs.Fragments.{kept_words, sweep_number}
use Rattle.exports.specs.BenchLine.{lsdu_room, is_accepted}

unfoldable pub kept_table : (taken : Bool) → Table → List ℕ → List ℕ
kept_table taken table words = pick taken (table_after table words) words

-- a fragment: the table after the call is that of the words, and an accepted call has put it
pub record FragmentPut (lid tick : ℕ) (lsdu words store output : List ℕ) (r : Result Accepted Refusal) (words' store' output' : List ℕ) : Type 0 where
  pub gives : FragmentGives lid tick lsdu (table_in words) store output r (table_in words') store' output'
  pub words_are : words' ≡ kept_words (is_ok r) (table_in words') words

-- a line's LSDU, and a line: likewise, by what the columns show
pub record LsduPut (lid tick : ℕ) (lsdu words store output : List ℕ) (r : Columns) (words' store' output' : List ℕ) : Type 0 where
  pub joined : LsduJoined lid tick lsdu (table_in words) store output r (table_in words') store' output'
  pub words_are : words' ≡ kept_words (is_accepted r.answer) (table_in words') words

pub record LinePut (line words store output : List ℕ) (r : Columns) (words' store' output' : List ℕ) : Type 0 where
  pub joined : LineJoined (read_line line lsdu_room) (lsdu_of line) (table_in words) store output r (table_in words') store' output'
  pub words_are : words' ≡ kept_words (is_accepted r.answer) (table_in words') words

pub record SweepPut (words : List ℕ) (answer : Result ℕ Refusal) (after : Table) (r : ℕ) (words' : List ℕ) : Type 0 where
  pub number_is : r ≡ sweep_number answer
  pub words_are : words' ≡ kept_table (is_ok answer) after words
