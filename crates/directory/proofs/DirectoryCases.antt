-- The cases of directories hold: both sides compute to the same list. What is not so is refuted by the one equation that fails.
-- Assumes nothing.
use Prim.Native.Nat.{ℕ}
use mathlib.Core.Path.{◌≡◌, refl, ap}
use mathlib.Core.List.{List}
use native.Mathlib.Omega.{arith}
use lib.ListN.{length, get_or}
use Rattle.refusals.specs.Check.{first_of, decided}
use Rattle.directory.specs.Directory.{row_sound, each_sound, share_octet, clashes, apart_from, all_apart, sound_directory, index_of, known_in, row_of, first_row, finding, lookup_row, knowing}
use Rattle.directory.specs.Gathered.{with_row, gathered_from, list_of}
use Rattle.directory.specs.DirectoryCases.{many, DirectoryCasesHold}

Equal : ℕ → ℕ → Type 0
Equal m n = m ≡ n

third : List ℕ → ℕ
third l = get_or l 2 0

pub directory_cases_hold : DirectoryCasesHold
unfolding first_of decided row_sound each_sound share_octet clashes apart_from all_apart sound_directory index_of known_in row_of first_row finding lookup_row knowing with_row gathered_from list_of many Equal third
directory_cases_hold = record {
  soundly = refl;
  looking = refl;
  answering = refl;
  counting = refl;
  gathering = refl;
  listing = refl;
  too_many_rows = refl;
  one_more = refl;
  part = record { octets = refl; block = refl; place = refl };
  not_others = λ p. let e : Equal 0x46 0x45 = ap third p.octets in omega arith;
  not_fewer = λ p. let e : Equal 2 3 = ap length p.octets in omega arith;
  not_a_copy = λ p. let e : Equal 5 3 = p.block in omega arith;
  not_elsewhere = λ p. let e : Equal 16 18 = p.place in omega arith;
  of_factory = record { part = record { octets = refl; block = refl; place = refl } };
  of_writable = record { part = record { octets = refl; block = refl; place = refl } };
  of_none = record { part = record { octets = refl; block = refl; place = refl } };
  of_not_sound = record { part = record { octets = refl; block = refl; place = refl } };
  not_the_other = λ l. let e : Equal 3 4 = l.part.block in omega arith;
}
