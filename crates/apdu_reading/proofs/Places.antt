-- A start as rows and entries hold it: behind no fault it lies inside the message, and nothing is cut off; behind a fault nothing is said of it.
-- Assumes nothing.
use Prim.Native.Nat.{ℕ, suc, ◌%◌, ◌≤◌}
use mathlib.Core.Path.{◌≡◌, refl, ap, ◌∙◌}
use mathlib.Core.List.{List}
use mathlib.Core.Bool.{Bool, true}
use native.Mathlib.Omega.{arith}
use lib.ListN.{length}
use lib.Dec.{eqb}
use Rattle.refusals.proofs.Tests.{by_cases}
use Rattle.bits.specs.Bits.{bits}
use Rattle.bits.specs.Strings.{is_inside}
use Rattle.bits.proofs.Strings.{inside_le}
use Rattle.apdu_format.specs.Component.{octet_string, attribute_id_list}
use Rattle.apdu_format.specs.Rules.{times}
use Rattle.apdu_format.specs.Reading.{runs}
use Rattle.apdu.specs.Tidy.{start_tidy}
use Rattle.apdu.specs.Sound.{nested, part_fits}
use Rattle.apdu.specs.RowCounters.{row}
use Rattle.apdu_reading.specs.declared.cursor.Cursor.{Cursor}
use Rattle.apdu_reading.specs.declared.container.Head.{Head}
use Rattle.apdu_reading.specs.Rows.{Opens}
use Rattle.apdu_reading.specs.Optional.{HeadMaybe}
use Rattle.apdu_reading.proofs.Chains.{state_log}

whole_start : (octets kind n start : ℕ) → octets ≤ 512 → part_fits octets kind n start ≡ true → start_tidy kind start → start % 4294967296 ≡ start
unfolding part_fits
whole_start octets kind n start short f t =
    by_cases (eqb kind octet_string)
    (λ p. inside (rw p at f))
    (λ p. by_cases (eqb kind attribute_id_list) (λ q. inside (rw (p, q) at f)) (λ q. let z : start ≡ 0 = (t.are (rw (p, q) refl)).0 in omega arith))
  where
    inside : is_inside octets start n ≡ true → start % 4294967296 ≡ start
    inside i = let k = inside_le octets start n i in omega arith

abbrev from : ℕ → Head → Head
from m h = record { kind = h.kind; n = h.n; start = m; cursor = h.cursor }

tidy_place : (kind start : ℕ) {m : ℕ} → m ≡ start % 4294967296 → start_tidy kind start → start_tidy kind m
tidy_place kind start e t = record { are = λ z. let k : start ≡ 0 = (t.are z).0 in (omega arith, tt) }

module _ {s : List ℕ} {c : Cursor} {h : Head} {m : ℕ} (short : length s ≤ 512) (e : m ≡ h.start % 4294967296) where
  pub opens_place : {depth : ℕ} → Opens s depth c h → Opens s depth c (from m h)
  opens_place {depth} p =
      let kept : h.cursor.fault ≡ 0 → m ≡ h.start = λ g. e ∙ whole_start (length s) h.kind h.n h.start short (p.parts g) p.tidy in
      record {
        so = λ log.
            p.so log
            ∙ ap (runs (bits s) (times (nested h.kind h.n) (row (suc depth))))
            (state_log h.cursor _ _ (λ g. rw (kept g)));
        deep = p.deep;
        room = p.room;
        small = p.small;
        clean = p.clean;
        parts = λ g. rw (kept g) (p.parts g);
        tidy = tidy_place h.kind h.start e p.tidy;
      }

  pub maybe_place : {q : Bool} → HeadMaybe s q c h → HeadMaybe s q c (from m h)
  maybe_place {q} p =
      let kept : h.cursor.fault ≡ 0 → m ≡ h.start = λ g. e ∙ whole_start (length s) h.kind h.n h.start short (p.parts g) p.tidy in
      record {
        leads =
            record {
              so = λ log.
                  p.leads.so log
                  ∙ ap (runs (bits s) (times (nested h.kind h.n) (row 2)))
                  (state_log h.cursor _ _ (λ g. rw (kept g)));
            };
        room = p.room;
        small = p.small;
        clean = p.clean;
        parts = λ g. rw (kept g) (p.parts g);
        absent = λ z. let a = p.absent z in (a.0, a.1, (let k : h.start ≡ 0 = a.2 in omega arith));
        tidy = tidy_place h.kind h.start e p.tidy;
      }
