-- Reading and writing headers are inverse, in the words of the two calls' answers.
-- Assumes nothing.
use mathlib.Core.Path.{◌≡◌, refl, ap, sym, ◌∙◌}
use mathlib.Core.Bool.{Bool, true, false}
use Prim.Native.Nat.{ℕ}
use mathlib.Core.List.{List, ◌++◌}
use lib.Dec.{ltb}
use lib.ListN.{length, drop, take-append-drop}
use borrow.Author.Tests.{le-ltb}
use Rattle.refusals.specs.Check.{pick, first_of, refused, accepted, decided}
use Rattle.header.specs.Header.{read_header, write_refusal, write_header, output_after}
use Rattle.header.specs.RoundTrip.{ReadingWritten, WritingRead, ReadingExact}
use Rattle.header.proofs.Writing.{accepted_is}
use Rattle.header.proofs.ReadingBack.{reading}
use Rattle.header.proofs.WritingBack.{again}

pub reading_written : ReadingWritten
unfolding ReadingWritten output_after
reading_written h output n e =
    let a = accepted_is h (length output) n e in
    rw a.1 at (reading h (drop n output) a.0)

pub writing_read : WritingRead
unfolding WritingRead write_header write_refusal first_of output_after
writing_read s f output octs e =
    let a = again s f octs e in
    let r = a.in_range in
    record {
      inside = a.inside;
      answer = simp (le-ltb _ _ r.number, le-ltb _ _ r.counter, a.needs) (room (ltb (length output) f.size) f.size);
      same = ap (λ (l : List ℕ). l ++ drop f.size output) a.same;
    }
  where
    room : (b : Bool) (k : ℕ) → decided (pick b 22 0) k ≡ pick b (refused 22) (accepted k)
    room true k = unfold decided in refl
    room false k = unfold decided in refl

pub reading_exact : ReadingExact
unfolding ReadingExact ReadingWritten WritingRead
reading_exact s h n octs = (
  (λ w. ap read_header w.is ∙ reading_written h w.output n w.answer),
  (λ e.
      let r = writing_read s (record { header = h; size = n }) s octs e in
      record { output = s; answer = rw (le-ltb _ _ r.inside) at r.answer; is = sym (r.same ∙ take-append-drop n s) }),
)
