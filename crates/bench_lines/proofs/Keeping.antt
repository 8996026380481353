-- Laws of keeping a part of a line, one for each way out.
-- Assumes nothing.
use mathlib.Core.Path.{◌≡◌, refl, ap, sym, ◌∙◌}
use Prim.Native.Nat.{ℕ, ◌+◌, ◌-◌, ◌≤◌, ◌<◌, min}
use mathlib.Core.List.{List, ◌++◌, append-nil}
use native.Mathlib.Omega.{arith}
use lib.ListN.{length, take, drop, length-append, length-take}
use lib.Seq.{take_all, drop-length, length-take-le, take-append_seam, take-append-add}
use Rattle.std.proofs.lemmas.List.{take_min}
use borrow.Rule.Slice.PartMut.{put_mid}
use Rattle.std.proofs.lemmas.Slice.{put_mid-paste}
use Rattle.bench_lines.specs.Splitting.{kept_line, buffer_after}

module _ (buffer : List ℕ) (held : ℕ) (part : List ℕ) where
  pub all_kept : length buffer < held
      → (length buffer ≡ length (kept_line buffer held part)) × (buffer ≡ buffer_after (kept_line buffer held part) buffer)
  unfolding kept_line buffer_after
  all_kept h = rw full (refl, same)
    where
      full : kept_line buffer held part ≡ buffer
      full = rw (take_all held buffer (omega arith)) (take-append_seam buffer part)

      same : buffer ≡ buffer_after buffer buffer
      same = sym (rw drop-length (append-nil buffer))

  -- as much of the part as there is room for, behind those held
  pub part_kept : (n k : ℕ) {put : List ℕ} → held ≤ length buffer → n ≡ min (length part) (length buffer - held) → put ≡ take n part → n ≡ k
      → (held + n ≡ length (kept_line buffer held part)) × (put_mid held k buffer put ≡ buffer_after (kept_line buffer held part) buffer)
  unfolding kept_line buffer_after
  part_kept n k {put} h m p q =
      let f = length-take-le held buffer h in
      let i : n ≤ length part = omega arith in
      let g = length-take-le n part i in
      let s : length buffer ≡ length (take held buffer) + (length buffer - held) = omega arith in
      let e : take (length buffer) (take held buffer ++ part) ≡ take held buffer ++ take n part =
      ap (λ (j : ℕ). take j (take held buffer ++ part)) s ∙ take-append-add (take held buffer) part (length buffer - held)
      ∙ ap (λ (l : List ℕ). take held buffer ++ l) (sym (take_min (length buffer - held) part) ∙ ap (λ (j : ℕ). take j part) (omega arith)) in
      let l : length (take held buffer ++ take n part) ≡ held + n = omega (arith, length-append (take held buffer) (take n part)) in
      let r : n ≡ length (take n part) = sym g in
      let t : take n (take n part) ≡ take n part = take_all n (take n part) (omega arith) in
      let w : put_mid held k buffer put ≡ take held buffer ++ take n part ++ drop (held + n) buffer = rw t at (put_mid-paste held k buffer put (take n part) n p q r) in
      rw (e, l) (refl, w)

-- no more is kept than the buffer has room for
pub kept_inside : (buffer : List ℕ) (held : ℕ) (part : List ℕ) {n : ℕ} → n ≡ length (kept_line buffer held part) → n ≤ length buffer
unfolding kept_line
kept_inside buffer held part e = omega (arith, length-take (length buffer) (take held buffer ++ part))
