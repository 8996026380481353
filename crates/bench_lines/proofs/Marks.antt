-- Laws of the search for a mark.
-- Assumes nothing.
use mathlib.Core.Path.{◌≡◌, refl, sym, ◌∙◌}
use mathlib.Core.Bool.{cond}
use Prim.Native.Nat.{ℕ, ◌+◌, ◌≤◌, ◌<◌}
use mathlib.Core.List.{List, [], ◌∷◌}
use native.Mathlib.Omega.{arith}
use lib.Dec.{eqb, ltb}
use lib.ListN.{length, drop, length-drop, drop_of_length-le}
use borrow.Author.Tests.{ltb-false}
use denote.Ref.{Bor}
use Rattle.std.specs.Prelude.{Option, Some, None, MatchOption, ◌⊎◌, slice_range}
use Rattle.std.specs.Option.{unwrap_or}
use Rattle.std.proofs.Common.{inl, inr}
use Rattle.std.proofs.lemmas.Slice.{between_to_end}
use Rattle.std.specs.List.{position_or_len}
use Rattle.std.proofs.lemmas.List.Recursion.{is_position_or_len}
use Rattle.refusals.proofs.Tests.{by_cases}
use Rattle.bench_lines.specs.Line.{before}
use Rattle.bench_lines.specs.Splitting.{line_end}

-- the place of the first mark is what a search for it finds
pub before_is : (mark : ℕ) (s : List ℕ) → before mark s ≡ position_or_len (λ c. eqb c mark) s
unfolding before
before_is mark s = is_position_or_len (before mark) (λ c. eqb c mark) refl (λ c t. by_cases (eqb c mark) (λ h. simp h) (λ h. simp h (omega arith))) s

before_le : (mark : ℕ) (s : List ℕ) → before mark s ≤ length s
unfolding before
before_le mark [] = omega arith
before_le mark (c ∷ s) = by_cases (eqb c mark) (λ t. simp t (omega arith)) (λ t. simp t (omega (arith, before_le mark s)))

-- the first mark that is found, or the end
pub found : (mark : ℕ) (s : List ℕ) {r : Option ℕ} → r ≡ cond (ltb (position_or_len (λ c. eqb c mark) s) (length s)) (Some (position_or_len (λ c. eqb c mark) s)) None
    → unwrap_or r (length s) ≡ before mark s
found mark s e =
    let p = before_is mark s in
    let q = before_le mark s in
    rw (e, ← p) (by_cases (ltb (before mark s) (length s)) (λ t. simp t) (λ t. let g = ltb-false (before mark s) (length s) t in simp t (omega arith)))

-- the rest behind a place, which is empty where the place lies behind the end
pub rest_from : (s : List ℕ) (from : ℕ) (o : Option (Bor (List ℕ))) (none : Bor (List ℕ)) → none.now ≡ []
    → MatchOption o ((length s < from) ⊎ (length s < length s)) (λ x. (from ≤ length s) × (length s ≤ length s) × (x.now ≡ slice_range s from (length s)) × (length x.now + from ≡ length s))
    → (unwrap_or o none).now ≡ drop from s
rest_from s from None none e (inl h) = e ∙ sym (drop_of_length-le s (omega arith))
rest_from s from None none e (inr h) = absurd (omega arith)
rest_from s from (Some x) none e h = h.2 ∙ between_to_end s from (length s) (omega arith)

-- ---- a line's end lies inside the input

module _ (input : List ℕ) (from : ℕ) {end : ℕ} (e : end ≡ line_end input from) where
  pub end_behind : from ≤ end
  unfolding line_end
  end_behind = omega arith

  pub end_inside : from ≤ length input → end ≤ length input
  unfolding line_end
  end_inside h = omega (arith, before_le 10 (drop from input), length-drop from input)
