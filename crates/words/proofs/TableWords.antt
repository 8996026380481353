-- The table's words: how they are put, and that unpacking them gives the table back. Assumes nothing.
use mathlib.Core.Path.{◌≡◌, refl, sym, ap, ◌∙◌}
use mathlib.Core.List.{List, [], ◌∷◌, ◌++◌, append_assoc}
use Prim.Native.Nat.{ℕ, ◌+◌, ◌*◌, ◌<◌}
use native.Mathlib.Numerals.{add-one}
use native.Mathlib.Omega.{arith}
use lib.ListN.{length, take, drop, get_or, set, length-append}
use lib.Seq.{sets-eq, take-suc, take_all, take_at, length-take-le, length-sets}
use borrow.Author.Tests.{eq-eqb, ne_eqb}
use Rattle.slots.specs.declared.Slot.{Slot}
use Rattle.slots.specs.declared.Table.{Table}
use Rattle.words.specs.TableWords.{slot_words, slot_put, slots_words, table_words, table_after}

-- ---- how they are put

slots_snoc : (slots : List Slot) (slot : Slot) → slots_words (slots ++ (slot ∷ [])) ≡ slots_words slots ++ slot_words slot
unfolding slots_words
slots_snoc [] slot = refl
slots_snoc (s ∷ slots) slot = ap (λ (l : List ℕ). slot_words s ++ l) (slots_snoc slots slot) ∙ sym (append_assoc (slot_words s) (slots_words slots) (slot_words slot))

pub put_begun : (w' w : List ℕ) (busy : ℕ) → length w ≡ 41 → w' ≡ set w 0 busy → take 1 w' ≡ busy ∷ slots_words []
unfolding slots_words
put_begun w' [] busy n e = absurd (omega arith)
put_begun w' (x ∷ w) busy n e = rw e

pub put_next : (w' w : List ℕ) (slots : List Slot) (busy i : ℕ) (d : Slot) → length w ≡ 41 → length slots ≡ 8 → i < 8
    → take (1 + 5 * i) w ≡ busy ∷ slots_words (take i slots) → w' ≡ slot_put w (1 + 5 * i) (get_or slots i d)
    → take (1 + 5 * (i + 1)) w' ≡ busy ∷ slots_words (take (i + 1) slots)
unfolding slot_put
put_next w' w slots busy i d n m h before e =
    let new = slot_words (get_or slots i d) in
    let at : 1 + 5 * (i + 1) ≡ 1 + 5 * i + 5 = omega arith in
    let long : length (take (1 + 5 * i) w ++ new) ≡ 1 + 5 * i + 5 = omega (arith, length-append (take (1 + 5 * i) w) new, length-take-le (1 + 5 * i) w (omega arith)) in
    let put : take (1 + 5 * i + 5) w' ≡ take (1 + 5 * i) w ++ new =
    ap (take (1 + 5 * i + 5)) (e ∙ sets-eq new w (1 + 5 * i) (omega arith)) ∙ take_at (take (1 + 5 * i) w ++ new) (drop (1 + 5 * i + 5) w) (1 + 5 * i + 5) long in
    let more : slots_words (take (i + 1) slots) ≡ slots_words (take i slots) ++ new =
    ap (λ (k : ℕ). slots_words (take k slots)) (add-one i) ∙ ap slots_words (take-suc slots i d (omega arith)) ∙ slots_snoc (take i slots) (get_or slots i d) in
    ap (λ (k : ℕ). take k w') at ∙ put ∙ ap (λ (l : List ℕ). l ++ new) before ∙ ap (λ (l : List ℕ). busy ∷ l) (sym more)

pub put_long : (w' w : List ℕ) (at : ℕ) (slot : Slot) → w' ≡ slot_put w at slot → length w ≡ 41 → length w' ≡ 41
unfolding slot_put
put_long w' w at slot e n = ap length e ∙ length-sets w at (slot_words slot) ∙ n

pub put_all : (w w₀ : List ℕ) (table : Table) (i : ℕ) → i ≡ 8 → length w₀ ≡ 41 → length w ≡ 41 → length table.slots ≡ 8
    → take (1 + 5 * i) w ≡ table.busy ∷ slots_words (take i table.slots) → w ≡ table_after table w₀
unfolding table_after table_words
put_all w w₀ table i e n₀ n m h =
    let k : 1 + 5 * i ≡ 41 = omega arith in
    let words : take (1 + 5 * i) w ≡ w = ap (λ (j : ℕ). take j w) k ∙ take_all 41 w (omega arith) in
    let slots : take i table.slots ≡ table.slots = take_all i table.slots (omega arith) in
    sym words ∙ h ∙ rw (slots, eq-eqb (length w₀) 41 n₀)

pub put_none : (w : List ℕ) (table : Table) → (length w ≡ 41 → ⊥) → w ≡ table_after table w
unfolding table_after
put_none w table h = rw (ne_eqb (length w) 41 h)
