-- Laws on tests and lists that the proofs share.
use Rattle.std.proofs.Common.{◌≡◌, ℕ, Bool, true, false, not, ◌&&◌, eqb, List, map, length, sym, refl, ◌∙◌, true≢false, eq-eqb, ne_eqb, eqb-true}
use mathlib.Core.Bool.{false≢true}
use lib.ListN.{length-map}
use borrow.Author.Tests.{eqb-false}

-- the length of an array of structs, for `search`
pub long : (A B : Type 0) (f : A → B) (l : List A) (n : ℕ) → length (map f l) ≡ n → length l ≡ n
long A B f l n e = sym (length-map l f) ∙ e

pub and_l : (a b : Bool) → a && b ≡ true → a ≡ true
and_l true b e = refl
and_l false b e = e

pub and_r : (a b : Bool) → a && b ≡ true → b ≡ true
and_r true b e = e
and_r false b e = absurd (false≢true e)

pub and_i : {a b : Bool} → a ≡ true → b ≡ true → a && b ≡ true
and_i {a} {b} p q = rw (p, q)

pub not_t : (b : Bool) → not b ≡ true → b ≡ false
not_t true e = absurd (false≢true e)
not_t false e = refl

pub not_f : (b : Bool) → not b ≡ false → b ≡ true
not_f true e = refl
not_f false e = absurd (true≢false e)

pub eqb_comm : (m n : ℕ) → eqb m n ≡ eqb n m
eqb_comm m n = go (eqb m n) refl
  where
    go : (b : Bool) → eqb m n ≡ b → b ≡ eqb n m
    go true e = sym (eq-eqb n m (sym (eqb-true m n e)))
    go false e = sym (ne_eqb n m (λ h. eqb-false m n e (sym h)))

-- two tests that imply each other are the same
pub same_test : (a b : Bool) → (a ≡ true → b ≡ true) → (b ≡ true → a ≡ true) → a ≡ b
same_test true b f g = sym (f refl)
same_test false true f g = g refl
same_test false false f g = refl
