-- Rows and entries, one more: their values, their parts and their counts. The reader and the writer both take them one by one.
-- Assumes nothing.
use Prim.Native.Nat.{ℕ, zero, suc, ◌+◌, ◌-◌, ◌≤◌}
use mathlib.Core.Path.{◌≡◌, refl, ap, sym, ◌∙◌}
use mathlib.Core.List.{List, [], ◌∷◌, ◌++◌, append_assoc, append-nil}
use mathlib.Core.Bool.{Bool, true, false, ◌&&◌}
use native.Mathlib.Omega.{arith}
use lib.ListN.{length, take, drop}
use lib.Seq.{take-take, drop-drop, take-append-le, drop-append-le, take_all}
use Rattle.refusals.proofs.Tests.{and_true, by_test}
use Rattle.apdu_format.specs.Reading.{Value}
use Rattle.apdu.specs.declared.lists.Row.{Row}
use Rattle.apdu.specs.declared.lists.Entry.{Entry}
use Rattle.apdu.specs.Values.{row_values, rows_values, entry_values, entries_values, entry_rows, rows_of}
use Rattle.apdu.specs.Tidy.{Absent, entry_tidy}
use Rattle.apdu.specs.Sound.{part_fits, nested, parts_fit, closes, sound_if, entry_sound, entries_sound}

pub and_unit : (b : Bool) → (b && true) ≡ b
and_unit true = refl
and_unit false = refl

and_assoc : (a b c : Bool) → ((a && b) && c) ≡ (a && (b && c))
and_assoc true b c = refl
and_assoc false b c = refl

pub sound_if_law : (p : Bool) {b : Bool} → b ≡ true → sound_if p b ≡ true
sound_if_law true h = h
sound_if_law false h = refl

pub drop_all : {A : Type 0} (i : ℕ) (l : List A) → length l ≤ i → drop i l ≡ []
drop_all zero [] h = refl
drop_all zero (x ∷ l) h = absurd (omega arith)
drop_all (suc i) [] h = refl
drop_all (suc i) (x ∷ l) h = drop_all i l (omega arith)

-- ---- rows

pub rows_append : (s : List ℕ) (xs ys : List Row) → rows_values s (xs ++ ys) ≡ rows_values s xs ++ rows_values s ys
unfolding rows_values
rows_append s [] ys = refl
rows_append s (x ∷ xs) ys = ap (λ (l : List Value). row_values s x ++ l) (rows_append s xs ys) ∙ sym (append_assoc (row_values s x) (rows_values s xs) (rows_values s ys))

pub rows_snoc : (s : List ℕ) (xs : List Row) (w : Row) → rows_values s (xs ++ (w ∷ [])) ≡ rows_values s xs ++ row_values s w
unfolding rows_values
rows_snoc s xs w = rows_append s xs (w ∷ []) ∙ ap (λ (l : List Value). rows_values s xs ++ l) (append-nil (row_values s w))

pub fit_append : (n : ℕ) (xs ys : List Row) → parts_fit n (xs ++ ys) ≡ (parts_fit n xs && parts_fit n ys)
unfolding parts_fit
fit_append n [] ys = refl
fit_append n (x ∷ xs) ys =
    ap (λ (b : Bool). part_fits n x.kind x.n x.start && b) (fit_append n xs ys)
    ∙ sym (and_assoc (part_fits n x.kind x.n x.start) (parts_fit n xs) (parts_fit n ys))

pub fit_snoc : (n : ℕ) (xs : List Row) (w : Row) → parts_fit n (xs ++ (w ∷ [])) ≡ (parts_fit n xs && part_fits n w.kind w.n w.start)
unfolding parts_fit
fit_snoc n xs w = fit_append n xs (w ∷ []) ∙ ap (λ (b : Bool). parts_fit n xs && b) (and_unit (part_fits n w.kind w.n w.start))

-- after a row so many are still to come
pub closes_more : (n : ℕ) (w : Row) (rs : List Row) (k : ℕ) → (n ≡ 0 → ⊥) → k + 1 ≡ n + nested w.kind w.n → closes n (w ∷ rs) ≡ closes k rs
unfolding closes
closes_more n w rs k h e =
    let m : n ≡ suc (n - 1) = omega (arith, h) in
    let f : nested w.kind w.n + (n - 1) ≡ k = omega (arith, h) in
    ap (λ (i : ℕ). closes i (w ∷ rs)) m ∙ ap (λ (i : ℕ). closes i rs) f

-- ---- entries

pub rows_of_append : (xs ys : List Entry) → rows_of (xs ++ ys) ≡ rows_of xs + rows_of ys
unfolding rows_of
rows_of_append [] ys = omega arith
rows_of_append (x ∷ xs) ys = let h = rows_of_append xs ys in omega arith

pub rows_of_snoc : (xs : List Entry) (e : Entry) → rows_of (xs ++ (e ∷ [])) ≡ rows_of xs + entry_rows e
unfolding rows_of
rows_of_snoc xs e = let h = rows_of_append xs (e ∷ []) in omega arith

pub entries_snoc : (s : List ℕ) (xs : List Entry) (e : Entry) (rs : List Row)
    → entries_values s (xs ++ (e ∷ [])) rs ≡ entries_values s xs rs ++ entry_values s e (take (entry_rows e) (drop (rows_of xs) rs))
unfolding entries_values rows_of
entries_snoc s [] e rs = append-nil (entry_values s e (take (entry_rows e) rs))
entries_snoc s (x ∷ xs) e rs =
    ap (λ (l : List Value). entry_values s x (take (entry_rows x) rs) ++ l) (entries_snoc s xs e (drop (entry_rows x) rs))
    ∙ sym (append_assoc (entry_values s x (take (entry_rows x) rs)) (entries_values s xs (drop (entry_rows x) rs)) (entry_values s e (take (entry_rows e) (drop (rows_of xs) (drop (entry_rows x) rs)))))
    ∙ ap (λ (l : List Row). (entry_values s x (take (entry_rows x) rs) ++ entries_values s xs (drop (entry_rows x) rs)) ++ entry_values s e (take (entry_rows e) l)) (drop-drop (rows_of xs) (entry_rows x) rs)

pub sound_append : (n : ℕ) (xs ys : List Entry) (rs : List Row) → entries_sound n (xs ++ ys) rs ≡ (entries_sound n xs rs && entries_sound n ys (drop (rows_of xs) rs))
unfolding entries_sound rows_of
sound_append n [] ys rs = refl
sound_append n (x ∷ xs) ys rs =
    ap (λ (b : Bool). entry_sound n x (take (entry_rows x) rs) && b) (sound_append n xs ys (drop (entry_rows x) rs))
    ∙ sym (and_assoc (entry_sound n x (take (entry_rows x) rs)) (entries_sound n xs (drop (entry_rows x) rs)) (entries_sound n ys (drop (rows_of xs) (drop (entry_rows x) rs))))
    ∙ ap (λ (l : List Row). (entry_sound n x (take (entry_rows x) rs) && entries_sound n xs (drop (entry_rows x) rs)) && entries_sound n ys l) (drop-drop (rows_of xs) (entry_rows x) rs)

pub sound_snoc : (n : ℕ) (xs : List Entry) (e : Entry) (rs : List Row)
    → entries_sound n (xs ++ (e ∷ [])) rs ≡ (entries_sound n xs rs && entry_sound n e (take (entry_rows e) (drop (rows_of xs) rs)))
unfolding entries_sound
sound_snoc n xs e rs =
    sound_append n xs (e ∷ []) rs ∙ ap (λ (b : Bool). entries_sound n xs rs && b) (and_unit (entry_sound n e (take (entry_rows e) (drop (rows_of xs) rs))))

take-nil : {A : Type 0} (n : ℕ) → take {A = A} n [] ≡ []
take-nil zero = refl
take-nil (suc n) = refl

drop_take : (n k m : ℕ) (l : List Row) → m ≡ n + k → drop n (take m l) ≡ take k (drop n l)
drop_take zero k m l e = let h : m ≡ k = omega arith in ap (λ (i : ℕ). take i l) h
drop_take (suc n) k zero l e = absurd (omega arith)
drop_take (suc n) k (suc m) [] e = sym (take-nil k)
drop_take (suc n) k (suc m) (x ∷ l) e = drop_take n k m l (omega arith)

-- entries look at their own rows only
pub own_values : (s : List ℕ) (es : List Entry) (rs : List Row) → entries_values s es rs ≡ entries_values s es (take (rows_of es) rs)
unfolding entries_values rows_of
own_values s [] rs = refl
own_values s (e ∷ es) rs =
    ap (λ (l : List Row). entry_values s e l ++ entries_values s es (drop (entry_rows e) rs)) (sym (take-take (entry_rows e) (entry_rows e + rows_of es) rs (omega arith)))
    ∙ ap (λ (l : List Value). entry_values s e (take (entry_rows e) (take (entry_rows e + rows_of es) rs)) ++ l)
    (own_values s es (drop (entry_rows e) rs) ∙ ap (entries_values s es) (sym (drop_take (entry_rows e) (rows_of es) (entry_rows e + rows_of es) rs refl)))

pub own_sound : (n : ℕ) (es : List Entry) (rs : List Row) → entries_sound n es rs ≡ entries_sound n es (take (rows_of es) rs)
unfolding entries_sound rows_of
own_sound n [] rs = refl
own_sound n (e ∷ es) rs =
    ap (λ (l : List Row). entry_sound n e l && entries_sound n es (drop (entry_rows e) rs)) (sym (take-take (entry_rows e) (entry_rows e + rows_of es) rs (omega arith)))
    ∙ ap (λ (b : Bool). entry_sound n e (take (entry_rows e) (take (entry_rows e + rows_of es) rs)) && b)
    (own_sound n es (drop (entry_rows e) rs) ∙ ap (entries_sound n es) (sym (drop_take (entry_rows e) (rows_of es) (entry_rows e + rows_of es) rs refl)))

-- 0 is tidy, whether it is there or not
pub zero_tidy : {p : Bool} → Absent p (0 ∷ [])
zero_tidy = record { are = λ z. (refl, tt) }

-- an entry without a parameter has no rows
pub tidy_rows : (e : Entry) → entry_tidy e → entry_rows e ≡ e.rows
unfolding entry_rows
tidy_rows e t = by_test (λ (n : ℕ). n ≡ e.rows) e.has_parameter (λ h. refl) (λ h. sym (t.1.are h).1.1.1.0)

-- one entry more, with its rows behind the others
module _ (es : List Entry) (e : Entry) (rs new : List Row) (h : rows_of es ≡ length rs) (k : entry_rows e ≡ length new) where
  front : take (rows_of es) (rs ++ new) ≡ rs
  front = take-append-le (rows_of es) rs new (omega arith) ∙ take_all (rows_of es) rs (omega arith)

  behind : take (entry_rows e) (drop (rows_of es) (rs ++ new)) ≡ new
  behind =
      ap (take (entry_rows e)) (drop-append-le (rows_of es) rs new (omega arith) ∙ ap (λ (l : List Row). l ++ new) (drop_all (rows_of es) rs (omega arith)))
      ∙ take_all (entry_rows e) new (omega arith)

  pub entries_more : (s : List ℕ) → entries_values s (es ++ (e ∷ [])) (rs ++ new) ≡ entries_values s es rs ++ entry_values s e new
  entries_more s = entries_snoc s es e (rs ++ new) ∙ rw (own_values s es (rs ++ new), front, behind)

  pub sound_more : (n : ℕ) → entries_sound n es rs ≡ true → entry_sound n e new ≡ true → entries_sound n (es ++ (e ∷ [])) (rs ++ new) ≡ true
  sound_more n p q =
      sound_snoc n es e (rs ++ new)
      ∙ and_true (own_sound n es (rs ++ new) ∙ ap (entries_sound n es) front ∙ p) (ap (entry_sound n e) behind ∙ q)
