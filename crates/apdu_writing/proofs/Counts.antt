-- Counts, container kinds and lists of ids: which values are in range, and what they bring.
-- Assumes nothing.
use Prim.Native.Nat.{ℕ, ◌*◌, ◌<◌}
use mathlib.Core.Path.{◌≡◌, refl, ap, sym, ◌∙◌}
use mathlib.Core.List.{List, [], ◌∷◌, ◌++◌}
use mathlib.Core.Bool.{Bool, true, ◌&&◌, ◌||◌, not}
use native.Mathlib.Omega.{arith}
use lib.ListN.{length}
use lib.Dec.{ltb, leb, eqb}
use borrow.Author.Tests.{leb-true, leb-false, lt-ltb, le-ltb, eqb-true, not-true}
use Rattle.refusals.specs.Check.{pick, first_of}
use Rattle.refusals.proofs.Tests.{by_cases, and_right}
use Rattle.bits.specs.Bits.{write_field}
use Rattle.bits.specs.Strings.{is_inside, first_bits_clear, write_string}
use Rattle.apdu_format.specs.Component.{Component, integer, id_count, list_start, row_count, entry_count, entry, container}
use Rattle.apdu_format.specs.Rules.{widths, shape, checks_of, brings, announced, content, known_kind, times}
use Rattle.apdu_format.specs.Reading.{numbers_of, sum}
use Rattle.apdu_format.specs.Writing.{fits, is_value, fields_fit}
use Rattle.apdu_format.proofs.Tests.{never, both}
use Rattle.apdu.specs.Values.{num, id_list}
use Rattle.apdu_writing.specs.declared.quill.Quill.{Quill}
use Rattle.apdu_writing.specs.Quill.{behind, Put, spent, Moves, Puts, Few, Known}
use Rattle.apdu_writing.proofs.Chains.{idle, then}
use Rattle.apdu_writing.proofs.IdLists.{list_put, clear_inside}
use Rattle.apdu_writing.proofs.Leaves.{packed, Writes, leaf, leaf_spent, in_number}

-- an extension bit 0 and a number, in the code
octet_by : (i : Component) (n : ℕ) (fine : Bool) (c : Quill) (o : List ℕ) → shape i ≡ widths (1 ∷ 7 ∷ []) → fine ≡ is_value i c.room (num n)
    → Writes i (num n) 8 fine c.room (write_field o (8 * c.at) 8 n) o (8 * c.at)
unfolding sum
octet_by i n fine c o s e = in_number i (1 ∷ 7 ∷ []) (0 ∷ n ∷ []) n fine c.room o (8 * c.at) s (omega arith) e (λ g. unfold packed in omega arith)

-- ---- counts

count_range : (n : ℕ) → leb n 16 ≡ ((ltb n 128 && true) && eqb (pick (ltb 16 n) 18 0) 0)
count_range n =
    by_cases (leb n 16)
    (λ h. let k = leb-true n 16 h in h ∙ rw (lt-ltb n 128 (omega arith), le-ltb 16 n k))
    (λ h. h ∙ sym (and_right (ltb n 128 && true) (rw (lt-ltb 16 n (leb-false n 16 h)))))

pub ids_by : (n : ℕ) {c r : Quill} {o o' : List ℕ} → Put 1 (leb n 16) c r (write_field o (8 * c.at) 8 n) o o'
    → Moves true (id_count ∷ []) ((list_start ∷ []) ++ times n (integer ∷ [])) c r o o' (num n ∷ [])
unfolding brings announced numbers_of
ids_by n {c} {r} {o} p =
    leaf id_count (num n) p (octet_by id_count n (leb n 16) c o (unfold shape in refl) (unfold is_value fits shape fields_fit checks_of first_of numbers_of in count_range n)) refl

pub entries_by : (n : ℕ) {c r : Quill} {o o' : List ℕ} → Put 1 (leb n 16) c r (write_field o (8 * c.at) 8 n) o o'
    → Moves true (entry_count ∷ []) (times n (entry ∷ [])) c r o o' (num n ∷ [])
unfolding brings announced numbers_of
entries_by n {c} {r} {o} p =
    leaf entry_count (num n) p (octet_by entry_count n (leb n 16) c o (unfold shape in refl) (unfold is_value fits shape fields_fit checks_of first_of numbers_of in count_range n)) refl

pub few_by_law : {n : ℕ} {c r : Quill} {x o o' : List ℕ} → Put 1 (leb n 16) c r x o o' → Few n r
unfolding behind
few_by_law {n} {c} p = record { so = λ h. leb-true n 16 (both c.ok (leb n 16) (sym (ap (λ (z : Quill). z.ok) p.is) ∙ h)).1 }

rows_range : (n room : ℕ) → (leb n 16 && leb n room) ≡ ((ltb n 128 && true) && eqb (pick (ltb 16 n || ltb room n) 18 0) 0)
rows_range n room =
    by_cases (leb n 16)
    (λ h. let k = leb-true n 16 h in
    by_cases (leb n room)
    (λ g. rw (h, g, lt-ltb n 128 (omega arith), le-ltb 16 n k, le-ltb room n (leb-true n room g)))
    (λ g. rw (h, g, lt-ltb n 128 (omega arith), le-ltb 16 n k, lt-ltb room n (leb-false n room g))))
    (λ h. rw (h, lt-ltb 16 n (leb-false n 16 h)) (sym (and_right (ltb n 128 && true) refl)))

pub rows_by : (d n : ℕ) {c r e : Quill} {o o' : List ℕ} → Put 1 (leb n 16 && leb n c.room) c r (write_field o (8 * c.at) 8 n) o o' → e ≡ spent n r
    → Moves true (row_count d ∷ []) (times n (integer ∷ container d ∷ [])) c e o o' (num n ∷ [])
unfolding brings announced numbers_of spent
rows_by d n {c} {r} {e} {o} p q =
    leaf_spent (row_count d) (num n) p
    (octet_by (row_count d) n (leb n 16 && leb n c.room) c o (unfold shape in refl) (unfold is_value fits shape fields_fit checks_of first_of numbers_of in rows_range n c.room))
    q

-- ---- kinds

known_small : (k : ℕ) → known_kind k ≡ true → k < 128
known_small k =
    by_cases (eqb k 2) (λ h g. omega (arith, eqb-true k 2 h))
    (λ a. by_cases (eqb k 7) (λ h g. omega (arith, eqb-true k 7 h))
    (λ b. by_cases (eqb k 8) (λ h g. omega (arith, eqb-true k 8 h))
    (λ e. by_cases (eqb k 9) (λ h g. omega (arith, eqb-true k 9 h)) (λ f g. never (rw (a, b, e, f) at g)))))

kind_range : (d k : ℕ) → (leb d 4 && known_kind k) ≡ ((ltb k 128 && true) && eqb (pick (ltb 4 d) 19 (pick (not (known_kind k)) 17 0)) 0)
kind_range d k =
    by_cases (leb d 4)
    (λ h. by_cases (known_kind k)
    (λ g. rw (h, g, lt-ltb k 128 (known_small k g), le-ltb 4 d (leb-true d 4 h)))
    (λ g. rw (h, g, le-ltb 4 d (leb-true d 4 h)) (sym (and_right (ltb k 128 && true) refl))))
    (λ h. rw (h, lt-ltb 4 d (leb-false d 4 h)) (sym (and_right (ltb k 128 && true) refl)))

pub kind_by : (d k : ℕ) {known : Bool} {c r : Quill} {o o' : List ℕ} → known ≡ known_kind k → Put 1 (leb d 4 && known) c r (write_field o (8 * c.at) 8 k) o o'
    → Moves true (container d ∷ []) (content d k) c r o o' (num k ∷ [])
unfolding brings announced numbers_of
kind_by d k {known} {c} {r} {o} e p =
    leaf (container d) (num k) p
    (octet_by (container d) k (leb d 4 && known) c o (unfold shape in refl) (ap (λ (b : Bool). leb d 4 && b) e ∙ unfold is_value fits shape fields_fit checks_of first_of numbers_of in kind_range d k)) refl

pub known_by : {d k : ℕ} {known : Bool} {c r : Quill} {x o o' : List ℕ} → known ≡ known_kind k → Put 1 (leb d 4 && known) c r x o o' → Known d k r
unfolding behind
known_by {d} {k} {known} {c} {r} e p =
    let all : r.ok ≡ true → (leb d 4 ≡ true) × (known ≡ true) =
    λ h. both (leb d 4) known (both c.ok (leb d 4 && known) (sym (ap (λ (z : Quill). z.ok) p.is) ∙ h)).1 in
    record { kind = λ h. sym e ∙ (all h).1; deep = λ h. leb-true d 4 (all h).0 }

-- ---- lists of ids

module _ (s : List ℕ) (start n : ℕ) {c d : Quill} {o o₁ : List ℕ} (p : Moves true (id_count ∷ []) ((list_start ∷ []) ++ times n (integer ∷ [])) c d o o₁ (num n ∷ [])) where
  pub ids_stopped : not d.ok ≡ true → Puts (is_inside (length s) start n) (id_count ∷ []) c d o o₁ (id_list s start n)
  ids_stopped h = let no = not-true d.ok h in then p (idle no no)

  pub ids_all : {r : Bool} {e : Quill} {o₂ : List ℕ} → r ≡ first_bits_clear s start n → Put n (r && is_inside (length s) start n) d e (write_string s start n o₁ (8 * d.at)) o₁ o₂
      → Puts (is_inside (length s) start n) (id_count ∷ []) c e o o₂ (id_list s start n)
  ids_all {r} {e} {o₂} f q = then p (list_put s start n (rw (ap (λ (b : Bool). b && is_inside (length s) start n) f ∙ clear_inside s start n) at q))
