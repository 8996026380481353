-- What `write` answers, one law for each way out.
-- Assumes nothing.
use Prim.Native.Nat.{ℕ, zero, suc, ◌+◌, ◌*◌, ◌≤◌, ◌<◌}
use mathlib.Core.Path.{◌≡◌, refl, ap, sym, ◌∙◌}
use mathlib.Core.List.{List, [], ◌∷◌, ◌++◌, append-nil}
use mathlib.Core.Bool.{Bool, true, false, ◌&&◌, not}
use mathlib.Core.Logic.{◌⊎◌, inl, inr}
use native.Mathlib.Omega.{arith}
use lib.ListN.{length, drop, replicate}
use lib.Dec.{ltb}
use borrow.Author.Tests.{lt-ltb, le-ltb, le-leb, ltb-true, ltb-false, not-true, not-false}
use Rattle.refusals.specs.Check.{first_of}
use Rattle.refusals.proofs.Tests.{by_cases, and_true, and_left, and_right}
use Rattle.bits.specs.Bits.{Bits, Octets, bits, octets, put_bits}
use Rattle.bits.specs.Strings.{is_inside, string_at, copy_fits, copy_string}
use Rattle.bits.proofs.Laws.{below_nil, below_cons, octets_small, bits_octets, length_octets}
use Rattle.bits.proofs.Put.{length_put}
use Rattle.bits.proofs.Strings.{string_put}
use Rattle.apdu_format.specs.Component.{choice}
use Rattle.apdu_format.specs.Reading.{Value}
use Rattle.apdu_format.specs.Writing.{Pen, written, none, in_range, encode, size, encoded_octets}
use Rattle.apdu_format.proofs.Whole.{written_whole}
use Rattle.apdu.specs.declared.lists.Row.{Row}
use Rattle.apdu.specs.declared.lists.Entry.{Entry}
use Rattle.apdu.specs.declared.records.Message.{Message}
use Rattle.apdu.specs.Values.{values_of}
use Rattle.apdu_writing.specs.declared.quill.Quill.{Quill}
use Rattle.apdu.specs.Sound.{sound, rows_fit, well_formed}
use Rattle.apdu_writing.specs.Quill.{quill, far, least, pen_at, writes, Goes, Stops, Puts}
use Rattle.apdu_writing.specs.Answer.{Answer, refused, refused_at, write_refusal, answered, write_answer, write_output}
use Rattle.apdu_writing.specs.Answer.{octets as so-many}
use Rattle.apdu_writing.proofs.Levels.{writes_none}
use Rattle.apdu_writing.proofs.Chains.{near_is}

-- an empty page
pub blank : (n : ℕ) → Octets (replicate n 0)
blank zero = below_nil (omega arith)
blank (suc n) = below_cons (omega arith) (blank n)

-- octets copied from the front of a page to the front of an output
copied : (page out : List ℕ) (n : ℕ) → n ≤ length page → n ≤ length out → copy_string page 0 n out 0 ≡ string_at page 0 n ++ drop n out
unfolding copy_string copy_fits is_inside
copied page out n h k =
    let z : 0 + n ≡ n = omega arith in
    rw (le-leb (0 + 8 * n) (8 * length page) (omega arith), le-leb (0 + n) (length out) (omega arith)) (ap (λ (i : ℕ). string_at page 0 n ++ drop i out) z)

-- ---- what was written

abbrev start_quill : Quill
start_quill = quill 0 32 true

module _ {s : Bool} {vs : List Value} {r : Quill} {o o' : List ℕ} (p : Puts s (choice ∷ []) start_quill r o o' vs) where
  told : (g : Goes s (choice ∷ []) [] start_quill r o o' vs) → written vs ≡ pen_at [] r.room g.w
  unfolding written writes
  told g = ap (λ (l : List Value). writes (choice ∷ []) (pen_at l 32 [])) (sym (append-nil vs)) ∙ g.so [] [] ∙ writes_none (pen_at [] r.room g.w)

  module _ (ok : r.ok ≡ true) where
    pub in_range_law : (in_range vs && s) ≡ true
    unfolding in_range none
    in_range_law =
        let g = p.good ok in
        let e : ((written vs).ok && none (written vs).left) ≡ true = rw (told g) in
        and_true e g.holds

    encoded : encode vs ≡ (p.good ok).w
    unfolding encode
    encoded = ap (λ (q : Pen). q.out) (told (p.good ok))

    long : length (encode vs) ≡ 8 * size vs
    long = written_whole vs (ap (λ (q : Pen). q.ok) (told (p.good ok)))

    octets_given : 0 + (p.good ok).k ≡ size vs
    octets_given = omega (arith, (p.good ok).whole, ap length encoded, long)

    pub place : least r.at ≡ least (size vs)
    place = (p.good ok).to ∙ ap least octets_given

    pub inked : Octets o → size vs ≤ 512 → size vs ≤ length o → (length o' ≡ length o) × (string_at o' 0 (size vs) ≡ encoded_octets vs)
    unfolding encoded_octets
    inked h a b =
        let g = p.good ok in
        let x = octets (size vs) (encode vs) in
        let small : Bits (encode vs) = rw encoded g.small in
        let n : length x ≡ size vs = length_octets (size vs) (encode vs) in
        let w = octets_given in
        let e : o' ≡ put_bits o 0 (bits x) = g.ink h (omega arith) (omega arith) ∙ ap (put_bits o 0) (sym encoded ∙ sym (bits_octets (size vs) (encode vs) small long)) in (
          ap length e ∙ length_put o 0 (bits x),
          ap (λ (l : List ℕ). string_at l 0 (size vs)) e ∙ ap (string_at (put_bits o 0 (bits x)) 0) (sym n)
              ∙ string_put o 0 x (octets_small (size vs) (encode vs) small) (omega arith),
        )

  pub out_of_range : r.ok ≡ false → (in_range vs && s) ≡ false
  unfolding in_range
  out_of_range h = told_bad (p.bad h refl)
    where
      told_bad : (s ≡ false) ⊎ Stops (choice ∷ []) 32 vs → (((written vs).ok && none (written vs).left) && s) ≡ false
      told_bad (inl x) = and_right ((written vs).ok && none (written vs).left) x
      told_bad (inr x) = and_left s (and_left (none (written vs).left) (stopped x))
        where
          stopped : Stops (choice ∷ []) 32 vs → (written vs).ok ≡ false
          stopped x = unfold written writes in (ap (λ (l : List Value). (writes (choice ∷ []) (pen_at l 32 [])).ok) (sym (append-nil vs)) ∙ x.so [] [])

-- ---- the answers

module _ (s : List ℕ) (m : Message) (es : List Entry) (rs : List Row) (out : List ℕ) where
  abbrev vs : List Value
  vs = values_of s m es rs

  pub refusal_23 : well_formed s m es rs ≡ false → write_refusal s m es rs (length out) ≡ 23
  unfolding write_refusal first_of
  refusal_23 h = rw h

  pub refusal_21 : well_formed s m es rs ≡ true → 512 < size vs → write_refusal s m es rs (length out) ≡ 21
  unfolding write_refusal first_of
  refusal_21 h k = rw (h, lt-ltb 512 (size vs) k)

  refusal_22 : well_formed s m es rs ≡ true → size vs ≤ 512 → length out < size vs → write_refusal s m es rs (length out) ≡ 22
  unfolding write_refusal first_of
  refusal_22 h k l = rw (h, le-ltb 512 (size vs) k, lt-ltb (length out) (size vs) l)

  refusal_0 : well_formed s m es rs ≡ true → size vs ≤ 512 → size vs ≤ length out → write_refusal s m es rs (length out) ≡ 0
  unfolding write_refusal first_of
  refusal_0 h k l = rw (h, le-ltb 512 (size vs) k, le-ltb (length out) (size vs) l)

  abbrev Told : Answer → List ℕ → Type 0
  Told a o = (a ≡ write_answer s m es rs (length out)) × (o ≡ write_output s m es rs out)

  module _ {r : Quill} {o o' : List ℕ} (p : Puts (sound (length s) m es rs && rows_fit m es) (choice ∷ []) start_quill r o o' (values_of s m es rs)) where
    formed : r.ok ≡ true → well_formed s m es rs ≡ true
    unfolding well_formed
    formed h = in_range_law p h

    pub tells : r.ok ≡ well_formed s m es rs
    unfolding well_formed
    tells = by_cases r.ok (λ h. h ∙ sym (in_range_law p h)) (λ h. h ∙ sym (out_of_range p h))

    pub writes_23 : not r.ok ≡ true → Told (refused 23) out
    unfolding well_formed write_answer write_output answered
    writes_23 h = let e = refusal_23 (out_of_range p (not-true r.ok h)) in (rw e, rw e)

    module _ (ok : not r.ok ≡ false) where
      is_ok : r.ok ≡ true
      is_ok = not-false r.ok ok

      far_is : 512 < r.at → 512 < size vs
      far_is h = by_cases (ltb (size vs) far) (λ t. near (ltb-true (size vs) far t)) (λ t. omega (arith, ltb-false (size vs) far t))
        where
          near : size vs < far → 512 < size vs
          near t = omega (arith, near_is r.at (size vs) (place p is_ok) t)

      at_is : r.at ≤ 512 → r.at ≡ size vs
      at_is h = sym (near_is (size vs) r.at (sym (place p is_ok)) (omega arith))

      pub writes_21 : 512 < r.at → Told (refused_at 21 512) out
      unfolding write_answer write_output answered
      writes_21 h = let e = refusal_21 (formed is_ok) (far_is h) in (rw e, rw e)

      pub writes_22 : r.at ≤ 512 → length out < r.at → Told (refused 22) out
      unfolding write_answer write_output answered
      writes_22 h k = let a = at_is h in let e = refusal_22 (formed is_ok) (omega arith) (omega arith) in (rw e, rw e)

      -- the page is as long as the longest message, and the message is copied from its front
      pub writes_octets : r.at ≤ 512 → r.at ≤ length out → Octets o → length o ≡ 512 → {out' : List ℕ} → out' ≡ copy_string o' 0 r.at out 0
          → Told (so-many r.at) out'
      unfolding write_answer write_output answered
      writes_octets h k octs page d =
          let a = at_is h in
          let e = refusal_0 (formed is_ok) (omega arith) (omega arith) in
          let i = inked p is_ok octs (omega arith) (omega arith) in
          let l = i.0 in (
            rw (e, a),
            rw e (d ∙ copied o' out r.at (omega arith) k ∙ ap (λ (n : ℕ). string_at o' 0 n ++ drop n out) a ∙ ap (λ (x : List ℕ). x ++ drop (size vs) out) i.1),
          )
