-- The search for a profile and for the pair, one step at a time.
-- Assumes nothing.
use Rattle.std.proofs.Common.{◌≡◌, ℕ, suc, ◌+◌, ◌-◌, ◌*◌, ◌/◌, ◌%◌, ◌<◌, ◌≤◌, Bool, true, false, ltb, ltb-true, ltb-false, List, [], ◌∷◌, ◌++◌, length, get_or, take, drop, sym, refl, ap, ◌∙◌, ap₂, arith, length-drop, take_all, drop-drop, take-add, eq-eqb, ne_eqb, le-leb}
use borrow.Author.Tests.{lt-leb}
use Rattle.refusals.specs.Check.{pick}
use Rattle.refusals.proofs.Tests.{by_cases}
use Rattle.bits.specs.Bits.{bits, number, field, read_field}
use Rattle.bits.specs.Strings.{string_at}
use Rattle.bits.proofs.Laws.{drop_bits}
use Rattle.apdu.specs.declared.lists.Entry.{Entry}
use Rattle.apdu.specs.declared.records.Bst.{Bst}
use Rattle.apdu.specs.Values.{empty_entry}
use Rattle.initialisation.specs.declared.records.Element.{Element}
use Rattle.initialisation.specs.Elements.{no_element}
use Prim.Native.Nat.{min}
use Rattle.std.specs.Prelude.{Option, None, Some}
use Rattle.initialisation.specs.Offer.{or_else, first_served, offered_by, element_of, pair_of}
use Rattle.initialisation.specs.Searching.{Counts}
use Rattle.initialisation.proofs.Lists.{next_more, next_none}

module _ (es : List Element) (j : ℕ) where
  abbrev at : Element
  at = get_or es j no_element

  module _ (aid : ℕ) where
    module _ (h : j < length es) where
      pub element_here : at.aid ≡ aid → element_of aid (drop j es) ≡ Some at
      unfolding element_of
      element_here e = ap (element_of aid) (next_more no_element es j h) ∙ rw (eq-eqb at.aid aid e)

      pub element_next : (at.aid ≡ aid → ⊥) → element_of aid (drop j es) ≡ element_of aid (drop (j + 1) es)
      unfolding element_of
      element_next e = ap (element_of aid) (next_more no_element es j h) ∙ rw (ne_eqb at.aid aid e)

    pub element_none : length es ≤ j → element_of aid (drop j es) ≡ None
    unfolding element_of
    element_none h = ap (element_of aid) (next_none es j h)

module _ (es : List Element) (os : List Entry) (i : ℕ) where
  abbrev aid : ℕ
  aid = (get_or os i empty_entry).aid

  module _ (h : i < length os) where
    pair_step : pair_of (drop i os) es ≡ or_else (element_of aid es) (pair_of (drop (i + 1) os) es)
    unfolding pair_of
    pair_step = ap (λ (l : List Entry). pair_of l es) (next_more empty_entry os i h)

    pub pair_found : {e : Element} → element_of aid es ≡ Some e → pair_of (drop i os) es ≡ Some e
    pair_found f = pair_step ∙ rw f

    pub pair_next : element_of aid es ≡ None → pair_of (drop i os) es ≡ pair_of (drop (i + 1) os) es
    pair_next f = pair_step ∙ rw f

  pub pair_none : length os ≤ i → pair_of (drop i os) es ≡ None
  unfolding pair_of
  pair_none h = ap (λ (l : List Entry). pair_of l es) (next_none os i h)

-- ---- how many are offered

module _ (bst : Bst) where
  abbrev others : ℕ
  others = pick bst.has_others bst.others 0

  abbrev all : ℕ
  all = bst.mandatory + others

  offered_together : (es : List Entry) → offered_by bst es ≡ take all es
  unfolding offered_by
  offered_together es = ap (λ (l : List Entry). take bst.mandatory es ++ l) (rest bst.has_others) ∙ sym (take-add bst.mandatory others es)
    where
      rest : (h : Bool) → pick h (take bst.others (drop bst.mandatory es)) [] ≡ take (pick h bst.others 0) (drop bst.mandatory es)
      rest true = refl
      rest false = refl

  -- as many as there are, up to the 32 that stand there
  pub counted : {o r k : ℕ} → o ≡ others → r ≡ min (bst.mandatory + o) 18446744073709551615 → k ≡ min r 32 → Counts bst k
  counted {o} {r} {k} e f g = record { few = omega (arith, g); so = λ es n. so es n ∙ sym (offered_together es) }
    where
      below : all < 32 → k ≡ all
      below h = omega (arith, e, f, g)

      above : 32 ≤ all → k ≡ 32
      above h = omega (arith, e, f, g)

      so : (es : List Entry) → length es ≡ 32 → take k es ≡ take all es
      so es n =
          by_cases (ltb all 32) (λ t. ap (λ (i : ℕ). take i es) (below (ltb-true all 32 t)))
          (λ t. let h = ltb-false all 32 t in let i = above h in take_all k es (omega arith) ∙ sym (take_all all es (omega arith)))

-- the pair of those that are offered
pub offered_is : (bst : Bst) (entries : List Entry) (es : List Element) {k : ℕ} → length entries ≡ 32 → Counts bst k
    → pair_of (take k entries) es ≡ pair_of (offered_by bst entries) es
offered_is bst entries es n is = ap (λ (l : List Entry). pair_of l es) (is.so entries n)

-- ---- the profile

-- an octet of a list, read behind the octets before it
pub listed_is : (s : List ℕ) (start i : ℕ) {r : ℕ} → start + 8 * (i + 1) ≤ 8 * length s
    → r ≡ read_field (take (length s - (start / 8 + i)) (drop (start / 8 + i) s)) (start % 8) 8 → r ≡ field s (start + 8 * i) 8
listed_is s start i h e = e ∙ rw whole read
  where
    whole : take (length s - (start / 8 + i)) (drop (start / 8 + i) s) ≡ drop (start / 8 + i) s
    whole = take_all (length s - (start / 8 + i)) (drop (start / 8 + i) s) (omega (arith, length-drop (start / 8 + i) s))

    behind : drop (start % 8) (bits (drop (start / 8 + i) s)) ≡ drop (start + 8 * i) (bits s)
    behind =
        let k : 8 * (start / 8 + i) + start % 8 ≡ start + 8 * i = omega arith in
        rw (← drop_bits (start / 8 + i) s) (drop-drop (start % 8) (8 * (start / 8 + i)) (bits s) ∙ ap (λ (j : ℕ). drop j (bits s)) k)

    read : read_field (drop (start / 8 + i) s) (start % 8) 8 ≡ field s (start + 8 * i) 8
    read = unfold read_field field in ap (number 8) behind

module _ (s : List ℕ) (own start n : ℕ) where
  -- the profiles: its own, and those of the list
  abbrev pub profiles : List ℕ
  profiles = own ∷ string_at s start n

  -- those of the list from one on
  abbrev pub list_from : ℕ → Option ℕ
  list_from i = first_served (string_at s (start + 8 * i) (n - i))

  pub own_served : own ≤ 1 → Some own ≡ first_served profiles
  unfolding first_served
  own_served h = sym (rw (le-leb own 1 h))

  pub list_begun : 1 < own → first_served profiles ≡ list_from 0
  unfolding first_served
  list_begun h =
      let a : start ≡ start + 8 * 0 = omega arith in
      let k : n ≡ n - 0 = omega arith in
      rw (lt-leb own 1 h) (ap₂ (λ (i j : ℕ). first_served (string_at s i j)) a k)

  module _ (i : ℕ) {p : ℕ} (h : i < n) (is : p ≡ field s (start + 8 * i) 8) (so : first_served profiles ≡ list_from i) where
    list_step : first_served profiles ≡ first_served (p ∷ string_at s (start + 8 * (i + 1)) (n - (i + 1)))
    unfolding string_at
    list_step =
        let k : n - i ≡ suc (n - (i + 1)) = omega arith in
        let a : start + 8 * i + 8 ≡ start + 8 * (i + 1) = omega arith in
        so ∙ rw k (ap₂ (λ (q j : ℕ). first_served (q ∷ string_at s j (n - (i + 1)))) (sym is) a)

    pub list_served : p ≤ 1 → Some p ≡ first_served profiles
    unfolding first_served
    list_served k = sym (list_step ∙ rw (le-leb p 1 k))

    pub list_next : 1 < p → first_served profiles ≡ list_from (i + 1)
    unfolding first_served
    list_next k = list_step ∙ rw (lt-leb p 1 k)

  pub list_none : (i : ℕ) → n ≤ i → first_served profiles ≡ list_from i → None ≡ first_served profiles
  unfolding first_served string_at
  list_none i e so = let k : n - i ≡ 0 = omega arith in sym (so ∙ rw k)
