-- What the tests of elements answer, one law for each way out.
-- Assumes nothing.
use Rattle.std.proofs.Common.{◌≡◌, ℕ, ◌+◌, ◌-◌, ◌<◌, ◌≤◌, Bool, true, false, ◌&&◌, List, ◌∷◌, length, get_or, take, drop, sym, ap, ◌∙◌, arith, length-drop, take_all, eq-eqb, ne_eqb}
use Rattle.initialisation.specs.declared.records.Element.{Element}
use Rattle.initialisation.specs.Elements.{no_element, element_sound, none_has, each_sound}
use Rattle.initialisation.proofs.Lists.{next_more, next_none}

module _ (es : List Element) (i : ℕ) where
  abbrev at : Element
  at = get_or es i no_element

  module _ (eid : ℕ) where
    module _ (h : i < length es) where
      has_step : none_has eid (drop i es) ≡ none_has eid (at ∷ drop (i + 1) es)
      has_step = ap (none_has eid) (next_more no_element es i h)

      pub has_it : at.eid ≡ eid → none_has eid (drop i es) ≡ false
      unfolding none_has
      has_it e = has_step ∙ rw (eq-eqb at.eid eid e)

      pub has_next : (at.eid ≡ eid → ⊥) → none_has eid (drop i es) ≡ none_has eid (drop (i + 1) es)
      unfolding none_has
      has_next e = has_step ∙ rw (ne_eqb at.eid eid e)

    pub has_none : length es ≤ i → none_has eid (drop i es) ≡ true
    unfolding none_has
    has_none h = ap (none_has eid) (next_none es i h)

  module _ (octets : ℕ) where
    module _ (h : i < length es) where
      each_step : each_sound octets (drop i es) ≡ (element_sound octets at && (none_has at.eid (drop (i + 1) es) && each_sound octets (drop (i + 1) es)))
      unfolding each_sound
      each_step = ap (each_sound octets) (next_more no_element es i h)

      pub each_bad : element_sound octets at ≡ false → each_sound octets (drop i es) ≡ false
      each_bad a = each_step ∙ rw a

      module _ (a : element_sound octets at ≡ true) {r : Bool} (is : r ≡ none_has at.eid (take (length es - (i + 1)) (drop (i + 1) es))) where
        behind : r ≡ none_has at.eid (drop (i + 1) es)
        behind = is ∙ ap (none_has at.eid) (take_all (length es - (i + 1)) (drop (i + 1) es) (omega (arith, length-drop (i + 1) es)))

        pub each_twice : r ≡ false → each_sound octets (drop i es) ≡ false
        each_twice b = each_step ∙ rw (a, sym behind ∙ b)

        pub each_next : r ≡ true → each_sound octets (drop i es) ≡ each_sound octets (drop (i + 1) es)
        each_next b = each_step ∙ rw (a, sym behind ∙ b)

    pub each_none : length es ≤ i → each_sound octets (drop i es) ≡ true
    unfolding each_sound
    each_none h = ap (each_sound octets) (next_none es i h)
