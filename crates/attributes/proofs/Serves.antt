-- Small tests of a request: ECHO, and the tag's credentials.
-- Assumes nothing.
use Prim.Native.Nat.{ℕ}
use mathlib.Core.Path.{◌≡◌, ◌∙◌}
use mathlib.Core.Bool.{Bool, true, false, not}
use mathlib.Core.List.{List}
use lib.Dec.{eqb}
use lib.ListN.{length}
use borrow.Author.Tests.{eq-eqb, ne_eqb, not-true, not-false}
use Rattle.bits.specs.Strings.{same_string}
use Rattle.apdu.specs.declared.records.Request.{Request}
use Rattle.attributes.specs.Serving.{is_echo, exact}

module _ (m : Request) where
  pub other_action : (m.service ≡ 15 → ⊥) → false ≡ is_echo m
  unfolding is_echo
  other_action h = rw (ne_eqb m.service 15 h)

  module _ (a : m.service ≡ 15) where
    pub other_eid : (m.eid ≡ 0 → ⊥) → false ≡ is_echo m
    unfolding is_echo
    other_eid h = rw (eq-eqb m.service 15 a, ne_eqb m.eid 0 h)

    module _ (b : m.eid ≡ 0) where
      pub no_mode : not m.mode ≡ true → false ≡ is_echo m
      unfolding is_echo
      no_mode h = rw (eq-eqb m.service 15 a, eq-eqb m.eid 0 b, not-true m.mode h)

      module _ (c : not m.mode ≡ false) where
        pub no_parameter : not m.has_parameter ≡ true → false ≡ is_echo m
        unfolding is_echo
        no_parameter h = rw (eq-eqb m.service 15 a, eq-eqb m.eid 0 b, not-false m.mode c, not-true m.has_parameter h)

        pub by_kind : not m.has_parameter ≡ false → eqb m.kind 2 ≡ is_echo m
        unfolding is_echo
        by_kind h = rw (eq-eqb m.service 15 a, eq-eqb m.eid 0 b, not-false m.mode c, not-false m.has_parameter h)

module _ (s credentials : List ℕ) (given : Bool) (start n : ℕ) where
  pub none_given : not given ≡ true → false ≡ exact s credentials given start n
  unfolding exact
  none_given h = rw (not-true given h)

  module _ (g : not given ≡ false) where
    pub other_length : (n ≡ length credentials → ⊥) → false ≡ exact s credentials given start n
    unfolding exact
    other_length h = rw (not-false given g, ne_eqb n (length credentials) h)

    pub as_long : n ≡ length credentials → {r : Bool} → r ≡ same_string s start credentials 0 n → r ≡ exact s credentials given start n
    unfolding exact
    as_long h e = e ∙ rw (not-false given g, eq-eqb n (length credentials) h)
