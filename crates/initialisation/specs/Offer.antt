-- What the tag takes of a BST (01, "The tag's link"): a profile, and the first pair of an offered application and an element of its own.
-- Assumes nothing.
use Rattle.std.specs.Prelude.{ℕ, Option, None, Some, List, [], ◌∷◌, ◌++◌, take, drop, ◌==◌, nat_le}
use Rattle.refusals.specs.Check.{pick}
use Rattle.bits.specs.Strings.{string_at}
use Rattle.apdu.specs.declared.lists.Entry.{Entry}
use Rattle.apdu.specs.declared.records.Bst.{Bst}
use Rattle.initialisation.specs.declared.records.Element.{Element}

-- the first of two that is found
abbrev pub or_else : {A : Type 0} → Option A → Option A → Option A
or_else None b = b
or_else (Some x) b = Some x

-- ---- the profile

-- profiles 0 and 1 are served
abbrev pub largest_profile : ℕ
largest_profile = 1

-- the first of a list that is served
unfoldable pub first_served : List ℕ → Option ℕ
first_served [] = None
first_served (p ∷ ps) = pick (nat_le p largest_profile) (Some p) (first_served ps)

-- the BST's profile if it is served, else the first such in its list, which stands in the lent octets s
unfoldable pub profile_of : List ℕ → Bst → Option ℕ
profile_of s bst = first_served (bst.profile ∷ string_at s bst.profiles bst.profile_count)

-- ---- the pair

-- the mandatory applications, then the others if they are there
unfoldable pub offered_by : Bst → List Entry → List Entry
offered_by bst entries =
    take bst.mandatory entries ++ pick bst.has_others (take bst.others (drop bst.mandatory entries)) []

-- of the elements, in order, the first with this AID
unfoldable pub element_of : ℕ → List Element → Option Element
element_of aid [] = None
element_of aid (e ∷ es) = pick (e.aid == aid) (Some e) (element_of aid es)

-- going through the offered applications, and for each through the elements, the first pair with equal AID is taken: its element
unfoldable pub pair_of : List Entry → List Element → Option Element
pair_of [] es = None
pair_of (o ∷ os) es = or_else (element_of o.aid es) (pair_of os es)
