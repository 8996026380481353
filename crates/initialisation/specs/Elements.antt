-- The tag's own elements (01, "The tag's link"): how many, with which eids and AIDs, and where their marks lie.
-- Assumes nothing.
use Rattle.std.specs.Prelude.{ℕ, ◌*◌, Bool, true, not, ◌&&◌, List, [], ◌∷◌, take, ◌==◌, nat_le}
use Rattle.bits.specs.Strings.{is_inside}
use Rattle.initialisation.specs.declared.records.Element.{Element}
use Rattle.initialisation.specs.declared.records.Elements.{Elements}

-- ---- limits

abbrev pub most_elements : ℕ
most_elements = 8

abbrev pub largest_eid : ℕ
largest_eid = 127

abbrev pub largest_aid : ℕ
largest_aid = 31

abbrev pub longest_mark : ℕ
longest_mark = 127

-- ---- soundness

-- eid 1 to 127, AID up to 31, a mark of up to 127 octets inside so many lent ones: octet k of them is bit place 8k
unfoldable pub element_sound : ℕ → Element → Bool
element_sound octets e =
    nat_le 1 e.eid
    && (nat_le e.eid largest_eid && (nat_le e.aid largest_aid && (nat_le e.mark_length longest_mark && is_inside octets (8 * e.mark) e.mark_length)))

unfoldable pub none_has : ℕ → List Element → Bool
none_has eid [] = true
none_has eid (e ∷ es) = not (e.eid == eid) && none_has eid es

-- each is sound, and none behind it has its eid
unfoldable pub each_sound : ℕ → List Element → Bool
each_sound octets [] = true
each_sound octets (e ∷ es) = element_sound octets e && (none_has e.eid es && each_sound octets es)

-- the elements that count
abbrev pub own_elements : Elements → List Element
own_elements own = take own.count own.list

unfoldable pub elements_sound : ℕ → Elements → Bool
elements_sound octets own = nat_le own.count most_elements && each_sound octets (own_elements own)

-- what stands past the end of a list
abbrev pub no_element : Element
no_element = record { eid = 0; aid = 0; mark = 0; mark_length = 0 }
