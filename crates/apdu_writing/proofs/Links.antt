-- BST and VST: numbers of two and four octets, configuration, the part before the lists, and the whole.
-- Assumes nothing.
use Prim.Native.Nat.{ℕ, ◌+◌, ◌*◌, ◌<◌}
use mathlib.Core.Path.{◌≡◌, refl, ap, sym, subst, ◌∙◌}
use mathlib.Core.List.{List, [], ◌∷◌, ◌++◌}
use mathlib.Core.Bool.{Bool, true, false, ◌&&◌, not}
use native.Mathlib.Omega.{arith}
use denote.Enum.Declared as Declared
use lib.ListN.{length, take, drop}
use lib.Dec.{T, ltb, leb}
use mir.Val.{has_key}
use types.Run.{OneOf, miss}
use borrow.Author.Tests.{ltb-true}
use Rattle.refusals.specs.Check.{first_of}
use Rattle.refusals.proofs.Tests.{and_right}
use Rattle.bits.specs.Bits.{write_field}
use Rattle.bits.specs.Strings.{is_inside}
use Rattle.apdu_format.specs.Limits.{most_rows}
use Rattle.apdu_format.specs.Component.{choice, integer, fixed, class, entry_count, id_count}
use Rattle.apdu_format.specs.Table.{layout_of}
use Rattle.apdu_format.specs.Rules.{shape, checks_of, brings, announced, present, when, is_set}
use Rattle.apdu_format.specs.Reading.{fields, numbers_of, sum}
use Rattle.apdu_format.specs.Writing.{fits, is_value, fields_fit}
use Rattle.apdu_format.proofs.Tests.{both}
use Rattle.apdu.specs.declared.lists.Row.{Row}
use Rattle.apdu.specs.declared.lists.Entry.{Entry}
use Rattle.apdu.specs.declared.records.Bst.{Bst}
use Rattle.apdu.specs.declared.records.Vst.{Vst}
use Rattle.apdu.specs.declared.records.Message.{Message}
use Rattle.apdu.specs.declared.records.Message.TheVariants as kind
use Rattle.apdu.specs.contracts.records.Message as message
use Rattle.apdu.specs.Values.{bit_of, num, if, id_list, rows_of, bst_values, vst_values}
use Rattle.apdu.proofs.Laws.{and_unit, own_sound}
use Rattle.apdu.specs.Sound.{sound_if, entries_sound, bst_sound, vst_sound, rows_present, rows_fit}
use Rattle.apdu_writing.specs.declared.quill.Quill.{Quill}
use Rattle.apdu_writing.specs.declared.link.LinkFront.{LinkFront}
use Rattle.apdu_writing.specs.Quill.{Put, Moves, Puts}
use Rattle.apdu_writing.specs.Applications.{list_rows, Lists}
use Rattle.apdu_writing.specs.Link.{bst_front, vst_front, configured, FrontPut, ByKind, LinkFrontPut, LinkTailPut, LinkPut}
use Rattle.apdu_writing.proofs.Chains.{nothing, then, before, and_then}
use Rattle.apdu_writing.proofs.Leaves.{packed, leaf, in_number}
use Rattle.apdu_writing.proofs.Leads.{lead_by, is_set_law, bit_fits}

-- ---- numbers of whole octets

word_range : (n room : ℕ) → ltb n 65536 ≡ is_value (fixed 2) room (fields (n ∷ []))
unfolding is_value fits shape fields_fit checks_of first_of numbers_of
word_range n room = sym (and_unit (ltb n 65536 && true) ∙ and_unit (ltb n 65536))

pub word_by : (n : ℕ) {c r : Quill} {o o' : List ℕ} → Put 2 (ltb n 65536) c r (write_field o (8 * c.at) 16 n) o o' → Puts true (fixed 2 ∷ []) c r o o' (fields (n ∷ []) ∷ [])
unfolding brings announced numbers_of sum
word_by n {c} {r} {o} p =
    leaf (fixed 2) (fields (n ∷ [])) p
    (in_number (fixed 2) (16 ∷ []) (n ∷ []) n (ltb n 65536) c.room o (8 * c.at) (unfold shape in refl) (omega arith) (word_range n c.room) (λ g. unfold packed in omega arith)) refl

time_range : (n room : ℕ) → ltb n 4294967296 ≡ is_value (fixed 4) room (fields (n ∷ []))
unfolding is_value fits shape fields_fit checks_of first_of numbers_of
time_range n room = sym (and_unit (ltb n 4294967296 && true) ∙ and_unit (ltb n 4294967296))

pub time_by : (n : ℕ) {c r : Quill} {o o' : List ℕ} → Put 4 (ltb n 4294967296) c r (write_field o (8 * c.at) 32 n) o o' → Puts true (fixed 4 ∷ []) c r o o' (fields (n ∷ []) ∷ [])
unfolding brings announced numbers_of sum
time_by n {c} {r} {o} p =
    leaf (fixed 4) (fields (n ∷ [])) p
    (in_number (fixed 4) (32 ∷ []) (n ∷ []) n (ltb n 4294967296) c.room o (8 * c.at) (unfold shape in refl) (omega arith) (time_range n c.room) (λ g. unfold packed in omega arith)) refl

-- ---- a configuration

module _ (p : Bool) (n : ℕ) where
  class_range : (room : ℕ) → ltb n 32768 ≡ is_value class room (fields (bit_of p ∷ n ∷ []))
  unfolding is_value fits shape fields_fit checks_of first_of numbers_of
  class_range room = rw (bit_fits p) (sym (and_unit (ltb n 32768 && true) ∙ and_unit (ltb n 32768)))

  class_packed : {x z : ℕ} → x ≡ bit_of p → (n < 32768 → z ≡ n) → ltb n 32768 ≡ true → 32768 * x + z ≡ packed (1 ∷ 15 ∷ []) (bit_of p ∷ n ∷ [])
  unfolding packed sum
  class_packed q f g = let h = f (ltb-true n 32768 g) in omega arith

  class_lead : {x z : ℕ} {c r : Quill} {o o' : List ℕ} → x ≡ bit_of p → (n < 32768 → z ≡ n) → Put 2 (ltb n 32768) c r (write_field o (8 * c.at) 16 (32768 * x + z)) o o'
      → Moves true (class ∷ []) ((fixed 2 ∷ []) ++ when p (fixed 2 ∷ [])) c r o o' (fields (bit_of p ∷ n ∷ []) ∷ [])
  unfolding brings announced numbers_of sum
  class_lead {x} {z} {c} {r} {o} q f m =
      rw (← brought)
      (leaf class (fields (bit_of p ∷ n ∷ [])) m
      (in_number class (1 ∷ 15 ∷ []) (bit_of p ∷ n ∷ []) (32768 * x + z) (ltb n 32768) c.room o (8 * c.at) (unfold shape in refl) (omega arith) (class_range c.room) (class_packed q f)) refl)
    where
      brought : (fixed 2 ∷ []) ++ when (is_set (bit_of p ∷ n ∷ []) 0) (fixed 2 ∷ []) ≡ (fixed 2 ∷ []) ++ when p (fixed 2 ∷ [])
      brought = rw (is_set_law p)

  pub configuration_by : (maker status : ℕ) {x z : ℕ} {c d e r : Quill} {o o₁ o₂ o₃ : List ℕ} → x ≡ bit_of p → (n < 32768 → z ≡ n)
      → Put 2 (ltb n 32768) c d (write_field o (8 * c.at) 16 (32768 * x + z)) o o₁ → Puts true (fixed 2 ∷ []) d e o₁ o₂ (fields (maker ∷ []) ∷ [])
      → Puts true (when p (fixed 2 ∷ [])) e r o₂ o₃ (if p (fields (status ∷ []) ∷ []))
      → Puts true (class ∷ []) c r o o₃ (fields (bit_of p ∷ n ∷ []) ∷ fields (maker ∷ []) ∷ if p (fields (status ∷ []) ∷ []))
  configuration_by maker status q f m a b = then (class_lead q f m) (and_then a b)

-- ---- the part before the lists

module _ (m : Vst) where
  vst_lead : {z : ℕ} {c r : Quill} {o o' : List ℕ} → (m.fill < 16 → z ≡ m.fill) → Put 1 (ltb m.fill 16) c r (write_field o (8 * c.at) 8 (16 * 9 + z)) o o'
      → Moves true (choice ∷ []) ((integer ∷ []) ++ ((entry_count ∷ []) ++ ((class ∷ []) ++ []))) c r o o' (fields (9 ∷ []) ∷ fields (m.fill ∷ []) ∷ [])
  unfolding sum present layout_of
  vst_lead {z} f p = lead_by 9 (4 ∷ []) (m.fill ∷ []) (16 * 9 + z) (ltb m.fill 16) 1 (omega arith) refl refl (omega arith) fit value p
    where
      value : ltb m.fill 16 ≡ true → 16 * 9 + z ≡ packed (4 ∷ 4 ∷ []) (9 ∷ m.fill ∷ [])
      value g = let h = f (ltb-true m.fill 16 g) in unfold packed sum in omega arith

      fit : ltb m.fill 16 ≡ fields_fit (4 ∷ []) (m.fill ∷ [])
      fit = unfold fields_fit in sym (and_unit (ltb m.fill 16))

  pub vst_front_law : {z : ℕ} {c d e : Quill} {o o₁ o₂ : List ℕ} → (m.fill < 16 → z ≡ m.fill) → Put 1 (ltb m.fill 16) c d (write_field o (8 * c.at) 8 (16 * 9 + z)) o o₁ → Puts true (integer ∷ []) d e o₁ o₂ (num m.profile ∷ [])
      → FrontPut m.applications false 0 (class ∷ []) c (record { quill = e; first = m.applications; second = 0; two = false }) o o₂ (vst_front m)
  vst_front_law f p a = record { so = then (vst_lead f p) (before (entry_count ∷ class ∷ []) a); first = refl; two = refl; second = refl }

module _ (m : Bst) where
  abbrev fs : List ℕ
  fs = bit_of m.has_others ∷ m.manufacturer ∷ m.individual ∷ []

  bst_fit : (ltb m.manufacturer 65536 && ltb m.individual 134217728) ≡ fields_fit (1 ∷ 16 ∷ 27 ∷ []) fs
  unfolding fields_fit
  bst_fit = rw (bit_fits m.has_others, and_unit (ltb m.individual 134217728))

  bst_packed : {x y z : ℕ} → x ≡ bit_of m.has_others → (m.manufacturer < 65536 → y ≡ m.manufacturer) → (m.individual < 134217728 → z ≡ m.individual)
      → (ltb m.manufacturer 65536 && ltb m.individual 134217728) ≡ true → 17592186044416 * 8 + 8796093022208 * x + 134217728 * y + z ≡ packed (4 ∷ 1 ∷ 16 ∷ 27 ∷ []) (8 ∷ fs)
  unfolding packed sum
  bst_packed p q f g =
      let h = both (ltb m.manufacturer 65536) (ltb m.individual 134217728) g in
      let a = q (ltb-true m.manufacturer 65536 h.0) in
      let b = f (ltb-true m.individual 134217728 h.1) in
      omega arith

  bst_present : present fs (layout_of 8).body
      ≡ (fixed 4 ∷ []) ++ ((integer ∷ []) ++ ((entry_count ∷ []) ++ (when m.has_others (entry_count ∷ []) ++ ((id_count ∷ []) ++ []))))
  unfolding present layout_of
  bst_present = rw (is_set_law m.has_others)

  module _ {x y z : ℕ} {c d : Quill} {o o₁ : List ℕ} (p : x ≡ bit_of m.has_others) (q : m.manufacturer < 65536 → y ≡ m.manufacturer) (g : m.individual < 134217728 → z ≡ m.individual)
      (put : Put 6 (ltb m.manufacturer 65536 && ltb m.individual 134217728) c d (write_field o (8 * c.at) 48 (17592186044416 * 8 + 8796093022208 * x + 134217728 * y + z)) o o₁) where
    bst_lead : Moves true (choice ∷ []) ((fixed 4 ∷ []) ++ ((integer ∷ []) ++ ((entry_count ∷ []) ++ (when m.has_others (entry_count ∷ []) ++ ((id_count ∷ []) ++ []))))) c d o o₁ (fields (8 ∷ []) ∷ fields fs ∷ [])
    bst_lead =
        rw (← bst_present)
        (lead_by 8 (1 ∷ 16 ∷ 27 ∷ []) fs (17592186044416 * 8 + 8796093022208 * x + 134217728 * y + z) (ltb m.manufacturer 65536 && ltb m.individual 134217728) 6 (omega arith)
        (unfold layout_of in refl) (unfold sum in refl) (omega arith) bst_fit (bst_packed p q g) put)

    pub bst_front_law : {e f : Quill} {o₂ o₃ : List ℕ} → Puts true (fixed 4 ∷ []) d e o₁ o₂ (fields (m.time ∷ []) ∷ []) → Puts true (integer ∷ []) e f o₂ o₃ (num m.profile ∷ [])
        → FrontPut m.mandatory m.has_others m.others (id_count ∷ []) c (record { quill = f; first = m.mandatory; second = m.others; two = m.has_others }) o o₃ (bst_front m)
    bst_front_law clock profile =
        record { so = then bst_lead (before ((entry_count ∷ []) ++ (when m.has_others (entry_count ∷ []) ++ (id_count ∷ []))) (and_then clock profile)); first = refl; two = refl; second = refl }

-- ---- the whole

-- the limit of rows is kept with the second list, and is said behind all of them
limit_behind : (a b fits d : Bool) → (a && ((b && fits) && (d && true))) ≡ ((a && (b && d)) && fits)
limit_behind false b fits d = refl
limit_behind true false fits d = refl
limit_behind true true true d = refl
limit_behind true true false d = sym (and_right d refl)

module _ (s : List ℕ) (m : Vst) (es : List Entry) (rs : List Row) where
  vst_by : {c h r : Quill} {f : LinkFront} {o o₁ o₂ o₃ : List ℕ} → FrontPut m.applications false 0 (class ∷ []) c f o o₁ (vst_front m)
      → Lists s es f.first f.two f.second rs f.quill h o₁ o₂ → Puts true (class ∷ []) h r o₂ o₃ (configured m)
      → Puts (vst_sound (length s) m es rs && rows_fit (kind.Vst m) es) (choice ∷ []) c r o o₃ (fields (9 ∷ []) ∷ vst_values s m es rs)
  unfolding vst_sound vst_values rows_fit rows_present
  vst_by {h = h} {r = r} {f = f} {o₁ = o₁} {o₂ = o₂} {o₃ = o₃} a b g =
      let l : Lists s es m.applications false 0 rs f.quill h o₁ o₂ = rw (a.first, a.two, a.second) at b in
      let z : list_rows es m.applications false 0 ≡ rows_present (kind.Vst m) es = omega arith in
      let e : leb (list_rows es m.applications false 0) most_rows ≡ rows_fit (kind.Vst m) es = ap (λ (n : ℕ). leb n most_rows) z in
      rw (← e, ← and_unit (leb (list_rows es m.applications false 0) most_rows)) (then a.so (and_then l.first (and_then l.second (and_then g (nothing [] r o₃)))))

module _ (s : List ℕ) (m : Bst) (es : List Entry) (rs : List Row) where
  abbrev first : List Entry
  first = take m.mandatory es

  abbrev S₁ : Bool
  S₁ = entries_sound (length s) first rs

  abbrev S₂ : Bool
  S₂ = sound_if m.has_others (entries_sound (length s) (take m.others (drop m.mandatory es)) (drop (rows_of first) rs))

  abbrev S₃ : Bool
  S₃ = is_inside (length s) m.profiles m.profile_count

  bst_by : {c h r : Quill} {f : LinkFront} {o o₁ o₂ o₃ : List ℕ}
      → FrontPut m.mandatory m.has_others m.others (id_count ∷ []) c f o o₁ (bst_front m)
      → Lists s es f.first f.two f.second rs f.quill h o₁ o₂ → Puts S₃ (id_count ∷ []) h r o₂ o₃ (id_list s m.profiles m.profile_count)
      → Puts (bst_sound (length s) m es rs && rows_fit (kind.Bst m) es) (choice ∷ []) c r o o₃ (fields (8 ∷ []) ∷ bst_values s m es rs)
  unfolding bst_sound bst_values rows_fit rows_present
  bst_by {h = h} {r = r} {f = f} {o₁ = o₁} {o₂ = o₂} {o₃ = o₃} a b g =
      let l : Lists s es m.mandatory m.has_others m.others rs f.quill h o₁ o₂ = rw (a.first, a.two, a.second) at b in
      rw (← own_sound (length s) first rs, ← limit_behind S₁ S₂ (rows_fit (kind.Bst m) es) S₃) (then a.so (and_then l.first (and_then l.second (and_then g (nothing [] r o₃)))))

pub link_by : (s : List ℕ) (m : Message) (es : List Entry) (rs : List Row) {c h r : Quill} {f : LinkFront} {o o₁ o₂ o₃ : List ℕ} → LinkFrontPut m c f o o₁
    → Lists s es f.first f.two f.second rs f.quill h o₁ o₂ → LinkTailPut s m h r o₂ o₃ → LinkPut s m es rs c r o o₃
link_by s m es rs a b g = record { bst = λ x e. bst_by s x es rs (a.bst x e) b (g.bst x e); vst = λ x e. vst_by s x es rs (a.vst x e) b (g.vst x e) }

-- ---- by kind

module _ {P : Bst → Type 0} {Q : Vst → Type 0} {m : Message} where
  pub is_bst : {x : Bst} → m ≡ kind.Bst x → P x → ByKind P Q m
  is_bst {x = x} e p =
      record {
        bst = λ y f. let g : x ≡ y = cc in subst P g p;
        vst = λ y f. let z : ◌≡◌ {A = ℕ} 0 1 = cc in absurd (omega arith);
      }

  pub is_vst : {x : Vst} → m ≡ kind.Vst x → Q x → ByKind P Q m
  is_vst {x = x} e q =
      record {
        bst = λ y f. let z : ◌≡◌ {A = ℕ} 0 1 = cc in absurd (omega arith);
        vst = λ y f. let g : x ≡ y = cc in subst Q g q;
      }

  -- the tag is one of another kind
  pub is_other : OneOf (0 ∷ 1 ∷ 2 ∷ 3 ∷ 4 ∷ 5 ∷ 6 ∷ 7 ∷ []) (Declared.tag_of message.the_type m) → ByKind P Q m
  is_other o = record { bst = λ y f. absurd (not_tag 8 (ap (Declared.tag_of message.the_type) f) tt); vst = λ y f. absurd (not_tag 9 (ap (Declared.tag_of message.the_type) f) tt) }
    where
      not_tag : (k : ℕ) → Declared.tag_of message.the_type m ≡ k → T (not (has_key (0 ∷ 1 ∷ 2 ∷ 3 ∷ 4 ∷ 5 ∷ 6 ∷ 7 ∷ []) k)) → ⊥
      not_tag k e n = miss (0 ∷ 1 ∷ 2 ∷ 3 ∷ 4 ∷ 5 ∷ 6 ∷ 7 ∷ []) k n (subst (OneOf (0 ∷ 1 ∷ 2 ∷ 3 ∷ 4 ∷ 5 ∷ 6 ∷ 7 ∷ [])) e o)
