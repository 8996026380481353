-- One slot of the table: where a pair stands, and what changing that slot does to the views.
use mathlib.Core.Path.{◌≡◌, refl, sym, ap, ◌∙◌}
use mathlib.Core.Logic.{◌⊎◌, inl, inr}
use mathlib.Core.Bool.{Bool, true, false, not, ◌&&◌, false≢true, true≢false, and_assoc, and-false}
use mathlib.Core.List.{List, [], ◌∷◌, ◌++◌, append_assoc}
use Prim.Native.Nat.{ℕ, zero, suc, ◌+◌, ◌-◌, ◌*◌, ◌≤◌, ◌<◌}
use native.Mathlib.Omega.{arith}
use native.Mathlib.Numerals.{add-one}
use lib.ListN.{length, take, drop, get_or, set, length-drop}
use lib.Seq.{paste, take-add, drop-drop, take_at, drop_at, length-take-le, take-take, take-paste, drop-paste, take-length, set_out}
use lib.Dec.{eqb}
use borrow.Author.Tests.{eqb-true}
use Rattle.refusals.specs.Check.{pick}
use Rattle.slots.specs.declared.Slot.{Slot}
use Rattle.slots.specs.Slots.{free, is_busy, bit_of, index_of}
use Rattle.slots.specs.Model.{sound_slot, all_sound, shares_pair, none_like, distinct, count_busy, first_free}
use Rattle.slots.proofs.Tests.{and_l, and_r, and_i, not_t, eqb_comm}
use Rattle.slots.proofs.SoundLaws.{held_small}
use Rattle.reassembly.specs.Ledger.{those}
use Rattle.reassembly.proofs.Perm.{Perm, skip, swap, trans, perm_refl}
use Rattle.reassembly.proofs.Views.{View, view_of, views}

-- ---- where a pair stands

abbrev pub is_pair : Slot → View → Bool
is_pair k v = eqb v.lid k.lid && eqb v.number k.number

abbrev pub others : Slot → List View → List View
others k l = those (λ v. not (is_pair k v)) l

-- the slot j is free or the pair's, and no other slot is the pair's
pub data At (k : Slot) : List Slot → ℕ → Type 0 where
  here : {p : Slot} {slots : List Slot} → (is_busy p ≡ false) ⊎ (shares_pair k p ≡ true) → none_like k slots ≡ true → At k (p ∷ slots) 0
  there : {p : Slot} {slots : List Slot} {j : ℕ} → shares_pair k p ≡ false → At k slots j → At k (p ∷ slots) (suc j)

pub at_lt : {k : Slot} {slots : List Slot} {j : ℕ} → At k slots j → j < length slots
at_lt (here f n) = omega arith
at_lt (there s a) = omega (arith, at_lt a)

key_view : (k p : Slot) (store : List ℕ) → shares_pair k p ≡ is_busy p && is_pair k (view_of p store)
key_view k p store = and_assoc (is_busy p) _ _

-- the view of a slot that is not the pair's stays
module _ (k p : Slot) (store : List ℕ) (l : List View) where
  stays : shares_pair k p ≡ false → others k (pick (is_busy p) (view_of p store ∷ l) l) ≡ pick (is_busy p) (view_of p store ∷ others k l) (others k l)
  unfolding those
  stays s = go (is_busy p) (sym (key_view k p store) ∙ s)
    where
      go : (b : Bool) → b && is_pair k (view_of p store) ≡ false → others k (pick b (view_of p store ∷ l) l) ≡ pick b (view_of p store ∷ others k l) (others k l)
      go true e = rw e
      go false e = refl

  goes : (is_busy p ≡ false) ⊎ (shares_pair k p ≡ true) → others k (pick (is_busy p) (view_of p store ∷ l) l) ≡ others k l
  unfolding those
  goes (inl f) = rw f
  goes (inr s) =
      let e = sym (key_view k p store) ∙ s in
      let b = and_l (is_busy p) (is_pair k (view_of p store)) e in
      let c = and_r (is_busy p) (is_pair k (view_of p store)) e in
      rw (b, c)

pub none_others : (k : Slot) (slots : List Slot) (store : List ℕ) → none_like k slots ≡ true → others k (views slots store) ≡ views slots store
unfolding none_like views those
none_others k [] store h = refl
none_others k (p ∷ slots) store h =
    stays k p store (views slots (drop 512 store)) (not_t (shares_pair k p) (and_l (not (shares_pair k p)) (none_like k slots) h))
    ∙ ap (λ (l : List View). pick (is_busy p) (view_of p store ∷ l) l) (none_others k slots (drop 512 store) (and_r (not (shares_pair k p)) (none_like k slots) h))

-- the slot is freed
pub clear : {k : Slot} {slots : List Slot} {j : ℕ} (store : List ℕ) → At k slots j → views (set slots j free) store ≡ others k (views slots store)
unfolding views those
clear {k} store (here {p} {slots} f n) = sym (goes k p store (views slots (drop 512 store)) f ∙ none_others k slots (drop 512 store) n)
clear {k} store (there {p} {slots} {j} s a) =
    ap (λ (l : List View). pick (is_busy p) (view_of p store ∷ l) l) (clear (drop 512 store) a)
    ∙ sym (stays k p store (views slots (drop 512 store)) s)

-- ---- a part of the store is written

module _ (store : List ℕ) (m : ℕ) (le : m ≤ length store) (a : ℕ) (s : List ℕ) (n : ℕ) where
  paste_split : paste store (m + a) s n ≡ take m store ++ paste (drop m store) a s n
  paste_split =
      let e : m + a + n ≡ m + (a + n) = omega arith in
      ap (λ (l : List ℕ). (l ++ take n s) ++ drop (m + a + n) store) (take-add m a store)
      ∙ ap (λ (l : List ℕ). ((take m store ++ take a (drop m store)) ++ take n s) ++ l) (ap (λ (k : ℕ). drop k store) e ∙ sym (drop-drop (a + n) m store))
      ∙ simp append_assoc

  pub paste_before : take m (paste store (m + a) s n) ≡ take m store
  paste_before = ap (take m) paste_split ∙ take_at (take m store) (paste (drop m store) a s n) m (length-take-le m store le)

  pub paste_after : drop m (paste store (m + a) s n) ≡ paste (drop m store) a s n
  paste_after = ap (drop m) paste_split ∙ drop_at (take m store) (paste (drop m store) a s n) m (length-take-le m store le)

-- a slot of at most 512 octets sees only its own part
view_kept : (p : Slot) (store store' : List ℕ) → p.held ≤ 512 → take 512 store' ≡ take 512 store → view_of p store' ≡ view_of p store
view_kept p store store' h e =
    let t : take p.held store' ≡ take p.held store =
    sym (take-take p.held 512 store' h) ∙ ap (take p.held) e ∙ take-take p.held 512 store h in
    ap (λ (l : List ℕ). record { lid = p.lid; number = p.number; next = p.next; held = p.held; tick = p.tick; payload = l }) t

-- past the octets written nothing has changed
drop_past : (store s : List ℕ) (h : ℕ) → h + length s ≤ 512 → h ≤ length store → drop 512 (paste store h s (length s)) ≡ drop 512 store
drop_past store s h le fit =
    let k = 512 - (h + length s) in
    let e : 512 ≡ h + length s + k = omega arith in
    let far : (l : List ℕ) → drop 512 l ≡ drop k (drop (h + length s) l) = λ l. ap (λ (i : ℕ). drop i l) e ∙ sym (drop-drop k (h + length s) l) in
    far (paste store h s (length s)) ∙ ap (drop k) (drop-paste store h s (length s) fit (omega arith)) ∙ sym (far store)

part_next : (store : List ℕ) (j : ℕ) → drop (512 * j) (drop 512 store) ≡ drop (512 * suc j) store
part_next store j =
    let e : 512 + 512 * j ≡ 512 * suc j = omega arith in
    drop-drop (512 * j) 512 store ∙ ap (λ (i : ℕ). drop i store) e

abbrev pub view_with : Slot → List ℕ → View
view_with q l = record { lid = q.lid; number = q.number; next = q.next; held = q.held; tick = q.tick; payload = l }

ahead : (v : View) {w : View} {l m : List View} (b : Bool) → Perm l (w ∷ m) → Perm (pick b (v ∷ l) l) (w ∷ pick b (v ∷ m) m)
ahead v {w} {l} {m} true r = trans (skip v r) (swap v w m)
ahead v false r = r

-- a slot is written, with the payload s behind the h octets that are held
pub put : {q : Slot} {slots : List Slot} {j : ℕ} (store s : List ℕ) (h : ℕ) → At q slots j → is_busy q ≡ true → q.held ≡ h + length s → h + length s ≤ 512
    → 512 * length slots ≤ length store → all_sound slots ≡ true
    → Perm (views (set slots j q) (paste store (512 * j + h) s (length s))) (view_with q (take h (drop (512 * j) store) ++ s) ∷ others q (views slots store))
unfolding views those all_sound
put {q} store s h (here {p} {slots} f n) b e le fit so =
    let z = paste store h s (length s) in
    let payload : take q.held z ≡ take h store ++ s =
    ap (λ (k : ℕ). take k z) e ∙ take-paste store h s (length s) (omega arith) (omega arith) ∙ ap (λ (l : List ℕ). take h store ++ l) (take-length s) in
    let rest : views slots (drop 512 z) ≡ others q (pick (is_busy p) (view_of p store ∷ views slots (drop 512 store)) (views slots (drop 512 store))) =
    ap (views slots) (drop_past store s h le (omega arith)) ∙ sym (goes q p store (views slots (drop 512 store)) f ∙ none_others q slots (drop 512 store) n) in
    let o : 512 * 0 + h ≡ h = omega arith in
    rw (o, b, payload, rest) (perm_refl _)
put {q} store s h (there {p} {slots} {j} sk a) b e le fit so =
    let z = paste store (512 * suc j + h) s (length s) in
    let at : 512 * suc j + h ≡ 512 + (512 * j + h) = omega arith in
    let behind : drop 512 z ≡ paste (drop 512 store) (512 * j + h) s (length s) =
    ap (λ (i : ℕ). drop 512 (paste store i s (length s))) at ∙ paste_after store 512 (omega arith) (512 * j + h) s (length s) in
    let front : view_of p z ≡ view_of p store =
    view_kept p store z (held_small p (and_l (sound_slot p) (all_sound slots) so)) (ap (λ (i : ℕ). take 512 (paste store i s (length s))) at ∙ paste_before store 512 (omega arith) (512 * j + h) s (length s)) in
    let part : drop (512 * j) (drop 512 store) ≡ drop (512 * suc j) store = part_next store j in
    let ih = put (drop 512 store) s h a b e le (omega (arith, length-drop 512 store)) (and_r (sound_slot p) (all_sound slots) so) in
    rw (behind, front, stays q p store (views slots (drop 512 store)) sk, ← part) (ahead (view_of p store) (is_busy p) ih)

-- ---- the table stays sound

pub sound_set : (slots : List Slot) (j : ℕ) (q : Slot) → all_sound slots ≡ true → sound_slot q ≡ true → all_sound (set slots j q) ≡ true
unfolding all_sound
sound_set [] j q h s = refl
sound_set (p ∷ slots) zero q h s = and_i s (and_r (sound_slot p) (all_sound slots) h)
sound_set (p ∷ slots) (suc j) q h s = and_i (and_l (sound_slot p) (all_sound slots) h) (sound_set slots j q (and_r (sound_slot p) (all_sound slots) h) s)

none_set : (k : Slot) (slots : List Slot) (j : ℕ) (q : Slot) → none_like k slots ≡ true → shares_pair k q ≡ false → none_like k (set slots j q) ≡ true
unfolding none_like
none_set k [] j q h s = refl
none_set k (p ∷ slots) zero q h s = and_i (ap not s) (and_r (not (shares_pair k p)) (none_like k slots) h)
none_set k (p ∷ slots) (suc j) q h s =
    and_i (and_l (not (shares_pair k p)) (none_like k slots) h) (none_set k slots j q (and_r (not (shares_pair k p)) (none_like k slots) h) s)

-- a busy slot that is not q's pair: q is not its pair
turned : (p q : Slot) → is_busy p ≡ true → shares_pair q p ≡ false → shares_pair p q ≡ false
turned p q b s =
    let e : eqb q.lid p.lid && eqb q.number p.number ≡ false =
    rw (eqb_comm q.lid p.lid, eqb_comm q.number p.number) (ap (λ (c : Bool). c && eqb p.lid q.lid && eqb p.number q.number) (sym b) ∙ s) in
    and_assoc (is_busy q) (eqb q.lid p.lid) (eqb q.number p.number) ∙ ap (λ (c : Bool). is_busy q && c) e ∙ and-false (is_busy q)

pub distinct_put : {q : Slot} {slots : List Slot} {j : ℕ} → At q slots j → distinct slots ≡ true → distinct (set slots j q) ≡ true
unfolding distinct
distinct_put {q} (here {p} {slots} f n) d = and_i (go (is_busy q)) (and_r (pick (is_busy p) (none_like p slots) true) (distinct slots) d)
  where
    go : (b : Bool) → pick b (none_like q slots) true ≡ true
    go true = n
    go false = refl
distinct_put {q} (there {p} {slots} {j} s a) d =
    and_i (go (is_busy p) refl (and_l (pick (is_busy p) (none_like p slots) true) (distinct slots) d)) (distinct_put a (and_r (pick (is_busy p) (none_like p slots) true) (distinct slots) d))
  where
    go : (b : Bool) → is_busy p ≡ b → pick b (none_like p slots) true ≡ true → pick b (none_like p (set slots j q)) true ≡ true
    go true e h = none_set p slots j q h (turned p q e s)
    go false e h = refl

pub distinct_clear : (slots : List Slot) (j : ℕ) → distinct slots ≡ true → distinct (set slots j free) ≡ true
unfolding distinct
distinct_clear [] j d = refl
distinct_clear (p ∷ slots) zero d = and_r (pick (is_busy p) (none_like p slots) true) (distinct slots) d
distinct_clear (p ∷ slots) (suc j) d =
    and_i (go (is_busy p) (and_l (pick (is_busy p) (none_like p slots) true) (distinct slots) d)) (distinct_clear slots j (and_r (pick (is_busy p) (none_like p slots) true) (distinct slots) d))
  where
    go : (b : Bool) → pick b (none_like p slots) true ≡ true → pick b (none_like p (set slots j free)) true ≡ true
    go true h = none_set p slots j free h refl
    go false h = refl

-- ---- finding

none_key : (k p : Slot) (slots : List Slot) → shares_pair k p ≡ true → none_like p slots ≡ none_like k slots
unfolding none_like
none_key k p slots s =
    let a = and_l (is_busy p && eqb p.lid k.lid) (eqb p.number k.number) s in
    let l = eqb-true p.lid k.lid (and_r (is_busy p) (eqb p.lid k.lid) a) in
    let n = eqb-true p.number k.number (and_r (is_busy p && eqb p.lid k.lid) (eqb p.number k.number) s) in
    go slots l n
  where
    go : (slots : List Slot) → p.lid ≡ k.lid → p.number ≡ k.number → none_like p slots ≡ none_like k slots
    go [] l n = refl
    go (r ∷ slots) l n =
        ap (λ (b : Bool). not (shares_pair p r) && b) (go slots l n)
        ∙ ap (λ (x : ℕ). not (is_busy r && eqb r.lid x && eqb r.number p.number) && none_like k slots) l
        ∙ ap (λ (x : ℕ). not (is_busy r && eqb r.lid k.lid && eqb r.number x) && none_like k slots) n

abbrev pub slot_in : Slot → List Slot → Slot
slot_in k slots = get_or slots (index_of k.lid k.number slots) free

-- the pair's slot is busy
pub found : (k : Slot) (slots : List Slot) → distinct slots ≡ true → is_busy (slot_in k slots) ≡ true → At k slots (index_of k.lid k.number slots)
unfolding index_of distinct
found k [] d b = absurd (false≢true b)
found k (p ∷ slots) d b = go (found k slots (and_r (pick (is_busy p) (none_like p slots) true) (distinct slots) d)) (shares_pair k p) refl b
  where
    go : (is_busy (slot_in k slots) ≡ true → At k slots (index_of k.lid k.number slots))
        → (c : Bool) → shares_pair k p ≡ c → is_busy (get_or (p ∷ slots) (pick c 0 (index_of k.lid k.number slots + 1)) free) ≡ true
        → At k (p ∷ slots) (pick c 0 (index_of k.lid k.number slots + 1))
    go ih true s b =
        let busy = and_l (is_busy p) (eqb p.lid k.lid) (and_l (is_busy p && eqb p.lid k.lid) (eqb p.number k.number) s) in
        let n = and_l (pick (is_busy p) (none_like p slots) true) (distinct slots) d in
        here (inr s) (sym (none_key k p slots s) ∙ (rw busy at n))
    go ih false s b = rw add-one (there s (ih (rw add-one at b)))

-- the pair has no slot
pub missing : (k : Slot) (slots : List Slot) → is_busy (slot_in k slots) ≡ false → none_like k slots ≡ true
unfolding index_of none_like
missing k [] b = refl
missing k (p ∷ slots) b = go (missing k slots) (shares_pair k p) refl b
  where
    go : (is_busy (slot_in k slots) ≡ false → none_like k slots ≡ true)
        → (c : Bool) → shares_pair k p ≡ c → is_busy (get_or (p ∷ slots) (pick c 0 (index_of k.lid k.number slots + 1)) free) ≡ false → not c && none_like k slots ≡ true
    go ih true s b =
        absurd (true≢false (sym (and_l (is_busy p) (eqb p.lid k.lid) (and_l (is_busy p && eqb p.lid k.lid) (eqb p.number k.number) s)) ∙ b))
    go ih false s b = ih (rw add-one at b)

-- there is a free slot
pub free_at : (k : Slot) (slots : List Slot) → none_like k slots ≡ true → count_busy slots < length slots → At k slots (first_free slots)
unfolding none_like count_busy first_free
free_at k [] n h = absurd (omega arith)
free_at k (p ∷ slots) n h =
    go (λ g. free_at k slots (and_r (not (shares_pair k p)) (none_like k slots) n) g) (is_busy p) refl h
  where
    go : (count_busy slots < length slots → At k slots (first_free slots)) → (b : Bool) → is_busy p ≡ b → bit_of b + count_busy slots < suc (length slots)
        → At k (p ∷ slots) (pick b (first_free slots + 1) 0)
    go ih true e g = rw add-one (there (not_t (shares_pair k p) (and_l (not (shares_pair k p)) (none_like k slots) n)) (ih (omega arith)))
    go ih false e g = here (inl e) (and_r (not (shares_pair k p)) (none_like k slots) n)

pub count_views : (slots : List Slot) (store : List ℕ) → count_busy slots ≡ length (views slots store)
unfolding count_busy views
count_views [] store = refl
count_views (p ∷ slots) store = go (is_busy p) (count_views slots (drop 512 store))
  where
    go : (b : Bool) → count_busy slots ≡ length (views slots (drop 512 store)) → bit_of b + count_busy slots ≡ length (pick b (view_of p store ∷ views slots (drop 512 store)) (views slots (drop 512 store)))
    go true r = omega (arith, r)
    go false r = omega (arith, r)

-- the views of the pair
abbrev pub mine : Slot → List View → List View
mine k l = those (is_pair k) l

pub none_mine : (k : Slot) (slots : List Slot) (store : List ℕ) → none_like k slots ≡ true → mine k (views slots store) ≡ []
unfolding none_like views those
none_mine k [] store n = refl
none_mine k (p ∷ slots) store n =
    go (is_busy p) (sym (key_view k p store) ∙ not_t (shares_pair k p) (and_l (not (shares_pair k p)) (none_like k slots) n)) (none_mine k slots (drop 512 store) (and_r (not (shares_pair k p)) (none_like k slots) n))
  where
    go : (b : Bool) → b && is_pair k (view_of p store) ≡ false → mine k (views slots (drop 512 store)) ≡ [] → mine k (pick b (view_of p store ∷ views slots (drop 512 store)) (views slots (drop 512 store))) ≡ []
    go true e r = rw (e, r)
    go false e r = r

pub one_mine : {k : Slot} {slots : List Slot} {j : ℕ} (store : List ℕ) → At k slots j → is_busy (get_or slots j free) ≡ true
    → mine k (views slots store) ≡ view_of (get_or slots j free) (drop (512 * j) store) ∷ []
unfolding views those
one_mine {k} store (here {p} {slots} (inl f) n) b = absurd (true≢false (sym b ∙ f))
one_mine {k} store (here {p} {slots} (inr s) n) b =
    let c = and_r (is_busy p) (is_pair k (view_of p store)) (sym (key_view k p store) ∙ s) in
    rw (b, c, none_mine k slots (drop 512 store) n)
one_mine {k} store (there {p} {slots} {j} s a) b =
    let part : drop (512 * j) (drop 512 store) ≡ drop (512 * suc j) store = part_next store j in
    go (is_busy p) (sym (key_view k p store) ∙ s) ∙ one_mine (drop 512 store) a b ∙ ap (λ (l : List ℕ). view_of (get_or slots j free) l ∷ []) part
  where
    go : (b : Bool) → b && is_pair k (view_of p store) ≡ false → mine k (pick b (view_of p store ∷ views slots (drop 512 store)) (views slots (drop 512 store))) ≡ mine k (views slots (drop 512 store))
    go true e = rw e
    go false e = refl

pub missing_free : (k : Slot) (slots : List Slot) → is_busy (slot_in k slots) ≡ false → slot_in k slots ≡ free
unfolding index_of
missing_free k [] b = refl
missing_free k (p ∷ slots) b = go (missing_free k slots) (shares_pair k p) refl b
  where
    go : (is_busy (slot_in k slots) ≡ false → slot_in k slots ≡ free)
        → (c : Bool) → shares_pair k p ≡ c → is_busy (get_or (p ∷ slots) (pick c 0 (index_of k.lid k.number slots + 1)) free) ≡ false
        → get_or (p ∷ slots) (pick c 0 (index_of k.lid k.number slots + 1)) free ≡ free
    go ih true s b =
        absurd (true≢false (sym (and_l (is_busy p) (eqb p.lid k.lid) (and_l (is_busy p && eqb p.lid k.lid) (eqb p.number k.number) s)) ∙ b))
    go ih false s b = rw add-one (ih (rw add-one at b))

index_out : (k : Slot) (slots : List Slot) → none_like k slots ≡ true → index_of k.lid k.number slots ≡ length slots
unfolding index_of none_like
index_out k [] n = refl
index_out k (p ∷ slots) n =
    rw (not_t (shares_pair k p) (and_l (not (shares_pair k p)) (none_like k slots) n), index_out k slots (and_r (not (shares_pair k p)) (none_like k slots) n)) (add-one (length slots))

-- the pair's slot is freed, if it has one
pub clear_pair : (k : Slot) (slots : List Slot) (store : List ℕ) → distinct slots ≡ true → views (set slots (index_of k.lid k.number slots) free) store ≡ others k (views slots store)
clear_pair k slots store d = go (is_busy (slot_in k slots)) refl
  where
    go : (b : Bool) → is_busy (slot_in k slots) ≡ b → views (set slots (index_of k.lid k.number slots) free) store ≡ others k (views slots store)
    go true e = clear store (found k slots d e)
    go false e =
        let n = missing k slots e in
        ap (λ (l : List Slot). views l store) (ap (λ (i : ℕ). set slots i free) (index_out k slots n) ∙ set_out slots (length slots) free (omega arith)) ∙ sym (none_others k slots store n)
