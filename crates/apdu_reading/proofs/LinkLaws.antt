-- BST and VST: what stands before and behind their application lists, from the readings of their components.
-- Assumes nothing.
use Prim.Native.Nat.{ℕ, ◌+◌, ◌*◌, ◌/◌, ◌%◌, ◌≤◌, ◌<◌}
use mathlib.Core.Path.{◌≡◌, refl, ap, sym, ◌∙◌}
use mathlib.Core.List.{List, [], ◌∷◌, ◌++◌}
use mathlib.Core.Bool.{Bool, true, false}
use native.Mathlib.Nat.{add-zero}
use native.Mathlib.Omega.{arith}
use lib.ListN.{length, take, drop}
use lib.Seq.{drop-drop}
use lib.Dec.{eqb}
use borrow.Author.Tests.{eqb-true, eqb-false}
use Rattle.refusals.proofs.Tests.{by_cases, and_true}
use Rattle.bits.specs.Bits.{bits, field, read_field}
use Rattle.bits.proofs.Laws.{field_lt, field_add}
use Rattle.apdu_format.specs.Component.{choice, lead, integer, fixed, entry_count, id_count, class}
use Rattle.apdu_format.specs.Table.{layout_of}
use Rattle.apdu_format.specs.Rules.{shape, brings, present, when, announced}
use Rattle.apdu_format.specs.Reading.{Value, fields, numbers_of, sum, need, fields_of, value_at}
use Rattle.apdu.specs.declared.records.Message.TheVariants as kind
use Rattle.apdu.specs.Values.{bit_of, num, id_list, rows_of, bst_values, vst_values, values_of}
use Rattle.apdu.specs.Tidy.{message_tidy}
use Rattle.apdu.specs.Sound.{bst_sound, vst_sound, sound, rows_present}
use Rattle.apdu.proofs.Laws.{sound_if_law, own_sound}
use Rattle.apdu.proofs.Formed.{count_le, keeps_limit}
use Rattle.apdu_reading.specs.declared.cursor.Cursor.{Cursor}
use Rattle.apdu_reading.specs.declared.link.Configuration.{Configuration}
use Rattle.apdu_reading.specs.declared.link.LinkFront.{LinkFront}
use Rattle.apdu_reading.specs.Cursor.{component, piece_of, ReadsTo, Inside}
use Rattle.apdu_reading.specs.Applications.{ConfigurationRead}
use Rattle.apdu_reading.specs.Messages.{Begun, FrontRead, EndRead}
use Rattle.apdu_reading.specs.Answers.{first, Chosen}
use Rattle.apdu_reading.proofs.Pieces.{sees, good, fine}
use Rattle.apdu_reading.proofs.Components.{lead_is, fixed_is}
use Rattle.apdu_reading.proofs.Chains.{valued, itself, nothing, then, still, clean, enter, alone}
use Rattle.apdu_reading.proofs.Strings.{fault_of_law, room_of, integer_reads, integer_room, piece_number}
use Rattle.apdu_reading.proofs.Leads.{set_bit, narrow, lead_in, lead_room}
use Rattle.apdu_reading.proofs.ChoiceLaws.{begun, choice_lt, chosen, nine}

-- ---- numbers of whole octets

fixed_saw : (s : List ℕ) (n : ℕ) (c : Cursor) {d : Cursor} → n ≤ 6 → d ≡ component s (fixed n) c → d.fault ≡ 0 → sees s (fixed n) c ≡ fields (d.value ∷ [])
unfolding shape need sum value_at fields_of
fixed_saw s n c k e h =
    let g = good s (fixed n) c (fault_of_law e h) in
    let v = ap (λ (q : Cursor). q.value) (e ∙ fine s (fixed n) c g.clean g.there g.right) in
    ap (λ (x : ℕ). fields (x ∷ [])) (sym (piece_number s c.at (8 * n) (omega arith)) ∙ sym (rw add-zero at v))

pub fixed_reads : (s : List ℕ) (n : ℕ) (c : Cursor) {d : Cursor} → n ≤ 6 → d ≡ component s (fixed n) c → ReadsTo s (fixed n ∷ []) c d (fields (d.value ∷ []) ∷ [])
unfolding brings
fixed_reads s n c {d} k e = valued (λ h. ap (λ (v : Value). v ∷ []) (fixed_saw s n c k e h)) (alone s (fixed n) c e refl)

-- ---- the configuration

module _ (s : List ℕ) (c : Cursor) {k : Cursor} (e : k ≡ component s class c) (low : k.value < 65536) where
  abbrev x : Bool
  x = eqb (k.value / 32768) 1

  class_value : k.fault ≡ 0 → k.value ≡ field s c.at 1 * 32768 + field s (c.at + 1) 15
  unfolding shape need sum
  class_value h =
      let g = good s class c (fault_of_law e h) in
      narrow s c.at 16 (omega arith) (ap (λ (q : Cursor). q.value) (e ∙ fine s class c g.clean g.there g.right)) ∙ field_add s c.at 1 15

  class_fields : k.fault ≡ 0 → fields_of (1 ∷ 15 ∷ []) (drop c.at (bits s)) ≡ k.value / 32768 ∷ k.value % 32768 ∷ []
  unfolding fields_of field
  class_fields h =
      let v = class_value h in
      let a = field_lt s c.at 1 in
      let b = field_lt s (c.at + 1) 15 in
      let y0 : field s c.at 1 ≡ k.value / 32768 = omega arith in
      let y1 : field s (c.at + 1) 15 ≡ k.value % 32768 = omega arith in
      rw (drop-drop 1 c.at (bits s), y0, y1)

  bit_x : bit_of x ≡ k.value / 32768
  bit_x =
      by_cases x
      (λ p. let q : k.value / 32768 ≡ 1 = eqb-true _ _ p in rw (p, q))
      (λ p. let q : k.value / 32768 ≡ 1 → ⊥ = eqb-false (k.value / 32768) 1 p in let z : k.value / 32768 ≡ 0 = omega arith in rw (p, z))

  class_saw : k.fault ≡ 0 → sees s class c ≡ fields (bit_of x ∷ k.value % 32768 ∷ [])
  unfolding shape value_at
  class_saw h = ap fields (class_fields h ∙ rw bit_x)

  module _ {maker : Cursor} (f : maker ≡ component s (fixed 2) k) {r : Cursor} {vs : List Value} (g : ReadsTo s (when x (fixed 2 ∷ [])) maker r vs) where
    config_reads : ReadsTo s (class ∷ []) c r (fields (bit_of x ∷ k.value % 32768 ∷ []) ∷ ((fields (maker.value ∷ []) ∷ []) ++ vs))
    unfolding brings numbers_of shape value_at
    config_reads =
        let inner : ReadsTo s ((fixed 2 ∷ []) ++ when x (fixed 2 ∷ [])) k r ((fields (maker.value ∷ []) ∷ []) ++ vs) = then (fixed_reads s 2 k (omega arith) f) g in
        valued (λ h. ap (λ (v : Value). v ∷ ((fields (maker.value ∷ []) ∷ []) ++ vs)) (class_saw (clean inner h)))
        (enter class c e (λ h. rw (class_fields h) inner) (λ h. still inner h))

  pub with_status : {maker status : Cursor} → x ≡ true → maker ≡ component s (fixed 2) k → status ≡ component s (fixed 2) maker
      → ConfigurationRead s c (record { cursor = status; class = k.value % 32768; maker = maker.value; has_status = x; status = status.value })
  with_status {maker} {status} t f g =
      record {
        reads = config_reads f (rw t (fixed_reads s 2 maker (omega arith) g));
        absent = record { are = λ z. absurd (let y : ◌≡◌ {A = ℕ} 0 1 = cc in omega arith) };
      }

  pub without_status : {maker : Cursor} → x ≡ false → maker ≡ component s (fixed 2) k
      → ConfigurationRead s c (record { cursor = maker; class = k.value % 32768; maker = maker.value; has_status = x; status = 0 })
  without_status {maker} t f = record { reads = config_reads f (rw t (nothing s (itself maker))); absent = record { are = λ z. (refl, tt) } }

-- the pieces that the code reads
pub two_octets : (s : List ℕ) (c : Cursor) {d : Cursor} → d ≡ piece_of s 16 true c → d ≡ component s (fixed 2) c
two_octets s c e = e ∙ fixed_is s c 2

pub four_octets : (s : List ℕ) (c : Cursor) {d : Cursor} → d ≡ piece_of s 32 true c → d ≡ component s (fixed 4) c
four_octets s c e = e ∙ fixed_is s c 4

-- ---- what stands before the application lists

module _ (s : List ℕ) (c : Cursor) (h : Chosen s c) where
  abbrev b : Begun c
  b = begun s c h

  bst_saw : (x y z : ℕ) → x ≡ field s 4 1 → y ≡ field s 5 16 → z ≡ field s 21 27 → sees s (lead 8) c ≡ fields (x ∷ y ∷ z ∷ [])
  unfolding shape layout_of value_at fields_of field
  bst_saw x y z p q r = rw (b.at, drop-drop 1 4 (bits s), drop-drop 16 5 (bits s), p, q, r)

  vst_saw : (x : ℕ) → x ≡ field s 4 4 → sees s (lead 9) c ≡ fields (x ∷ [])
  unfolding shape layout_of value_at fields_of field
  vst_saw x p = rw (b.at, p)

  bst_lead : {l : Cursor} → l ≡ piece_of s 44 false c → l ≡ component s (lead 8) c
  unfolding layout_of sum
  bst_lead e = e ∙ lead_is s c 8 44 refl

  vst_lead : {l : Cursor} → l ≡ piece_of s 4 false c → l ≡ component s (lead 9) c
  unfolding layout_of sum
  vst_lead e = e ∙ lead_is s c 9 4 refl

  module _ {l : Cursor} (k : l ≡ piece_of s 44 false c) {time profile : Cursor} (q : time ≡ piece_of s 32 true l)
      (i : (profile ≡ component s integer time) × (profile.value < 128))
      (x : Bool) {y z : ℕ} (fx : bit_of x ≡ field s 4 1) (fy : y ≡ read_field s 5 16) (fz : z ≡ read_field s 21 27) where
    bst_room : profile.room ≡ 32
    unfolding announced
    bst_room = integer_room s time i.0 ∙ room_of s (fixed 4) l (λ fs. refl) (four_octets s l q) ∙ lead_room s c b 8 (bst_lead k)

    bst_opens : c.value ≡ 8 → {r : Cursor} {vs : List Value}
        → ReadsTo s (entry_count ∷ (when x (entry_count ∷ []) ++ (id_count ∷ []))) profile r vs
        → ReadsTo s (choice ∷ []) first r (fields (8 ∷ []) ∷ fields (bit_of x ∷ y ∷ z ∷ []) ∷ fields (time.value ∷ []) ∷ num profile.value ∷ vs)
    unfolding layout_of present
    bst_opens e p =
        chosen s c h 8 e
        (lead_in s c b 8 (bit_of x ∷ y ∷ z ∷ []) (bst_lead k)
        (bst_saw (bit_of x) y z fx (narrow s 5 16 (omega arith) fy) (narrow s 21 27 (omega arith) fz))
        (rw (set_bit x) (then (fixed_reads s 4 l (omega arith) (four_octets s l q)) (then (integer_reads s time i.0) p))))

    pub bst_front_law : c.value ≡ 8
        → FrontRead s
        (record {
          cursor = profile;
          choice = 8;
          has_others = x;
          fill = 0;
          manufacturer = y;
          individual = z;
          time = time.value;
          profile = profile.value;
        })
    bst_front_law e = record { room = bst_room; bst = λ w. bst_opens e; vst = λ n. absurd (n refl); only = λ n. absurd (n refl) }

  module _ {l : Cursor} (k : l ≡ piece_of s 4 false c) {profile : Cursor} (i : (profile ≡ component s integer l) × (profile.value < 128))
      {x : ℕ} (fx : x ≡ read_field s 4 4) where
    vst_opens : c.value ≡ 9 → {r : Cursor} {vs : List Value} → ReadsTo s (entry_count ∷ class ∷ []) profile r vs
        → ReadsTo s (choice ∷ []) first r (fields (9 ∷ []) ∷ fields (x ∷ []) ∷ num profile.value ∷ vs)
    unfolding layout_of present
    vst_opens e p =
        chosen s c h 9 e
        (lead_in s c b 9 (x ∷ []) (vst_lead k) (vst_saw x (narrow s 4 4 (omega arith) fx)) (then (integer_reads s l i.0) p))

    pub vst_front_law : 8 ≤ c.value → (c.value ≡ 8 → ⊥)
        → FrontRead s
        (record
        { cursor = profile; choice = 9; has_others = false; fill = x; manufacturer = 0; individual = 0; time = 0; profile = profile.value })
    vst_front_law e n =
        record {
          room = integer_room s l i.0 ∙ lead_room s c b 9 (vst_lead k);
          bst = λ w. absurd (omega (arith, w));
          vst = λ w. vst_opens (nine (choice_lt s c h) e n);
          only = λ w. refl;
        }

-- ---- what stands behind them

module _ (s : List ℕ) (f : LinkFront) (opened : FrontRead s f) (m o : ℕ) (c : Cursor) where
  pub bst_end : f.choice ≡ 8 → {ids : Cursor}
      → ReadsTo s (id_count ∷ []) c ids (id_list s ids.start ids.value) × (ids.value < 128) × (ids.room ≡ c.room) × Inside s true ids
      → EndRead s f m o c
      (record {
        cursor = ids;
        message =
            kind.Bst
            (record {
              manufacturer = f.manufacturer;
              individual = f.individual;
              time = f.time;
              profile = f.profile;
              mandatory = m;
              has_others = f.has_others;
              others = o;
              profiles = ids.start;
              profile_count = ids.value;
            });
      })
  unfolding values_of bst_values message_tidy sound bst_sound rows_present
  bst_end e {ids} r =
      record {
        whole = λ {l} w.
            record {
              reads = opened.bst e (w.reads (then r.0 (nothing s (itself ids))));
              tidy = λ g. (record { are = λ v. (w.absent v, tt) }, w.tidy (clean r.0 g));
              sound = λ g. let h = clean r.0 g in and_true (w.first h) (and_true (sound_if_law f.has_others (w.second h)) (r.3.so g));
              few = keeps_limit _ _ (let k = count_le f.has_others (rows_of (take o (drop m l.entries))) in let u = w.few in omega arith);
              rows = w.rows;
              entries = w.entries;
            };
      }

  pub vst_end : (f.choice ≡ 8 → ⊥) → {d : Configuration} → ConfigurationRead s c d
      → EndRead s f m o c
      (record {
        cursor = d.cursor;
        message =
            kind.Vst
            (record {
              fill = f.fill;
              profile = f.profile;
              applications = m;
              class = d.class;
              maker = d.maker;
              has_status = d.has_status;
              status = d.status;
            });
      })
  unfolding values_of vst_values message_tidy sound vst_sound rows_present
  vst_end n {d} q =
      record {
        whole = λ {l} w.
            let x = opened.only n in
            let z : m + o ≡ m = omega (arith, w.absent x) in
            record {
              reads = opened.vst n (rw x at (w.reads (then q.reads (nothing s (itself d.cursor)))));
              tidy = λ g. (q.absent, rw z at (w.tidy (clean q.reads g)));
              sound = λ g. own_sound (length s) (take m l.entries) l.rows ∙ w.first (clean q.reads g);
              few = keeps_limit _ _ (let u = w.few in omega arith);
              rows = w.rows;
              entries = w.entries;
            };
      }
