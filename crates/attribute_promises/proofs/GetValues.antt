-- The reply with the values of a GET is well formed: its ids and lengths are those of rows of a sound directory, each value stands where its attribute says,
-- and there are at most 16. It may be too long; writing then says 21, and refuses it with nothing else.
-- Assumes nothing.
use Prim.Native.Nat.{ℕ, ◌+◌, ◌-◌, ◌*◌, ◌/◌, ◌^◌, ◌≤◌}
use mathlib.Core.Path.{◌≡◌, refl, ap, sym, ◌∙◌}
use mathlib.Core.Bool.{Bool, true, false, ◌&&◌}
use mathlib.Core.List.{List, [], ◌∷◌, ◌++◌, append-nil}
use native.Mathlib.Omega.{arith}
use lib.Dec.{ltb, leb}
use lib.ListN.{length, take}
use lib.Seq.{take_all}
use borrow.Author.Tests.{leb-true, le-leb, lt-ltb, le-ltb}
use Rattle.refusals.specs.Check.{first_of}
use Rattle.refusals.proofs.Tests.{by_cases, and_true}
use Rattle.bits.specs.Strings.{is_inside}
use Rattle.apdu_format.specs.Component.{container, row_count}
use Rattle.apdu_format.specs.Table.{layout_of}
use Rattle.apdu_format.specs.Rules.{shape, checks_of, present, brings, announced, times}
use Rattle.apdu_format.specs.Reading.{numbers_of, sum, need}
use Rattle.apdu_format.specs.Writing.{fields_fit, fits, is_value, in_range, size}
use Rattle.apdu_format.proofs.Tests.{both, never}
use Rattle.apdu.specs.declared.records.GetRequest.{GetRequest}
use Rattle.apdu.specs.Values.{num, head_values, row_values, rows_values, get_response_values, values_of}
use Rattle.apdu.specs.RowCounters.{row}
use Rattle.apdu.specs.Sound.{closes, rows_sound, get_response_sound, sound, rows_present, rows_fit, well_formed}
use Rattle.directory.specs.declared.Row.{Row}
use Rattle.directory.specs.Directory.{area_octets, row_sound, sound_directory, row_of}
use Rattle.directory.proofs.Looking.{sound_row, row_short}
use Rattle.attributes.specs.Serving.{least_output, Tag, replied, no_entries, sent, too_long, ids_from, rows_of, values_in, attributes_at, get_reply}
use Rattle.attributes.proofs.ValueReply.{total, rows_fit_law, count_places, count_rows, count_ids, length_values}
use Rattle.attribute_promises.proofs.Repeated.{Repeats}
use Rattle.attribute_promises.proofs.Writing.{Writes, one, joined, within, nothing, number, box_written, finished}
use Rattle.attribute_promises.proofs.Replies.{Leads, begun, values_by, Fine, sent_formed}

-- ---- the rows

-- an id of a sound directory is at most 127
id_low : (f w : ℕ) (r : Row) → row_sound f w r ≡ true → r.id ≤ 127
unfolding row_sound
id_low f w r e = leb-true r.id 127 (both (leb r.id 127) (leb r.length 127 && leb (r.start + r.length) (area_octets f w r)) e).0

module _ (f w : ℕ) (rows : List Row) (fine : sound_directory f w rows ≡ true) (lent : List ℕ) (room : ℕ) where
  rows_written : (at : ℕ) (ids : List ℕ) → at + total (rows_of rows ids) ≤ length lent
      → Writes (times (length ids) (row 1)) (rows_values lent (attributes_at at (rows_of rows ids)) ++ []) room [] [] room (1040 * length ids)
  unfolding times rows_of total attributes_at rows_values row_values head_values is_inside
  rows_written at [] h = nothing [] [] room
  rows_written at (id ∷ ids) h =
      let r = row_of id rows in
      let x = sound_row f w rows fine id in
      let low = id_low f w r x in
      let short = row_short f w r x in
      let behind = rows_values lent (attributes_at (at + r.length) (rows_of rows ids)) ++ [] in
      let k : 8 * at + 8 * r.length ≤ 8 * length lent = omega arith in
      let inside : is_inside (length lent) (8 * at) r.length ≡ true = le-leb (8 * at + 8 * r.length) (8 * length lent) k in
      let a = number r.id (container 1 ∷ times (length ids) (row 1)) (head_values lent 2 r.length (8 * at) ++ behind) room (omega (arith, low)) in
      let b = box_written lent (8 * at) r.length inside (omega (arith, short)) (times (length ids) (row 1)) behind room in
      within (1040 * length (id ∷ ids)) (joined a (joined b (rows_written (at + r.length) ids (omega arith)))) (omega (arith, short))

rows_close : (at : ℕ) (rows : List Row) → closes (length rows) (attributes_at at rows) ≡ true
unfolding closes attributes_at
rows_close at [] = refl
rows_close at (r ∷ rows) = let e : 0 + length rows ≡ length rows = omega arith in rw (e, closes) (rows_close (at + r.length) rows)

-- ---- the reply

values_leads : (p : Bool) → Leads 7 p (1 ∷ 0 ∷ 0 ∷ []) (row_count 1 ∷ [])
unfolding is_value fits fields_fit shape checks_of first_of numbers_of layout_of brings present need sum
values_leads true = record { chosen = refl; led = refl; body = refl; half = omega arith }
values_leads false = record { chosen = refl; led = refl; body = refl; half = omega arith }

count_fine : (n : ℕ) → n ≤ 16 → is_value (row_count 1) 32 (num n) ≡ true
unfolding is_value fits fields_fit shape checks_of first_of numbers_of
count_fine n h =
    let a : ltb n (2 ^ 7) ≡ true = lt-ltb n (2 ^ 7) (omega arith) in
    let b : ltb 16 n ≡ false = le-ltb 16 n h in
    let c : ltb 32 n ≡ false = le-ltb 32 n (omega arith) in
    rw (a, b, c)

module _ (tag : Tag) (s : List ℕ) (m : GetRequest) (fine : sound_directory (length tag.factory) (length tag.writable) tag.directory ≡ true) (few : m.count ≤ 16)
    (g : Repeats m.eid m.has_iid m.iid) where
  abbrev ids : List ℕ
  ids = ids_from s m.ids m.count

  abbrev named : List Row
  named = rows_of tag.directory ids

  abbrev lent : List ℕ
  lent = values_in tag.factory tag.writable named

  count_is : length ids ≡ m.count
  count_is = count_ids s m.ids m.count

  all_places : take m.count (attributes_at 0 named) ≡ attributes_at 0 named
  all_places = take_all m.count (attributes_at 0 named) (omega (arith, count_places 0 named, count_rows tag.directory ids, count_is))

  within_lent : 0 + total named ≤ length lent
  within_lent = omega (arith, length_values tag.factory tag.writable tag.directory fine ids)

  list_written : Writes (row_count 1 ∷ []) (num m.count ∷ (rows_values lent (attributes_at 0 named) ++ [])) 32 [] [] (32 - m.count) (8 + 1040 * m.count)
  unfolding brings announced numbers_of shape need sum
  list_written =
      let vs = rows_values lent (attributes_at 0 named) ++ [] in
      let r : Writes (times m.count (row 1)) vs (32 - m.count) [] [] (32 - m.count) (1040 * m.count) =
      rw count_is at (rows_written (length tag.factory) (length tag.writable) tag.directory fine lent (32 - m.count) 0 ids within_lent) in
      let c : Writes (row_count 1 ∷ []) (num m.count ∷ vs) 32 (times m.count (row 1)) vs (32 - m.count) 8 =
      one (row_count 1) [] (num m.count) vs 32 (count_fine m.count few) (append-nil _) refl (omega arith) in
      joined c r

  values_whole : (in_range (values_by (get_reply tag s m)) ≡ true) × (size (values_by (get_reply tag s m)) ≤ (32 + 1040 * m.count) / 8)
  unfolding get_reply values_of get_response_values
  values_whole =
      let f = finished (joined (begun g (row_count 1 ∷ []) (num m.count ∷ (rows_values lent (attributes_at 0 named) ++ [])) 7 (1 ∷ 0 ∷ 0 ∷ []) (values_leads m.has_iid)) list_written) in
      let k : (24 + (8 + 1040 * m.count)) / 8 ≤ (32 + 1040 * m.count) / 8 = omega arith in
      rw all_places (f.0, omega (arith, k, f.1))

  values_formed : well_formed (get_reply tag s m).lent (get_reply tag s m).message no_entries (get_reply tag s m).attributes ≡ true
  unfolding get_reply well_formed sound get_response_sound rows_sound rows_fit rows_present
  values_formed =
      let c : closes m.count (attributes_at 0 named) ≡ true = ap (λ (n : ℕ). closes n (attributes_at 0 named)) (sym (count_rows tag.directory ids ∙ count_is)) ∙ rows_close 0 named in
      and_true values_whole.0 (rw all_places (and_true (and_true (rows_fit_law (length lent) 0 named within_lent) c) (le-leb m.count 32 (omega arith))))

  -- one value is never too long
  pub value_fine : m.count ≡ 1 → Fine (get_reply tag s m)
  value_fine one = record { formed = values_formed; short = omega (arith, one, values_whole.1) }

  -- it is sent, unless it is too long
  pub values_sent : (w out : List ℕ) → least_output ≤ length out → too_long (sent (get_reply tag s m) w out).outcome ≡ false
      → (sent (get_reply tag s m) w out).outcome ≡ replied (size (values_by (get_reply tag s m)))
  unfolding get_reply too_long
  values_sent w out room h =
      let q = get_reply tag s m in
      let e = sent_formed q values_formed w out room in
      by_cases (ltb 512 (size (values_by q))) (λ t. let x : too_long (sent q w out).outcome ≡ true = ap too_long e ∙ rw t in never (sym h ∙ x)) (λ t. e ∙ rw t)
