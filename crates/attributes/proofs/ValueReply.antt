-- The reply with the values of a GET, as the code writes it and as it is meant: the same values, whatever stands behind them.
-- Assumes nothing.
use Prim.Native.Nat.{ℕ, zero, suc, ◌+◌, ◌*◌, ◌≤◌}
use mathlib.Core.Path.{◌≡◌, refl, ap, ap₂, sym, ◌∙◌}
use mathlib.Core.Bool.{true, false, ◌&&◌}
use mathlib.Core.List.{List, [], ◌∷◌, ◌++◌}
use native.Mathlib.Omega.{arith}
use lib.ListN.{length, take, drop, length-append, length-drop, take-append-drop}
use lib.Seq.{take-append-le, drop-append-le, take_all}
use borrow.Author.Tests.{le-leb}
use Rattle.refusals.proofs.Tests.{and_true}
use Rattle.bits.specs.Bits.{bits}
use Rattle.bits.specs.Strings.{is_inside}
use Rattle.bits.proofs.Laws.{drop_bits, take_bits}
use Rattle.apdu.specs.declared.records.GetRequest.{GetRequest}
use Rattle.apdu.specs.declared.records.GetResponse.{GetResponse}
use Rattle.apdu.specs.declared.records.Message.TheVariants as kind
use Rattle.apdu.specs.Values.{head_values, row_values, rows_values, get_response_values, values_of}
use Rattle.apdu.specs.Sound.{part_fits, parts_fit, closes, rows_sound, get_response_sound, sound, well_formed}
use Rattle.directory.specs.declared.Row.{Row}
use Rattle.directory.specs.Directory.{sound_directory, row_of}
use Rattle.directory.proofs.Looking.{sound_row, inside_area}
use Rattle.attributes.specs.declared.values.Values.{Values}
use Rattle.attributes.specs.Serving.{no_entries, Reply, sent, ids_from, rows_of, value_of, values_in, attributes_at, get_reply}
use Rattle.attributes.specs.Inside.{tag_of, Gathers}
use Rattle.attributes.proofs.Gathering.{length_value}
use Rattle.attributes.proofs.Sending.{sent_same}

-- ---- the front of the octets

part_front : (v q : List ℕ) (at n : ℕ) → at + n ≤ length v → take (8 * n) (drop (8 * at) (bits (v ++ q))) ≡ take (8 * n) (drop (8 * at) (bits v))
part_front v q at n h =
    let d = length-drop at v in
    ap (take (8 * n)) (drop_bits at (v ++ q)) ∙ take_bits n (drop at (v ++ q))
    ∙ ap bits (ap (take n) (drop-append-le at v q (omega arith)) ∙ take-append-le n (drop at v) q (omega arith))
    ∙ sym (take_bits n (drop at v)) ∙ ap (take (8 * n)) (sym (drop_bits at v))

unfoldable pub total : List Row → ℕ
total [] = 0
total (row ∷ rows) = row.length + total rows

rows_front : (v q : List ℕ) (at : ℕ) (rows : List Row) → at + total rows ≤ length v → rows_values (v ++ q) (attributes_at at rows) ≡ rows_values v (attributes_at at rows)
unfolding total rows_values row_values head_values attributes_at
rows_front v q at [] h = refl
rows_front v q at (row ∷ rows) h =
    let e = part_front v q at row.length (omega arith) in
    let i = rows_front v q (at + row.length) rows (omega arith) in
    rw (e, i)

pub rows_fit_law : (n at : ℕ) (rows : List Row) → at + total rows ≤ n → parts_fit n (attributes_at at rows) ≡ true
unfolding total parts_fit part_fits attributes_at is_inside
rows_fit_law n at [] h = refl
rows_fit_law n at (row ∷ rows) h =
    let k : 8 * at + 8 * row.length ≤ 8 * n = omega arith in
    and_true (le-leb (8 * at + 8 * row.length) (8 * n) k) (rows_fit_law n (at + row.length) rows (omega arith))

pub count_places : (at : ℕ) (rows : List Row) → length (attributes_at at rows) ≡ length rows
unfolding attributes_at
count_places at [] = refl
count_places at (row ∷ rows) = ap suc (count_places (at + row.length) rows)

pub count_rows : (rows : List Row) (ids : List ℕ) → length (rows_of rows ids) ≡ length ids
unfolding rows_of
count_rows rows [] = refl
count_rows rows (id ∷ ids) = ap suc (count_rows rows ids)

pub count_ids : (s : List ℕ) (at n : ℕ) → length (ids_from s at n) ≡ n
unfolding ids_from
count_ids s at zero = refl
count_ids s at (suc n) = ap suc (count_ids s (at + 8) n)

module _ (f w : List ℕ) (rows : List Row) (fine : sound_directory (length f) (length w) rows ≡ true) where
  pub length_values : (ids : List ℕ) → length (values_in f w (rows_of rows ids)) ≡ total (rows_of rows ids)
  unfolding total values_in rows_of
  length_values [] = refl
  length_values (id ∷ ids) =
      let v = value_of f w (row_of id rows) in
      let n : length v ≡ (row_of id rows).length = length_value f w (row_of id rows) (inside_area (length f) (length w) (row_of id rows) (sound_row (length f) (length w) rows fine id)) in
      omega (arith, length-append v (values_in f w (rows_of rows ids)), length_values ids)

  module _ (s : List ℕ) (m : GetRequest) {v : Values} (g : Gathers s m.ids m.count rows f w v) where
    abbrev named : List Row
    named = rows_of rows (ids_from s m.ids m.count)

    abbrev meant : Reply
    meant = get_reply (tag_of 0 [] rows f w) s m

    abbrev response : GetResponse
    response =
        record {
          fill = 0;
          eid = m.eid;
          has_iid = m.has_iid;
          iid = m.iid;
          has_attributes = true;
          count = m.count;
          rows = m.count;
          has_ret = false;
          ret = 0;
        }

    abbrev coded : Reply
    coded = record { message = kind.GetResponse response; attributes = v.attributes; lent = v.octets }

    abbrev lent : List ℕ
    lent = values_in f w named

    split : v.octets ≡ lent ++ drop g.size v.octets
    split = sym (take-append-drop g.size v.octets) ∙ ap (λ (l : List ℕ). l ++ drop g.size v.octets) g.values

    fits : 0 + total named ≤ length lent
    fits = omega (arith, length_values (ids_from s m.ids m.count))

    all_places : take m.count (attributes_at 0 named) ≡ attributes_at 0 named
    all_places =
        take_all m.count (attributes_at 0 named)
        (omega (arith, count_places 0 named, count_rows rows (ids_from s m.ids m.count), count_ids s m.ids m.count))

    placed : take m.count v.attributes ≡ take m.count (attributes_at 0 named)
    placed = g.attributes ∙ sym all_places

    same_rows : rows_values v.octets (take m.count v.attributes) ≡ rows_values lent (take m.count (attributes_at 0 named))
    same_rows =
        ap₂ rows_values split g.attributes ∙ rows_front lent (drop g.size v.octets) 0 named fits ∙ ap (rows_values lent) (sym all_places)

    same_values : values_of v.octets (kind.GetResponse response) no_entries v.attributes ≡ values_of lent (kind.GetResponse response) no_entries (attributes_at 0 named)
    unfolding values_of get_response_values
    same_values = rw same_rows

    same_fit : parts_fit (length v.octets) (take m.count v.attributes) ≡ parts_fit (length lent) (take m.count (attributes_at 0 named))
    same_fit =
        let n : length v.octets ≡ length lent + length (drop g.size v.octets) = ap length split ∙ length-append lent (drop g.size v.octets) in
        ap (parts_fit (length v.octets)) g.attributes ∙ rows_fit_law (length v.octets) 0 named (omega (arith, fits)) ∙ sym (ap (parts_fit (length lent)) all_places ∙ rows_fit_law (length lent) 0 named fits)

    same_sound : sound (length v.octets) (kind.GetResponse response) no_entries v.attributes ≡ sound (length lent) (kind.GetResponse response) no_entries (attributes_at 0 named)
    unfolding sound get_response_sound rows_sound
    same_sound = ap₂ ◌&&◌ same_fit (ap (closes m.count) placed)

    same_formed : well_formed v.octets (kind.GetResponse response) no_entries v.attributes ≡ well_formed lent (kind.GetResponse response) no_entries (attributes_at 0 named)
    unfolding well_formed
    same_formed = rw (same_values, same_sound)

    pub values_same : (keep out : List ℕ) → sent coded keep out ≡ sent meant keep out
    unfolding get_reply
    values_same keep out = sent_same coded meant same_values same_formed keep out
