-- By the kind that was read: each case is one of the four contents.
-- Assumes nothing.
use native.Mathlib.Numerals.{add-one}
use Rattle.apdu_reading.proofs.Containers.{opens_fault, opens_string, opens_integer, opens_ids, opens_rows, is_list}
use Rattle.apdu_reading.proofs.container.container.Goals as goal

pub returns-then-k-ne0 : goal.returns-then-k-ne0
returns-then-k-ne0 c = opens_fault _ _ _ c.kind-k.ensures.0 c.if-k-ne0.true

pub returns-then-k-eq-OCTET_STRING : goal.returns-then-k-eq-OCTET_STRING
returns-then-k-eq-OCTET_STRING c = opens_string _ _ _ c.kind-k.ensures.0 c.if-k-ne0.false c.if-k-eq-OCTET_STRING.true c.string-d.ensures

pub returns-then-k-eq-DSRC_EID : goal.returns-then-k-eq-DSRC_EID
returns-then-k-eq-DSRC_EID c = opens_integer _ _ _ c.kind-k.ensures.0 c.if-k-ne0.false c.if-k-eq-DSRC_EID.true c.integer-d.ensures

pub returns-then-k-eq-ATTRIBUTE_ID_LIST : goal.returns-then-k-eq-ATTRIBUTE_ID_LIST
returns-then-k-eq-ATTRIBUTE_ID_LIST c = opens_ids _ _ _ c.kind-k.ensures.0 c.if-k-ne0.false c.if-k-eq-ATTRIBUTE_ID_LIST.true c.id_list-d.ensures

pub returns : goal.returns
returns c =
    let k = c.kind-k.ensures.0 in
    opens_rows _ _ _ k c.if-k-ne0.false (is_list _ _ _ k c.if-k-ne0.false c.if-k-eq-OCTET_STRING.false c.if-k-eq-DSRC_EID.false c.if-k-eq-ATTRIBUTE_ID_LIST.false) (rw add-one at c.row_count-d.ensures.0) c.row_count-d.ensures.1
