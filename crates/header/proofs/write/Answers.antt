-- `header::write` meets its contract: its tests are the checks, and its octets the figure's; that what was read is written as it was is a law of the definitions.
-- Assumes nothing.
use native.Mathlib.Omega.{arith}
use mathlib.Core.List.{[], ◌∷◌}
use lib.ListN.{length-set}
use Rattle.header.proofs.Writing.{number_over, counter_over, no_room, for_one, for_two, for_three, octets_one, octets_two, octets_three, put}
use Rattle.header.proofs.RoundTrip.{writing_read}
use Rattle.header.proofs.write.Goals as goal
use Rattle.header.proofs.write.Goals.{then-h-gt-LARGEST_NUMBER-via-then-h-gt-LARGEST_NUMBER, then-h-gt-LARGEST_NUMBER-via-else-h-gt-LARGEST_NUMBER+then-h-gt-LARGEST_COUNTER}

pub returns-then-h-gt-LARGEST_NUMBER : goal.returns-then-h-gt-LARGEST_NUMBER
returns-then-h-gt-LARGEST_NUMBER c = record {
  answer =
      elim c.then-h-gt-LARGEST_NUMBER.branch [
        | then-h-gt-LARGEST_NUMBER-via-then-h-gt-LARGEST_NUMBER w ↦ number_over _ _ (omega arith)
        | then-h-gt-LARGEST_NUMBER-via-else-h-gt-LARGEST_NUMBER+then-h-gt-LARGEST_COUNTER w ↦ counter_over _ _ (omega arith) (omega arith)
      ];
  again = writing_read;
}

pub returns-then-out-n : goal.returns-then-out-n
returns-then-out-n c = record { answer = no_room _ _ (omega arith) (omega arith) c.length_for-n.ensures (omega arith); again = writing_read }

pub returns-then-n-eq1 : goal.returns-then-n-eq1
returns-then-n-eq1 c =
    let l = c.length_for-n.ensures in
    record { answer = put _ _ (omega arith) (omega arith) l (_ ∷ []) (omega arith) (omega arith) (octets_one _ (omega arith) (for_one _ l c.if-n-eq1.true) c.first_octet.ensures); again = writing_read }

pub returns-then-n-eq2 : goal.returns-then-n-eq2
returns-then-n-eq2 c =
    let l = c.length_for-n.ensures in
    let r = for_two _ l c.if-n-eq2.true in
    record { answer = put _ _ (omega arith) (omega arith) l (_ ∷ _ ∷ []) (omega arith) (omega arith) (octets_two _ (omega arith) r.0 r.1 c.first_octet-then-n-eq2.ensures c.next_octet.ensures); again = writing_read }

pub bounds-out-0-else-n-eq2 : goal.bounds-out-0-else-n-eq2
bounds-out-0-else-n-eq2 c =
    omega (arith, (for_three _ c.length_for-n.ensures c.if-n-eq1.false c.if-n-eq2.false).1)

pub bounds-out-1-else-n-eq2 : goal.bounds-out-1-else-n-eq2
bounds-out-1-else-n-eq2 c =
    simp length-set (omega (arith, (for_three _ c.length_for-n.ensures c.if-n-eq1.false c.if-n-eq2.false).1))

pub bounds-out-2 : goal.bounds-out-2
bounds-out-2 c =
    simp length-set (omega (arith, (for_three _ c.length_for-n.ensures c.if-n-eq1.false c.if-n-eq2.false).1))

pub returns-else-n-eq2 : goal.returns-else-n-eq2
returns-else-n-eq2 c =
    let l = c.length_for-n.ensures in
    let r = for_three _ l c.if-n-eq1.false c.if-n-eq2.false in
    record { answer = put _ _ (omega arith) (omega arith) l (_ ∷ _ ∷ _ ∷ []) (omega arith) (omega arith) (octets_three _ (omega arith) r.0 c.first_octet-else-n-eq2.ensures c.next_octet-else-n-eq2.ensures c.next_octet-else-n-eq2-2.ensures); again = writing_read }
