-- `attribute_promises::request_among` meets its contract: 1 or 26 for too many rows, else the answer for those that are lent. What it cites holds of every call.
-- Assumes nothing.
use mathlib.Core.Path.{refl}
use native.Mathlib.Omega.{arith}
use Rattle.directory.proofs.Looking.{too_many}
use Rattle.attributes.proofs.Outcomes.{answered_1, answered_26}
use Rattle.attribute_promises.proofs.Among.{among_answered}
use Rattle.attribute_promises.proofs.Promises.{short_replies, replies_read_back, faulty_keeps, protected_unseen}
use Rattle.attribute_promises.proofs.Afterwards.{length_kept, octet_kept_always, row_kept_always, protected_kept_always, set_then_get_always}
use Rattle.attribute_promises.proofs.Refusals.{refusal_keeps}
use Rattle.attribute_promises.proofs.OneEffect.{one_effect, determined}
use Rattle.attribute_promises.proofs.RefusesOnly.{refuses_only}
use Rattle.attribute_promises.proofs.request_among.Goals as goal

pub returns-then-out-lt-LEAST_OUTPUT : goal.returns-then-out-lt-LEAST_OUTPUT
returns-then-out-lt-LEAST_OUTPUT c =
    record {
      answer = answered_1 _ _ _ _ c.read-reading.ensures.answer c.if-out-lt-LEAST_OUTPUT.true;
      short = short_replies;
      reads_back = replies_read_back;
      faulty = faulty_keeps;
      unseen = protected_unseen;
      length = length_kept;
      octet_kept = octet_kept_always;
      row_kept = row_kept_always;
      protected_kept = protected_kept_always;
      set_then_get = set_then_get_always;
      refusal_keeps = refusal_keeps;
      one_effect = one_effect;
      determined = determined;
      refuses_only = refuses_only;
    }

pub returns-then-count-gt-MOST_ROWS : goal.returns-then-count-gt-MOST_ROWS
returns-then-count-gt-MOST_ROWS c =
    record {
      answer = answered_26 _ _ _ _ c.read-reading.ensures.answer c.if-out-lt-LEAST_OUTPUT.false (too_many _ _ _ (omega arith)) refl;
      short = short_replies;
      reads_back = replies_read_back;
      faulty = faulty_keeps;
      unseen = protected_unseen;
      length = length_kept;
      octet_kept = octet_kept_always;
      row_kept = row_kept_always;
      protected_kept = protected_kept_always;
      set_then_get = set_then_get_always;
      refusal_keeps = refusal_keeps;
      one_effect = one_effect;
      determined = determined;
      refuses_only = refuses_only;
    }

pub returns : goal.returns
returns c =
    record {
      answer = among_answered _ _ _ _ _ _ _ _ _ _ _ c.request_lent.ensures c.if-count-gt-MOST_ROWS.false;
      short = short_replies;
      reads_back = replies_read_back;
      faulty = faulty_keeps;
      unseen = protected_unseen;
      length = length_kept;
      octet_kept = octet_kept_always;
      row_kept = row_kept_always;
      protected_kept = protected_kept_always;
      set_then_get = set_then_get_always;
      refusal_keeps = refusal_keeps;
      one_effect = one_effect;
      determined = determined;
      refuses_only = refuses_only;
    }
