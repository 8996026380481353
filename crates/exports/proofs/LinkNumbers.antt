-- What is taken out of the numbers of the link calls is what they answer. Assumes nothing.
use Prim.Native.Nat.{ℕ, ◌≤◌}
use mathlib.Core.Path.{◌≡◌, refl, ap, sym, subst}
use mathlib.Core.Bool.{true}
use mathlib.Core.List.{List}
use native.Mathlib.Omega.{arith}
use lib.Dec.{eqb}
use Rattle.std.specs.Prelude.{Option, Some, None}
use Rattle.refusals.specs.Check.{Check, first_of}
use Rattle.refusals.proofs.Tests.{by_test, numbers_to, first_le}
use Rattle.apdu_format.specs.Reading.{read_message}
use Rattle.apdu_format.specs.Writing.{size}
use Rattle.apdu.specs.declared.lists.Lists.{Lists}
use Rattle.apdu.specs.declared.records.Bst.{Bst}
use Rattle.apdu_reading.specs.declared.front.Answer as reader
use Rattle.apdu_reading.specs.declared.front.Answer.TheVariants as answer
use Rattle.apdu_reading.specs.Answers.{told, outcome_of}
use Rattle.initialisation.specs.declared.records.Link.{Link}
use Rattle.initialisation.specs.Link.{Changed, changed, release_of, tick_of}
use Rattle.initialisation.specs.declared.hearing.Taken.{Taken}
use Rattle.initialisation.specs.Hearing.{Call, Heard, hearing_refusal, sent, vst, vst_for, reply_to, heard_of}
use Rattle.initialisation.proofs.Theorems.{hears}
use Rattle.exports.specs.LinkCalls.{change_number, reply_number, Effect, heard_effect, offer_of, Brought, call_of, offered_effect, read_effect, ChangeSays, ReplySays, OfferSays, BstSays, UnpackingRelease, UnpackingTick, UnpackingBst}
use Rattle.exports.proofs.Saying.{says, says_refused}
use Rattle.exports.proofs.ReadingBack.{read_refused}

-- ---- release and tick

change_says : (checks : List Check) (before after : Link) → numbers_to 25 checks ≡ true
    → let a = (changed checks before after).answer in ChangeSays (change_number a) a
unfolding changed change_number ChangeSays
change_says checks before after small =
    by_test (λ (c : Changed). ChangeSays (change_number c.answer) c.answer) (eqb (first_of checks) 0)
    (λ t. says 0 0 0 (omega arith) (omega arith) (omega arith))
    (λ t. says_refused (first_of checks) 0 t (omega (arith, first_le 25 checks small)) (omega arith))

pub unpacking_release : UnpackingRelease
unfolding UnpackingRelease release_of numbers_to
unpacking_release lid link = change_says _ link _ refl

pub unpacking_tick : UnpackingTick
unfolding UnpackingTick tick_of numbers_to
unpacking_tick tick link = change_says _ link _ refl

-- ---- BST

module _ (c : Call) where
  refusal_small : hearing_refusal c ≤ 26
  unfolding hearing_refusal numbers_to
  refusal_small = first_le 26 _ refl

  vst_sent : (t : Taken) → eqb (hearing_refusal c) 0 ≡ true → sent c ≡ Some t → (heard_of c).reply ≡ vst (size (vst_for t c.marks c.configuration))
  unfolding heard_of
  vst_sent t e f = rw e (ap (λ (x : Option Taken). reply_to x c.marks c.configuration) f)

  reply_says : ReplySays (reply_number (heard_of c).reply) (heard_of c).reply
  unfolding heard_of reply_number ReplySays
  reply_says =
      by_test (λ (h : Heard). ReplySays (reply_number h.reply) h.reply) (eqb (hearing_refusal c) 0) (λ t. go t (sent c) refl)
      (λ t. says_refused (hearing_refusal c) 0 t (omega (arith, refusal_small)) (omega arith))
    where
      go : eqb (hearing_refusal c) 0 ≡ true → (f : Option Taken) → sent c ≡ f
          → let x = reply_to f c.marks c.configuration in ReplySays (reply_number x) x
      go t None e = says 0 0 0 (omega arith) (omega arith) (omega arith)
      go t (Some taken) e = says 0 1 (size (vst_for taken c.marks c.configuration)) (omega arith) (omega arith) ((hears c).sent _ (vst_sent taken t e)).short

module _ (b : Brought) (s : List ℕ) (lists : Lists) where
  offer_says : (o : Option Bst) → OfferSays (offered_effect b s lists o).number b s lists o
  unfolding offered_effect heard_effect OfferSays
  offer_says None = says_refused 23 0 refl (omega arith) (omega arith)
  offer_says (Some bst) = reply_says (call_of b s lists bst)

  bst_says : (end : ℕ) (a : reader.Answer) → told s lists end a ≡ read_message s → BstSays (read_effect b s lists a).number b s lists a
  unfolding told read_effect BstSays
  bst_says end (answer.Refused k p) e = read_refused s k p (sym e)
  bst_says end (answer.Message m) e = offer_says (offer_of m)

pub unpacking_bst : UnpackingBst
unfolding UnpackingBst outcome_of
unpacking_bst b s r words' out' g =
    let x = g.reading in
    subst (λ (k : ℕ). BstSays k b s x.lists x.answer) (sym (ap (λ (e : Effect). e.number) g.is)) (bst_says b s x.lists x.end x.answer g.reads.outcome)
