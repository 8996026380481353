-- Laws of the link calls: what the functions below answer, packed, is what the definitions give. Assumes nothing.
use Prim.Native.Nat.{ℕ}
use mathlib.Core.Path.{◌≡◌, refl, ap, ◌∙◌}
use mathlib.Core.List.{List}
use Rattle.std.specs.Prelude.{Option, None, Result}
use Rattle.refusals.specs.Check.{Answer}
use Rattle.refusals.specs.declared.Refusal.{Refusal}
use Rattle.apdu.specs.declared.records.Bst.{Bst}
use Rattle.apdu.specs.declared.records.Message.{Message}
use Rattle.apdu.specs.declared.records.Message.TheVariants as kind
use Rattle.apdu_reading.specs.declared.front.Answer.TheVariants as answer
use Rattle.apdu_reading.specs.declared.front.Reading.{Reading}
use Rattle.apdu_reading.specs.Answers.{Reads}
use Rattle.initialisation.specs.declared.records.Link.{Link}
use Rattle.initialisation.specs.Link.{Changed}
use Rattle.initialisation.specs.Hearing.{Call, Reply, reply_of, heard_of, BstGives}
use Rattle.exports.specs.Messages.{refusal_number, refusal_at}
use Rattle.exports.specs.LinkCalls.{change_number, change_words, ChangeGives, reply_number, reply_words, effect, heard_effect, offer_of, Brought, call_of, offered_effect, read_effect, BstEffect}

-- ---- release and tick

pub changes : (c : Changed) (words : List ℕ) {a : Answer (Unit {0})} {link : Link} {r : ℕ} {words' : List ℕ} → a ≡ c.answer → link ≡ c.link
    → (r ≡ change_number a) × (words' ≡ change_words a link words) → ChangeGives c words r words'
changes c words {link = link} p q e =
    record {
      is = e.0 ∙ ap change_number p;
      words_are = e.1 ∙ ap (λ (x : Answer (Unit {0})). change_words x link words) p ∙ ap (λ (l : Link). change_words c.answer l words) q;
    }

-- ---- BST

pub heard_is : (words : List ℕ) (c : Call) {answer : Result (Option ℕ) Refusal} {after : Link} {r : ℕ} {words' out' : List ℕ} → BstGives c answer after out'
    → (r ≡ reply_number (reply_of answer)) × (words' ≡ reply_words (reply_of answer) after words)
    → effect r words' out' ≡ heard_effect words c
unfolding heard_effect
heard_is words c {after = after} g e =
    let n : _ ≡ reply_number (heard_of c).reply = e.0 ∙ ap reply_number g.reply_is in
    let w : _ ≡ reply_words (heard_of c).reply (heard_of c).link words =
    e.1 ∙ ap (λ (x : Reply). reply_words x after words) g.reply_is ∙ ap (λ (l : Link). reply_words (heard_of c).reply l words) g.link_is in
    let o = g.output_is in
    cc

-- a message that is no BST brings none
no_bst : (m : Message) → ((bst : Bst) → m ≡ kind.Bst bst → ⊥) → offer_of m ≡ None
no_bst (kind.ActionRequest x) other = refl
no_bst (kind.ActionResponse x) other = refl
no_bst (kind.EventRequest x) other = refl
no_bst (kind.EventResponse x) other = refl
no_bst (kind.SetRequest x) other = refl
no_bst (kind.SetResponse x) other = refl
no_bst (kind.GetRequest x) other = refl
no_bst (kind.GetResponse x) other = refl
no_bst (kind.Bst bst) other = absurd (other bst refl)
no_bst (kind.Vst x) other = refl

module _ (b : Brought) (s : List ℕ) (g : Reading) (e : Reads s g) where
  by_reading_law : {r : ℕ} {words' out' : List ℕ} → effect r words' out' ≡ read_effect b s g.lists g.answer → BstEffect b s r words' out'
  by_reading_law i = record { reading = g; reads = e; is = i }

  pub bst_refused : (k p : ℕ) {r : ℕ} → g.answer ≡ answer.Refused k p → r ≡ refusal_at k p → BstEffect b s r b.words b.out
  unfolding read_effect
  bst_refused k p a q = by_reading_law (rw a (ap (λ (n : ℕ). effect n b.words b.out) q))

  pub bst_other : (m : Message) {r : ℕ} → g.answer ≡ answer.Message m → ((bst : Bst) → m ≡ kind.Bst bst → ⊥) → r ≡ refusal_number 23
      → BstEffect b s r b.words b.out
  unfolding read_effect offered_effect
  bst_other m a n q = by_reading_law (rw (a, no_bst m n) (ap (λ (n : ℕ). effect n b.words b.out) q))

  pub bst_heard : (m : Message) (bst : Bst) {r : ℕ} {words' out' : List ℕ} → g.answer ≡ answer.Message m → m ≡ kind.Bst bst
      → effect r words' out' ≡ heard_effect b.words (call_of b s g.lists bst) → BstEffect b s r words' out'
  unfolding read_effect offered_effect
  bst_heard m bst a n q = by_reading_law (rw (a, n) q)
