-- The link calls over words (01, "The tag's link"): the link is what the lent words are; a refusal leaves them, and any other answer puts the link of the
-- call there. Words that are no link are one out of range (23). A BST call reads its message first: reading's refusal, then 23 for a message that is no BST,
-- since there is no BST record then; then the checks of the call.
-- Assumes nothing.
use Rattle.std.specs.Prelude.{ℕ, ◌≡◌, Option, Some, None, List}
use Rattle.refusals.specs.Check.{Answer, refused, accepted}
use Rattle.apdu.specs.declared.lists.Lists.{Lists}
use Rattle.apdu.specs.declared.records.Bst.{Bst}
use Rattle.apdu.specs.declared.records.Message.{Message}
use Rattle.apdu.specs.declared.records.Message.TheVariants as kind
use Rattle.apdu_reading.specs.declared.front.Answer as reader
use Rattle.apdu_reading.specs.declared.front.Answer.TheVariants as answer
use Rattle.apdu_reading.specs.declared.front.Reading.{Reading}
use Rattle.apdu_reading.specs.Answers.{Reads}
use Rattle.initialisation.specs.declared.records.Configuration.{Configuration}
use Rattle.initialisation.specs.declared.records.Elements.{Elements}
use Rattle.initialisation.specs.declared.records.Link.{Link}
use Rattle.initialisation.specs.Link.{Changed, release_of, tick_of}
use Rattle.initialisation.specs.Hearing as hearing
use Rattle.initialisation.specs.Hearing.{Call, call, heard_of}
use Rattle.words.specs.Answer.{answer_number, Says, SaysRefused}
use Rattle.words.specs.LinkWords.{with_link, link_in}
use Rattle.exports.specs.Messages.{refusal_number, refusal_at}

-- ---- release and tick

unfoldable pub change_number : Answer (Unit {0}) → ℕ
change_number (accepted u) = answer_number 0 0 0 0
change_number (refused k) = refusal_number k

unfoldable pub change_words : Answer (Unit {0}) → Link → List ℕ → List ℕ
change_words (accepted u) link words = with_link link words
change_words (refused k) link words = words

-- the contract: r and the words afterwards are those of what the call answers, and of the link after it
pub record ChangeGives (c : Changed) (words : List ℕ) (r : ℕ) (words' : List ℕ) : Type 0 where
  pub is : r ≡ change_number c.answer
  pub words_are : words' ≡ change_words c.answer c.link words

-- ---- BST

-- kind 0: silent; kind 1: a VST of so many octets
unfoldable pub reply_number : hearing.Reply → ℕ
reply_number (hearing.refused k) = refusal_number k
reply_number hearing.silent = answer_number 0 0 0 0
reply_number (hearing.vst n) = answer_number 0 1 n 0

unfoldable pub reply_words : hearing.Reply → Link → List ℕ → List ℕ
reply_words (hearing.refused k) link words = words
reply_words hearing.silent link words = with_link link words
reply_words (hearing.vst n) link words = with_link link words

-- the answer, and the link's words and the output afterwards
pub record Effect : Type 0 where
  pub number : ℕ
  pub words : List ℕ
  pub output : List ℕ

abbrev pub effect : ℕ → List ℕ → List ℕ → Effect
effect r words out = record { number = r; words = words; output = out }

-- a call with a BST record
unfoldable pub heard_effect : List ℕ → Call → Effect
heard_effect words c = effect (reply_number (heard_of c).reply) (reply_words (heard_of c).reply (heard_of c).link words) (heard_of c).out

-- the BST record of a message, if it is one
abbrev pub offer_of : Message → Option Bst
offer_of (kind.ActionRequest m) = None
offer_of (kind.ActionResponse m) = None
offer_of (kind.EventRequest m) = None
offer_of (kind.EventResponse m) = None
offer_of (kind.SetRequest m) = None
offer_of (kind.SetResponse m) = None
offer_of (kind.GetRequest m) = None
offer_of (kind.GetResponse m) = None
offer_of (kind.Bst m) = Some m
offer_of (kind.Vst m) = None

-- what an export brings besides the message; `words` are the link's
pub record Brought : Type 0 where
  pub words : List ℕ
  pub tick : ℕ
  pub lid : ℕ
  pub own : Elements
  pub marks : List ℕ
  pub configuration : Configuration
  pub out : List ℕ

abbrev pub brought : List ℕ → (tick lid : ℕ) → Elements → List ℕ → Configuration → List ℕ → Brought
brought words tick lid own marks k out =
    record { words = words; tick = tick; lid = lid; own = own; marks = marks; configuration = k; out = out }

abbrev pub call_of : Brought → List ℕ → Lists → Bst → Call
call_of b s lists bst = call (link_in b.words) bst lists s b.tick b.lid b.own b.marks b.configuration b.out

unfoldable pub offered_effect : Brought → List ℕ → Lists → Option Bst → Effect
offered_effect b s lists None = effect (refusal_number 23) b.words b.out
offered_effect b s lists (Some bst) = heard_effect b.words (call_of b s lists bst)

unfoldable pub read_effect : Brought → List ℕ → Lists → reader.Answer → Effect
read_effect b s lists (answer.Refused k p) = effect (refusal_at k p) b.words b.out
read_effect b s lists (answer.Message m) = offered_effect b s lists (offer_of m)

-- the contract: the answer, words and output are those of the definition, for the record that reading makes of s
pub record BstEffect (b : Brought) (s : List ℕ) (r : ℕ) (words' out' : List ℕ) : Type 0 where
  pub reading : Reading
  pub reads : Reads s reading
  pub is : effect r words' out' ≡ read_effect b s reading.lists reading.answer

-- ---- what a caller takes out of a number r

unfoldable pub ChangeSays : (r : ℕ) → Answer (Unit {0}) → Type 0
ChangeSays r (accepted u) = Says r 0 0 0 0
ChangeSays r (refused k) = SaysRefused r k 0

unfoldable pub ReplySays : (r : ℕ) → hearing.Reply → Type 0
ReplySays r (hearing.refused k) = SaysRefused r k 0
ReplySays r hearing.silent = Says r 0 0 0 0
ReplySays r (hearing.vst n) = Says r 0 1 n 0

unfoldable pub OfferSays : (r : ℕ) → Brought → List ℕ → Lists → Option Bst → Type 0
OfferSays r b s lists None = SaysRefused r 23 0
OfferSays r b s lists (Some bst) = ReplySays r (heard_of (call_of b s lists bst)).reply

unfoldable pub BstSays : (r : ℕ) → Brought → List ℕ → Lists → reader.Answer → Type 0
BstSays r b s lists (answer.Refused k p) = SaysRefused r k p
BstSays r b s lists (answer.Message m) = OfferSays r b s lists (offer_of m)

-- ---- the link after a BST call

unfoldable pub offered_link : Brought → List ℕ → Lists → Option Bst → Link
offered_link b s lists None = link_in b.words
offered_link b s lists (Some bst) = (heard_of (call_of b s lists bst)).link

unfoldable pub heard_link : Brought → List ℕ → Lists → reader.Answer → Link
heard_link b s lists (answer.Refused k p) = link_in b.words
heard_link b s lists (answer.Message m) = offered_link b s lists (offer_of m)

-- ---- promises (proofs/LinkNumbers.antt and LinkKept.antt prove them; `link_release`, `link_tick` and `link_bst` cite two each)

-- what is taken out of the number is what the call answers
unfoldable pub UnpackingRelease : Type 0
UnpackingRelease = (lid : ℕ) (link : Link) → let a = (release_of lid link).answer in ChangeSays (change_number a) a

unfoldable pub UnpackingTick : Type 0
UnpackingTick = (tick : ℕ) (link : Link) → let a = (tick_of tick link).answer in ChangeSays (change_number a) a

unfoldable pub UnpackingBst : Type 0
UnpackingBst =
    (b : Brought) (s : List ℕ) (r : ℕ) (words' out' : List ℕ) (g : BstEffect b s r words' out')
    → BstSays r b s g.reading.lists g.reading.answer

-- and the words afterwards are the link after the call, so exported calls on the same words are calls on that link
unfoldable pub KeptReleased : Type 0
KeptReleased =
    (lid : ℕ) (words : List ℕ) (r : ℕ) (words' : List ℕ) → ChangeGives (release_of lid (link_in words)) words r words'
    → link_in words' ≡ (release_of lid (link_in words)).link

unfoldable pub KeptTicked : Type 0
KeptTicked =
    (tick : ℕ) (words : List ℕ) (r : ℕ) (words' : List ℕ) → ChangeGives (tick_of tick (link_in words)) words r words'
    → link_in words' ≡ (tick_of tick (link_in words)).link

unfoldable pub KeptHeard : Type 0
KeptHeard =
    (b : Brought) (s : List ℕ) (r : ℕ) (words' out' : List ℕ) (g : BstEffect b s r words' out')
    → link_in words' ≡ heard_link b s g.reading.lists g.reading.answer
