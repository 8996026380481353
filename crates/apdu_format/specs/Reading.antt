-- Reading (01, "Messages"): the length first, then component by component from the left, up to the first fault. Places are bit places; the position of a
-- refusal is the octet of its place. One step reads one component; what it brings is read before what follows it.
-- Assumes nothing.
use Rattle.std.specs.Prelude.{ℕ, zero, suc, ◌+◌, ◌-◌, ◌*◌, ◌/◌, List, [], ◌∷◌, ◌++◌, length, take, drop, ltb, eqb}
use Rattle.refusals.specs.Check.{pick, check, first_of}
use Rattle.bits.specs.Bits.{bits, number}
use Rattle.apdu_format.specs.Limits.{longest_message, most_rows}
use Rattle.apdu_format.specs.Component.{Component, choice}
use Rattle.apdu_format.specs.Rules.{Shape, widths, raw, shape, begins, checks_of, brings, announced}

-- ---- one component

-- what a component holds: the numbers of its fields; or the bits of a string, with the place where they start
pub data Value : Type 0 where
  fields : List ℕ → Value
  string : ℕ → List ℕ → Value

unfoldable pub numbers_of : Value → List ℕ
numbers_of (fields fs) = fs
numbers_of (string at l) = []

unfoldable pub sum : List ℕ → ℕ
sum [] = 0
sum (w ∷ ws) = w + sum ws

-- how many bits a component takes
unfoldable pub need : Shape → ℕ
need (widths ws) = sum ws
need (raw n) = 8 * n

unfoldable pub fields_of : List ℕ → List ℕ → List ℕ
fields_of [] l = []
fields_of (w ∷ ws) l = number w l ∷ fields_of ws (drop w l)

-- what stands at place at, where the bits l begin
unfoldable pub value_at : Shape → ℕ → List ℕ → Value
value_at (widths ws) at l = fields (fields_of ws l)
value_at (raw n) at l = string at (take (8 * n) l)

-- ---- one step

pub record State : Type 0 where
  pub at : ℕ  -- the next bit
  pub begun : ℕ  -- where the component begins of which a piece was read last
  pub room : ℕ  -- how many attribute rows may still be announced
  pub fault : ℕ  -- 0, or the refusal's number
  pub position : ℕ  -- and its position
  pub log : List Value  -- what was read

-- the octet in which a bit place lies
unfoldable pub octet_of : ℕ → ℕ
octet_of at = at / 8

-- where the component begins of which i is a piece
unfoldable pub beginning : Component → State → ℕ
beginning i d = pick (begins i) d.at d.begun

-- the first fault of a component with this value in the message's bits b, or 0
unfoldable pub fault_of : List ℕ → Component → State → Value → ℕ
fault_of b i d v = first_of (check 13 (ltb (length b) (d.at + need (shape i))) ∷ checks_of i d.room (numbers_of v))

-- for 13 the input's length, else the octet in which the component begins
unfoldable pub position_of : List ℕ → ℕ → ℕ → ℕ
position_of b k begun = pick (eqb k 13) (octet_of (length b)) (octet_of begun)

-- a state, and what the component read brings with it
pub record Step : Type 0 where
  pub state : State
  pub more : List Component

abbrev pub refused_at : State → ℕ → ℕ → Step
refused_at d k p = record { state = record { at = d.at; begun = d.begun; room = d.room; fault = k; position = p; log = [] }; more = [] }

abbrev pub passed : State → Component → Value → Step
passed d i v =
    record {
      state =
          record {
            at = d.at + need (shape i);
            begun = beginning i d;
            room = d.room - announced i (numbers_of v);
            fault = 0;
            position = 0;
            log = d.log ++ (v ∷ []);
          };
      more = brings i (numbers_of v);
    }

unfoldable pub judged : List ℕ → Component → State → Value → Step
judged b i d v = pick (eqb (fault_of b i d v) 0) (passed d i v) (refused_at d (fault_of b i d v) (position_of b (fault_of b i d v) (beginning i d)))

-- nothing is read behind a fault
unfoldable pub step : List ℕ → Component → State → Step
step b i d = pick (eqb d.fault 0) (judged b i d (value_at (shape i) d.at (drop d.at b))) (record { state = d; more = [] })

-- ---- a message

-- f at each component in turn
unfoldable pub through : {S : Type 0} → (Component → S → S) → List Component → S → S
through f [] d = d
through f (i ∷ is) d = through f is (f i d)

-- the components is, each with what it brings, down to so many levels
unfoldable pub run : List ℕ → ℕ → List Component → State → State
run b zero is d = d
run b (suc l) is d = through (λ i d. let t = step b i d in run b l t.more t.state) is d

-- a message never goes deeper (proofs/Levels.antt): its leading part, an application list, an entry and four nested attribute lists
abbrev pub levels : ℕ
levels = 16

-- the components is in turn, each with what it brings before the next
unfoldable pub runs : List ℕ → List Component → State → State
runs b is d = run b levels is d

abbrev pub start : State
start = record { at = 0; begun = 0; room = most_rows; fault = 0; position = 0; log = [] }

pub data Outcome : Type 0 where
  refused : ℕ → ℕ → Outcome  -- number and position
  message : List Value → ℕ → Outcome  -- what was read, and the place behind it

unfoldable pub outcome : State → Outcome
outcome d = pick (eqb d.fault 0) (message d.log d.at) (refused d.fault d.position)

-- the message at the front of s
unfoldable pub read_front : List ℕ → Outcome
read_front s = outcome (runs (bits s) (choice ∷ []) start)

-- 14, if octets are left behind it
unfoldable pub alone : List ℕ → Outcome → Outcome
alone s (refused k p) = refused k p
alone s (message vs end) = pick (ltb end (8 * length s)) (refused 14 (octet_of end)) (message vs end)

-- the message that s is
unfoldable pub read_message : List ℕ → Outcome
read_message s = pick (ltb longest_message (length s)) (refused 21 longest_message) (alone s (read_front s))
