-- What is read of each message behind its choice. No public contract cites these.
-- Assumes nothing.
use Rattle.std.specs.Prelude.{ℕ, ◌+◌, ◌≡◌, List, [], ◌∷◌, ◌++◌, true, false, length, replicate}
use Rattle.apdu_format.specs.Component.{choice, integer, entry_count, id_count, class}
use Rattle.apdu_format.specs.Rules.{when}
use Rattle.apdu_format.specs.Reading.{Value, fields}
use Rattle.apdu.specs.declared.lists.Lists.{Lists}
use Rattle.apdu.specs.declared.due.Due.{Due}
use Rattle.apdu.specs.declared.records.Request.{Request}
use Rattle.apdu.specs.declared.records.ActionResponse.{ActionResponse}
use Rattle.apdu.specs.declared.records.SetRequest.{SetRequest}
use Rattle.apdu.specs.declared.records.GetResponse.{GetResponse}
use Rattle.apdu.specs.declared.records.Message.{Message}
use Rattle.apdu.specs.declared.records.Message.TheVariants as kind
use Rattle.apdu.specs.Values.{bit_of, num, num_if, values_of, empty_row, empty_entry}
use Rattle.apdu.specs.Tidy.{message_tidy}
use Rattle.apdu.specs.Sound.{sound, rows_fit}
use Rattle.apdu_reading.specs.declared.cursor.Cursor.{Cursor}
use Rattle.apdu_reading.specs.declared.rows.Rows.{Rows}
use Rattle.apdu_reading.specs.declared.services.Opened.{Opened}
use Rattle.apdu_reading.specs.declared.link.LinkFront.{LinkFront}
use Rattle.apdu_reading.specs.declared.link.LinkEnd.{LinkEnd}
use Rattle.apdu_reading.specs.Cursor.{ReadsTo}
use Rattle.apdu_reading.specs.Lists.{Filled}
use Rattle.apdu_reading.specs.Optional.{Maybe}
use Rattle.apdu_reading.specs.Applications.{ListsWhole}
use Rattle.apdu_reading.specs.Answers.{first}

-- the cursor behind a message's choice
pub record Begun (c : Cursor) : Type 0 where
  pub at : c.at ≡ 4
  pub room : c.room ≡ 32

-- a whole message is read, up to r
pub record MessageRead (s : List ℕ) (r : Cursor) (m : Message) (l : Lists) : Type 0 where
  pub reads : ReadsTo s (choice ∷ []) first r (values_of s m l.entries l.rows)
  pub tidy : r.fault ≡ 0 → message_tidy m l.entries l.rows
  pub sound : r.fault ≡ 0 → sound (length s) m l.entries l.rows ≡ true
  pub few : rows_fit m l.entries ≡ true
  pub rows : length l.rows ≡ 32
  pub entries : length l.entries ≡ 32

-- ---- the link: a message up to its application lists, and the message once they and what is behind them are read

pub record FrontRead (s : List ℕ) (f : LinkFront) : Type 0 where
  pub room : f.cursor.room ≡ 32
  pub bst : f.choice ≡ 8 → {r : Cursor} {vs : List Value}
      → ReadsTo s (entry_count ∷ (when f.has_others (entry_count ∷ []) ++ (id_count ∷ []))) f.cursor r vs
      → ReadsTo s (choice ∷ []) first r
      (fields (8 ∷ []) ∷ fields (bit_of f.has_others ∷ f.manufacturer ∷ f.individual ∷ []) ∷ fields (f.time ∷ []) ∷ num f.profile ∷ vs)
  pub vst : (f.choice ≡ 8 → ⊥) → {r : Cursor} {vs : List Value} → ReadsTo s (entry_count ∷ class ∷ []) f.cursor r vs
      → ReadsTo s (choice ∷ []) first r (fields (9 ∷ []) ∷ fields (f.fill ∷ []) ∷ num f.profile ∷ vs)
  pub only : (f.choice ≡ 8 → ⊥) → f.has_others ≡ false

-- whatever the entries and their rows are, with them the message is read
pub record EndRead (s : List ℕ) (f : LinkFront) (mandatory others : ℕ) (c : Cursor) (r : LinkEnd) : Type 0 where
  pub whole : {l : Lists} → ListsWhole s f.has_others f.cursor mandatory others c l
      → MessageRead s r.cursor r.message l

-- ---- services: a message up to its rows, and the message once they and the number behind them are read

abbrev pub request_closed : Request → ℕ → ℕ → Request
request_closed m rows iid = record m { rows = rows; iid = iid }

abbrev pub action_response_closed : ActionResponse → ℕ → ℕ → ActionResponse
action_response_closed m rows ret = record m { rows = rows; ret = ret }

abbrev pub set_request_closed : SetRequest → ℕ → ℕ → SetRequest
set_request_closed m rows iid = record m { rows = rows; iid = iid }

abbrev pub get_response_closed : GetResponse → ℕ → ℕ → GetResponse
get_response_closed m rows ret = record m { rows = rows; ret = ret }

unfoldable pub closed_by : Message → ℕ → ℕ → Message
closed_by (kind.ActionRequest m) rows last = kind.ActionRequest (request_closed m rows last)
closed_by (kind.ActionResponse m) rows last = kind.ActionResponse (action_response_closed m rows last)
closed_by (kind.EventRequest m) rows last = kind.EventRequest (request_closed m rows last)
closed_by (kind.EventResponse m) rows last = kind.EventResponse m
closed_by (kind.SetRequest m) rows last = kind.SetRequest (set_request_closed m rows last)
closed_by (kind.SetResponse m) rows last = kind.SetResponse m
closed_by (kind.GetRequest m) rows last = kind.GetRequest m
closed_by (kind.GetResponse m) rows last = kind.GetResponse (get_response_closed m rows last)
closed_by (kind.Bst m) rows last = kind.Bst m
closed_by (kind.Vst m) rows last = kind.Vst m

-- the rows that are due
abbrev pub due_of : Opened → Due
due_of o = record { d1 = o.d1; d2 = o.d2; d3 = 0; d4 = 0; d5 = 0 }

-- rows of which none is read
abbrev pub unread : Cursor → Rows
unread c = record { cursor = c; used = 0; rows = replicate 32 empty_row }

-- whatever the rows and the number behind them are, with them the message is read
pub record Opens (s : List ℕ) (o : Opened) : Type 0 where
  pub room : o.cursor.fault ≡ 0 → o.d1 + o.d2 + o.cursor.room ≡ 32
  pub whole : (q : Rows) (r : Cursor) → Filled s (due_of o) (unread o.cursor) q → Maybe s o.last (integer ∷ []) q.cursor r (num_if o.last r.value)
      → MessageRead s r (closed_by o.message q.used r.value) (record { entries = replicate 32 empty_entry; rows = q.rows })
