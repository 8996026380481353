-- Messages of any kind: two of the same kind are compared behind their choice, and two of different kinds differ.
-- Assumes nothing.
use Prim.Native.Nat.{ℕ}
use mathlib.Core.Path.{◌≡◌, refl, sym, ◌∙◌}
use mathlib.Core.List.{List, [], ◌∷◌}
use mathlib.Core.Bool.{Bool, true, false, ◌&&◌, not}
use lib.Dec.{T}
use lib.ListN.{length}
use borrow.Author.Tests.{eq-eqb, ne_eqb}
use denote.Enum.Declared as Declared
use mir.Val.{has_key}
use borrow.Enum.Refused.{Among, opened}
use types.Run.{miss}
use Rattle.apdu_format.specs.Reading.{Value, fields}
use Rattle.apdu_format.proofs.Tests.{never}
use Rattle.apdu.specs.declared.lists.Row.{Row}
use Rattle.apdu.specs.declared.lists.Entry.{Entry}
use Rattle.apdu.specs.declared.records.Request.{Request}
use Rattle.apdu.specs.declared.records.ActionResponse.{ActionResponse}
use Rattle.apdu.specs.declared.records.Response.{Response}
use Rattle.apdu.specs.declared.records.SetRequest.{SetRequest}
use Rattle.apdu.specs.declared.records.GetRequest.{GetRequest}
use Rattle.apdu.specs.declared.records.GetResponse.{GetResponse}
use Rattle.apdu.specs.declared.records.Bst.{Bst}
use Rattle.apdu.specs.declared.records.Vst.{Vst}
use Rattle.apdu.specs.declared.records.Message.{Message}
use Rattle.apdu.specs.declared.records.Message.TheVariants as kind
use Rattle.apdu.specs.contracts.records.Message as message
use Rattle.apdu.specs.Values.{request_values, action_response_values, response_values, set_request_values, get_request_values, get_response_values, bst_values, vst_values, values_of}
use Rattle.apdu.specs.Sound.{request_sound, action_response_sound, set_request_sound, get_request_sound, get_response_sound, bst_sound, vst_sound, sound}
use Rattle.apdu_same.specs.Walk.{Agree, Compares}
use Rattle.apdu_same.proofs.Agreement.{agree_as, agree_field, agree_then}

-- ---- choices

abbrev pub choice_of : Message → ℕ
choice_of (kind.ActionRequest x) = 0
choice_of (kind.ActionResponse x) = 1
choice_of (kind.EventRequest x) = 2
choice_of (kind.EventResponse x) = 3
choice_of (kind.SetRequest x) = 4
choice_of (kind.SetResponse x) = 5
choice_of (kind.GetRequest x) = 6
choice_of (kind.GetResponse x) = 7
choice_of (kind.Bst x) = 8
choice_of (kind.Vst x) = 9

tag_choice : (m : Message) → Declared.tag_of message.the_type m ≡ choice_of m
tag_choice (kind.ActionRequest x) = refl
tag_choice (kind.ActionResponse x) = refl
tag_choice (kind.EventRequest x) = refl
tag_choice (kind.EventResponse x) = refl
tag_choice (kind.SetRequest x) = refl
tag_choice (kind.SetResponse x) = refl
tag_choice (kind.GetRequest x) = refl
tag_choice (kind.GetResponse x) = refl
tag_choice (kind.Bst x) = refl
tag_choice (kind.Vst x) = refl

-- a message begins with its choice
record Begins (vs : List Value) (k : ℕ) : Type 0 where
  rest : List Value
  is : vs ≡ fields (k ∷ []) ∷ rest

begins : (s : List ℕ) (m : Message) (es : List Entry) (vs : List Row) → Begins (values_of s m es vs) (choice_of m)
unfolding values_of
begins s (kind.ActionRequest x) es vs = record { rest = request_values s x vs; is = refl }
begins s (kind.ActionResponse x) es vs = record { rest = action_response_values s x vs; is = refl }
begins s (kind.EventRequest x) es vs = record { rest = request_values s x vs; is = refl }
begins s (kind.EventResponse x) es vs = record { rest = response_values x; is = refl }
begins s (kind.SetRequest x) es vs = record { rest = set_request_values s x vs; is = refl }
begins s (kind.SetResponse x) es vs = record { rest = response_values x; is = refl }
begins s (kind.GetRequest x) es vs = record { rest = get_request_values s x; is = refl }
begins s (kind.GetResponse x) es vs = record { rest = get_response_values s x vs; is = refl }
begins s (kind.Bst x) es vs = record { rest = bst_values s x es vs; is = refl }
begins s (kind.Vst x) es vs = record { rest = vst_values s x es vs; is = refl }

choices_differ : {us vs : List Value} {k l : ℕ} → Begins us k → Begins vs l → (k ≡ l → ⊥) → Agree us vs false
choices_differ {k = k} {l = l} p q h =
    rw (p.is, q.is)
    (agree_as (and_first false (ne_eqb k l h)) (agree_then {us' = p.rest} {vs' = q.rest} {r' = false} (agree_field k l) (λ e. never (sym (ne_eqb k l h) ∙ e))))
  where
    and_first : {a : Bool} (b : Bool) → a ≡ false → (a && b) ≡ false
    and_first b e = rw e

-- behind the same choice
behind : (k : ℕ) {f g r : Bool} {us vs : List Value} → Compares f g us vs r → Compares f g (fields (k ∷ []) ∷ us) (fields (k ∷ []) ∷ vs) r
behind k {r = r} h = record { so = λ x y. agree_as (alone (eq-eqb k k refl)) (agree_then (agree_field k k) (λ e. h.so x y)) }
  where
    alone : {a : Bool} → a ≡ true → (a && r) ≡ r
    alone e = rw e

-- ---- two messages

module _ (s : List ℕ) (a : Message) (es : List Entry) (vs : List Row) (t : List ℕ) (b : Message) (fs : List Entry) (ws : List Row) where
  -- b's tag is one of ks, and k is none of them
  pub other_kind : (k : ℕ) (ks : List ℕ) {f g : Bool} → choice_of a ≡ k → Among ks (Declared.tag_of message.the_type b) → T (not (has_key ks k))
      → Compares f g (values_of s a es vs) (values_of t b fs ws) false
  other_kind k ks e o n =
      record { so = λ x y. choices_differ (begins s a es vs) (begins t b fs ws) (λ z. miss ks k n (rw (tag_choice b ∙ sym z ∙ e) at (opened o))) }

  pub same_0 : {x y : Request} {r : Bool} → a ≡ kind.ActionRequest x → b ≡ kind.ActionRequest y
      → Compares (request_sound (length s) x vs) (request_sound (length t) y ws) (request_values s x vs) (request_values t y ws) r
      → Compares (sound (length s) a es vs) (sound (length t) b fs ws) (values_of s a es vs) (values_of t b fs ws) r
  unfolding sound values_of
  same_0 e f h = rw (e, f) (behind 0 h)

  pub same_1 : {x y : ActionResponse} {r : Bool} → a ≡ kind.ActionResponse x → b ≡ kind.ActionResponse y
      → Compares (action_response_sound (length s) x vs) (action_response_sound (length t) y ws) (action_response_values s x vs) (action_response_values t y ws) r
      → Compares (sound (length s) a es vs) (sound (length t) b fs ws) (values_of s a es vs) (values_of t b fs ws) r
  unfolding sound values_of
  same_1 e f h = rw (e, f) (behind 1 h)

  pub same_2 : {x y : Request} {r : Bool} → a ≡ kind.EventRequest x → b ≡ kind.EventRequest y
      → Compares (request_sound (length s) x vs) (request_sound (length t) y ws) (request_values s x vs) (request_values t y ws) r
      → Compares (sound (length s) a es vs) (sound (length t) b fs ws) (values_of s a es vs) (values_of t b fs ws) r
  unfolding sound values_of
  same_2 e f h = rw (e, f) (behind 2 h)

  pub same_3 : {x y : Response} {r : Bool} → a ≡ kind.EventResponse x → b ≡ kind.EventResponse y
      → Compares true true (response_values x) (response_values y) r
      → Compares (sound (length s) a es vs) (sound (length t) b fs ws) (values_of s a es vs) (values_of t b fs ws) r
  unfolding sound values_of
  same_3 e f h = rw (e, f) (behind 3 h)

  pub same_4 : {x y : SetRequest} {r : Bool} → a ≡ kind.SetRequest x → b ≡ kind.SetRequest y
      → Compares (set_request_sound (length s) x vs) (set_request_sound (length t) y ws) (set_request_values s x vs) (set_request_values t y ws) r
      → Compares (sound (length s) a es vs) (sound (length t) b fs ws) (values_of s a es vs) (values_of t b fs ws) r
  unfolding sound values_of
  same_4 e f h = rw (e, f) (behind 4 h)

  pub same_5 : {x y : Response} {r : Bool} → a ≡ kind.SetResponse x → b ≡ kind.SetResponse y
      → Compares true true (response_values x) (response_values y) r
      → Compares (sound (length s) a es vs) (sound (length t) b fs ws) (values_of s a es vs) (values_of t b fs ws) r
  unfolding sound values_of
  same_5 e f h = rw (e, f) (behind 5 h)

  pub same_6 : {x y : GetRequest} {r : Bool} → a ≡ kind.GetRequest x → b ≡ kind.GetRequest y
      → Compares (get_request_sound (length s) x) (get_request_sound (length t) y) (get_request_values s x) (get_request_values t y) r
      → Compares (sound (length s) a es vs) (sound (length t) b fs ws) (values_of s a es vs) (values_of t b fs ws) r
  unfolding sound values_of
  same_6 e f h = rw (e, f) (behind 6 h)

  pub same_7 : {x y : GetResponse} {r : Bool} → a ≡ kind.GetResponse x → b ≡ kind.GetResponse y
      → Compares (get_response_sound (length s) x vs) (get_response_sound (length t) y ws) (get_response_values s x vs) (get_response_values t y ws) r
      → Compares (sound (length s) a es vs) (sound (length t) b fs ws) (values_of s a es vs) (values_of t b fs ws) r
  unfolding sound values_of
  same_7 e f h = rw (e, f) (behind 7 h)

  pub same_8 : {x y : Bst} {r : Bool} → a ≡ kind.Bst x → b ≡ kind.Bst y
      → Compares (bst_sound (length s) x es vs) (bst_sound (length t) y fs ws) (bst_values s x es vs) (bst_values t y fs ws) r
      → Compares (sound (length s) a es vs) (sound (length t) b fs ws) (values_of s a es vs) (values_of t b fs ws) r
  unfolding sound values_of
  same_8 e f h = rw (e, f) (behind 8 h)

  pub same_9 : {x y : Vst} {r : Bool} → a ≡ kind.Vst x → b ≡ kind.Vst y
      → Compares (vst_sound (length s) x es vs) (vst_sound (length t) y fs ws) (vst_values s x es vs) (vst_values t y fs ws) r
      → Compares (sound (length s) a es vs) (sound (length t) b fs ws) (values_of s a es vs) (values_of t b fs ws) r
  unfolding sound values_of
  same_9 e f h = rw (e, f) (behind 9 h)
