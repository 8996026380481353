-- Each kind by its own record.
-- Assumes nothing.
use Prim.Native.Nat.{ℕ}
use mathlib.Core.Path.{◌≡◌, refl}
use Rattle.apdu.specs.declared.records.Request.{Request}
use Rattle.apdu.specs.declared.records.ActionResponse.{ActionResponse}
use Rattle.apdu.specs.declared.records.SetRequest.{SetRequest}
use Rattle.apdu.specs.declared.records.GetResponse.{GetResponse}
use Rattle.apdu.specs.declared.records.Message.{Message}
use Rattle.apdu.specs.declared.records.Message.TheVariants as kind
use Rattle.apdu_reading.specs.Messages.{closed_by}
use Rattle.apdu_reading.proofs.closing.closed.Goals as goal

-- a message of another kind has no rows and no number behind them
untouched : (m : Message) (rows last : ℕ)
    → ((x : Request) → m ≡ kind.ActionRequest x → ⊥) → ((x : ActionResponse) → m ≡ kind.ActionResponse x → ⊥)
    → ((x : Request) → m ≡ kind.EventRequest x → ⊥) → ((x : SetRequest) → m ≡ kind.SetRequest x → ⊥)
    → ((x : GetResponse) → m ≡ kind.GetResponse x → ⊥) → m ≡ closed_by m rows last
unfolding closed_by
untouched (kind.ActionRequest x) rows last a b c d e = absurd (a x refl)
untouched (kind.ActionResponse x) rows last a b c d e = absurd (b x refl)
untouched (kind.EventRequest x) rows last a b c d e = absurd (c x refl)
untouched (kind.EventResponse x) rows last a b c d e = refl
untouched (kind.SetRequest x) rows last a b c d e = absurd (d x refl)
untouched (kind.SetResponse x) rows last a b c d e = refl
untouched (kind.GetRequest x) rows last a b c d e = refl
untouched (kind.GetResponse x) rows last a b c d e = absurd (e x refl)
untouched (kind.Bst x) rows last a b c d e = refl
untouched (kind.Vst x) rows last a b c d e = refl

pub returns-in-ActionRequest : goal.returns-in-ActionRequest
unfolding closed_by
returns-in-ActionRequest c = rw c.in-ActionRequest.is

pub returns-in-ActionResponse : goal.returns-in-ActionResponse
unfolding closed_by
returns-in-ActionResponse c = rw c.in-ActionResponse.is

pub returns-in-EventRequest : goal.returns-in-EventRequest
unfolding closed_by
returns-in-EventRequest c = rw c.in-EventRequest.is

pub returns-in-SetRequest : goal.returns-in-SetRequest
unfolding closed_by
returns-in-SetRequest c = rw c.in-SetRequest.is

pub returns-in-GetResponse : goal.returns-in-GetResponse
unfolding closed_by
returns-in-GetResponse c = rw c.in-GetResponse.is

pub returns-in_default : goal.returns-in_default
unfolding closed_by
returns-in_default c = let n = c.in_default in untouched _ _ _ n.not-ActionRequest n.not-ActionResponse n.not-EventRequest n.not-SetRequest n.not-GetResponse
