-- The cases of tidiness hold. Whether a record is tidy is decided part by part, and the decisions compute to what the cases say.
-- Assumes nothing.
use Prim.Native.Nat.{ℕ, zero, suc, ◌≤◌}
use mathlib.Core.Path.{◌≡◌, refl, sym}
use mathlib.Core.Bool.{Bool, true, false, false≢true}
use mathlib.Core.List.{List, [], ◌∷◌, map}
use native.Mathlib.Omega.{arith}
use lib.ListN.{get_or}
use Rattle.refusals.specs.Check.{pick}
use Rattle.apdu.specs.declared.lists.Row.{Row}
use Rattle.apdu.specs.declared.lists.Entry.{Entry}
use Rattle.apdu.specs.declared.records.Message.{Message}
use Rattle.apdu.specs.declared.records.Message.TheVariants as kind
use Rattle.apdu.specs.Values.{empty_row, empty_entry, entry_rows, rows_of}
use Rattle.apdu.specs.Tidy.{zeros, Absent, RowsTidy, EntriesTidy, ListsTidy, entry_tidy, row_tidy, message_tidy}
use Rattle.apdu.proofs.Laws.{zero_tidy}
use Rattle.apdu.specs.TidyCases.{Case, cases, Judged, Each, TidyCasesHold}

-- ---- decisions

iff : {A B : Type 0} → (A → B) → (B → A) → Dec A → Dec B
iff f g (yes a) = yes (f a)
iff f g (no h) = no (λ b. h (g b))

both : {A B : Type 0} → Dec A → Dec B → Dec (A × B)
both (yes a) (yes b) = yes (a, b)
both (yes a) (no f) = no (λ t. f t.1)
both (no f) b = no (λ t. f t.0)

three : {A B C : Type 0} → Dec A → Dec (B × C) → Dec (A × B × C)
three a b = iff (λ t. (t.0, t.1.0, t.1.1)) (λ t. (t.0, (t.1, t.2))) (both a b)

four : {A B C D : Type 0} → Dec A → Dec (B × C × D) → Dec (A × B × C × D)
four a b = iff (λ t. (t.0, t.1.0, t.1.1, t.1.2)) (λ t. (t.0, (t.1, t.2, t.3))) (both a b)

-- ---- numbers

is_false : (b : Bool) → Dec (b ≡ false)
is_false true = no (λ e. false≢true (sym e))
is_false false = yes refl

is_zero : (n : ℕ) → Dec (n ≡ 0)
is_zero zero = yes refl
is_zero (suc n) = no (λ e. omega arith)

all_zero_law : (ns : List ℕ) → Dec (zeros ns)
all_zero_law [] = yes tt
all_zero_law (n ∷ ns) = both (is_zero n) (all_zero_law ns)

absent : (p : Bool) (ns : List ℕ) → Dec (Absent p ns)
absent true ns = yes (record { are = λ e. absurd (false≢true (sym e)) })
absent false ns = iff (λ z. record { are = λ e. z }) (λ a. a.are refl) (all_zero_law ns)

-- a record's parts, however many
ruleset decisions = (four, three, both, absent)

-- ---- lists

-- every element meets P, as the one beyond the end does
each : {A : Type 0} (P : A → Type 0) (d : A) → P d → ((x : A) → Dec (P x)) → (l : List A) → Dec ((j : ℕ) → P (get_or l j d))
each P d h f [] = yes (λ j. h)
each P d h f (x ∷ l) = iff at (λ k. (k 0, λ j. k (suc j))) (both (f x) (each P d h f l))
  where
    at : P x × ((j : ℕ) → P (get_or l j d)) → (j : ℕ) → P (get_or (x ∷ l) j d)
    at t zero = t.0
    at t (suc j) = t.1 j

-- from the used ones on every element is d
rest : {A : Type 0} (d : A) → ((x : A) → Dec (x ≡ d)) → (used : ℕ) (l : List A) → Dec ((j : ℕ) → used ≤ j → get_or l j d ≡ d)
rest d f used [] = yes (λ j h. refl)
rest d f zero (x ∷ l) = iff at (λ k. (k 0 (omega arith), λ j h. k (suc j) (omega arith))) (both (f x) (rest d f zero l))
  where
    at : (x ≡ d) × ((j : ℕ) → 0 ≤ j → get_or l j d ≡ d) → (j : ℕ) → 0 ≤ j → get_or (x ∷ l) j d ≡ d
    at t zero h = t.0
    at t (suc j) h = t.1 j (omega arith)
rest d f (suc used) (x ∷ l) = iff at (λ k j h. k (suc j) (omega arith)) (rest d f used l)
  where
    at : ((j : ℕ) → used ≤ j → get_or l j d ≡ d) → (j : ℕ) → suc used ≤ j → get_or (x ∷ l) j d ≡ d
    at k zero h = absurd (omega arith)
    at k (suc j) h = k j (omega arith)

-- ---- rows and entries

is_empty_row : (r : Row) → Dec (r ≡ empty_row)
is_empty_row r =
    iff (λ z. made _ _ _ _ z.0 z.1.0 z.1.1.0 z.1.1.1.0) (λ e. rw e (refl, (refl, (refl, (refl, tt))))) (all_zero_law (r.id ∷ r.kind ∷ r.n ∷ r.start ∷ []))
  where
    made : (a b c d : ℕ) → a ≡ 0 → b ≡ 0 → c ≡ 0 → d ≡ 0 → record { id = a; kind = b; n = c; start = d } ≡ empty_row
    made a b c d e f g h = rw (e, f, g, h)

is_empty_entry : (e : Entry) → Dec (e ≡ empty_entry)
is_empty_entry e =
    iff (λ z. made _ _ _ _ _ _ _ _ z.0 z.1 z.2.0 z.2.1.0 z.2.1.1.0 z.2.1.1.1.0 z.2.1.1.1.1.0 z.2.1.1.1.1.1.0)
    (λ e. rw e (refl, refl, (refl, (refl, (refl, (refl, (refl, (refl, tt))))))))
    (three (is_false e.has_eid) (both (is_false e.has_parameter) (all_zero_law (e.aid ∷ e.eid ∷ e.kind ∷ e.rows ∷ e.n ∷ e.start ∷ []))))
  where
    made : (p q : Bool) (a b c d n s : ℕ) → p ≡ false → q ≡ false → a ≡ 0 → b ≡ 0 → c ≡ 0 → d ≡ 0 → n ≡ 0 → s ≡ 0
        → record { has_eid = p; has_parameter = q; aid = a; eid = b; kind = c; rows = d; n = n; start = s } ≡ empty_entry
    made p q a b c d n s e f g h i j k l = rw (e, f, g, h, i, j, k, l)

rows_tidy : (used : ℕ) (rs : List Row) → Dec (RowsTidy used rs)
rows_tidy used rs =
    iff (λ t. record { each = t.0; rest = t.1 }) (λ t. (t.each, t.rest))
    (both (each row_tidy empty_row zero_tidy (λ r. absent _ _) rs) (rest empty_row is_empty_row used rs))

entries_tidy : (used : ℕ) (es : List Entry) → Dec (EntriesTidy used es)
entries_tidy used es = iff (λ t. record { rest = t }) (λ t. t.rest) (rest empty_entry is_empty_entry used es)

lists_tidy : (n : ℕ) (es : List Entry) (rs : List Row) → Dec (ListsTidy n es rs)
lists_tidy n es rs =
    iff (λ t. record { each = t.0; entries = t.1; rows = t.2 }) (λ t. (t.each, t.entries, t.rows))
    (three (each entry_tidy empty_entry (zero_tidy, record { are = λ e. (refl, (refl, (refl, (refl, tt)))) }, zero_tidy) (λ e. search decisions) es) (both (entries_tidy _ _) (rows_tidy _ _)))

message_tidy_law : (m : Message) (es : List Entry) (rs : List Row) → Dec (message_tidy m es rs)
unfolding message_tidy
message_tidy_law (kind.ActionRequest m) es rs = search (decisions, rows_tidy, entries_tidy)
message_tidy_law (kind.ActionResponse m) es rs = search (decisions, rows_tidy, entries_tidy)
message_tidy_law (kind.EventRequest m) es rs = search (decisions, rows_tidy, entries_tidy)
message_tidy_law (kind.EventResponse m) es rs = search (decisions, rows_tidy, entries_tidy)
message_tidy_law (kind.SetRequest m) es rs = search (decisions, rows_tidy, entries_tidy)
message_tidy_law (kind.SetResponse m) es rs = search (decisions, rows_tidy, entries_tidy)
message_tidy_law (kind.GetRequest m) es rs = search (decisions, rows_tidy, entries_tidy)
message_tidy_law (kind.GetResponse m) es rs = search (decisions, rows_tidy, entries_tidy)
message_tidy_law (kind.Bst m) es rs = search (decisions, lists_tidy)
message_tidy_law (kind.Vst m) es rs = search (decisions, lists_tidy)

-- ---- cases

said : {T : Type 0} → Dec T → Bool
said (yes t) = true
said (no f) = false

tidy_case : Case → Bool
tidy_case c = said (message_tidy_law c.message c.entries c.rows)

-- what was decided is so
judged : (tidy : Bool) {T : Type 0} (t : Dec T) → said t ≡ tidy → pick tidy T (T → ⊥)
unfolding said
judged true (yes t) e = t
judged true (no f) e = absurd (false≢true e)
judged false (yes t) e = absurd (false≢true (sym e))
judged false (no f) e = f

each_case : (cs : List Case) → map tidy_case cs ≡ map (λ (c : Case). c.tidy) cs → Each cs
unfolding Each Judged tidy_case
each_case [] e = tt
each_case (c ∷ cs) e = (judged c.tidy (message_tidy_law c.message c.entries c.rows) (cc), each_case cs (cc))

decided : map tidy_case cases ≡ map (λ (c : Case). c.tidy) cases
unfolding iff both three four is_false is_zero all_zero_law absent each rest is_empty_row is_empty_entry rows_tidy entries_tidy lists_tidy message_tidy_law said tidy_case message_tidy rows_of entry_rows
decided = refl

pub tidy_cases_hold : TidyCasesHold
tidy_cases_hold = each_case cases decided
