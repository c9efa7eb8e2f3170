-- What lists of actions need, by facts of keys.
use Rattle.std.specs.Prelude.{◌≡◌, ◌⊎◌, ℕ, Bool, true, false, not, ◌&&◌, ◌||◌, List, [], ◌∷◌, ◌++◌}
use Rattle.std.specs.List.{AllByRecursion}
use Rattle.std.proofs.Common.{refl, ap, subst, sym, inl, inr, ◌∙◌}
use Rattle.std.proofs.lemmas.Bool.{eqb-true, eq-eqb, false≢true, true≢false, and_parts, not-true}
use Rattle.loop_ir.specs.Needed.{Keys, among, needed, none, reads, sets}
use Rattle.loop_ir.specs.Running.{Key, Register, Pointer, is_key}
use Rattle.loop_ir.specs.Steps.{Action, Steps, Then, For, joined}
use Rattle.nest_build.specs.Nests.{listed}

-- each key that passes a test has this
abbrev pub Within : Keys → (Key → Type 0) → Type 0
Within keys P = (key : Key) → keys key ≡ true → P key

-- a key has this, or is another one
abbrev pub Or : (Key → Type 0) → Key → Key → Type 0
Or P other key = P key ⊎ (key ≡ other)

-- one list of steps behind another needs what the first does
abbrev pub JoinNeeds : Type 0
JoinNeeds = (first second : Steps) (after : Keys) (key : Key) → needed (joined first second) after key ≡ needed first (needed second after) key

-- ---- tests

pub either : {X : Type 0} (a b : Bool) → (a || b) ≡ true → (a ≡ true → X) → (b ≡ true → X) → X
either true b h one other = one refl
either false b h one other = other h

pub first_fails : (a b : Bool) → (a || b) ≡ false → a ≡ false
first_fails true b h = absurd (true≢false h)
first_fails false b h = refl

key-self : (key : Key) → is_key key key ≡ true
key-self (Register number) = eq-eqb number number refl
key-self (Pointer number) = eq-eqb number number refl

key-same : (key other : Key) → is_key key other ≡ true → key ≡ other
key-same (Register number) (Register other) h = ap Register (eqb-true number other h)
key-same (Pointer number) (Pointer other) h = ap Pointer (eqb-true number other h)
key-same (Register number) (Pointer other) h = absurd (false≢true h)
key-same (Pointer number) (Register other) h = absurd (false≢true h)

among-each : (P : Key → Type 0) (keys : List Key) → AllByRecursion P keys → (key : Key) → among keys key ≡ true → P key
among-each P [] all key h = absurd (false≢true h)
among-each P (other ∷ keys) all key h =
    either (is_key key other) (among keys key) h
    (λ same. subst P (sym (key-same key other same)) all.0)
    (λ inside. among-each P keys all.1 key inside)

pub none-within : (P : Key → Type 0) → Within none P
none-within P key h = absurd (false≢true h)

-- what is another key, and is not among it, has this
pub apart : (P : Key → Type 0) (other key : Key) → Or P other key → is_key key other ≡ false → P key
apart P other key (inl known) h = known
apart P other key (inr same) h = absurd (true≢false (sym (subst (λ k. is_key k other ≡ true) (sym same) (key-self other)) ∙ h))

pub set-apart : (P : Key → Type 0) (other key : Key) → Or P other key → among (other ∷ []) key ≡ false → P key
set-apart P other key known h = apart P other key known (first_fails (is_key key other) false h)

-- ---- actions

pub then-within : (P Q : Key → Type 0) (action : Action) (rest : Steps) (after : Keys) → AllByRecursion P (reads action)
    → ((key : Key) → Q key → among (sets action) key ≡ false → P key) → Within (needed rest after) Q → Within (needed (Then action rest) after) P
then-within P Q action rest after reading setting h key need =
    either (among (reads action) key) (needed rest after key && not (among (sets action) key)) need
    (among-each P (reads action) reading key)
    (λ behind. let parts = and_parts (needed rest after key) (not (among (sets action) key)) behind in
    setting key (h key parts.0) (not-true (among (sets action) key) parts.1))

pub for-within : (P Q : Key → Type 0) (counter turns : ℕ) (body rest : Steps) (after : Keys)
    → ((key : Key) → Q key → is_key key (Register counter) ≡ false → P key) → Within (needed body none) Q → Within (needed rest after) Q
    → Within (needed (For counter turns body rest) after) P
for-within P Q counter turns body rest after setting inner h key need =
    let parts = and_parts (needed rest after key || needed body none key) (not (is_key key (Register counter))) need in
    setting key (either (needed rest after key) (needed body none key) parts.0 (h key) (inner key))
    (not-true (is_key key (Register counter)) parts.1)

append-needs : (actions others : List Action) (after : Keys) (key : Key)
    → needed (listed (actions ++ others)) after key ≡ needed (listed actions) (needed (listed others) after) key
append-needs [] others after key = refl
append-needs (action ∷ actions) others after key =
    ap (λ behind. among (reads action) key || (behind && not (among (sets action) key))) (append-needs actions others after key)

pub append-within : (P : Key → Type 0) (actions others : List Action) (after : Keys)
    → Within (needed (listed actions) (needed (listed others) after)) P
    → Within (needed (listed (actions ++ others)) after) P
append-within P actions others after h key need = h key (sym (append-needs actions others after key) ∙ need)

pub join-within : JoinNeeds → (P : Key → Type 0) (first second : Steps) (after : Keys) → Within (needed first (needed second after)) P
    → Within (needed (joined first second) after) P
join-within law P first second after h key need = h key (sym (law first second after key) ∙ need)
