-- Steps of a making, each of which hands something to what follows.
use Rattle.std.specs.Prelude.{◌≡◌, ℕ, ◌≤◌, ℤ, pos, List, ◌∷◌}
use Rattle.std.proofs.Common.{ap₂, ◌∙◌, le_refl, le_trans}
use Rattle.normal_form.specs.declared.entry.Entry.{Entry}
use Rattle.normal_form.specs.declared.term.Bind.{Bind}
use Rattle.normal_form.specs.Assignments.{Assignment, bound_to, number}
use Rattle.normal_form.specs.Formers.{Making, binding}
use Rattle.normal_form.specs.Meaning.{Store}
use Rattle.normal_form.specs.Stands.{AreBelow, Gives, IsFineBinding, StandFor, uses_below}
use Rattle.normal_form.proofs.FreshLemmas.{Agree, agree-both, agree-less, agree-number, agree-same, use-later}
use Rattle.normal_form.proofs.GivesLemmas.{Grows, binding-grows, gives-binding}

-- what is handed on fits an assignment and the next variable
abbrev pub Fits : Type 0 → Type 1
Fits X = Assignment → ℕ → X → Type 0

-- an entry that stands for a place
abbrev pub AnEntry : ℕ → Fits Entry
AnEntry place m next entry = uses_below next entry × (number m entry ≡ pos place)

-- entries that stand for places
abbrev pub TheEntries : List ℕ → Fits (List Entry)
TheEntries index m next entries = AreBelow next entries × StandFor m entries index

-- what follows gives a value, whatever fits is handed to it
abbrev pub Follows : {X : Type 0} → Store → Fits X → Assignment → ℕ → (X → Making) → ℤ → Type 0
Follows {X} s fits m next rest value =
    (other : Assignment) (x : X) (later : ℕ) → next ≤ later → Agree next m other → fits other later x
    → Gives s other (rest x later).0 value

-- a step hands what fits to what follows
abbrev pub Hands : {X : Type 0} → Store → Fits X → Assignment → ℕ → ((X → Making) → Making) → Type 0
Hands {X} s fits m next step =
    (rest : X → Making) (value : ℤ) → Follows s fits m next rest value → Gives s m (step rest next).0 value

-- variables are numbered upwards by a step in front of what is made so
abbrev pub StepGrows : {X : Type 0} → ((X → Making) → Making) → Type 0
StepGrows {X} step = (rest : X → Making) → ((x : X) → Grows (rest x)) → Grows (step rest)

-- what is handed on at once
pub hands-now : {X : Type 0} (s : Store) (fits : Fits X) (m : Assignment) (next : ℕ) (x : X) → fits m next x
    → Hands s fits m next (λ rest. rest x)
hands-now s fits m next x fit = λ rest value follows. follows m x next (le_refl next) (agree-same next m) fit

-- a step that is taken on what another hands to it
pub hands-then : {X Y : Type 0} (s : Store) (fits : Fits X) (into : Fits Y) (m : Assignment) (next : ℕ)
    (step : (X → Making) → Making) (further : X → (Y → Making) → Making) → Hands s fits m next step
    → ((other : Assignment) (x : X) (later : ℕ) → next ≤ later → Agree next m other → fits other later x
    → Hands s into other later (further x))
    → Hands s into m next (λ rest. step (λ x. further x rest))
hands-then s fits into m next step further first second = λ rest value follows.
    first (λ x. further x rest) value (λ other x later more agree fit.
    second other x later more agree fit rest value (λ last y latest again same.
    follows last y latest (le_trans more again) (agree-both next m other last agree (agree-less next later other last more same))))

-- the next variable is bound, and stands for what it is bound to
pub hands-binding : (s : Store) (m : Assignment) (next : ℕ) (bind : Bind) (place : ℕ)
    → IsFineBinding m bind → bound_to m bind ≡ place → Hands s (AnEntry place) m next (binding bind)
hands-binding s m next bind place fine same = λ rest value follows.
    gives-binding s m next bind rest place value fine same
    (λ other entry later more agree below stands. follows other entry later more agree (below, stands))

pub grows-binding : (bind : Bind) → StepGrows (binding bind)
grows-binding bind = λ rest grows next. binding-grows bind rest next grows

-- an entry keeps its place while variables are bound
pub entry-later : (m other : Assignment) (next later : ℕ) (entry : Entry) (place : ℕ) → next ≤ later → Agree next m other
    → AnEntry place m next entry → AnEntry place other later entry
entry-later m other next later entry place more agree fit =
    (use-later next later entry more fit.0, agree-number next m other entry agree fit.0 ∙ fit.1)

-- an entry in front of others
pub entry-and : (m : Assignment) (next : ℕ) (entry : Entry) (place : ℕ) (entries : List Entry) (index : List ℕ)
    → AnEntry place m next entry → TheEntries index m next entries → TheEntries (place ∷ index) m next (entry ∷ entries)
entry-and m next entry place entries index first others =
    ((first.0, others.0), ap₂ (λ z more. z ∷ more) first.1 others.1)
