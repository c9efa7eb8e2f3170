-- What is written of a form: terms that stand for it as the four rules leave it. This project's own.
use Rattle.std.specs.Prelude.{◌≡◌, ℕ, ◌+◌, ◌<◌, ◌≤◌, ◌||◌, ◌&&◌, ◌==◌, Bool, false, List, [], ◌∷◌, ◌++◌, length, if◌then◌else◌}
use Rattle.shapes_core.specs.Limits.{most_items}
use Rattle.normal_form.specs.declared.term.Bind.{Bind}
use Rattle.normal_form.specs.Cutting.{terms_in}
use Rattle.normal_form.specs.Forms.{Normal}
use Rattle.normal_form.specs.Kept.{IsKept}
use Rattle.stride_form.specs.declared.facts.Fact.{Fact}
use Rattle.stride_form.specs.declared.op_term.OpTerm.{OpTerm}
use Rattle.stride_form.specs.declared.pile.Bound.{Bound}
use Rattle.stride_form.specs.Facts.{Facts, fact_of, knowing}
use Rattle.stride_form.specs.Kept.{AreOpOrdered}
use Rattle.stride_form.specs.KeptFacts.{AreKeptFacts}
use Rattle.stride_form.specs.Operational.{Operational}
use Rattle.stride_form.specs.Pool.{op_form_at, op_forms}
use Rattle.stride_form.specs.Rules.{is_bound_over, needed, passed, resolved_bind, stands, where_needed}
use Rattle.stride_form.specs.Small.{Flags, IsSmallFact, either, fact_at, flag_at, flagged}

-- what is known of variables, the variables that stand somewhere, and the terms so far
pub record Written : Type 0 where
  pub facts : List Fact
  pub flags : List Bool
  pub terms : List OpTerm

-- operands stand before their terms, and the terms are few
pub record IsOpPool (terms : List OpTerm) : Type 0 where
  pub ordered : AreOpOrdered 0 terms
  pub few : length terms ≤ most_items

-- a form may be written where this is known: it is kept, and so is what is known
pub record IsReady (facts : Facts) (form : Normal) : Type 0 where
  pub known : List ℕ
  pub own : ℕ
  pub kept : IsKept own known form
  pub facts_kept : AreKeptFacts known facts

-- and there is room for its terms
abbrev pub HasRoom : Written → Normal → Type 0
HasRoom old form = length old.terms + terms_in form ≤ most_items

-- the term of this number is there, and is this form
pub record OpStands (terms : List OpTerm) (number : ℕ) (form : Operational) : Type 0 where
  pub there : number < length terms
  pub same : op_form_at (op_forms terms) number ≡ form

-- what stands goes on standing
abbrev pub OpKeeps : List OpTerm → List OpTerm → Type 0
OpKeeps old new = (number : ℕ) (form : Operational) → OpStands old number form → OpStands new number form

-- this form is written as the last term, by so many terms at most: as much is known as before, and its variables are marked
pub record Writes (form : Operational) (most : ℕ) (old new : Written) (number : ℕ) : Type 0 where
  pub stands_there : OpStands new.terms number form
  pub last : 1 + number ≡ length new.terms
  pub keeps : OpKeeps old.terms new.terms
  pub few : length new.terms ≤ length old.terms + most
  pub facts : fact_at new.facts ≡ fact_at old.facts
  pub flags : flag_at new.flags ≡ either (flag_at old.flags) (λ var. stands var form)

-- a form is written as the four rules leave it
abbrev pub IsWritten : Normal → Written → Written → ℕ → Type 0
IsWritten form old new number = Writes (needed (passed (fact_at old.facts) form)) (terms_in form) old new number

-- one term is pushed
pub record Pushes (term : OpTerm) (old new : Written) (number : ℕ) : Type 0 where
  pub terms : new.terms ≡ old.terms ++ term ∷ []
  pub place : number ≡ length old.terms
  pub facts : new.facts ≡ old.facts
  pub flags : new.flags ≡ old.flags

-- something else is known of a variable
pub record Knows (var : ℕ) (fact : Fact) (old new : Written) : Type 0 where
  pub facts : fact_at new.facts ≡ knowing (fact_at old.facts) var fact
  pub flags : new.flags ≡ old.flags
  pub terms : new.terms ≡ old.terms

-- the test of a variable is set
pub record Flagged (var : ℕ) (flag : Bool) (old new : Written) : Type 0 where
  pub flags : flag_at new.flags ≡ flagged (flag_at old.flags) var flag
  pub facts : new.facts ≡ old.facts
  pub terms : new.terms ≡ old.terms

-- the tests of these variables are set
pub record Marks (more : Flags) (old new : Written) : Type 0 where
  pub flags : flag_at new.flags ≡ either (flag_at old.flags) more
  pub facts : new.facts ≡ old.facts
  pub terms : new.terms ≡ old.terms

-- ---- chains of bindings

-- a form under bindings, the outermost first: each is there where it is needed
abbrev pub under : List Bound → Operational → Operational
under [] form = form
under (first ∷ others) form = where_needed (stands first.var (under others form)) first.var first.bind (under others form)

-- Bindings lead from what is known and marked to what is: each has what was known of its variable and whether it was marked.
abbrev pub Opens : Facts → Flags → List Bound → Facts → Flags → Type 0
Opens facts flags [] now marked = (now ≡ facts) × (marked ≡ flags)
Opens facts flags (first ∷ others) now marked =
    (first.fact ≡ facts first.var) × ((first.flag ≡ flags first.var)
    × Opens (knowing facts first.var (fact_of facts first.bind)) (flagged flags first.var false) others now marked)

-- a binding is opened: it is put behind those that are open
pub record IsOpened (var : ℕ) (bind : Bind) (before after : List Bound) (old new : Written) : Type 0 where
  pub bound : Bound
  pub pile : after ≡ before ++ bound ∷ []
  pub var_is : bound.var ≡ var
  pub bind_is : bound.bind ≡ resolved_bind (fact_at old.facts) bind
  pub fact_is : bound.fact ≡ fact_at old.facts var
  pub small : IsSmallFact bound.fact
  pub flag_is : bound.flag ≡ flag_at old.flags var
  pub facts : fact_at new.facts ≡ knowing (fact_at old.facts) var (fact_of (fact_at old.facts) (resolved_bind (fact_at old.facts) bind))
  pub flags : flag_at new.flags ≡ flagged (flag_at old.flags) var false
  pub terms : new.terms ≡ old.terms

-- the tests behind a binding that is closed
abbrev pub closed_flags : Bound → Flags → Flags
closed_flags bound flags var =
    (if var == bound.var then bound.flag || flags var else flags var) || (flags bound.var && is_bound_over var bound.bind)

-- a binding is closed over a form that stands as the last term: it is written where its variable is marked
pub record IsClosed (bound : Bound) (form : Operational) (old new : Written) (number : ℕ) : Type 0 where
  pub stands_there : OpStands new.terms number (where_needed (flag_at old.flags bound.var) bound.var bound.bind form)
  pub last : 1 + number ≡ length new.terms
  pub keeps : OpKeeps old.terms new.terms
  pub few : length new.terms ≤ 1 + length old.terms
  pub facts : fact_at new.facts ≡ knowing (fact_at old.facts) bound.var bound.fact
  pub flags : flag_at new.flags ≡ closed_flags bound (flag_at old.flags)
