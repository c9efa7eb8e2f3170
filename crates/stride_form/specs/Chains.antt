-- Chains of bindings that are opened from the outermost inwards, and closed from the innermost outwards. This project's own.
use Rattle.std.specs.Prelude.{◌≡◌, ℕ, ◌+◌, ◌≤◌, Bool, true, false, List, length}
use Rattle.std.specs.List.{AllByRecursion}
use Rattle.normal_form.specs.Cutting.{terms_in}
use Rattle.normal_form.specs.Forms.{Lit, Index, Get, Un, Bin, Case, Fold, Let, Normal}
use Rattle.stride_form.specs.declared.op_term.OpTerm.{OpTerm}
use Rattle.stride_form.specs.declared.pile.Bound.{Bound}
use Rattle.stride_form.specs.Facts.{Facts}
use Rattle.stride_form.specs.Operational.{Operational}
use Rattle.stride_form.specs.Rules.{needed, passed, stands}
use Rattle.stride_form.specs.Small.{Flags, IsSmallFact, either, fact_at, flag_at}
use Rattle.stride_form.specs.Writing.{IsReady, OpKeeps, OpStands, Opens, Written, under}

-- a form is a binding
abbrev pub is_let : Normal → Bool
is_let (Lit value) = false
is_let (Index entry) = false
is_let (Get load) = false
is_let (Un op of) = false
is_let (Bin op left right) = false
is_let (Case entry below first second) = false
is_let (Fold op var low high of) = false
is_let (Let var bind of) = true

-- what was known of the variables that are bound is small
abbrev pub AreSmall : List Bound → Type 0
AreSmall pile = AllByRecursion (λ bound. IsSmallFact bound.fact) pile

-- bindings are opened from a whole form down to the form that they are over, which may be written
pub record IsDown (whole form : Normal) (pile : List Bound) (old new : Written) : Type 0 where
  pub same : needed (passed (fact_at old.facts) whole) ≡ under pile (needed (passed (fact_at new.facts) form))
  pub count : terms_in whole ≡ length pile + terms_in form
  pub opens : Opens (fact_at old.facts) (flag_at old.flags) pile (fact_at new.facts) (flag_at new.flags)
  pub small : AreSmall pile
  pub ready : IsReady (fact_at new.facts) form
  pub terms : new.terms ≡ old.terms

-- Bindings are open over a form that is written last, and its variables are marked. All of it is this whole form, and its terms will be so many at most.
pub record AreOpen (facts : Facts) (flags : Flags) (pile : List Bound) (whole : Operational) (first : List OpTerm) (most : ℕ)
    (now : Written) (number : ℕ) : Type 0 where
  pub marked : Flags
  pub form : Operational
  pub opens : Opens facts flags pile (fact_at now.facts) marked
  pub flags_now : flag_at now.flags ≡ either marked (λ var. stands var form)
  pub same : under pile form ≡ whole
  pub stands_there : OpStands now.terms number form
  pub last : 1 + number ≡ length now.terms
  pub keeps : OpKeeps first now.terms
  pub few : length now.terms + length pile ≤ most
