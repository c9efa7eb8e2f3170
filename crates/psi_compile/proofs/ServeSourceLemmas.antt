-- That forms take their operators from the source, from the law on operators and numbers.
use Rattle.std.specs.Prelude.{◌≡◌, ℕ, Bool, true, ◌&&◌, ℤ, pos, List, slice_get, Some}
use Rattle.std.specs.List.{flat_map}
use Rattle.std.proofs.Common.{refl, subst, sym}
use Rattle.moa_tree.specs.declared.operator.Op.{Op}
use Rattle.moa_tree.specs.Expr.{Expr, Two, Outer, Item}
use Rattle.moa_tree.specs.Subexpressions.{subexpressions_of}
use Rattle.normal_form.specs.Forms.{Un, Bin, Normal}
use Rattle.psi_rules.specs.Jobs.{forms}
use Rattle.stride_form.specs.Operational.{Operational, operational}
use Rattle.stride_form.specs.Rules.{operational_on}
use Rattle.nest_jobs.specs.Plain.{ArePlain}
use Rattle.nest_jobs.specs.Sources.{EachPasses, form_passes, passes}
use Rattle.psi_compile.specs.Compiled.{uses}
use Rattle.psi_compile.proofs.ServeListLemmas.{both, each-follows}
use Rattle.psi_compile.proofs.ServeOperatorLemmas.{FormPasses, TakesOperators}

-- any number passes
abbrev any_number : ℤ → Bool
any_number value = true

uses-pass : (test : Op → Bool) (expr : Expr) → uses test expr ≡ true → passes test any_number expr ≡ true
uses-pass test (Two op left right) h = h
uses-pass test (Outer op left right) h = h
uses-pass test _ h = refl

form-pass : (test : Op → Bool) (form : Operational) → form_passes test any_number form ≡ true → FormPasses test form
form-pass test (Un op of) h = form-pass test of h
form-pass test (Bin op left right) h =
    let outer = both (test op) (form_passes test any_number left && form_passes test any_number right) h in
    let inner = both (form_passes test any_number left) (form_passes test any_number right) outer.1 in
    (outer.0, form-pass test left inner.0, form-pass test right inner.1)
form-pass test _ h = tt

-- operators and numbers of forms pass where those of the source do
abbrev pub TakeFromSources : Type 0
TakeFromSources =
    (op_test : Op → Bool) (number_test : ℤ → Bool) (items : List Item) (number : ℕ) (form : Normal) → ArePlain items
    → EachPasses op_test number_test items → number_test (pos 0) ≡ true → slice_get (forms items) number ≡ Some (Some form)
    → form_passes op_test number_test (operational form) ≡ true

-- and the rules change nothing in these forms
abbrev pub LeavePlainForms : Type 0
LeavePlainForms =
    (items : List Item) (number : ℕ) (form : Normal) (region : List (ℕ × ℕ)) → ArePlain items
    → slice_get (forms items) number ≡ Some (Some form) → operational_on region form ≡ operational form

pub takes-operators : TakeFromSources → LeavePlainForms → TakesOperators
takes-operators law rules test items plain used number form region e =
    subst (FormPasses test) (sym (rules items number form region plain e))
    (form-pass test (operational form)
    (law test any_number items number form plain
    (each-follows (λ expr. uses test expr ≡ true) (λ expr. passes test any_number expr ≡ true) (uses-pass test)
    (flat_map subexpressions_of items) used) refl e))
