-- What the laws below say of a program that reads and is accepted.
use Rattle.std.specs.Prelude.{◌≡◌, ◌≤◌, ℕ, suc, ℤ, Bool, true, pos, IsOk, IsTrue, List, [], ◌∷◌, Ok, Err, Result, slice_get}
use Rattle.std.specs.List.{AllByRecursion}
use Rattle.std.specs.declared.option.Option.{Option}
use Rattle.std.specs.declared.option.Option.TheVariants.{None, Some}
use Rattle.std.proofs.Common.{refl}
use Rattle.std.proofs.lemmas.Bool.{false≢true}
use Rattle.shapes_core.specs.Limits.{greatest_size, greatest_work, most_words}
use Rattle.moa_tree.specs.declared.operator.Op.{Op}
use Rattle.moa_tree.specs.Canonical.{IsBuiltItem, IsWritable}
use Rattle.moa_tree.specs.Denotation.{Store as Lists}
use Rattle.moa_tree.specs.Expr.{Item, Tree}
use Rattle.moa_tree.specs.Readings.{Reads, has_output}
use Rattle.moa_tree.specs.ShapeOf.{Shapes}
use Rattle.shape_check.specs.Costs.{size, work}
use Rattle.shape_check.specs.Layout.{areas, words}
use Rattle.shape_check.specs.Statements.{verdict_of}
use Rattle.normal_form.specs.Forms.{Normal}
use Rattle.psi_rules.specs.Areas.{given}
use Rattle.psi_rules.specs.Jobs.{forms}
use Rattle.stride_form.specs.Operational.{operational}
use Rattle.nest_build.specs.Gives.{AreLaidOut}
use Rattle.nest_jobs.specs.Leads.{nests}
use Rattle.nest_jobs.specs.Plain.{ArePlain}
use Rattle.nest_jobs.specs.Sources.{AreNestsOf, EachPasses, form_passes}
use Rattle.psi_compile.proofs.NestShapeLemmas.{Passing}
use Rattle.psi_compile.proofs.NestSourceLemmas.{any_op, fits_test, items-built, source-fits}

-- a result that is one has a value
pub there : {A E : Type 0} (result : Result A E) → IsOk result → (value : A) × (result ≡ Ok value)
there (Ok value) h = (value, refl)
there (Err error) h = absurd (false≢true h)

-- each form passes, where each that stands at a place does
passing-from : (list : List (Option Normal))
    → ((number : ℕ) (form : Normal) → slice_get list number ≡ Some (Some form) → form_passes any_op fits_test (operational form) ≡ true)
    → AllByRecursion Passing list
passing-from [] f = tt
passing-from (None ∷ list) f = (tt, passing-from list (λ number form e. f (suc number) form e))
passing-from (Some form ∷ list) f = (f 0 form refl, passing-from list (λ number other e. f (suc number) other e))

-- ---- the laws

abbrev pub WrittenLaw : Type 0
WrittenLaw = (text : List ℕ) (tree : Tree) → Reads text tree
    → AllByRecursion (IsWritable tree.version) tree.statements × IsTrue (has_output tree.statements)

abbrev pub NestedLaw : Type 0
NestedLaw = (inputs : Lists) (items : List Item) (shapes : Shapes) → verdict_of items ≡ Ok shapes → AllByRecursion IsBuiltItem items
    → ArePlain items → AreNestsOf (areas items) (forms items) (given inputs items) (nests items)

abbrev pub TakeLaw : Type 0
TakeLaw = (op_test : Op → Bool) (number_test : ℤ → Bool) (items : List Item) (number : ℕ) (form : Normal) → ArePlain items
    → EachPasses op_test number_test items → number_test (pos 0) ≡ true → slice_get (forms items) number ≡ Some (Some form)
    → form_passes op_test number_test (operational form) ≡ true

-- the laws of what bounds a program
pub record BoundLaws : Type 0 where
  pub written : WrittenLaw
  pub nested : NestedLaw
  pub limits : (items : List Item) (shapes : Shapes) → verdict_of items ≡ Ok shapes
      → (size items ≤ greatest_size) × (work items ≤ greatest_work) × (words items ≤ most_words)
  pub laid : (items : List Item) → AreLaidOut (areas items) (words items)

-- ---- a program

pub program-passes : WrittenLaw → TakeLaw → (text : List ℕ) (tree : Tree) → Reads text tree → ArePlain tree.statements
    → AllByRecursion Passing (forms tree.statements)
program-passes written take text tree reads plain =
    passing-from (forms tree.statements) (λ number form e.
    take any_op fits_test tree.statements number form plain (source-fits tree.version tree.statements (written text tree reads).0) refl e)

pub program-nests : WrittenLaw → NestedLaw → (text : List ℕ) (tree : Tree) → Reads text tree → IsOk (verdict_of tree.statements)
    → ArePlain tree.statements
    → AreNestsOf (areas tree.statements) (forms tree.statements) (given [] tree.statements) (nests tree.statements)
program-nests written nested text tree reads accepted plain =
    let found = there (verdict_of tree.statements) accepted in
    nested [] tree.statements found.0 found.1 (items-built tree.version tree.statements (written text tree reads).0) plain

-- what bounds ask of a program
pub record IsKnown (items : List Item) : Type 0 where
  pub nested : AreNestsOf (areas items) (forms items) (given [] items) (nests items)
  pub laid : AreLaidOut (areas items) (words items)
  pub few : words items ≤ most_words
  pub output : has_output items ≡ true

pub program-known : BoundLaws → (text : List ℕ) (tree : Tree) → Reads text tree → IsOk (verdict_of tree.statements)
    → ArePlain tree.statements → IsKnown tree.statements
program-known laws text tree reads accepted plain =
    let found = there (verdict_of tree.statements) accepted in
    record {
      nested = program-nests laws.written laws.nested text tree reads accepted plain;
      laid = laws.laid tree.statements;
      few = (laws.limits tree.statements found.0 found.1).2;
      output = (laws.written text tree reads).1;
    }
