-- What is made for a checked program, and the text that spells it.
use Rattle.std.proofs.Common.{◌≡◌, ℕ, ◌*◌, ◌^◌, ◌≤◌, List, [], ◌∷◌, length, map, sym, subst, ap, ◌∙◌, arith}
use Rattle.std.specs.Prelude.{Err, IfOk, IsOk, IsTrue, Ok, Result}
use Rattle.std.specs.List.{AllByRecursion, list_all, zip}
use Rattle.std.proofs.lemmas.List.{length-map}
use Rattle.shapes_core.specs.Limits.{greatest_size, greatest_work}
use Rattle.loop_ir.specs.declared.step.Step.{Step}
use Rattle.loop_ir.specs.Pool.{tree as tree_of_nest}
use Rattle.loop_ir.specs.Steps.{Steps}
use Rattle.moa_tree.specs.Expr.{Tree}
use Rattle.moa_tree.specs.Readings.{Reads}
use Rattle.nest_jobs.specs.Leads.{nests}
use Rattle.nest_jobs.specs.Plain.{ArePlain}
use Rattle.register_map.specs.Fits.{IsFit}
use Rattle.register_map.specs.Homes.{Given}
use Rattle.rv_emit.specs.Emitting.{program}
use Rattle.rv_emit.specs.Pricing.{is_base_op, total_cost, total_time}
use Rattle.rv_emit.specs.Programs.{most_spill}
use Rattle.rv_emit.specs.Simulating.{AreHomed, AreReady, is_steady_op}
use Rattle.rv_line.specs.declared.assembly.Header.{Header}
use Rattle.rv_line.specs.declared.line.Line.{Line}
use Rattle.rv_line.specs.Emitted.{as_emitted}
use Rattle.rv_line.specs.Parts.{Parts}
use Rattle.rv_line.specs.Spells.{Spells}
use Rattle.rv_steps.specs.Good.{IsStart, Serves}
use Rattle.rv_steps.specs.Kinds.{is_base, is_free}
use Rattle.rv_steps.specs.Machine.{Config}
use Rattle.rv_steps.specs.Stops.{Ends}
use Rattle.shape_check.specs.Costs.{size, work}
use Rattle.shape_check.specs.Layout.{areas}
use Rattle.shape_check.specs.Statements.{verdict_of}
use Rattle.psi_compile.specs.Assembled.{IsAssembled}
use Rattle.psi_compile.specs.Assigned.{AreAssigned, IsAssigned}
use Rattle.psi_compile.specs.Compiled.{IsCompiled, UsesOnly}
use Rattle.psi_compile.specs.Demands.{denoted}
use Rattle.psi_compile.proofs.MadeLemmas.{zip-length}
use Rattle.psi_compile.proofs.NestLemmas.{homed-of}

-- ---- the laws

abbrev pub NestsAreReady : Type 0
NestsAreReady = (text : List ℕ) (tree : Tree) (homes : List Given) → Reads text tree → IsOk (verdict_of tree.statements)
    → ArePlain tree.statements → AreAssigned (nests tree.statements) homes
    → AreReady (most_spill homes) (zip (nests tree.statements) homes)

abbrev pub NestsHaveFewLines : Type 0
NestsHaveFewLines = (text : List ℕ) (tree : Tree) (homes : List Given) → Reads text tree → IsOk (verdict_of tree.statements)
    → ArePlain tree.statements → AreAssigned (nests tree.statements) homes
    → total_cost (zip (nests tree.statements) homes) ≤ 240 * size tree.statements

abbrev pub NestsSpillLittle : Type 0
NestsSpillLittle = (text : List ℕ) (tree : Tree) (homes : List Given) → Reads text tree → IsOk (verdict_of tree.statements)
    → ArePlain tree.statements → AreAssigned (nests tree.statements) homes
    → most_spill homes ≤ 8 * size tree.statements

abbrev pub NestsTakeFewSteps : Type 0
NestsTakeFewSteps = (text : List ℕ) (tree : Tree) (homes : List Given) → Reads text tree → IsOk (verdict_of tree.statements)
    → ArePlain tree.statements → AreAssigned (nests tree.statements) homes
    → total_time (zip (nests tree.statements) homes) ≤ 1024 * work tree.statements

abbrev pub SizesAreSmall : Type 0
SizesAreSmall = (text : List ℕ) (tree : Tree) → Reads text tree → IsOk (verdict_of tree.statements) → size tree.statements ≤ greatest_size

abbrev pub WorksAreSmall : Type 0
WorksAreSmall = (text : List ℕ) (tree : Tree) → Reads text tree → IsOk (verdict_of tree.statements) → work tree.statements ≤ greatest_work

abbrev pub ProgramsHaveLines : Type 0
ProgramsHaveLines = (nests : List (Steps × Given)) (spill : ℕ) → AreHomed spill nests → spill ≤ 8192
    → length (program spill nests 0).lines ≤ total_cost nests

abbrev pub ProgramsMakeSteps : Type 0
ProgramsMakeSteps = (nests : List (Steps × Given)) (spill : ℕ) → AreHomed spill nests → spill ≤ 8192
    → (program spill nests 0).steps ≤ total_time nests

abbrev pub LinesAreFree : Type 0
LinesAreFree = (nests : List (Steps × Given)) (spill : ℕ) → AreHomed spill nests → IsTrue (list_all is_free (program spill nests 0).lines)

abbrev pub ProgramsServe : Type 0
ProgramsServe = (text : List ℕ) (tree : Tree) (homes : List Given) (header : Header) (lines : List Line) (base : ℕ) (c : Config)
    → Reads text tree → IsOk (verdict_of tree.statements) → ArePlain tree.statements → AreAssigned (nests tree.statements) homes
    → header.spill ≡ most_spill homes → header.steps ≡ (program header.spill (zip (nests tree.statements) homes) 0).steps
    → lines ≡ (program header.spill (zip (nests tree.statements) homes) 0).lines
    → IsStart header (areas tree.statements) lines base c
    → Serves header (areas tree.statements) lines (denoted tree) base c

abbrev pub StepsAreExact : Type 0
StepsAreExact = (text : List ℕ) (tree : Tree) (homes : List Given) (header : Header) (lines : List Line) (base : ℕ) (c : Config)
    → Reads text tree → IsOk (verdict_of tree.statements) → ArePlain tree.statements → AreAssigned (nests tree.statements) homes
    → header.spill ≡ most_spill homes → header.steps ≡ (program header.spill (zip (nests tree.statements) homes) 0).steps
    → lines ≡ (program header.spill (zip (nests tree.statements) homes) 0).lines
    → UsesOnly is_steady_op tree → IsStart header (areas tree.statements) lines base c
    → (last : Config) × Ends lines base header.steps c last

abbrev pub LinesAreBase : Type 0
LinesAreBase = (tree : Tree) (homes : List Given) (spill : ℕ) → ArePlain tree.statements → UsesOnly is_base_op tree
    → IsTrue (list_all is_base (program spill (zip (nests tree.statements) homes) 0).lines)

pub record Laws : Type 0 where
  pub ready : NestsAreReady
  pub lines : NestsHaveFewLines
  pub spill : NestsSpillLittle
  pub steps : NestsTakeFewSteps
  pub size : SizesAreSmall
  pub work : WorksAreSmall
  pub cost : ProgramsHaveLines
  pub time : ProgramsMakeSteps
  pub free : LinesAreFree
  pub serves : ProgramsServe
  pub exact : StepsAreExact
  pub base : LinesAreBase

-- ---- what is made of nests with homes

fit-of : (spill : ℕ) (nests : List (Steps × Given)) → AreHomed spill nests → AllByRecursion (λ nest. IsFit nest.0 nest.1) nests
fit-of spill [] homed = tt
fit-of spill (nest ∷ nests) homed = (homed.0.fit, fit-of spill nests homed.1)

-- the same nests and the same homes, under other names
pub given-too : (made one other : List (List (List Step))) (homes theirs : List Given) → one ≡ made → other ≡ made → theirs ≡ homes
    → AreAssigned (map tree_of_nest one) homes → AreAssigned (map tree_of_nest other) theirs
given-too made one other homes theirs e f g given =
    subst (λ l. AreAssigned (map tree_of_nest other) l) (sym g) (subst (λ l. AreAssigned (map tree_of_nest l) homes) (e ∙ sym f) given)

pub as-many : (made : List (List (List Step))) (homes : List Given) → AreAssigned (map tree_of_nest made) homes → length made ≡ length homes
as-many made homes given = sym (length-map made tree_of_nest) ∙ zip-length IsAssigned (map tree_of_nest made) homes given

module _ (laws : Laws) (source : List ℕ) (tree : Tree) (reads : Reads source tree) (accepted : IsOk (verdict_of tree.statements))
    (plain : ArePlain tree.statements) (trees : List Steps) (same : trees ≡ nests tree.statements) (homes : List Given)
    (given : AreAssigned trees homes) where
  assigned : AreAssigned (nests tree.statements) homes
  assigned = subst (λ t. AreAssigned t homes) same given

  ready : AreHomed (most_spill homes) (zip trees homes)
  ready = homed-of (most_spill homes) (zip trees homes)
      (subst (λ t. AreReady (most_spill homes) (zip t homes)) (sym same) (laws.ready source tree homes reads accepted plain assigned))

  pub fit : AllByRecursion (λ nest. IsFit nest.0 nest.1) (zip trees homes)
  fit = fit-of (most_spill homes) (zip trees homes) ready

  few : total_cost (zip trees homes) ≤ 240 * size tree.statements
  few = subst (λ t. total_cost (zip t homes) ≤ 240 * size tree.statements) (sym same)
      (laws.lines source tree homes reads accepted plain assigned)

  short : total_time (zip trees homes) ≤ 1024 * work tree.statements
  short = subst (λ t. total_time (zip t homes) ≤ 1024 * work tree.statements) (sym same)
      (laws.steps source tree homes reads accepted plain assigned)

  pub few_lines : total_cost (zip trees homes) ≤ 245760
  few_lines = omega (arith, few, laws.size source tree reads accepted)

  pub few_spill : most_spill homes ≤ 8192
  few_spill = omega (arith, laws.spill source tree homes reads accepted plain assigned, laws.size source tree reads accepted)

  pub few_steps : total_time (zip trees homes) ≤ 2 ^ 50
  few_steps = omega (arith, short, laws.work source tree reads accepted)

  module _ (made : Parts) (lines : made.lines ≡ (program (most_spill homes) (zip trees homes) 0).lines)
      (header : made.header ≡ record { steps = (program (most_spill homes) (zip trees homes) 0).steps; spill = most_spill homes })
      (laid : made.areas ≡ areas tree.statements) where
    spill-is : made.header.spill ≡ most_spill homes
    spill-is = ap (λ (h : Header). h.spill) header

    steps-are : made.header.steps ≡ (program (most_spill homes) (zip trees homes) 0).steps
    steps-are = ap (λ (h : Header). h.steps) header

    by-tree : (program (most_spill homes) (zip trees homes) 0) ≡ program made.header.spill (zip (nests tree.statements) homes) 0
    by-tree = ap (λ s. program s (zip trees homes) 0) (sym spill-is) ∙ ap (λ t. program made.header.spill (zip t homes) 0) same

    their-lines : made.lines ≡ (program made.header.spill (zip (nests tree.statements) homes) 0).lines
    their-lines = lines ∙ ap (λ p. p.lines) by-tree

    their-steps : made.header.steps ≡ (program made.header.spill (zip (nests tree.statements) homes) 0).steps
    their-steps = steps-are ∙ ap (λ p. p.steps) by-tree

    fewest : length made.lines ≤ total_cost (zip trees homes)
    fewest = subst (λ l. length l ≤ total_cost (zip trees homes)) (sym lines)
        (laws.cost (zip trees homes) (most_spill homes) ready few_spill)

    shortest : made.header.steps ≤ total_time (zip trees homes)
    shortest = subst (λ n. n ≤ total_time (zip trees homes)) (sym steps-are)
        (laws.time (zip trees homes) (most_spill homes) ready few_spill)

    assembled : IsAssembled tree made
    assembled = record {
      accepted = accepted;
      layout = laid;
      serves = λ base c start.
          subst (λ a. Serves made.header a made.lines (denoted tree) base c) (sym laid)
          (laws.serves source tree homes made.header made.lines base c reads accepted plain assigned spill-is their-steps their-lines
          (subst (λ a. IsStart made.header a made.lines base c) laid start));
      bounded = record {
        lines = omega (arith, fewest, few);
        most_lines = omega (arith, fewest, few_lines);
        spill = subst (λ n. n ≤ 8 * size tree.statements) (sym spill-is) (laws.spill source tree homes reads accepted plain assigned);
        steps = omega (arith, shortest, short);
      };
      free_registers = subst (λ l. IsTrue (list_all is_free l)) (sym lines) (laws.free (zip trees homes) (most_spill homes) ready);
      exact_steps = λ steady base c start.
          laws.exact source tree homes made.header made.lines base c reads accepted plain assigned spill-is their-steps their-lines steady
          (subst (λ a. IsStart made.header a made.lines base c) laid start);
      no_multiplication = λ only.
          subst (λ l. IsTrue (list_all is_base l)) (sym their-lines) (laws.base tree homes made.header.spill plain only);
    }

  -- what is emitted, if memory is there
  pub all_assembled : {E : Type 0} (r : Result Parts E)
      → IfOk r (λ made. made.lines ≡ (program (most_spill homes) (zip trees homes) 0).lines)
      → IfOk r (λ made. made.header ≡ record { steps = (program (most_spill homes) (zip trees homes) 0).steps; spill = most_spill homes })
      → IfOk r (λ made. made.areas ≡ areas tree.statements) → IfOk r (IsAssembled tree)
  all_assembled (Ok made) lines header laid = assembled made lines header laid
  all_assembled (Err e) lines header laid = tt

-- ---- the text that spells it

-- where its lines stand in a text is not said
as-emitted : (tree : Tree) (made : Parts) → IsAssembled tree made → IsAssembled tree (as_emitted made)
as-emitted tree made assembled = record {
  accepted = assembled.accepted;
  layout = assembled.layout;
  serves = assembled.serves;
  bounded = record {
    lines = assembled.bounded.lines;
    most_lines = assembled.bounded.most_lines;
    spill = assembled.bounded.spill;
    steps = assembled.bounded.steps;
  };
  free_registers = assembled.free_registers;
  exact_steps = assembled.exact_steps;
  no_multiplication = assembled.no_multiplication;
}

by-text : (tree : Tree) → ArePlain tree.statements → (made : Parts) → IsAssembled tree made → (text : List ℕ) → Spells text made
    → ((text : List ℕ) (p q : Parts) → Spells text p → Spells text q → p ≡ q) → IsCompiled tree text
by-text tree plain made assembled text spelled one = record {
  good = record {
    program = made;
    spelled = spelled;
    only = λ other spells. one text other made spells spelled;
    layout = assembled.layout;
    serves = assembled.serves;
  };
  built = plain;
  accepted = assembled.accepted;
  bounded = assembled.bounded;
  free_registers = assembled.free_registers;
  exact_steps = assembled.exact_steps;
  no_multiplication = assembled.no_multiplication;
}

pub compiled : (tree : Tree) → ArePlain tree.statements → (made : Parts) → IsAssembled tree made → (text : List ℕ)
    → Spells text (as_emitted made)
    → ((text : List ℕ) (p q : Parts) → Spells text p → Spells text q → p ≡ q) → IsCompiled tree text
compiled tree plain made assembled text spelled one = by-text tree plain (as_emitted made) (as-emitted tree made assembled) text spelled one
