-- What a text is that a program is compiled to. This project's own.
use Rattle.std.specs.Prelude.{ℕ, ◌≡◌, ◌≤◌, ◌*◌, IsOk, IsTrue, Bool, true, List, length}
use Rattle.std.specs.List.{AllByRecursion, list_all}
use Rattle.moa_tree.specs.declared.operator.Op.{Op}
use Rattle.moa_tree.specs.Expr.{Expr, Two, Outer, Tree}
use Rattle.rv_line.specs.Parts.{Parts}
use Rattle.rv_emit.specs.Pricing.{is_base_op}
use Rattle.rv_emit.specs.Simulating.{is_steady_op}
use Rattle.rv_steps.specs.Good.{IsStart}
use Rattle.rv_steps.specs.Kinds.{is_base, is_free}
use Rattle.rv_steps.specs.Machine.{Config}
use Rattle.rv_steps.specs.Stops.{Ends}
use Rattle.shape_check.specs.Costs.{size, work}
use Rattle.shape_check.specs.Statements.{verdict_of}
use Rattle.nest_jobs.specs.Plain.{ArePlain}
use Rattle.psi_compile.specs.Built.{expressions}
use Rattle.psi_compile.specs.Demands.{IsGoodFor}

-- the bounds of a text, for a source of this size that asks for this much work: 3840 lines and 8 spill words a unit of size, 245,760 lines at most,
-- and 1024 steps a unit of work
pub record IsBounded (size work : ℕ) (program : Parts) : Type 0 where
  pub lines : length program.lines ≤ 3840 * size
  pub most_lines : length program.lines ≤ 245760
  pub spill : program.header.spill ≤ 8 * size
  pub steps : program.header.steps ≤ 1024 * work

-- an expression whose operator on elements, where it has one, passes a test
abbrev pub uses : (Op → Bool) → Expr → Bool
uses test (Two op left right) = test op
uses test (Outer op left right) = test op
uses test _ = true

abbrev pub UsesOnly : (Op → Bool) → Tree → Type 0
UsesOnly test tree = AllByRecursion (λ expr. uses test expr ≡ true) (expressions tree)

-- The text is good for the program, which is built and accepted, and keeps the bounds. It writes no register that is given back. Without a minimum
-- and a maximum in the source every run makes exactly the printed steps, and without a product, a quotient and a remainder no line is of the M
-- extension.
pub record IsCompiled (tree : Tree) (text : List ℕ) : Type 0 where
  pub good : IsGoodFor text tree
  pub built : ArePlain tree.statements
  pub accepted : IsOk (verdict_of tree.statements)
  pub bounded : IsBounded (size tree.statements) (work tree.statements) good.program
  pub free_registers : IsTrue (list_all is_free good.program.lines)
  pub exact_steps : UsesOnly is_steady_op tree → (base : ℕ) (c : Config) → IsStart good.program.header good.program.areas good.program.lines base c
      → (last : Config) × Ends good.program.lines base good.program.header.steps c last
  pub no_multiplication : UsesOnly is_base_op tree → IsTrue (list_all is_base good.program.lines)
