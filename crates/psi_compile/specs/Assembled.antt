-- A program of the machine that is made for a source's program, before it is written. This project's own.
use Rattle.std.specs.Prelude.{◌≡◌, ℕ, IsOk, IsTrue}
use Rattle.std.specs.List.{list_all}
use Rattle.moa_tree.specs.Expr.{Tree}
use Rattle.rv_emit.specs.Pricing.{is_base_op}
use Rattle.rv_emit.specs.Simulating.{is_steady_op}
use Rattle.rv_line.specs.Parts.{Parts}
use Rattle.rv_steps.specs.Good.{IsStart, Serves}
use Rattle.rv_steps.specs.Kinds.{is_base, is_free}
use Rattle.rv_steps.specs.Machine.{Config}
use Rattle.rv_steps.specs.Stops.{Ends}
use Rattle.shape_check.specs.Costs.{size, work}
use Rattle.shape_check.specs.Layout.{areas}
use Rattle.shape_check.specs.Statements.{verdict_of}
use Rattle.psi_compile.specs.Compiled.{IsBounded, UsesOnly}
use Rattle.psi_compile.specs.Demands.{denoted}

-- The source's program is accepted. Its machine program has its areas, serves its caller, and keeps the bounds and what else is said of a
-- compiled text.
pub record IsAssembled (tree : Tree) (program : Parts) : Type 0 where
  pub accepted : IsOk (verdict_of tree.statements)
  pub layout : program.areas ≡ areas tree.statements
  pub serves : (base : ℕ) (c : Config) → IsStart program.header program.areas program.lines base c
      → Serves program.header program.areas program.lines (denoted tree) base c
  pub bounded : IsBounded (size tree.statements) (work tree.statements) program
  pub free_registers : IsTrue (list_all is_free program.lines)
  pub exact_steps : UsesOnly is_steady_op tree → (base : ℕ) (c : Config) → IsStart program.header program.areas program.lines base c
      → (last : Config) × Ends program.lines base program.header.steps c last
  pub no_multiplication : UsesOnly is_base_op tree → IsTrue (list_all is_base program.lines)
