-- Why a source is not compiled. This project's own.
use Rattle.std.specs.Prelude.{◌≡◌, ℕ, List, slice_index_or, Err, ⊤}
use Rattle.std.specs.Option.{option_map}
use Rattle.text_tokens.specs.declared.token.Position.{Position}
use Rattle.text_tokens.specs.Tokens.{start}
use Rattle.moa_tree.specs.Expr.{Tree}
use Rattle.moa_tree.specs.Positions.{expression_positions, name_positions}
use Rattle.moa_tree.specs.Readings.{Reads}
use Rattle.moa_tree.specs.Refusals.{IsRefused}
use Rattle.moa_reader.specs.declared.error.ReadError.{ReadError}
use Rattle.moa_reader.specs.declared.error.ReadError.TheVariants as read
use Rattle.shape_check.specs.declared.error.CheckError.{CheckError}
use Rattle.shape_check.specs.declared.error.CheckError.TheVariants as check
use Rattle.shape_check.specs.Rules.{Failure, Place}
use Rattle.shape_check.specs.Statements.{verdict_of}
use Rattle.nest_jobs.specs.Plain.{ArePlain}
use Rattle.psi_compile.specs.Built.{IsNotBuilt}
use Rattle.psi_compile.specs.declared.error.CompileError.{CompileError}
use Rattle.psi_compile.specs.declared.error.CompileError.TheVariants as compile

-- it is not read
abbrev pub unread : ReadError → CompileError
unread (read.Text at cause) = compile.Text at cause
unread read.Memory = compile.Memory

-- it is not accepted
abbrev pub unchecked : CheckError → CompileError
unchecked (check.Rule at rule) = compile.Rule at rule
unchecked (check.Limit at which value) = compile.Limit at which value
unchecked check.Memory = compile.Memory

-- where a name or a node of a text stands in it
abbrev pub position_of : List ℕ → Place → Position
position_of text (Place.Name statement) = slice_index_or (name_positions text) statement start
position_of text (Place.Node number) = slice_index_or (expression_positions text) number start

-- a failure with its position in a text
abbrev pub failed_at : List ℕ → Failure → CompileError
failed_at text (Failure.Rule place rule) = compile.Rule (position_of text place) rule
failed_at text (Failure.Limit place which value) = compile.Limit (option_map (position_of text) place) which value

-- the text reads as a program that the check refuses so
pub record IsFailing (text : List ℕ) (error : CompileError) : Type 0 where
  pub tree : Tree
  pub read : Reads text tree
  pub failure : Failure
  pub fails : verdict_of tree.statements ≡ Err failure
  pub answered : error ≡ failed_at text failure

-- each error has its cause: the text is refused, or the program that it reads as is, or has an expression that is not built; want of memory needs none
abbrev pub IsCause : List ℕ → CompileError → Type 0
IsCause text (compile.Text at cause) = IsRefused text at cause
IsCause text (compile.Rule at rule) = IsFailing text (compile.Rule at rule)
IsCause text (compile.Limit at which value) = IsFailing text (compile.Limit at which value)
IsCause text (compile.NotBuilt at) = IsNotBuilt text at
IsCause text compile.Memory = ⊤

-- where a shape rule or a limit is the cause, each expression of the program is built: that is asked first
abbrev pub IsBuiltFirst : List ℕ → CompileError → Type 0
IsBuiltFirst text (compile.Rule at rule) = (tree : Tree) → Reads text tree → ArePlain tree.statements
IsBuiltFirst text (compile.Limit at which value) = (tree : Tree) → Reads text tree → ArePlain tree.statements
IsBuiltFirst text _ = ⊤
