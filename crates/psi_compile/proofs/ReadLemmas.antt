-- What is known of a text that is read, or that is not.
use Rattle.std.proofs.Common.{◌≡◌, ℕ, true, List, [], ◌∷◌, map, None, Some, refl, ap, ◌∙◌}
use Rattle.std.specs.Prelude.{IsSome, slice_get, slice_index_or}
use Rattle.text_tokens.specs.Tokens.{start}
use Rattle.text_tokens.specs.declared.token.Position.{Position}
use Rattle.moa_tree.specs.declared.tree.Statement.{Statement}
use Rattle.moa_tree.specs.Expr.{Tree}
use Rattle.moa_tree.specs.Pool.{item_of, trees}
use Rattle.moa_tree.specs.Pools.{Pools, tree_of, walk}
use Rattle.moa_tree.specs.Positions.{StandsIn, position_of}
use Rattle.moa_tree.specs.Readings.{Reads, ReadsProgram, has_output}
use Rattle.moa_tree.specs.Refusals.{IsRefused}
use Rattle.moa_tree.specs.Vocabulary.{Lexeme}
use Rattle.moa_reader.specs.declared.error.ReadError.{ReadError}
use Rattle.moa_reader.specs.declared.error.ReadError.TheVariants as read
use Rattle.shape_check.specs.declared.error.CheckError.{CheckError}
use Rattle.shape_check.specs.declared.error.CheckError.TheVariants as check
use Rattle.shape_check.specs.Judged.{error_in, position_in}
use Rattle.shape_check.specs.Kept.{Explains, IsRefusedSo}
use Rattle.shape_check.specs.Rules.{Failure, Place}
use Rattle.psi_compile.specs.Errors.{IsCause, IsFailing, failed_at, position_of as position_in_text, unchecked, unread}
use Rattle.psi_compile.specs.declared.error.CompileError.TheVariants as compile

-- a program has an output
output_of : (levels : ℕ) (list : List Lexeme) (tree : Tree) → ReadsProgram levels list tree → has_output tree.statements ≡ true
output_of levels list tree (ReadsProgram.program n statements t items output) = output

-- so it has a first statement
pub first_there : (text : List ℕ) (pools : Pools) → Reads text (tree_of pools) → IsSome (slice_get (map position_of pools.statements) 0)
first_there text pools reads = there pools.statements (output_of _ _ _ reads)
  where
    there : (statements : List Statement) → has_output (map (item_of pools.numbers (trees pools.numbers pools.nodes)) statements) ≡ true → IsSome (slice_get (map position_of statements) 0)
    there [] e = cc
    there (first ∷ others) e = refl

-- an error of the reader has its cause in the text
pub cause-unread : (text : List ℕ) (error : ReadError) → ((at : Position) (cause : ℕ) → error ≡ read.Text at cause → IsRefused text at cause) → IsCause text (unread error)
cause-unread text (read.Text at cause) refused = refused at cause refl
cause-unread text read.Memory refused = tt

-- a place of a program that stands in a text is one of the text
placed : (text : List ℕ) (pools : Pools) → StandsIn text pools → (place : Place) → position_in pools (walk pools) place ≡ position_in_text text place
placed text pools stands (Place.Name statement) = ap (λ names. slice_index_or names statement start) stands.names
placed text pools stands (Place.Node number) = ap (λ expressions. slice_index_or expressions number start) stands.expressions

-- what fails in a program fails in its text
failed : (text : List ℕ) (pools : Pools) → StandsIn text pools → (failure : Failure) → unchecked (error_in pools (walk pools) failure) ≡ failed_at text failure
failed text pools stands (Failure.Rule place rule) = ap (λ at. compile.Rule at rule) (placed text pools stands place)
failed text pools stands (Failure.Limit None which value) = refl
failed text pools stands (Failure.Limit (Some place) which value) = ap (λ at. compile.Limit (Some at) which value) (placed text pools stands place)

failing : (text : List ℕ) (pools : Pools) (error : CheckError) → Reads text (tree_of pools) → StandsIn text pools → IsRefusedSo pools error → IsFailing text (unchecked error)
failing text pools error reads stands refused = record {
  tree = tree_of pools;
  read = reads;
  failure = refused.failure;
  fails = refused.refused;
  answered = ap unchecked refused.answered ∙ failed text pools stands refused.failure;
}

-- an error of the check has its cause in the text
pub cause-unchecked : (text : List ℕ) (pools : Pools) (error : CheckError) → Reads text (tree_of pools) → StandsIn text pools → Explains pools error → IsCause text (unchecked error)
cause-unchecked text pools (check.Rule at rule) reads stands refused = failing text pools (check.Rule at rule) reads stands refused
cause-unchecked text pools (check.Limit at which value) reads stands refused = failing text pools (check.Limit at which value) reads stands refused
cause-unchecked text pools check.Memory reads stands refused = tt
