use Rattle.std.proofs.Common.{◌≡◌, ℕ, List, ◌∷◌, true, false, ap, ◌∙◌, rules}
use Rattle.std.specs.Prelude.{◌==◌, not}
use Rattle.std.proofs.lemmas.Result.{IfErr-weaker}
use Rattle.moa_tree.specs.Expected.{Want, on_expr}
use Rattle.moa_tree.specs.Outcome.{is_stuck}
use Rattle.moa_reader.specs.Heads.{begins}
use Rattle.moa_reader.specs.Lexemes.{lexeme_read}
use Rattle.moa_reader.specs.Outcomes.{IsRefusedWith}
use Rattle.moa_reader.specs.Sources.{all}
use Rattle.moa_reader.proofs.HeadLemmas.{rest_refused}
use Rattle.moa_reader.proofs.heads.begin_expression.Goals as goal

pub returns-clause-refused : goal.returns-clause-refused
returns-clause-refused c =
    let first = lexeme_read c.lexeme-lexeme.result in
    let h : begins first ≡ true = search (rules, ap begins c.lexeme.ensures, ap begins c.lexeme-lexeme.ensures) in
    let shallow : c.args.is_shallow ≡ true = search rules in
    IfErr-weaker c.rest.result
    (λ error. (depth : ℕ) (wants : List Want) → is_stuck wants ≡ false → IsRefusedWith (on_expr depth wants first) (all c.advance.new.self) error)
    (λ error. (depth : ℕ) (wants : List Want) → (depth == 129) ≡ not c.args.is_shallow → is_stuck wants ≡ false
    → IsRefusedWith (Want.AnExpr depth ∷ wants) (all c.args.source.now) error)
    (λ error refused depth wants e free.
    rest_refused c.args.source.now c.advance.new.self first error c.lexeme-lexeme.ensures h c.advance.ensures.value refused depth wants (e ∙ ap not shallow) free)
    c.rest.ensures.refused
