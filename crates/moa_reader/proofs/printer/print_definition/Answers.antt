use Rattle.std.proofs.Common.{◌≡◌, ◌++◌, ◌∷◌, codes, OnOk, subst}
use Rattle.text_tokens.specs.declared.token.Sign.TheVariants as sign
use Rattle.moa_tree.specs.Canonical.{expr_lexemes, line}
use Rattle.moa_tree.specs.Pool.{tree_at, trees}
use Rattle.moa_tree.specs.Vocabulary.{Lexeme}
use Rattle.moa_reader.specs.Lexemes.{lexeme_of_word}
use Rattle.moa_reader.proofs.LineLemmas.{definition-printed}
use Rattle.moa_reader.proofs.printer.print_definition.Goals as goal

pub returns-clause-printed : goal.returns-clause-printed
returns-clause-printed c =
    let pools = c.args.program.now in
    let of = expr_lexemes (tree_at (trees pools.numbers pools.nodes) c.args.node) in
    let e : c.print_expression.new.out.items ++ codes "\n"
    ≡ c.args.out.now.items ++ line (lexeme_of_word c.args.word ∷ Lexeme.Name c.args.name.now ∷ Lexeme.Sign sign.Equal ∷ of)
    = rw (
      c.in_ok-print_expression.ensures.printed,
      c.in_ok-print_text-2.ensures,
      c.in_ok-print_text.ensures,
      c.bytes.ensures.value,
      c.in_ok-append.ensures,
      c.spelling.ensures,
    ) (definition-printed c.args.out.now.items c.args.word c.args.name.now of)
    in
    subst (λ t. OnOk c.append-2.result (c.append-2.new.out.items ≡ t)) e c.append-2.ensures
