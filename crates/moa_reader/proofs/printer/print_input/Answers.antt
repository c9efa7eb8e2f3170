use Rattle.std.proofs.Common.{◌≡◌, ◌++◌, ◌∷◌, codes, OnOk, subst}
use Rattle.moa_tree.specs.Canonical.{line}
use Rattle.moa_tree.specs.Readings.{number_lexemes}
use Rattle.moa_tree.specs.Vocabulary.{Lexeme}
use Rattle.moa_reader.proofs.LineLemmas.{input-printed}
use Rattle.moa_reader.proofs.printer.print_input.Goals as goal

pub returns : goal.returns
returns c =
    let e : c.print_numbers.new.out.items ++ codes "\n"
    ≡ c.args.out.now.items ++ line (Lexeme.In ∷ Lexeme.Name c.args.name.now ∷ number_lexemes c.args.extents.now)
    = rw (
      c.in_ok-print_numbers.ensures,
      c.in_ok-print_text.ensures,
      c.bytes.ensures.value,
      c.in_ok-append.ensures,
      c.spelling.ensures,
    ) (input-printed c.args.out.now.items c.args.name.now c.args.extents.now)
    in
    subst (λ t. OnOk c.append-2.result (c.append-2.new.out.items ≡ t)) e c.append-2.ensures
