use Rattle.std.proofs.Common.{◌≡◌, ◌++◌, [], ◌∷◌, map, pos, take}
use Rattle.std.specs.List.{flat_map}
use Rattle.moa_tree.specs.Canonical.{item_lexemes, line}
use Rattle.moa_tree.specs.Pool.{item_of, trees}
use Rattle.moa_tree.specs.Vocabulary.{Lexeme}
use Rattle.moa_reader.proofs.printer.print.Given as goal

-- the version and the statements so far
abbrev pub invariant-loop-statement : goal.invariant-loop-statement
invariant-loop-statement l = record {
  printed : l.out.items ≡ line (Lexeme.Psi ∷ Lexeme.Number (pos 1) ∷ [])
      ++ flat_map (λ item. line (item_lexemes item)) (map (item_of l.program.numbers (trees l.program.numbers l.program.nodes)) (take l.statement-index l.program.statements));
  empty : l.waiting.items ≡ [];
}
