use Rattle.std.proofs.Common.{length, ap, sym, ◌∙◌, arith}
use Rattle.moa_reader.proofs.SourceLemmas.{following_on, next_placed}
use Rattle.moa_reader.specs.Lexemes.{lexeme_read}
use Rattle.moa_reader.proofs.source.Source.advance.Goals as goal

pub returns-clause-value : goal.returns-clause-value
returns-clause-value c =
    next_placed c.self.inside.version c.self.inside.scanner c.next_token-token.new.self c.next_token-token.result c.next_token-token.ensures
    (lexeme_read c.of-self-inside.result) c.of-self-inside.ensures
    ∙ sym (following_on c.self.inside.version (lexeme_read c.self.inside.lexeme) c.self.inside.scanner (λ e. c.requires (ap (λ s. s.lexeme) (sym c.self.view_is) ∙ e)))
    ∙ ap (λ s. s.behind) c.self.view_is

pub returns-clause-fewer : goal.returns-clause-fewer
returns-clause-fewer c = omega (arith, ap length (returns-clause-value c))
