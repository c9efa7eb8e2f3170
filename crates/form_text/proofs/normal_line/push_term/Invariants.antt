use Rattle.std.proofs.Common.{◌++◌, length, reverse}
use Rattle.normal_form.specs.Pool.{form_at, forms}
use Rattle.form_text.specs.Pieces.{IsPutting, pieces_size}
use Rattle.form_text.specs.Spelling.{element_text, term_text}
use Rattle.form_text.proofs.normal_line.push_term.Given as goal

abbrev pub invariant-loop-piece : goal.invariant-loop-piece
invariant-loop-piece l =
    let whole = l.fn.out.items ++ term_text (element_text l.areas) (form_at (forms l.form.terms) l.top) in
    IsPutting (element_text l.areas) (forms l.form.terms) (length l.form.terms) whole l.out.items l.waiting.items

abbrev pub decreases-loop-piece : goal.decreases-loop-piece
decreases-loop-piece l = pieces_size (forms l.form.terms) (reverse l.waiting.items)
