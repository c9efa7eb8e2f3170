use Rattle.std.proofs.Common.{◌++◌, length, reverse}
use Rattle.stride_form.specs.Pool.{op_form_at, op_forms}
use Rattle.form_text.specs.Pieces.{IsPutting, pieces_size}
use Rattle.form_text.specs.Spelling.{access_text, term_text}
use Rattle.form_text.proofs.operational_line.push_term.Given as goal

abbrev pub invariant-loop-piece : goal.invariant-loop-piece
invariant-loop-piece l =
    let whole = l.fn.out.items ++ term_text (access_text l.areas) (op_form_at (op_forms l.form.terms) l.top) in
    IsPutting (access_text l.areas) (op_forms l.form.terms) (length l.form.terms) whole l.out.items l.waiting.items

abbrev pub decreases-loop-piece : goal.decreases-loop-piece
decreases-loop-piece l = pieces_size (op_forms l.form.terms) (reverse l.waiting.items)
