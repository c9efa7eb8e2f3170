use Rattle.std.proofs.Common.{ap, sym, ◌∙◌, set, ◌++◌, ◌∷◌}
use Rattle.std.proofs.Math.Seq.{set-append_seam}
use Rattle.rv_line.specs.declared.line.Line.TheVariants.{Jal}
use Rattle.rv_emit.proofs.steps.set_jump.Goals as goal

pub returns : goal.returns
returns c = λ before line rest whole place.
    ap (λ list. set list c.args.number (Jal 0 c.args.target)) whole
    ∙ ap (λ n. set (before ++ line ∷ rest) n (Jal 0 c.args.target)) (sym place)
    ∙ set-append_seam before line rest (Jal 0 c.args.target)
