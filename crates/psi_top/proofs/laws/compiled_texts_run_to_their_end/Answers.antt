use Rattle.std.proofs.Common.{ap, ◌∙◌}
use Rattle.rv_line.specs.Parts.{Parts}
use Rattle.shape_check.specs.Layout.{areas}
use Rattle.psi_compile.specs.Demands.{denoted}
use Rattle.psi_top.proofs.laws.compiled_texts_run_to_their_end.Goals as goal

pub returns : goal.returns
returns c = λ tree text program base start last end compiled spelled is_start stops.
    let ended = c.good_texts_run_to_their_end.ensures text (areas tree.statements) (denoted tree) program base start last end compiled.good spelled is_start stops in
    (ended.0, ended.1, ended.2, ap (λ (p : Parts). p.areas) (compiled.good.only program spelled) ∙ compiled.good.layout, ended.3)
