use Rattle.std.proofs.Common.{◌≡◌, ap, ◌∙◌, w64}
use Rattle.std.proofs.lemmas.Int.{to_z-of_z}
use Rattle.rv_steps.specs.Constants.{constant_lines}
use Rattle.rv_emit.proofs.constants.constant.Goals as goal

pub returns-clause-sets : goal.returns-clause-sets
returns-clause-sets c =
    let same : c.shifted.result ≡ constant_lines c.args.to c.args.value =
    c.shifted.ensures.lines ∙ ap (constant_lines c.args.to) (to_z-of_z w64 c.args.value c.ranges.value) in
    let leads = c.constants_are_set.ensures.leads in
    rw same (λ lines base k d stands room at. leads lines base k c.args.to c.args.value d stands c.requires.above room c.ranges.value at)
