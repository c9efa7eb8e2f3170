-- The operational form of a job is what its operational former makes, without what is not needed.
use Rattle.std.specs.Prelude.{◌≡◌, ℕ, List}
use Rattle.std.proofs.Common.{ap, ◌∙◌}
use Rattle.normal_form.specs.Formers.{Former}
use Rattle.normal_form.specs.Moves.{variables}
use Rattle.stride_form.specs.Facts.{starting}
use Rattle.stride_form.specs.Follows.{Follows}
use Rattle.stride_form.specs.OpFormers.{OpFormer}
use Rattle.stride_form.specs.Rules.{needed, operational_on}
use Rattle.stride_form.proofs.FollowFactLemmas.{starting-variables, starting-varied, variables-below}

pub job-follows : (former : Former) (op_former : OpFormer) (region : List (ℕ × ℕ)) (axes : ℕ) → Follows former op_former
    → operational_on region (former (variables axes) axes).0 ≡ needed (op_former (variables axes) (starting region) axes).0
job-follows former op_former region axes h =
    ap needed ((h (starting region) (variables axes) axes (starting-varied region) (variables-below axes)).same
    ∙ ap (λ entries. (op_former entries (starting region) axes).0) (starting-variables region axes))

pub job-ends : (former : Former) (op_former : OpFormer) (region : List (ℕ × ℕ)) (axes : ℕ) → Follows former op_former
    → (former (variables axes) axes).1 ≡ (op_former (variables axes) (starting region) axes).1
job-ends former op_former region axes h =
    (h (starting region) (variables axes) axes (starting-varied region) (variables-below axes)).ends
    ∙ ap (λ entries. (op_former entries (starting region) axes).1) (starting-variables region axes)
