use Rattle.std.proofs.Common.{◌++◌, ◌∷◌, [], ap, ◌∙◌}
use Rattle.nest_build.proofs.TopLemmas.{access-made}
use Rattle.nest_build.proofs.numbers.push_access.Goals as goal

pub returns : goal.returns
returns c access made =
    let e = access-made _ _ _ _ (c.terms_are_over_operands.ensures _ _ _ c.requires.ordered c.term.ensures) c.in-Get.is access made in
    c.in_ok-push.ensures.items ∙ ap (λ a. c.args.out.now.items ++ a ∷ []) e
