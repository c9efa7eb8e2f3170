use Rattle.std.proofs.Common.{◌≡◌, arith}
use Rattle.std.proofs.lemmas.Int.{to_z-of_z}
use Rattle.normal_form.specs.Forms.{Lit}
use Rattle.stride_form.specs.Pool.{op_form_at, op_forms}
use Rattle.nest_build.proofs.TopLemmas.{part-made}
use Rattle.nest_build.proofs.part.top_of.Goals as goal

pub returns-in-Lit : goal.returns-in-Lit
returns-in-Lit c =
    let h : op_form_at (op_forms c.args.form.now.terms) c.args.number ≡ Lit c.in-Lit.value =
    part-made _ _ _ _ (c.terms_are_over_operands.ensures _ _ _ c.requires.ordered c.term.ensures) c.in-Lit.is in
    grind (arith, to_z-of_z, h)

pub returns-in-Index : goal.returns-in-Index
returns-in-Index c = part-made _ _ _ _ (c.terms_are_over_operands.ensures _ _ _ c.requires.ordered c.term.ensures) c.in-Index.is

pub returns-in-Get : goal.returns-in-Get
returns-in-Get c = part-made _ _ _ _ (c.terms_are_over_operands.ensures _ _ _ c.requires.ordered c.term.ensures) c.in-Get.is

pub returns-in-Un : goal.returns-in-Un
returns-in-Un c = part-made _ _ _ _ (c.terms_are_over_operands.ensures _ _ _ c.requires.ordered c.term.ensures) c.in-Un.is

pub returns-in-Bin : goal.returns-in-Bin
returns-in-Bin c = part-made _ _ _ _ (c.terms_are_over_operands.ensures _ _ _ c.requires.ordered c.term.ensures) c.in-Bin.is

pub returns-in-Case : goal.returns-in-Case
returns-in-Case c = part-made _ _ _ _ (c.terms_are_over_operands.ensures _ _ _ c.requires.ordered c.term.ensures) c.in-Case.is

pub returns-in-Fold : goal.returns-in-Fold
returns-in-Fold c = part-made _ _ _ _ (c.terms_are_over_operands.ensures _ _ _ c.requires.ordered c.term.ensures) c.in-Fold.is

pub returns-in-Let : goal.returns-in-Let
returns-in-Let c = part-made _ _ _ _ (c.terms_are_over_operands.ensures _ _ _ c.requires.ordered c.term.ensures) c.in-Let.is
