use Rattle.std.proofs.Common.{◌≡◌, List, length, ap, sym, subst, ◌∙◌, refl, arith, IsTrue}
use Rattle.std.specs.List.{list_all}
use Rattle.rv_line.specs.Parts.{Parts}
use Rattle.rv_line.specs.declared.line.Line.{Line}
use Rattle.rv_steps.specs.Kinds.{is_base, is_free}
use Rattle.psi_compile.proofs.compiled_examples.other_texts_are_refused.Goals as goal

pub returns-clause-not_built : goal.returns-clause-not_built
returns-clause-not_built c = λ text compiled. let built = compiled.built in cc

pub returns-clause-not_accepted : goal.returns-clause-not_accepted
returns-clause-not_accepted c = λ text compiled. let accepted = compiled.accepted in cc

pub returns-clause-too_long : goal.returns-clause-too_long
returns-clause-too_long c = λ tree text made spelled lines compiled.
    omega (arith, lines, ap (λ (p : Parts). length p.lines) (compiled.good.only made spelled), compiled.bounded.most_lines)

pub returns-clause-kept_register : goal.returns-clause-kept_register
returns-clause-kept_register c = λ tree text made spelled lines compiled.
    let same = sym (ap (λ (p : Parts). p.lines) (compiled.good.only made spelled)) ∙ lines in
    let free = subst (λ (l : List Line). IsTrue (list_all is_free l)) same compiled.free_registers in cc

pub returns-clause-product : goal.returns-clause-product
returns-clause-product c = λ text made spelled lines compiled.
    let same = sym (ap (λ (p : Parts). p.lines) (compiled.good.only made spelled)) ∙ lines in
    let base = subst (λ (l : List Line). IsTrue (list_all is_base l)) same (compiled.no_multiplication (refl, (refl, (refl, tt)))) in cc
