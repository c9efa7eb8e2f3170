use Rattle.stride_form.proofs.BindingLemmas.{nothing-changed}
use Rattle.stride_form.proofs.binding_laws.rules_are_about_bindings.Goals as goal

pub returns : goal.returns
returns c = nothing-changed
