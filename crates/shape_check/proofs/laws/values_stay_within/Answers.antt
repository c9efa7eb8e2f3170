use Rattle.std.specs.Prelude.{◌≡◌}
use Rattle.std.proofs.Common.{refl, arith, subst}
use Rattle.shapes_core.specs.Gamma.{IsIndex, gamma}
use Rattle.moa_tree.specs.Values.{shapes_of}
use Rattle.shape_check.proofs.SoundLemmas.{verdict-sound}
use Rattle.shape_check.proofs.ValueLemmas.{Unravels, equal-kept, value-alike}
use Rattle.shape_check.proofs.VerdictLemmas.{verdict-shape}
use Rattle.shape_check.proofs.laws.values_stay_within.Goals as goal

pub returns : goal.returns
returns c = λ env other at expr s index alike accepted inside.
    let law = c.gamma_laws.ensures in
    let unravels : Unravels = λ shape t i same h. law.is_index shape (gamma i t) (omega (arith, law.below i t h, same)) in
    value-alike (λ x y. x ≡ y) equal-kept unravels env other alike expr index (λ number h. refl)
    (verdict-sound (shapes_of env) at expr s accepted) (subst (λ t. IsIndex index t) (verdict-shape (shapes_of env) at expr s accepted) inside)
