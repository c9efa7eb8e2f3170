use Rattle.std.specs.Prelude.{ℕ, List, FitsSigned}
use Rattle.std.specs.Int.{w64}
use Rattle.std.proofs.Common.{arith, subst}
use Rattle.std.proofs.lemmas.List.Elements.{recursion_from_All}
use Rattle.shapes_core.specs.Gamma.{IsIndex, gamma}
use Rattle.moa_tree.specs.Values.{shapes_of}
use Rattle.shape_check.proofs.SoundLemmas.{verdict-sound}
use Rattle.shape_check.proofs.ValueLemmas.{Fits, Unravels, fits-alike, fits-kept, value-alike}
use Rattle.shape_check.proofs.VerdictLemmas.{verdict-shape}
use Rattle.shape_check.proofs.laws.values_fit.Goals as goal

pub returns : goal.returns
returns c = λ env at expr s index fit numbers accepted inside.
    let law = c.gamma_laws.ensures in
    let unravels : Unravels = λ shape t i same h. law.is_index shape (gamma i t) (omega (arith, law.below i t h, same)) in
    let kept = fits-kept c.values_fit.ensures.binary c.values_fit.ensures.unary c.values_fit.ensures.fold in
    let alike = fits-alike env (recursion_from_All (λ entry. (place : List ℕ) → IsIndex place entry.1.shape → FitsSigned w64 (entry.1.at place)) env fit) in
    value-alike Fits kept unravels env env alike expr index numbers
    (verdict-sound (shapes_of env) at expr s accepted) (subst (λ t. IsIndex index t) (verdict-shape (shapes_of env) at expr s accepted) inside)
