use Rattle.std.specs.Prelude.{◌≡◌, ◌≢◌, ℕ, zero, suc, [], ◌∷◌, ◌++◌, codes}
use Rattle.std.specs.List.{AllPairs, range_with_len}
use Rattle.std.proofs.Common.{refl, ap, ap₂, sym, subst, ◌∙◌, arith}
use Rattle.shapes_core.specs.declared.area.AreaKind.TheVariants as area
use Rattle.shape_check.proofs.KindLemmas.{in-order, ins, ins-of, numbers, numbers-of, outs, outs-of}
use Rattle.shape_check.proofs.layout_examples.layouts.Goals as goal

names-apart : AllPairs (λ one other. one ≢ other) (codes "A" ∷ codes "C" ∷ [])
names-apart zero (suc zero) d less below = λ e. grind (arith, e)
names-apart zero (suc (suc j)) d less below = absurd (omega (arith, below))
names-apart zero zero d less below = absurd (omega (arith, less))
names-apart (suc i) j d less below = absurd (omega (arith, less, below))

none-skipped : (scans : ℕ) → 1 ∷ [] ≡ range_with_len 0 scans → ⊥
none-skipped zero e = grind (arith, e)
none-skipped (suc scans) e = grind (arith, e)

pub returns-clause-layout : goal.returns-clause-layout
returns-clause-layout c = record {
  inputs = codes "A" ∷ [];
  outputs = codes "C" ∷ [];
  scans = 1;
  in_order = refl;
  differ = names-apart;
  packed = (refl, (refl, (refl, tt)));
  few = omega arith;
  small = omega arith;
}

pub returns-clause-nothing : goal.returns-clause-nothing
returns-clause-nothing c = record {
  inputs = [];
  outputs = [];
  scans = 0;
  in_order = refl;
  differ = λ i j d less below. absurd (omega (arith, below));
  packed = tt;
  few = omega arith;
  small = omega arith;
}

pub returns-clause-late : goal.returns-clause-late
returns-clause-late c = λ h. grind (arith, h.packed.0)

pub returns-clause-twice : goal.returns-clause-twice
returns-clause-twice c = λ h.
    let inputs = ap ins h.in_order ∙ ins-of h.inputs h.outputs (range_with_len 0 h.scans) in
    let outputs = ap outs h.in_order ∙ outs-of h.inputs h.outputs (range_with_len 0 h.scans) in
    let differ = subst (AllPairs (λ one other. one ≢ other)) (sym (ap₂ (λ a b. a ++ b) inputs outputs)) h.differ in
    differ 0 1 [] (omega arith) (omega arith) refl

pub returns-clause-skipped : goal.returns-clause-skipped
returns-clause-skipped c = λ h.
    none-skipped h.scans (ap numbers h.in_order ∙ numbers-of h.inputs h.outputs (range_with_len 0 h.scans))

pub returns-clause-output_first : goal.returns-clause-output_first
returns-clause-output_first c = λ h.
    let e = in-order (area.Out (codes "C") ∷ area.In (codes "A") ∷ []) h.inputs h.outputs (range_with_len 0 h.scans) h.in_order in
    grind (arith, e)

pub returns-clause-scan_first : goal.returns-clause-scan_first
returns-clause-scan_first c = λ h.
    let e = in-order (area.Scan 0 ∷ area.Out (codes "C") ∷ []) h.inputs h.outputs (range_with_len 0 h.scans) h.in_order in
    grind (arith, e)

pub returns-clause-word_too_many : goal.returns-clause-word_too_many
returns-clause-word_too_many c = λ h. grind (arith, h.small)
