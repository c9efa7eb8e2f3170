-- The printed outputs of a block are those of its output areas.
use Rattle.std.proofs.Common.{◌≡◌, ℕ, ℤ, List, [], ◌∷◌, ◌++◌, ◌∙◌, cond, map, refl, ap}
use Rattle.std.proofs.lemmas.List.{append-nil}
use Rattle.std.specs.List.{filter, flat_map}
use Rattle.shapes_core.specs.declared.area.Area.{Area}
use Rattle.shapes_core.specs.declared.area.AreaKind.{AreaKind}
use Rattle.shapes_core.specs.declared.area.AreaKind.TheVariants.{In, Out, Scan}
use Rattle.shapes_core.specs.declared.area.Declared.{Declared}
use Rattle.rv_line.specs.declared.assembly.Header.{Header}
use Rattle.rv_steps.specs.Good.{area_values, is_output, output_values}
use Rattle.array_text.specs.Printed.{printed}
use Rattle.array_run.specs.Ran.{printed_all, printed_outputs}
use Rattle.array_run.specs.Starts.{output_in, outputs}

-- an area in front of others, by its kind
printed_first : (kind : AreaKind) (area : Area) (values : Area → List ℤ) (filtered : List Area) (others : List Declared) (text : List ℕ)
    → text ≡ printed_all others (map values filtered)
    → flat_map (λ output. printed output (values area)) (output_in kind area.shape) ++ text
    ≡ printed_all (output_in kind area.shape ++ others) (map values (cond (is_output kind) (area ∷ filtered) filtered))
printed_first (In name) area values filtered others text same = same
printed_first (Out name) area values filtered others text same =
    let output : Declared = record { name = name; shape = area.shape } in
    ap (λ front. front ++ text) (append-nil (printed output (values area))) ∙ ap (λ behind. printed output (values area) ++ behind) same
printed_first (Scan number) area values filtered others text same = same

pub outputs_printed : (header : Header) (areas : List Area) (block : List ℕ)
    → printed_outputs header.spill areas block ≡ printed_all (outputs areas) (output_values header areas block)
outputs_printed header [] block = refl
outputs_printed header (area ∷ areas) block =
    printed_first area.kind area (area_values header.spill block) (filter (λ area. is_output area.kind) areas) (outputs areas)
    (printed_outputs header.spill areas block) (outputs_printed header areas block)
