use Rattle.std.specs.Prelude.{Ok, [], map}
use Rattle.std.specs.List.{fold}
use Rattle.std.proofs.Common.{ap, sym, subst, ◌∙◌}
use Rattle.std.proofs.lemmas.List.Elements.{All-from_recursion, All-same}
use Rattle.shapes_core.specs.Shape.{IsShape}
use Rattle.shape_check.proofs.SoundLemmas.{verdict-kept, verdict-sound, well-shape}
use Rattle.shape_check.specs.Layout.{shapes_after}
use Rattle.moa_tree.specs.Expr.{Input, Let, Output}
use Rattle.shape_check.proofs.ItemLemmas.{item-among, limits-kept, names-differ, names-in-order, program-sound, shapes-in-order, shapes-within}
use Rattle.shape_check.proofs.VerdictLemmas.{verdict-shape}
use Rattle.shape_check.proofs.laws.verdicts_are_shapes.Goals as goal

pub returns-clause-shape : goal.returns-clause-shape
returns-clause-shape c = verdict-shape

pub returns-clause-within : goal.returns-clause-within
returns-clause-within c = λ shapes at expr s h.
    subst IsShape (sym (verdict-shape shapes at expr s h)) (well-shape shapes expr (verdict-sound shapes at expr s h))

pub returns-clause-anywhere : goal.returns-clause-anywhere
returns-clause-anywhere c = λ shapes at other expr s h.
    verdict-kept shapes other expr (verdict-sound shapes at expr s h) ∙ ap (λ t. Ok t) (sym (verdict-shape shapes at expr s h))

pub returns-clause-after : goal.returns-clause-after
returns-clause-after c = λ items shapes h. (program-sound items shapes h).names

pub returns-clause-names : goal.returns-clause-names
returns-clause-names c = λ items shapes h.
    ap (λ all. map (λ entry. entry.0) all) (program-sound items shapes h).names ∙ names-in-order items

pub returns-clause-of_statements : goal.returns-clause-of_statements
returns-clause-of_statements c = λ items shapes h.
    ap (λ all. map (λ entry. entry.1) all) (program-sound items shapes h).names ∙ shapes-in-order items

pub returns-clause-each_within : goal.returns-clause-each_within
returns-clause-each_within c = λ items shapes h.
    let sound = program-sound items shapes h in
    All-same (λ entry. IsShape entry.1) shapes (fold shapes_after [] items) sound.names
    (All-from_recursion (λ entry. IsShape entry.1) (fold shapes_after [] items) (shapes-within [] items sound.well tt))

pub returns-clause-differ : goal.returns-clause-differ
returns-clause-differ c = λ items shapes h. names-differ [] items (program-sound items shapes h).well

pub returns-clause-inputs : goal.returns-clause-inputs
returns-clause-inputs c = λ before after name extents shapes h.
    (item-among [] before after (Input name extents) (program-sound _ shapes h).well).0

pub returns-clause-lets : goal.returns-clause-lets
returns-clause-lets c = λ before after name of shapes h at.
    verdict-kept (fold shapes_after [] before) at of (item-among [] before after (Let name of) (program-sound _ shapes h).well)

pub returns-clause-outputs : goal.returns-clause-outputs
returns-clause-outputs c = λ before after name of shapes h at.
    verdict-kept (fold shapes_after [] before) at of (item-among [] before after (Output name of) (program-sound _ shapes h).well)

pub returns-clause-limits : goal.returns-clause-limits
returns-clause-limits c = λ items shapes h. limits-kept items (program-sound items shapes h).limits
