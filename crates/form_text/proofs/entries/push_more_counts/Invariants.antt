use Rattle.std.proofs.Common.{◌≡◌, ◌++◌, ◌∷◌, take}
use Rattle.std.specs.Fmt.{decimal}
use Rattle.std.specs.List.{flat_map}
use Rattle.form_text.proofs.entries.push_more_counts.Given as goal

abbrev pub invariant-loop-extent : goal.invariant-loop-extent
invariant-loop-extent l =
    l.out.items ≡ l.initial.out.items ++ flat_map (λ extent. 32 ∷ decimal extent) (take l.extent-index l.extents)
