use Rattle.std.proofs.Common.{◌≡◌, ◌++◌, ◌∷◌, take}
use Rattle.std.specs.List.{flat_map}
use Rattle.form_text.specs.Spelling.{entry_text}
use Rattle.form_text.proofs.entries.push_more_entries.Given as goal

abbrev pub invariant-loop-entry : goal.invariant-loop-entry
invariant-loop-entry l =
    l.out.items ≡ l.initial.out.items ++ flat_map (λ entry. 32 ∷ entry_text entry) (take l.entry-index l.entries)
