use Rattle.std.proofs.Common.{◌≡◌, ◌++◌, codes, take}
use Rattle.std.specs.Fmt.{signed_decimal}
use Rattle.std.specs.List.{flat_map}
use Rattle.moa_reader.proofs.printer.print_numbers.Given as goal

abbrev pub invariant-loop-value : goal.invariant-loop-value
invariant-loop-value l =
    l.out.items ≡ l.initial.out.items ++ flat_map (λ value. codes " " ++ signed_decimal value) (take l.value-index l.numbers)
