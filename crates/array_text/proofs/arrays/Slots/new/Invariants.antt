use Rattle.std.proofs.Common.{◌≡◌, replicate, length, map}
use Rattle.std.specs.declared.option.Option.TheVariants.{None}
use Rattle.array_text.specs.Slots.{slots_of}
use Rattle.array_text.proofs.arrays.Slots.new.Given as goal

abbrev pub invariant-loop-place : goal.invariant-loop-place
invariant-loop-place l = record {
  same : length l.came.items ≡ length l.lists.items;
  none : slots_of l.came.items (map (λ list. list.items) l.lists.items) ≡ replicate l.place None;
}
