-- So many steps lead from the start to the line that comes next.
use Rattle.std.proofs.Common.{◌≡◌, ◌≤◌, length, slice_index}
use Rattle.rv_steps.specs.Machine.{address_of}
use Rattle.rv_steps.specs.Stops.{Reaches}
use Rattle.rv_machine.proofs.machine.walk.Given as goal

abbrev pub invariant-loop-made : goal.invariant-loop-made
invariant-loop-made l = record {
  in_text : l.at ≤ length l.lines;
  zero : slice_index l.x 0 ≡ 0;
  reached : Reaches l.lines l.base l.made
      (record { registers = l.initial.x; pc = address_of l.start; block = l.initial.block })
      (record { registers = l.x; pc = address_of l.at; block = l.block });
}
