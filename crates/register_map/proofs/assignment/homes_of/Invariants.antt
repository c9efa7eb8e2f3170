use Rattle.std.proofs.Common.{◌≡◌, ◌++◌, drop, take}
use Rattle.std.specs.Map.{keys_of}
use Rattle.register_map.specs.Assigned.{assigned, mark, words_behind}
use Rattle.register_map.proofs.assignment.homes_of.Given as goal

abbrev pub invariant-loop-code : goal.invariant-loop-code
invariant-loop-code l = record {
  homes : l.homes.entries ++ assigned (mark l.marked) l.word (drop l.code-index l.codes) ≡ assigned (mark l.marked) 0 l.codes;
  words : words_behind (mark l.marked) l.word (drop l.code-index l.codes) ≡ words_behind (mark l.marked) 0 l.codes;
  keys : keys_of l.homes.entries ≡ take l.code-index l.codes;
}
