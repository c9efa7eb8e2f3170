use Rattle.std.proofs.Common.{◌≡◌, ◌+◌, drop}
use Rattle.std.specs.List.{prefix_len}
use Rattle.text_tokens.specs.Kinds.{is_of}
use Rattle.text_tokens.proofs.bytes.front_len.Given as goal

-- the first ones are of the kind, and each was looked at once
abbrev pub invariant-loop-place : goal.invariant-loop-place
invariant-loop-place g l = record {
  passed : l.place + prefix_len (is_of l.kind) (drop l.place l.text) ≡ prefix_len (is_of l.kind) l.text;
  cost : l.looks ≡ l.initial.looks + l.place;
}
