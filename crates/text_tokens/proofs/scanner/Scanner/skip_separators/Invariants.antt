use Rattle.std.proofs.Common.{◌≡◌, ◌+◌, ◌*◌, ◌≤◌, length}
use Rattle.text_tokens.specs.Tokens.{remaining_tokens}
use Rattle.text_tokens.proofs.scanner.Scanner.skip_separators.Given as goal

abbrev pub invariant-loop : goal.invariant-loop
invariant-loop g l = record {
  same : remaining_tokens l.self ≡ remaining_tokens l.initial.self;
  no_longer : length l.self.bytes ≤ length l.initial.self.bytes;
  cost : l.looks + 3 * length l.self.bytes ≤ l.initial.looks + 3 * length l.initial.self.bytes;
}

abbrev pub decreases-loop : goal.decreases-loop
decreases-loop g l = length l.self.bytes
