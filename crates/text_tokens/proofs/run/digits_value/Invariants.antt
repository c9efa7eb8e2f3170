use Rattle.std.proofs.Common.{◌≡◌, ◌<◌, ◌+◌, ◌^◌, take}
use Rattle.std.specs.Str.Parse.{digits_value}
use Rattle.text_tokens.proofs.run.digits_value.Given as goal

abbrev pub invariant-loop-place : goal.invariant-loop-place
invariant-loop-place g l = record {
  read : l.value ≡ digits_value 10 (take l.place l.digits);
  fits : l.value < 2 ^ 64;
  cost : l.looks ≡ l.initial.looks + l.place;
}
