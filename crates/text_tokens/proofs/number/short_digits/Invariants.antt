use Rattle.std.proofs.Common.{◌≡◌, ◌<◌, ◌+◌, ◌^◌, true, take}
use Rattle.std.specs.List.{list_all}
use Rattle.std.specs.Str.Parse.{digits_value}
use Rattle.shapes_core.specs.Name.{is_digit}
use Rattle.text_tokens.proofs.number.short_digits.Given as goal

abbrev pub invariant-loop-place : goal.invariant-loop-place
invariant-loop-place g l = record {
  digits : list_all is_digit (take l.place l.text) ≡ true;
  read : l.value ≡ digits_value 10 (take l.place l.text);
  fits : l.value < 10 ^ l.place;
  cost : l.looks ≡ l.initial.looks + l.place;
}
