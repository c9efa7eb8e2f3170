-- What is left of a row. This project's own.
use Rattle.std.specs.Prelude.{ℕ, suc, ◌==◌, List, [], length}
use Rattle.std.specs.Borrow.{Bor}
use Rattle.std.specs.List.{slice_split}
use Rattle.std.specs.declared.option.Option.{Option}
use Rattle.std.specs.declared.option.Option.TheVariants.{None, Some}

-- the parts that are left, and none where the row has ended
abbrev pub parts_left : Option (Bor (List ℕ)) → List (List ℕ)
parts_left None = []
parts_left (Some rest) = slice_split (λ byte. byte == 32) rest.now

-- how many bytes and ends are left
abbrev pub left_len : Option (Bor (List ℕ)) → ℕ
left_len None = 0
left_len (Some rest) = suc (length rest.now)
