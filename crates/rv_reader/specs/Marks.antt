-- The bytes at which a line is cut, and numbers as 64 bits hold them. This project's own.
use Rattle.std.specs.Prelude.{ℕ, ◌-◌, ◌^◌, min, ℤ, pos, negsuc, neg_ℤ, Bool, not, ◌==◌, if◌then◌else◌}
use Rattle.std.specs.declared.option.Option.{Option}
use Rattle.std.specs.declared.option.Option.TheVariants.{None, Some}
use Rattle.rv_line.specs.Instructions.{is_space_or_tab}
use Rattle.rv_reader.specs.declared.cuts.Mark.{Mark}
use Rattle.rv_reader.specs.declared.cuts.Mark.TheVariants as mark

-- whether a byte is such a mark
abbrev pub stops : Mark → ℕ → Bool
stops mark.Blank byte = is_space_or_tab byte
stops mark.Solid byte = not (is_space_or_tab byte)
stops mark.LineFeed byte = byte == 10
stops mark.Space byte = byte == 32
stops mark.Hash byte = byte == 35
stops mark.Open byte = byte == 40
stops mark.Close byte = byte == 41
stops mark.Comma byte = byte == 44
stops mark.Colon byte = byte == 58

-- the number, or the greatest of 64 bits where it is greater
abbrev pub capped : ℕ → ℕ
capped number = min number (2 ^ 64 - 1)

-- how far immediates are kept, which is outside of all their ranges
abbrev pub farthest : ℕ
farthest = 2 ^ 40

-- the number, or one that is outside of all ranges of immediates where it is
abbrev pub clamped : ℤ → ℤ
clamped (pos number) = pos (min number farthest)
clamped (negsuc number) = negsuc (min number farthest)

-- a magnitude, with or without `-` in front
abbrev pub signed : Bool → ℕ → ℤ
signed minus magnitude = if minus then neg_ℤ (pos magnitude) else pos magnitude

-- both parts of an address, where it is closed
abbrev pub joined : Bool → Option ℤ → Option ℕ → Option (ℤ × ℕ)
joined closed (Some imm) (Some base) = if closed then Some (imm, base) else None
joined closed _ _ = None
