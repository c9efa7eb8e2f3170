-- A program of two instructions with two of its texts, and texts that spell no program. This project's own.
use Rattle.std.specs.Prelude.{ℕ, pos, List, [], ◌∷◌, codes}
use Rattle.shapes_core.specs.declared.area.AreaKind.TheVariants.{Out}
use Rattle.rv_line.specs.Parts.{Parts}
use Rattle.rv_line.specs.declared.line.Line.TheVariants.{Store as StoreLine, Lui}
use Rattle.rv_line.specs.declared.line.Store.TheVariants.{Sd}

-- a text of the program that writes -2147483648 to its only output
abbrev pub small_text : List ℕ
small_text = codes "# psi 1\n# steps 2\n# spill 0\n# out C 0\nlui x5, 524288\nsd x5, 0(x10)\n"

-- that program, with its instructions on these lines of a text
abbrev pub small_parts : List ℕ → Parts
small_parts places = record {
  header = record { steps = 2; spill = 0 };
  areas = record { kind = Out (codes "C"); shape = []; start = 0 } ∷ [];
  lines = Lui 5 524288 ∷ StoreLine Sd 5 (pos 0) 10 ∷ [];
  places = places;
}

-- a text of the same program, with a label, blanks, comments, carriage returns, leading zeros and no last line feed
abbrev pub loose_text : List ℕ
loose_text = codes "# psi 1\r\n# steps 02\n# spill 0\n# out C 00\n# the program\n\tstart: # here\r\n\n .globl  gone\n\tlui\tx5 ,0524288#\nsd x5, -0(x10) "

-- near misses: a register with a leading zero, an immediate out of range, a label that is not there, an offset that is not the spill, a
-- label twice
abbrev pub leading_zero_text : List ℕ
leading_zero_text = codes "# psi 1\n# steps 2\n# spill 0\nlui x05, 1\n"

abbrev pub large_imm_text : List ℕ
large_imm_text = codes "# psi 1\n# steps 2\n# spill 0\naddi x5, x0, 2048\n"

abbrev pub no_label_text : List ℕ
no_label_text = codes "# psi 1\n# steps 2\n# spill 0\nbeq x0, x0, gone\n"

abbrev pub wrong_offset_text : List ℕ
wrong_offset_text = codes "# psi 1\n# steps 2\n# spill 0\n# out C 1\n"

abbrev pub repeated_label_text : List ℕ
repeated_label_text = codes "# psi 1\n# steps 2\n# spill 0\na:\na:\n"
