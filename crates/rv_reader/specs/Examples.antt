-- Texts that are refused, and texts that are not. This project's own.
use Prim.Native.String.{String}
use Rattle.std.specs.Prelude.{ℕ, pos, negsuc, List, [], ◌∷◌, ◌++◌, ◌-◌, codes, replicate}
use Rattle.std.specs.List.{concat}
use Rattle.std.specs.declared.option.Option.TheVariants.{Some}
use Rattle.std.specs.declared.result.Result.{Result}
use Rattle.shapes_core.specs.declared.area.AreaKind.TheVariants.{In, Out, Scan}
use Rattle.rv_line.specs.Parts.{Parts}
use Rattle.rv_line.specs.declared.line.Branch.TheVariants.{Bne}
use Rattle.rv_line.specs.declared.line.Imm.TheVariants.{Addi}
use Rattle.rv_line.specs.declared.line.Line.TheVariants.{Imm as ImmLine, Store as StoreLine, Branch as BranchLine, Jal}
use Rattle.rv_line.specs.declared.line.Store.TheVariants.{Sd}
use Rattle.rv_reader.specs.BodyLines.{Reading, reading_of}
use Rattle.rv_reader.specs.Refusals.{Refusal, refusal}

abbrev pub refused : ℕ → ℕ → Refusal
refused place cause = Some (place, cause)

-- what becomes of a text behind a header with two spill words
abbrev pub behind : String → Refusal
behind text = refusal (codes "# psi 1\n# steps 9\n# spill 2\n" ++ codes text)

abbrev pub reading : String → Result Reading ℕ
reading text = reading_of (codes text)

-- a branch to so many instructions behind it
abbrev pub far_text : ℕ → List ℕ
far_text count = codes "# psi 1\n# steps 1\n# spill 0\nbeq x0, x0, a\n" ++ (concat (replicate (count - 1) (codes "fence\n")) ++ codes "a:")

-- a header alone
abbrev pub bare_text : List ℕ
bare_text = codes "# psi 1\n# steps 0\n# spill 07"

abbrev pub bare_parts : Parts
bare_parts = record { header = record { steps = 0; spill = 7 }; areas = []; lines = []; places = [] }

-- comments, blanks, carriage returns, labels of a line and of the end, and no last line feed
abbrev pub loose_text : List ℕ
loose_text = codes "# psi 1\r\n# steps 12\n# spill 3\r\n# the program\r\n\t.globl gone\n top: # here\r\naddi\tx5 ,x0,-1\n\n  bne x5, x0 , end # on\njal x0,top\r\nend:"

abbrev pub loose_parts : Parts
loose_parts = record {
  header = record { steps = 12; spill = 3 };
  areas = [];
  lines = ImmLine Addi 5 0 (negsuc 0) ∷ BranchLine Bne 5 0 3 ∷ Jal 0 0 ∷ [];
  places = 7 ∷ 9 ∷ 10 ∷ [];
}

-- an area of each kind, and an instruction behind them
abbrev pub areas_text : List ℕ
areas_text = codes "# psi 1\n# steps 1\n# spill 2\n# in A 2 2 3\n# in in 8\n# out C 09 0 5\n# scan 0 9 4\n# scan 01 13\nsd x6, 16(x10)\n"

abbrev pub areas_parts : Parts
areas_parts = record {
  header = record { steps = 1; spill = 2 };
  areas =
      record { kind = In (codes "A"); shape = 2 ∷ 3 ∷ []; start = 0 }
      ∷ record { kind = In (codes "in"); shape = []; start = 6 }
      ∷ record { kind = Out (codes "C"); shape = 0 ∷ 5 ∷ []; start = 7 }
      ∷ record { kind = Scan 0; shape = 4 ∷ []; start = 7 }
      ∷ record { kind = Scan 1; shape = []; start = 11 } ∷ [];
  lines = StoreLine Sd 6 (pos 16) 10 ∷ [];
  places = 9 ∷ [];
}
