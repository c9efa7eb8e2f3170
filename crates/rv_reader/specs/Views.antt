-- What the reader's own types stand for. This project's own.
use Rattle.std.specs.Prelude.{ℕ, ℤ, List, [], ◌∷◌}
use Rattle.std.specs.declared.result.Result.{Result}
use Rattle.std.specs.declared.result.Result.TheVariants.{Ok, Err}
use Rattle.rv_line.specs.declared.line.Line.{Line}
use Rattle.rv_line.specs.declared.line.Line.TheVariants.{Load as LoadLine, Store as StoreLine, Lui, Auipc, Jalr}
use Rattle.rv_reader.specs.BodyLines.{Draft}
use Rattle.rv_reader.specs.BodyLines.Draft.{Whole, ToBranch, ToJump}
use Rattle.rv_reader.specs.declared.draft.Addressed.{Addressed}
use Rattle.rv_reader.specs.declared.draft.Addressed.TheVariants as addressed
use Rattle.rv_reader.specs.declared.draft.Draft.{Draft as ReadDraft}
use Rattle.rv_reader.specs.declared.draft.Draft.TheVariants as draft
use Rattle.rv_reader.specs.declared.draft.Upper.{Upper}
use Rattle.rv_reader.specs.declared.draft.Upper.TheVariants as upper
use Rattle.rv_reader.specs.declared.split.Operands.{Operands}
use Rattle.rv_reader.specs.declared.split.Operands.TheVariants as operands

-- operands, or four where there are more than three
abbrev pub listed : Operands → List (List ℕ)
listed operands.Zero = []
listed (operands.One one) = one.now ∷ []
listed (operands.Two one two) = one.now ∷ two.now ∷ []
listed (operands.Three one two three) = one.now ∷ two.now ∷ three.now ∷ []
listed operands.More = [] ∷ [] ∷ [] ∷ [] ∷ []

-- the line of a form with an address
abbrev pub addressed_line : Addressed → ℕ → ℤ → ℕ → Line
addressed_line (addressed.Load code) register imm base = LoadLine code register imm base
addressed_line (addressed.Store code) register imm base = StoreLine code register imm base
addressed_line addressed.Jalr register imm base = Jalr register imm base

-- the line of a form with the upper bits of a word
abbrev pub upper_line : Upper → ℕ → ℕ → Line
upper_line upper.Lui to imm = Lui to imm
upper_line upper.Auipc to imm = Auipc to imm

abbrev pub drafted : ReadDraft → Draft
drafted (draft.Whole line) = Whole line
drafted (draft.ToBranch code left right label) = ToBranch code left right label.now
drafted (draft.ToJump to label) = ToJump to label.now

abbrev pub draft_result : Result ReadDraft ℕ → Result Draft ℕ
draft_result (Ok found) = Ok (drafted found)
draft_result (Err cause) = Err cause
