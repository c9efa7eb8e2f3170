-- The text of an operand, as the code hands it on: what stands last in an instruction. This project's own.
use Rattle.std.specs.Prelude.{ℕ, List}
use Rattle.std.specs.Fmt.{decimal, signed_decimal}
use Rattle.rv_line.specs.Emitted.{register_text, address_text, label_name}
use Rattle.rv_line.specs.declared.instruction.Operand.{Operand}
use Rattle.rv_line.specs.declared.instruction.Operand.TheVariants.{Register, Signed, Unsigned, Address, Label}

abbrev pub operand_text : Operand → List ℕ
operand_text (Register register) = register_text register
operand_text (Signed imm) = signed_decimal imm
operand_text (Unsigned imm) = decimal imm
operand_text (Address imm base) = address_text imm base
operand_text (Label target) = label_name target
