-- Which lines are of the base instruction set, and which register a line writes. After the RISC-V unprivileged ISA, RV64IM.
use Rattle.std.specs.Prelude.{ℕ, Bool, true, false, not, ◌&&◌, nat_lt}
use Rattle.rv_line.specs.declared.line.Line.{Line}
use Rattle.rv_line.specs.declared.line.Line.TheVariants.{Three as ThreeLine, Imm as ImmLine, Load as LoadLine, Lui, Auipc, Jal, Jalr}
use Rattle.rv_line.specs.declared.line.Three.{Three}
use Rattle.rv_line.specs.declared.line.Three.TheVariants.{Mul, Mulh, Mulhsu, Mulhu, Div, Divu, Rem, Remu, Mulw, Divw, Divuw, Remw, Remuw}
use Rattle.rv_steps.specs.Good.{is_kept}

-- the mnemonics of the M extension
abbrev pub is_multiplication : Three → Bool
is_multiplication Mul = true
is_multiplication Mulh = true
is_multiplication Mulhsu = true
is_multiplication Mulhu = true
is_multiplication Div = true
is_multiplication Divu = true
is_multiplication Rem = true
is_multiplication Remu = true
is_multiplication Mulw = true
is_multiplication Divw = true
is_multiplication Divuw = true
is_multiplication Remw = true
is_multiplication Remuw = true
is_multiplication code = false

-- a line of RV64I, that is, none of the M extension
abbrev pub is_base : Line → Bool
is_base (ThreeLine code to left right) = not (is_multiplication code)
is_base line = true

-- the register that a line writes, and 0 where it writes none
abbrev pub written : Line → ℕ
written (ThreeLine code to left right) = to
written (ImmLine code to from imm) = to
written (LoadLine code to imm pointer) = to
written (Lui to imm) = to
written (Auipc to imm) = to
written (Jal to target) = to
written (Jalr to imm pointer) = to
written line = 0

-- a line writes no register that is given back as it was found
abbrev pub is_free : Line → Bool
is_free line = nat_lt (written line) 32 && not (is_kept (written line))
