-- The spelling of the mnemonics: RISC-V unprivileged ISA, 'RV32I', 'RV64I' and '"M" Extension for Integer Multiplication and Division'.
use Rattle.std.specs.Prelude.{ℕ, List, codes}
use Rattle.rv_line.specs.declared.line.Three.{Three}
use Rattle.rv_line.specs.declared.line.Three.TheVariants.{Add, Sub, Sll, Slt, Sltu, Xor, Srl, Sra, Or, And, Mul, Mulh, Mulhsu, Mulhu, Div, Divu, Rem, Remu, Addw, Subw, Sllw, Srlw, Sraw, Mulw, Divw, Divuw, Remw, Remuw}
use Rattle.rv_line.specs.declared.line.Imm.{Imm}
use Rattle.rv_line.specs.declared.line.Imm.TheVariants.{Addi, Slti, Sltiu, Xori, Ori, Andi, Slli, Srli, Srai, Addiw, Slliw, Srliw, Sraiw}
use Rattle.rv_line.specs.declared.line.Load.{Load}
use Rattle.rv_line.specs.declared.line.Load.TheVariants.{Lb, Lh, Lw, Ld, Lbu, Lhu, Lwu}
use Rattle.rv_line.specs.declared.line.Store.{Store}
use Rattle.rv_line.specs.declared.line.Store.TheVariants.{Sb, Sh, Sw, Sd}
use Rattle.rv_line.specs.declared.line.Branch.{Branch}
use Rattle.rv_line.specs.declared.line.Branch.TheVariants.{Beq, Bne, Blt, Bge, Bltu, Bgeu}

-- the mnemonic of three registers
abbrev pub three_mnemonic : Three → List ℕ
three_mnemonic Add = codes "add"
three_mnemonic Sub = codes "sub"
three_mnemonic Sll = codes "sll"
three_mnemonic Slt = codes "slt"
three_mnemonic Sltu = codes "sltu"
three_mnemonic Xor = codes "xor"
three_mnemonic Srl = codes "srl"
three_mnemonic Sra = codes "sra"
three_mnemonic Or = codes "or"
three_mnemonic And = codes "and"
three_mnemonic Mul = codes "mul"
three_mnemonic Mulh = codes "mulh"
three_mnemonic Mulhsu = codes "mulhsu"
three_mnemonic Mulhu = codes "mulhu"
three_mnemonic Div = codes "div"
three_mnemonic Divu = codes "divu"
three_mnemonic Rem = codes "rem"
three_mnemonic Remu = codes "remu"
three_mnemonic Addw = codes "addw"
three_mnemonic Subw = codes "subw"
three_mnemonic Sllw = codes "sllw"
three_mnemonic Srlw = codes "srlw"
three_mnemonic Sraw = codes "sraw"
three_mnemonic Mulw = codes "mulw"
three_mnemonic Divw = codes "divw"
three_mnemonic Divuw = codes "divuw"
three_mnemonic Remw = codes "remw"
three_mnemonic Remuw = codes "remuw"

-- the mnemonic of two registers and an immediate
abbrev pub imm_mnemonic : Imm → List ℕ
imm_mnemonic Addi = codes "addi"
imm_mnemonic Slti = codes "slti"
imm_mnemonic Sltiu = codes "sltiu"
imm_mnemonic Xori = codes "xori"
imm_mnemonic Ori = codes "ori"
imm_mnemonic Andi = codes "andi"
imm_mnemonic Slli = codes "slli"
imm_mnemonic Srli = codes "srli"
imm_mnemonic Srai = codes "srai"
imm_mnemonic Addiw = codes "addiw"
imm_mnemonic Slliw = codes "slliw"
imm_mnemonic Srliw = codes "srliw"
imm_mnemonic Sraiw = codes "sraiw"

-- the mnemonic of a load
abbrev pub load_mnemonic : Load → List ℕ
load_mnemonic Lb = codes "lb"
load_mnemonic Lh = codes "lh"
load_mnemonic Lw = codes "lw"
load_mnemonic Ld = codes "ld"
load_mnemonic Lbu = codes "lbu"
load_mnemonic Lhu = codes "lhu"
load_mnemonic Lwu = codes "lwu"

-- the mnemonic of a store
abbrev pub store_mnemonic : Store → List ℕ
store_mnemonic Sb = codes "sb"
store_mnemonic Sh = codes "sh"
store_mnemonic Sw = codes "sw"
store_mnemonic Sd = codes "sd"

-- the mnemonic of a branch
abbrev pub branch_mnemonic : Branch → List ℕ
branch_mnemonic Beq = codes "beq"
branch_mnemonic Bne = codes "bne"
branch_mnemonic Blt = codes "blt"
branch_mnemonic Bge = codes "bge"
branch_mnemonic Bltu = codes "bltu"
branch_mnemonic Bgeu = codes "bgeu"
