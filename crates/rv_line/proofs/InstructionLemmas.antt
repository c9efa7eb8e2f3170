-- An instruction, as it is written, spells itself, and is one line.
use Rattle.std.proofs.Common.{◌≡◌, ℕ, ◌<◌, ◌≤◌, ◌^◌, List, [], ◌∷◌, ◌++◌, refl, arith, append_assoc}
use Rattle.std.specs.Prelude.{ℤ, codes, Contains, IfSome}
use Rattle.std.specs.Fmt.{decimal, signed_decimal}
use Rattle.std.specs.Int.Signed.{mag}
use Rattle.shapes_core.specs.Limits.{most_items}
use Rattle.rv_line.specs.Emitted.{register_text, address_text, label_name, two_operands, three_operands, instruction_text, target_of}
use Rattle.rv_line.specs.Fits.{IsRegister, FitsLine}
use Rattle.rv_line.specs.Instructions.{Takes, TakesAddress, SpellsLine}
use Rattle.rv_line.specs.Mnemonics.{three_mnemonic, imm_mnemonic, load_mnemonic, store_mnemonic, branch_mnemonic}
use Rattle.rv_line.specs.declared.line.Line.{Line}
use Rattle.rv_line.specs.declared.line.Line.TheVariants.{Three as ThreeLine, Imm as ImmLine, Load as LoadLine, Store as StoreLine, Branch as BranchLine, Lui, Auipc, Jal, Jalr, Fence, Ecall, Ebreak}
use Rattle.rv_line.proofs.LinesLemmas.{IsPlain, IsPlain-append}
use Rattle.rv_line.proofs.FormLemmas.{letters_plain, three_form, imm_form, load_form, store_form, branch_form}
use Rattle.rv_line.proofs.NumberLemmas.{IsSignedNumber-decimal, IsSignedNumber-signed_decimal, IsPlain-decimal, IsPlain-signed_decimal, mag_small, mag_imm}

-- two operands, as they are written
pub Takes-two : (mnemonic one two : List ℕ) → Takes (two_operands mnemonic one two) mnemonic (one ∷ two ∷ [])
Takes-two mnemonic one two = record {
  gap = 32 ∷ [];
  rest = one ++ 44 ∷ 32 ∷ two;
  spelled = simp append_assoc refl;
  apart = refl;
  some = omega arith;
  separated = ([], 32 ∷ [], two, refl, refl, refl, refl);
}

Takes-three : (mnemonic one two three : List ℕ) → Takes (three_operands mnemonic one two three) mnemonic (one ∷ two ∷ three ∷ [])
Takes-three mnemonic one two three = record {
  gap = 32 ∷ [];
  rest = one ++ 44 ∷ 32 ∷ two ++ 44 ∷ 32 ∷ three;
  spelled = simp append_assoc refl;
  apart = refl;
  some = omega arith;
  separated = ([], 32 ∷ [], two ++ 44 ∷ 32 ∷ three, simp append_assoc refl, refl, refl, ([], 32 ∷ [], three, refl, refl, refl, refl));
}

address_spelled : (mnemonic : List ℕ) (register : ℕ) (imm : ℤ) (base : ℕ) → mag imm < 2 ^ 63 → TakesAddress (two_operands mnemonic (register_text register) (address_text imm base)) mnemonic register imm base
address_spelled mnemonic register imm base small = record {
  offset = signed_decimal imm;
  number = IsSignedNumber-signed_decimal imm small;
  takes =
      let grouped : address_text imm base ≡ signed_decimal imm ++ (codes "(" ++ (register_text base ++ codes ")")) = simp append_assoc refl in
      rw grouped (Takes-two mnemonic (register_text register) (signed_decimal imm ++ (codes "(" ++ (register_text base ++ codes ")"))));
}

-- an instruction, as it is written
pub instruction_spelled : (labels : List (List ℕ × ℕ)) (count at : ℕ) (line : Line) → FitsLine count at line → IfSome (target_of line) (λ target. Contains labels (label_name target, target)) → SpellsLine labels (instruction_text line) line
instruction_spelled labels count at (ThreeLine code to left right) fits known = Takes-three (three_mnemonic code) (register_text to) (register_text left) (register_text right)
instruction_spelled labels count at (ImmLine code to from imm) fits known = record {
  digits = signed_decimal imm;
  number = IsSignedNumber-signed_decimal imm (mag_imm code imm fits.imm);
  takes = Takes-three (imm_mnemonic code) (register_text to) (register_text from) (signed_decimal imm);
}
instruction_spelled labels count at (LoadLine code to imm base) fits known = address_spelled (load_mnemonic code) to imm base (mag_small imm fits.imm)
instruction_spelled labels count at (StoreLine code from imm base) fits known = address_spelled (store_mnemonic code) from imm base (mag_small imm fits.imm)
instruction_spelled labels count at (BranchLine code left right target) fits known = record {
  name = label_name target;
  defined = known;
  takes = Takes-three (branch_mnemonic code) (register_text left) (register_text right) (label_name target);
}
instruction_spelled labels count at (Lui to imm) fits known = record {
  digits = decimal imm;
  number = let bound = fits.imm in IsSignedNumber-decimal imm (omega arith);
  takes = Takes-two (codes "lui") (register_text to) (decimal imm);
}
instruction_spelled labels count at (Auipc to imm) fits known = record {
  digits = decimal imm;
  number = let bound = fits.imm in IsSignedNumber-decimal imm (omega arith);
  takes = Takes-two (codes "auipc") (register_text to) (decimal imm);
}
instruction_spelled labels count at (Jal to target) fits known = record {
  name = label_name target;
  defined = known;
  takes = Takes-two (codes "jal") (register_text to) (label_name target);
}
instruction_spelled labels count at (Jalr to imm base) fits known = address_spelled (codes "jalr") to imm base (mag_small imm fits.imm)
instruction_spelled labels count at Fence fits known = refl
instruction_spelled labels count at Ecall fits known = refl
instruction_spelled labels count at Ebreak fits known = refl

IsPlain-register : (register : ℕ) → IsRegister register → IsPlain (register_text register)
IsPlain-register register known =
    IsPlain-append {xs = codes "x"} {ys = decimal register} (record { plain = refl }) (IsPlain-decimal register (omega arith))

IsPlain-address : (imm : ℤ) (base : ℕ) → mag imm < 2 ^ 63 → IsRegister base → IsPlain (address_text imm base)
IsPlain-address imm base small known =
    IsPlain-append {xs = signed_decimal imm ++ codes "(" ++ register_text base} {ys = codes ")"}
    (IsPlain-append {xs = signed_decimal imm ++ codes "("} {ys = register_text base}
    (IsPlain-append {xs = signed_decimal imm} {ys = codes "("} (IsPlain-signed_decimal imm small) (record { plain = refl }))
    (IsPlain-register base known))
    (record { plain = refl })

pub IsPlain-label_name : (number : ℕ) → number < 2 ^ 64 → IsPlain (label_name number)
IsPlain-label_name number small =
    IsPlain-append {xs = codes ".L"} {ys = decimal number} (record { plain = refl }) (IsPlain-decimal number small)

IsPlain-two : (mnemonic one two : List ℕ) → IsPlain mnemonic → IsPlain one → IsPlain two → IsPlain (two_operands mnemonic one two)
IsPlain-two mnemonic one two m p q =
    IsPlain-append {xs = mnemonic ++ codes " " ++ one ++ codes ", "} {ys = two}
    (IsPlain-append {xs = mnemonic ++ codes " " ++ one} {ys = codes ", "}
    (IsPlain-append {xs = mnemonic ++ codes " "} {ys = one}
    (IsPlain-append {xs = mnemonic} {ys = codes " "} m (record { plain = refl }))
    p)
    (record { plain = refl }))
    q

IsPlain-three : (mnemonic one two three : List ℕ) → IsPlain mnemonic → IsPlain one → IsPlain two → IsPlain three → IsPlain (three_operands mnemonic one two three)
IsPlain-three mnemonic one two three m p q r =
    IsPlain-append {xs = two_operands mnemonic one two ++ codes ", "} {ys = three}
    (IsPlain-append {xs = two_operands mnemonic one two} {ys = codes ", "} (IsPlain-two mnemonic one two m p q) (record { plain = refl }))
    r

-- an instruction is one line
pub IsPlain-instruction : (count at : ℕ) (line : Line) → count ≤ most_items → FitsLine count at line → IsPlain (instruction_text line)
IsPlain-instruction count at (ThreeLine code to left right) small fits =
    IsPlain-three _ _ _ _ (letters_plain _ (three_form code).letters) (IsPlain-register to fits.to) (IsPlain-register left fits.left) (IsPlain-register right fits.right)
IsPlain-instruction count at (ImmLine code to from imm) small fits =
    IsPlain-three _ _ _ _ (letters_plain _ (imm_form code).letters) (IsPlain-register to fits.to) (IsPlain-register from fits.from) (IsPlain-signed_decimal imm (mag_imm code imm fits.imm))
IsPlain-instruction count at (LoadLine code to imm base) small fits =
    IsPlain-two _ _ _ (letters_plain _ (load_form code).letters) (IsPlain-register to fits.operand) (IsPlain-address imm base (mag_small imm fits.imm) fits.base)
IsPlain-instruction count at (StoreLine code from imm base) small fits =
    IsPlain-two _ _ _ (letters_plain _ (store_form code).letters) (IsPlain-register from fits.operand) (IsPlain-address imm base (mag_small imm fits.imm) fits.base)
IsPlain-instruction count at (BranchLine code left right target) small fits =
    let exists = fits.target.exists in
    IsPlain-three _ _ _ _ (letters_plain _ (branch_form code).letters) (IsPlain-register left fits.left) (IsPlain-register right fits.right) (IsPlain-label_name target (omega arith))
IsPlain-instruction count at (Lui to imm) small fits =
    let bound = fits.imm in
    IsPlain-two (codes "lui") _ _ (record { plain = refl }) (IsPlain-register to fits.to) (IsPlain-decimal imm (omega arith))
IsPlain-instruction count at (Auipc to imm) small fits =
    let bound = fits.imm in
    IsPlain-two (codes "auipc") _ _ (record { plain = refl }) (IsPlain-register to fits.to) (IsPlain-decimal imm (omega arith))
IsPlain-instruction count at (Jal to target) small fits =
    let exists = fits.target.exists in
    IsPlain-two (codes "jal") _ _ (record { plain = refl }) (IsPlain-register to fits.to) (IsPlain-label_name target (omega arith))
IsPlain-instruction count at (Jalr to imm base) small fits =
    IsPlain-two (codes "jalr") _ _ (record { plain = refl }) (IsPlain-register to fits.operand) (IsPlain-address imm base (mag_small imm fits.imm) fits.base)
IsPlain-instruction count at Fence small fits = record { plain = refl }
IsPlain-instruction count at Ecall small fits = record { plain = refl }
IsPlain-instruction count at Ebreak small fits = record { plain = refl }
