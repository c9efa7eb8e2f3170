-- What a line says spells at most one instruction, which is found by the mnemonic and the operands.
use Rattle.std.proofs.Common.{◌≡◌, ℕ, suc, zero, ◌<◌, List, [], ◌∷◌, ◌++◌, length, get_or, refl, ap, ◌∙◌, arith}
use Rattle.std.specs.Prelude.{ℤ, pos, Bool, true, false, ◌&&◌, ◌==◌, ◌≢◌, nat_le, not, codes, Contains, AllPairs, map}
use Rattle.std.specs.Int.Signed.{mag}
use Rattle.std.specs.List.{list_all, AllByRecursion}
use Rattle.std.specs.Str.Parse.{signed_digits_value}
use Rattle.std.proofs.lemmas.Bool.{ne_eqb, eq-eqb, eqb-true, leb-true, not-true, false_from_ne_true}
use Rattle.std.proofs.lemmas.List.Elements.{All-from_recursion, All-contains}
use Rattle.rv_line.specs.Emitted.{register_text}
use Rattle.rv_line.specs.Fits.{FitsLine}
use Rattle.rv_line.specs.Instructions.{is_space_or_tab, AreBlanks, IsLabel, Takes, SpellsLine}
use Rattle.rv_line.specs.Mnemonics.{three_mnemonic, imm_mnemonic, load_mnemonic, store_mnemonic, branch_mnemonic}
use Rattle.rv_line.specs.Numbers.{IsSignedNumber}
use Rattle.rv_line.specs.declared.line.Line.{Line}
use Rattle.rv_line.specs.declared.line.Line.TheVariants.{Three as ThreeLine, Imm as ImmLine, Load as LoadLine, Store as StoreLine, Branch as BranchLine, Lui, Auipc, Jal, Jalr, Fence, Ecall, Ebreak}
use Rattle.rv_line.proofs.CodeReadingLemmas.{value_at, three_at, three_again, imm_at, imm_again, load_at, load_again, store_at, store_again, branch_at, branch_again}
use Rattle.rv_line.proofs.CutLemmas.{until, until-append, since, since-append, begins, blanks_bare}
use Rattle.rv_line.proofs.FormLemmas.{IsMnemonic, are_letters, letter_solid, letters_solid, form_of, same, three_form, imm_form, load_form, store_form, branch_form, lui_form, auipc_form, jal_form, jalr_form}
use Rattle.rv_line.proofs.LinesLemmas.{both, all_weaker}
use Rattle.rv_line.proofs.OperandReadingLemmas.{is_operand_byte, IsOperand, ends_behind, operands_of, operands_read, operands_end, register_operand, signed_operand, address_operand, label_operand, register_at, register_again, offset_at, offset_again, base_at, base_again}
use Rattle.rv_line.proofs.RefusalLemmas.{last_of, IsTight}

same_itself : (text : List ℕ) → same text text ≡ true
same_itself [] = refl
same_itself (byte ∷ bytes) = rw (eq-eqb byte byte refl) (same_itself bytes)

same_true : (one other : List ℕ) → same one other ≡ true → one ≡ other
same_true [] [] h = refl
same_true [] (y ∷ ys) h = absurd (cc)
same_true (x ∷ xs) [] h = absurd (cc)
same_true (x ∷ xs) (y ∷ ys) h =
    let parts = both (x == y) (same xs ys) h in
    let first = eqb-true x y parts.0 in
    let others = same_true xs ys parts.1 in
    cc

name_at : (labels : List (List ℕ × ℕ)) (k : ℕ) (label : List ℕ × ℕ) → get_or (map (λ l. l.0) labels) k label.0 ≡ (get_or labels k label).0
name_at [] k label = refl
name_at (first ∷ labels) zero label = refl
name_at (first ∷ labels) (suc k) label = name_at labels k label

target_from : (labels : List (List ℕ × ℕ)) (name : List ℕ) (target k : ℕ) → AllPairs (λ one other. one ≢ other) (map (λ l. l.0) labels) → k < length labels → get_or labels k (name, target) ≡ (name, target) → value_at 0 labels name ≡ target
target_from [] name target k differ below is = absurd (omega arith)
target_from (label ∷ labels) name target zero differ below is =
    let named : label.0 ≡ name = ap (λ l. l.0) is in
    let here : same label.0 name ≡ true = rw named (same_itself name) in
    rw here (ap (λ l. l.1) is)
target_from (label ∷ labels) name target (suc k) differ below is =
    let later : get_or (map (λ l. l.0) labels) k name ≡ name = name_at labels k (name, target) ∙ ap (λ l. l.0) is in
    let length_is : length (map (λ l. l.0) labels) ≡ length labels = length-map_labels labels in
    let other : label.0 ≢ name = rw later at (differ 0 (suc k) name (omega arith) (omega arith)) in
    let not_here : same label.0 name ≡ false = false_from_ne_true (same label.0 name) (λ h. other (same_true label.0 name h)) in
    rw not_here (target_from labels name target k (λ i j d before within. differ (suc i) (suc j) d (omega arith) (omega arith)) (omega arith) is)
  where
    length-map_labels : (ls : List (List ℕ × ℕ)) → length (map (λ l. l.0) ls) ≡ length ls
    length-map_labels [] = refl
    length-map_labels (l ∷ ls) = ap suc (length-map_labels ls)

-- the labels of a text: names of labels, which differ
pub record AreTextLabels (labels : List (List ℕ × ℕ)) : Type 0 where
  pub named : AllByRecursion (λ label. IsLabel label.0) labels
  pub differ : AllPairs (λ one other. one ≢ other) (map (λ label. label.0) labels)

-- where a label leads, looked up by its name
pub target_at : List (List ℕ × ℕ) → List ℕ → ℕ
target_at labels name = value_at 0 labels name

target_again : (labels : List (List ℕ × ℕ)) (name : List ℕ) (target : ℕ) → AreTextLabels labels → Contains labels (name, target) → target_at labels name ≡ target
unfolding target_at
target_again labels name target are found = target_from labels name target found.0 are.differ found.1 found.2

pub form_at : List ℕ → ℕ
form_at word = form_of word

form_again : (word : List ℕ) (form : ℕ) → form_of word ≡ form → form_at word ≡ form
unfolding form_at
form_again word form is = is

pub number_at : List ℕ → ℤ
number_at text = signed_digits_value 10 text

number_again : (text : List ℕ) (z : ℤ) → IsSignedNumber text z → number_at text ≡ z
unfolding number_at
number_again text z number = number.value

-- the instruction of a form, a mnemonic and operands
abbrev line_at : List (List ℕ × ℕ) → ℕ → List ℕ → List (List ℕ) → Line
line_at labels form word operands =
    let one = get_or operands 0 [] in
    let two = get_or operands 1 [] in
    let three = get_or operands 2 [] in
    get_or (
    ThreeLine (three_at word) (register_at one) (register_at two) (register_at three)
    ∷ ImmLine (imm_at word) (register_at one) (register_at two) (number_at three)
    ∷ LoadLine (load_at word) (register_at one) (number_at (offset_at two)) (base_at two)
    ∷ StoreLine (store_at word) (register_at one) (number_at (offset_at two)) (base_at two)
    ∷ BranchLine (branch_at word) (register_at one) (register_at two) (target_at labels three)
    ∷ Lui (register_at one) (mag (number_at two))
    ∷ Auipc (register_at one) (mag (number_at two))
    ∷ Jal (register_at one) (target_at labels two)
    ∷ Jalr (register_at one) (number_at (offset_at two)) (base_at two)
    ∷ Fence ∷ Ecall ∷ Ebreak ∷ []
    ) form Fence

-- the instruction that a core spells
abbrev pub line_of : List (List ℕ × ℕ) → List ℕ → Line
line_of labels core = line_at labels (form_at (until is_space_or_tab core)) (until is_space_or_tab core) (operands_of (since is_space_or_tab core))

abbrev pub is_label_core : List ℕ → Bool
is_label_core core = last_of 0 core == 58

abbrev pub is_code : List ℕ → Bool
is_code core = not (get_or core 0 46 == 46)

-- what is read of an instruction's core
record TakesRead (form : ℕ) (core mnemonic : List ℕ) (operands : List (List ℕ)) : Type 0 where
  form_is : form_of mnemonic ≡ form
  tight : IsTight core
  code : is_code core ≡ true
  not_label : is_label_core core ≡ false
  word : until is_space_or_tab core ≡ mnemonic
  operands_are : operands_of (since is_space_or_tab core) ≡ operands

first_letter : (word rest : List ℕ) → are_letters word ≡ true → 0 < length word → (is_space_or_tab (get_or (word ++ rest) 0 0) ≡ false) × (is_code (word ++ rest) ≡ true)
first_letter [] rest letters some = absurd (omega arith)
first_letter (byte ∷ word) rest letters some =
    let letter = (both (nat_le 97 byte) (are_letters word) letters).0 in
    let low = leb-true 97 byte letter in
    (not-true (is_space_or_tab byte) (letter_solid byte letter), rw (ne_eqb byte 46 (λ e. omega arith)) refl)

pub last_parts : (byte : ℕ) → is_operand_byte byte ≡ true → (is_space_or_tab byte ≡ false) × ((byte == 58) ≡ false)
last_parts byte solid =
    let a = both (not (is_space_or_tab byte) && not (byte == 44) && not (byte == 35)) (not (byte == 58)) solid in
    let b = both (not (is_space_or_tab byte) && not (byte == 44)) (not (byte == 35)) a.0 in
    let c = both (not (is_space_or_tab byte)) (not (byte == 44)) b.0 in
    (not-true (is_space_or_tab byte) c.0, not-true (byte == 58) a.1)

letters_bare : (word : List ℕ) → are_letters word ≡ true → list_all (λ byte. not (byte == 35)) word ≡ true
letters_bare = all_weaker (nat_le 97) (λ byte. not (byte == 35)) (λ byte letter. let low = leb-true 97 byte letter in rw (ne_eqb byte 35 (λ e. omega arith)) refl)

gap_begins : (gap rest : List ℕ) → AreBlanks gap → 0 < length gap → begins is_space_or_tab (gap ++ rest) ≡ true
gap_begins [] rest blanks some = absurd (omega arith)
gap_begins (byte ∷ gap) rest blanks some = (both (is_space_or_tab byte) (list_all is_space_or_tab gap) blanks).0

operands_behind : (gap rest : List ℕ) → AreBlanks gap → operands_of (gap ++ rest) ≡ operands_of rest
operands_behind [] rest blanks = refl
operands_behind (byte ∷ gap) rest blanks =
    let parts = both (is_space_or_tab byte) (list_all is_space_or_tab gap) blanks in
    rw parts.0 (operands_behind gap rest parts.1)

takes_read : (core mnemonic one : List ℕ) (more : List (List ℕ)) (form : ℕ) → IsMnemonic form mnemonic → Takes core mnemonic (one ∷ more) → AllByRecursion IsOperand (one ∷ more) → TakesRead form core mnemonic (one ∷ more)
takes_read core mnemonic one more form word takes are =
    let gap = takes.gap in
    let rest = takes.rest in
    let ends = ends_behind mnemonic (gap ++ rest) (letters_bare mnemonic word.letters) (ends_behind gap rest (blanks_bare gap takes.apart) (operands_end one more rest takes.separated are)) in
    let first = first_letter mnemonic (gap ++ rest) word.letters word.some in
    let last = last_parts (last_of 0 (mnemonic ++ (gap ++ rest))) ends.last in
    let solid = letters_solid mnemonic word.letters in
    let blank = gap_begins gap rest takes.apart takes.some in
    rw takes.spelled (record {
      form_is = word.form_is;
      tight = record { bare = ends.bare; first = first.0; last = last.0 };
      code = first.1;
      not_label = last.1;
      word = until-append is_space_or_tab mnemonic (gap ++ rest) solid blank;
      operands_are =
          ap operands_of (since-append is_space_or_tab mnemonic (gap ++ rest) solid blank)
          ∙ operands_behind gap rest takes.apart
          ∙ operands_read one more rest takes.separated are;
    })

-- what is read of an instruction
pub record ReadsLine (labels : List (List ℕ × ℕ)) (core : List ℕ) (line : Line) : Type 0 where
  pub tight : IsTight core
  pub code : is_code core ≡ true
  pub not_label : is_label_core core ≡ false
  pub line_is : line_of labels core ≡ line

reads : (labels : List (List ℕ × ℕ)) (core mnemonic : List ℕ) (operands : List (List ℕ)) (form : ℕ) (line : Line) → TakesRead form core mnemonic operands → line_at labels form mnemonic operands ≡ line → ReadsLine labels core line
reads labels core mnemonic operands form line read line_is = record {
  tight = read.tight;
  code = read.code;
  not_label = read.not_label;
  line_is =
      ap (λ word. line_at labels (form_at word) word (operands_of (since is_space_or_tab core))) read.word
      ∙ ap (λ found. line_at labels (form_at mnemonic) mnemonic found) read.operands_are
      ∙ ap (λ number. line_at labels number mnemonic operands) (form_again mnemonic form read.form_is)
      ∙ line_is;
}

named_label : (labels : List (List ℕ × ℕ)) (name : List ℕ) (target : ℕ) → AreTextLabels labels → Contains labels (name, target) → IsLabel name
named_label labels name target are found = All-contains (λ label. IsLabel label.0) labels (name, target) (All-from_recursion (λ label. IsLabel label.0) labels are.named) found

lone_word : (word core : List ℕ) → core ≡ word → IsTight word → is_code word ≡ true → is_label_core word ≡ false → (labels : List (List ℕ × ℕ)) (line : Line) → line_of labels word ≡ line → ReadsLine labels core line
lone_word word core is tight code not_label labels line line_is = rw is (record { tight = tight; code = code; not_label = not_label; line_is = line_is })

-- a core spells one instruction
pub line_read : (labels : List (List ℕ × ℕ)) (count at : ℕ) (core : List ℕ) (line : Line) → AreTextLabels labels → FitsLine count at line → SpellsLine labels core line → ReadsLine labels core line
line_read labels count at core (ThreeLine code to left right) are fits spelled =
    let read = takes_read core (three_mnemonic code) (register_text to) (register_text left ∷ register_text right ∷ []) 0 (three_form code) spelled (register_operand to fits.to, (register_operand left fits.left, (register_operand right fits.right, tt))) in
    reads labels core _ _ 0 (ThreeLine code to left right) read (rw (three_again code, register_again to fits.to, register_again left fits.left, register_again right fits.right) refl)
line_read labels count at core (ImmLine code to from imm) are fits spelled =
    let read = takes_read core (imm_mnemonic code) (register_text to) (register_text from ∷ spelled.digits ∷ []) 1 (imm_form code) spelled.takes (register_operand to fits.to, (register_operand from fits.from, (signed_operand spelled.digits imm spelled.number, tt))) in
    reads labels core _ _ 1 (ImmLine code to from imm) read (rw (imm_again code, register_again to fits.to, register_again from fits.from, number_again spelled.digits imm spelled.number) refl)
line_read labels count at core (LoadLine code to imm base) are fits spelled =
    let read = takes_read core (load_mnemonic code) (register_text to) ((spelled.offset ++ (codes "(" ++ (register_text base ++ codes ")"))) ∷ []) 2 (load_form code) spelled.takes (register_operand to fits.operand, (address_operand spelled.offset imm base spelled.number fits.base, tt)) in
    reads labels core _ _ 2 (LoadLine code to imm base) read (rw (load_again code, register_again to fits.operand, offset_again spelled.offset imm base spelled.number, number_again spelled.offset imm spelled.number, base_again spelled.offset imm base spelled.number fits.base) refl)
line_read labels count at core (StoreLine code from imm base) are fits spelled =
    let read = takes_read core (store_mnemonic code) (register_text from) ((spelled.offset ++ (codes "(" ++ (register_text base ++ codes ")"))) ∷ []) 3 (store_form code) spelled.takes (register_operand from fits.operand, (address_operand spelled.offset imm base spelled.number fits.base, tt)) in
    reads labels core _ _ 3 (StoreLine code from imm base) read (rw (store_again code, register_again from fits.operand, offset_again spelled.offset imm base spelled.number, number_again spelled.offset imm spelled.number, base_again spelled.offset imm base spelled.number fits.base) refl)
line_read labels count at core (BranchLine code left right target) are fits spelled =
    let named = named_label labels spelled.name target are spelled.defined in
    let read = takes_read core (branch_mnemonic code) (register_text left) (register_text right ∷ spelled.name ∷ []) 4 (branch_form code) spelled.takes (register_operand left fits.left, (register_operand right fits.right, (label_operand spelled.name named, tt))) in
    reads labels core _ _ 4 (BranchLine code left right target) read (rw (branch_again code, register_again left fits.left, register_again right fits.right, target_again labels spelled.name target are spelled.defined) refl)
line_read labels count at core (Lui to imm) are fits spelled =
    let read = takes_read core (codes "lui") (register_text to) (spelled.digits ∷ []) 5 lui_form spelled.takes (register_operand to fits.to, (signed_operand spelled.digits (pos imm) spelled.number, tt)) in
    reads labels core _ _ 5 (Lui to imm) read (rw (register_again to fits.to, number_again spelled.digits (pos imm) spelled.number) refl)
line_read labels count at core (Auipc to imm) are fits spelled =
    let read = takes_read core (codes "auipc") (register_text to) (spelled.digits ∷ []) 6 auipc_form spelled.takes (register_operand to fits.to, (signed_operand spelled.digits (pos imm) spelled.number, tt)) in
    reads labels core _ _ 6 (Auipc to imm) read (rw (register_again to fits.to, number_again spelled.digits (pos imm) spelled.number) refl)
line_read labels count at core (Jal to target) are fits spelled =
    let named = named_label labels spelled.name target are spelled.defined in
    let read = takes_read core (codes "jal") (register_text to) (spelled.name ∷ []) 7 jal_form spelled.takes (register_operand to fits.to, (label_operand spelled.name named, tt)) in
    reads labels core _ _ 7 (Jal to target) read (rw (register_again to fits.to, target_again labels spelled.name target are spelled.defined) refl)
line_read labels count at core (Jalr to imm base) are fits spelled =
    let read = takes_read core (codes "jalr") (register_text to) ((spelled.offset ++ (codes "(" ++ (register_text base ++ codes ")"))) ∷ []) 8 jalr_form spelled.takes (register_operand to fits.operand, (address_operand spelled.offset imm base spelled.number fits.base, tt)) in
    reads labels core _ _ 8 (Jalr to imm base) read (rw (register_again to fits.operand, offset_again spelled.offset imm base spelled.number, number_again spelled.offset imm spelled.number, base_again spelled.offset imm base spelled.number fits.base) refl)
line_read labels count at core Fence are fits spelled =
    lone_word (codes "fence") core spelled (record { bare = refl; first = refl; last = refl }) refl refl labels Fence (ap (λ form. line_at labels form (codes "fence") (operands_of [])) (form_again (codes "fence") 9 refl))
line_read labels count at core Ecall are fits spelled =
    lone_word (codes "ecall") core spelled (record { bare = refl; first = refl; last = refl }) refl refl labels Ecall (ap (λ form. line_at labels form (codes "ecall") (operands_of [])) (form_again (codes "ecall") 10 refl))
line_read labels count at core Ebreak are fits spelled =
    lone_word (codes "ebreak") core spelled (record { bare = refl; first = refl; last = refl }) refl refl labels Ebreak (ap (λ form. line_at labels form (codes "ebreak") (operands_of [])) (form_again (codes "ebreak") 11 refl))
