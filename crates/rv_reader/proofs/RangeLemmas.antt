-- The tests of immediates say which ones fit, and say the same of immediates as they are kept, so the same instruction is read.
use Rattle.std.proofs.Common.{◌≡◌, ℕ, ◌≤◌, List, [], ◌∷◌, refl, sym, ap, ◌∙◌, arith, rules}
use Rattle.std.specs.Prelude.{ℤ, pos, negsuc, ◌≤ℤ◌, Bool, true, false, ◌&&◌, int_le, min, nat_abs, nat_le, T}
use Rattle.std.specs.Int.Signed.{le_z_yes}
use Rattle.std.specs.Option.{option_map}
use Rattle.std.specs.declared.option.Option.{Option}
use Rattle.std.specs.declared.option.Option.TheVariants.{None, Some}
use Rattle.std.specs.declared.result.Result.{Result}
use Rattle.std.proofs.lemmas.Bool.{and_from, and_parts, leb-true, le-leb}
use Rattle.std.proofs.lemmas.Bool.Decides.{nat_tests}
use Rattle.rv_line.specs.Fits.{Accepts, IsImmediate, IsShift, IsUpper}
use Rattle.rv_line.specs.declared.line.Imm.{Imm}
use Rattle.rv_line.specs.declared.line.Imm.TheVariants.{Addi, Slti, Sltiu, Xori, Ori, Andi, Slli, Srli, Srai, Addiw, Slliw, Srliw, Sraiw}
use Rattle.rv_line.specs.declared.line.Line.{Line}
use Rattle.rv_line.specs.declared.line.Line.TheVariants.{Imm as ImmLine}
use Rattle.rv_reader.specs.BodyLines.{address_draft, draft_of, imm_draft, in_range, upper_draft, with_operand}
use Rattle.rv_reader.specs.Forms.{accepts, is_between, is_immediate, is_upper}
use Rattle.rv_reader.specs.Marks.{clamped, farthest}
use Rattle.rv_reader.specs.Operands.{Address, address_of, immediate_of, register_of}
use Rattle.rv_reader.specs.Split.{AreSplit}
use Rattle.rv_reader.specs.Views.{addressed_line, listed, upper_line}
use Rattle.rv_reader.specs.declared.draft.Addressed.{Addressed}
use Rattle.rv_reader.specs.declared.draft.Upper.{Upper}
use Rattle.rv_reader.specs.declared.form.Form.{Form}
use Rattle.rv_reader.specs.declared.form.Form.TheVariants.{Three as ThreeForm, Imm as ImmForm, Load as LoadForm, Store as StoreForm, Branch as BranchForm, Lui as LuiForm, Auipc as AuipcForm, Jal as JalForm, Jalr as JalrForm, Fence as FenceForm, Ecall as EcallForm, Ebreak as EbreakForm}
use Rattle.rv_reader.specs.declared.split.Operands.{Operands}
use Rattle.rv_reader.specs.declared.split.Operands.TheVariants as operands
use Rattle.rv_reader.proofs.CutLemmas.{true_not_false}

T_of : (b : Bool) → b ≡ true → T b
T_of true h = tt
T_of false h = absurd (true_not_false (sym h))

true_of : (b : Bool) → T b → b ≡ true
true_of true h = refl
true_of false h = absurd h

le_from : (a b : ℤ) → int_le a b ≡ true → a ≤ℤ b
le_from a b h = le_z_yes (T_of (int_le a b) h)

from_le : (a b : ℤ) → a ≤ℤ b → int_le a b ≡ true
from_le a b h = true_of (int_le a b) h.le

between_from : (low high z : ℤ) → low ≤ℤ z → z ≤ℤ high → is_between low high z ≡ true
between_from low high z a b = and_from (int_le low z) (int_le z high) (from_le low z a) (from_le z high b)

from_between : (low high z : ℤ) → is_between low high z ≡ true → (low ≤ℤ z) × (z ≤ℤ high)
from_between low high z is =
    let parts = and_parts (int_le low z) (int_le z high) is in
    (le_from low z parts.0, le_from z high parts.1)

pub immediate_fits : (z : ℤ) → IsImmediate z → is_immediate z ≡ true
immediate_fits z is = between_from (negsuc 2047) (pos 2047) z is.low is.high

pub fits_immediate : (z : ℤ) → is_immediate z ≡ true → IsImmediate z
fits_immediate z is = let parts = from_between (negsuc 2047) (pos 2047) z is in record { low = parts.0; high = parts.1 }

pub upper_fits : (n : ℕ) → IsUpper n → is_upper (pos n) ≡ true
upper_fits n small = between_from (pos 0) (pos 1048575) (pos n) (search rules) (search rules)

-- what is read of the upper bits of a word
pub record IsUpperOf (z : ℤ) : Type 0 where
  pub whole : z ≡ pos (nat_abs z)
  pub small : IsUpper (nat_abs z)

pub fits_upper : (z : ℤ) → is_upper z ≡ true → IsUpperOf z
fits_upper (pos n) is = record { whole = refl; small = search (rules, (from_between (pos 0) (pos 1048575) (pos n) is).1) }
fits_upper (negsuc n) is = absurd (true_not_false (sym is))

between_small : (low high z : ℤ) → negsuc 2047 ≤ℤ low → high ≤ℤ pos 2047 → is_between low high z ≡ true → (negsuc 2047 ≤ℤ z) × (z ≤ℤ pos 2047)
between_small low high z a b is =
    let parts = from_between low high z is in
    (search (rules, parts.0), search (rules, parts.1))

-- an accepted immediate fits 12 bits
pub immediate_small : (z : ℤ) → is_immediate z ≡ true → (negsuc 2047 ≤ℤ z) × (z ≤ℤ pos 2047)
immediate_small z is = from_between (negsuc 2047) (pos 2047) z is

pub upper_small : (z : ℤ) → is_upper z ≡ true → (pos 0 ≤ℤ z) × (z ≤ℤ pos 1048575)
upper_small z is = from_between (pos 0) (pos 1048575) z is

pub upper_abs : (z : ℤ) → is_upper z ≡ true → z ≡ pos (nat_abs z)
upper_abs (pos n) is = refl
upper_abs (negsuc n) is = absurd (cc)

-- a test of a range that does not reach as far as what is kept of an immediate
record IsNear (test : ℤ → Bool) : Type 0 where
  kept : (z : ℤ) → test (clamped z) ≡ test z
  same_number : (z : ℤ) → test z ≡ true → clamped z ≡ z

small_kept : (n most : ℕ) → most ≤ 1048575 → nat_le (min n farthest) most ≡ nat_le n most
small_kept n most small = grind (arith, nat_tests)

small_same : (n most : ℕ) → most ≤ 1048575 → nat_le n most ≡ true → min n farthest ≡ n
small_same n most small h = let le = leb-true n most h in omega arith

immediate_near : IsNear is_immediate
immediate_near = record { kept = kept; same_number = same_number }
  where
    kept : (z : ℤ) → is_immediate (clamped z) ≡ is_immediate z
    kept (pos n) = small_kept n 2047 (omega arith)
    kept (negsuc n) = ap (λ b. b && true) (small_kept n 2047 (omega arith))

    same_number : (z : ℤ) → is_immediate z ≡ true → clamped z ≡ z
    same_number (pos n) is = ap pos (small_same n 2047 (omega arith) is)
    same_number (negsuc n) is = ap negsuc (small_same n 2047 (omega arith) (and_parts (nat_le n 2047) true is).0)

natural_near : (most : ℕ) → most ≤ 1048575 → IsNear (is_between (pos 0) (pos most))
natural_near most small = record { kept = kept; same_number = same_number }
  where
    kept : (z : ℤ) → is_between (pos 0) (pos most) (clamped z) ≡ is_between (pos 0) (pos most) z
    kept (pos n) = rw (le-leb 0 (min n farthest) (omega arith), le-leb 0 n (omega arith)) (small_kept n most small)
    kept (negsuc n) = refl

    same_number : (z : ℤ) → is_between (pos 0) (pos most) z ≡ true → clamped z ≡ z
    same_number (pos n) is = ap pos (small_same n most small (and_parts (nat_le 0 n) (nat_le n most) is).1)
    same_number (negsuc n) is = absurd (true_not_false (sym is))

-- the test of a range within 12 bits
record IsTest (test : ℤ → Bool) (P : ℤ → Type 0) : Type 0 where
  passes : (z : ℤ) → P z → test z ≡ true
  says : (z : ℤ) → test z ≡ true → P z
  small : (z : ℤ) → test z ≡ true → (negsuc 2047 ≤ℤ z) × (z ≤ℤ pos 2047)
  near : IsNear test

immediate_test : IsTest is_immediate IsImmediate
immediate_test = record { passes = immediate_fits; says = fits_immediate; small = immediate_small; near = immediate_near }

shift_test : (most : ℕ) → pos most ≤ℤ pos 2047 → most ≤ 1048575 → IsTest (is_between (pos 0) (pos most)) (IsShift (pos most))
shift_test most high below = record {
  passes = λ z is. between_from (pos 0) (pos most) z is.low is.high;
  says = λ z is. let parts = from_between (pos 0) (pos most) z is in record { low = parts.0; high = parts.1 };
  small = λ z is. between_small (pos 0) (pos most) z (le_z_yes tt) high is;
  near = natural_near most below;
}

accepts_test : (code : Imm) → IsTest (accepts code) (Accepts code)
accepts_test Addi = immediate_test
accepts_test Slti = immediate_test
accepts_test Sltiu = immediate_test
accepts_test Xori = immediate_test
accepts_test Ori = immediate_test
accepts_test Andi = immediate_test
accepts_test Slli = shift_test 63 (le_z_yes tt) (omega arith)
accepts_test Srli = shift_test 63 (le_z_yes tt) (omega arith)
accepts_test Srai = shift_test 63 (le_z_yes tt) (omega arith)
accepts_test Addiw = immediate_test
accepts_test Slliw = shift_test 31 (le_z_yes tt) (omega arith)
accepts_test Srliw = shift_test 31 (le_z_yes tt) (omega arith)
accepts_test Sraiw = shift_test 31 (le_z_yes tt) (omega arith)

pub accepts_fits : (code : Imm) (z : ℤ) → Accepts code z → accepts code z ≡ true
accepts_fits code z is = (accepts_test code).passes z is

pub fits_accepts : (code : Imm) (z : ℤ) → accepts code z ≡ true → Accepts code z
fits_accepts code z is = (accepts_test code).says z is

pub accepted_small : (code : Imm) (z : ℤ) → accepts code z ≡ true → (negsuc 2047 ≤ℤ z) × (z ≤ℤ pos 2047)
accepted_small code z is = (accepts_test code).small z is

with_same : {A B : Type 0} (operand : Option A) (f g : A → Result B ℕ) → ((x : A) → f x ≡ g x) → with_operand operand f ≡ with_operand operand g
with_same None f g e = refl
with_same (Some x) f g e = e x

range_same : (test : ℤ → Bool) (line : ℤ → Line) → IsNear test → (z : ℤ) → in_range (test z) (line z) ≡ in_range (test (clamped z)) (line (clamped z))
range_same test line near z = by_test (test z) refl
  where
    by_test : (b : Bool) → test z ≡ b → in_range b (line z) ≡ in_range (test (clamped z)) (line (clamped z))
    by_test true is = rw (near.kept z, is, near.same_number z is) refl
    by_test false is = rw (near.kept z, is) refl

clamped_same : (test : ℤ → Bool) (line : ℤ → Line) → IsNear test → (imm : Option ℤ) → with_operand imm (λ z. in_range (test z) (line z)) ≡ with_operand (option_map clamped imm) (λ z. in_range (test z) (line z))
clamped_same test line near None = refl
clamped_same test line near (Some z) = range_same test line near z

pub imm_by : (code : Imm) (one two three : List ℕ) → imm_draft code (one ∷ two ∷ three ∷ []) ≡ with_operand (register_of one) (λ to. with_operand (register_of two) (λ from. with_operand (option_map clamped (immediate_of three)) (λ imm. in_range (accepts code imm) (ImmLine code to from imm))))
imm_by code one two three =
    with_same (register_of one) _ _ (λ to. with_same (register_of two) _ _ (λ from. clamped_same (accepts code) (ImmLine code to from) (accepts_test code).near (immediate_of three)))

pub upper_by : (form : Upper) (one two : List ℕ) → upper_draft (upper_line form) (one ∷ two ∷ []) ≡ with_operand (register_of one) (λ to. with_operand (option_map clamped (immediate_of two)) (λ imm. in_range (is_upper imm) (upper_line form to (nat_abs imm))))
upper_by form one two =
    with_same (register_of one) _ _ (λ to. clamped_same is_upper (λ z. upper_line form to (nat_abs z)) (natural_near 1048575 (omega arith)) (immediate_of two))

pub at_address : (form : Addressed) (one two : List ℕ) → address_draft (addressed_line form) (one ∷ two ∷ []) ≡ with_operand (register_of one) (λ register. with_operand {A = ℤ × ℕ} (option_map (λ a. (clamped a.imm, a.base)) (address_of two)) (λ at. in_range (is_immediate at.0) (addressed_line form register at.0 at.1)))
at_address form one two = with_same (register_of one) _ _ (λ register. by_address register (address_of two))
  where
    by_address : (register : ℕ) (found : Option Address) → with_operand found (λ at. in_range (is_immediate at.imm) (addressed_line form register at.imm at.base)) ≡ with_operand {A = ℤ × ℕ} (option_map (λ a. (clamped a.imm, a.base)) found) (λ at. in_range (is_immediate at.0) (addressed_line form register at.0 at.1))
    by_address register None = refl
    by_address register (Some at) = range_same is_immediate (λ z. addressed_line form register z at.base) immediate_near at.imm

-- an instruction by what is read of its register and its address
pub address_read : (form : Addressed) (one two : List ℕ) (first : Option ℕ) (second : Option (ℤ × ℕ)) → first ≡ register_of one → second ≡ option_map (λ a. (clamped a.imm, a.base)) (address_of two)
    → with_operand first (λ register. with_operand {A = ℤ × ℕ} second (λ at. in_range (is_immediate at.0) (addressed_line form register at.0 at.1))) ≡ address_draft (addressed_line form) (one ∷ two ∷ [])
address_read form one two first second a b =
    ap (λ f. with_operand f (λ register. with_operand {A = ℤ × ℕ} second (λ at. in_range (is_immediate at.0) (addressed_line form register at.0 at.1)))) a
    ∙ ap (λ s. with_operand (register_of one) (λ register. with_operand {A = ℤ × ℕ} s (λ at. in_range (is_immediate at.0) (addressed_line form register at.0 at.1)))) b
    ∙ sym (at_address form one two)

-- more operands than any form takes
too_many : (form : Form) (a b c d : List ℕ) (more : List (List ℕ)) → draft_of form (a ∷ b ∷ c ∷ d ∷ more) ≡ draft_of form ([] ∷ [] ∷ [] ∷ [] ∷ [])
too_many (ThreeForm code) a b c d more = refl
too_many (ImmForm code) a b c d more = refl
too_many (LoadForm code) a b c d more = refl
too_many (StoreForm code) a b c d more = refl
too_many (BranchForm code) a b c d more = refl
too_many LuiForm a b c d more = refl
too_many AuipcForm a b c d more = refl
too_many JalForm a b c d more = refl
too_many JalrForm a b c d more = refl
too_many FenceForm a b c d more = refl
too_many EcallForm a b c d more = refl
too_many EbreakForm a b c d more = refl

-- the operands that are separated are read as those that are there
pub split_same : (form : Form) (found : Operands) (list : List (List ℕ)) → AreSplit found list → draft_of form (listed found) ≡ draft_of form list
split_same form operands.Zero list is = ap (draft_of form) (sym is)
split_same form (operands.One one) list is = ap (draft_of form) (sym is)
split_same form (operands.Two one two) list is = ap (draft_of form) (sym is)
split_same form (operands.Three one two three) list is = ap (draft_of form) (sym is)
split_same form operands.More [] is = absurd (omega arith)
split_same form operands.More (a ∷ []) is = absurd (omega arith)
split_same form operands.More (a ∷ b ∷ []) is = absurd (omega arith)
split_same form operands.More (a ∷ b ∷ c ∷ []) is = absurd (omega arith)
split_same form operands.More (a ∷ b ∷ c ∷ d ∷ more) is = sym (too_many form a b c d more)
