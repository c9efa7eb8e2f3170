-- The lines of nests fit their forms, are free, and are base where no operator of the M extension is computed.
use Rattle.std.specs.Prelude.{◌≡◌, ℕ, ◌+◌, ◌<◌, ◌≤◌, Bool, true, false, not, ◌&&◌, ℤ, pos, List, [], ◌∷◌, ◌++◌, length, nat_lt, IsTrue, Option, Some, None}
use Rattle.std.specs.List.{AllByRecursion, list_all}
use Rattle.std.specs.Option.{unwrap_or}
use Rattle.std.proofs.Common.{refl, arith, sym, subst, length-append}
use Rattle.std.proofs.lemmas.Bool.{and_parts, false≢true}
use Rattle.std.proofs.lemmas.Bool.Decides.{nat_tests}
use Rattle.std.proofs.lemmas.List.Folds.{list_all-append}
use Rattle.loop_ir.specs.Steps.{Action, Set, Copy, One, Two, Place, Spot, Walk, Read, Write, Steps, End, Then, For, If}
use Rattle.moa_tree.specs.declared.operator.Op.{Op}
use Rattle.register_map.specs.declared.home.Home.{Home}
use Rattle.register_map.specs.declared.home.Home.TheVariants as home
use Rattle.register_map.specs.Homes.{Given, IsHome, home_of, is_given}
use Rattle.rv_line.specs.Fits.{FitLines}
use Rattle.rv_line.specs.declared.line.Line.{Line}
use Rattle.rv_line.specs.declared.line.Line.TheVariants.{Branch as BranchLine, Jal}
use Rattle.rv_line.specs.declared.line.Branch.TheVariants as branch
use Rattle.rv_steps.specs.Constants.{constant_lines}
use Rattle.rv_steps.specs.Good.{is_kept}
use Rattle.rv_steps.specs.Kinds.{is_base, is_free}
use Rattle.rv_emit.specs.Emitting.{home_at, plan_of, program}
use Rattle.rv_emit.specs.Pricing.{are_base, is_base_action, is_base_op}
use Rattle.rv_emit.specs.Simulating.{AreHomed}
use Rattle.rv_emit.proofs.SiteLemmas.{home-lies}
use Rattle.rv_emit.proofs.FormLemmas.{Admits, IsGood, NestIsGood, OpIs, OpsAre, program_fine, small_immediate}

-- ---- registers

-- one that a program may write and need not give back
pub record MayWrite (r : ℕ) : Type 0 where
  pub below : r < 32
  pub free : is_kept r ≡ false

-- one that it may read
abbrev pub MayRead : ℕ → Type 0
MayRead r = r < 32

-- any register, and any operator
abbrev pub Any : ℕ → Type 0
Any r = Unit {0}

abbrev pub AnyOp : Op → Type 0
AnyOp code = Unit {0}

given_writes : (r : ℕ) → is_given r ≡ true → MayWrite r
given_writes r h = record { below = grind (arith, nat_tests); free = grind (arith, nat_tests) }

scratch_writes : (r : ℕ) → 28 ≤ r → r ≤ 31 → MayWrite r
scratch_writes r low high = record { below = omega arith; free = grind (arith, nat_tests) }

-- the lines of constants
pub record ConstantsFit : Type 0 where
  pub fit : (count to at : ℕ) (value : ℤ) → to < 32 → FitLines count at (constant_lines to value)
  pub base : (to : ℕ) (value : ℤ) → IsTrue (list_all is_base (constant_lines to value))
  pub free : (to : ℕ) (value : ℤ) → to < 32 → is_kept to ≡ false → IsTrue (list_all is_free (constant_lines to value))

-- ---- free

abbrev pub AreFree : ℕ → List Line → Type 0
AreFree at lines = IsTrue (list_all is_free lines)

both_pass : (test : Line → Bool) (front back : List Line) → IsTrue (list_all test front) → IsTrue (list_all test back)
    → IsTrue (list_all test (front ++ back))
both_pass test front back p q = rw (list_all-append test front back, p, q) refl

writes_is_free : (r : ℕ) → MayWrite r → (nat_lt r 32 && not (is_kept r)) ≡ true
writes_is_free r w = let below : nat_lt r 32 ≡ true = let b = w.below in grind (arith, nat_tests) in rw (below, w.free) refl

pub admits_free : ConstantsFit → Admits AreFree MayWrite MayRead AnyOp
admits_free c = record {
  none = λ at. refl;
  both = λ at front back p q. both_pass is_free front back p q;
  reads = λ r w. w.below;
  nothing = omega arith;
  block = omega arith;
  scratch = scratch_writes;
  plain = λ at code to left right base w l r. rw (writes_is_free to w) refl;
  product = λ o at to left right w l r. rw (writes_is_free to w) refl;
  quotient = λ o at to left right w l r. rw (writes_is_free to w) refl;
  remainder = λ o at to left right w l r. rw (writes_is_free to w) refl;
  immediate = λ at code to from amount w r fits. rw (writes_is_free to w) refl;
  load = λ at to amount pointer w r fits. rw (writes_is_free to w) refl;
  store = λ at from amount pointer r s fits. refl;
  constant = λ at to value w. c.free to value w.below w.free;
  skip = λ at left right to from l r w f. rw (writes_is_free to w) refl;
  near = λ at left right top l r before reach. refl;
  far = λ at left right top l r before. refl;
  choice = λ at left one other l p q. both_pass is_free one (Jal 0 (at + 3 + length one + length other) ∷ other) p q;
}

-- ---- nests

home_good : (W : ℕ → Type 0) → ((r : ℕ) → is_given r ≡ true → W r) → (spill : ℕ) (found : Option Home)
    → ((own : Home) → found ≡ Some own → IsHome spill own) → IsGood W (unwrap_or found (home.Spill 0))
home_good W given spill None each = tt
home_good W given spill (Some (home.Register number)) each = given number (each (home.Register number) refl)
home_good W given spill (Some (home.Spill word)) each = tt

any_good : (own : Home) → IsGood Any own
any_good (home.Register number) = tt
any_good (home.Spill word) = tt

any_op : (action : Action) → OpIs AnyOp action
any_op (Set to value) = tt
any_op (Copy to from) = tt
any_op (One code to from) = tt
any_op (Two code to left right) = tt
any_op (Place to word) = tt
any_op (Spot to word by) = tt
any_op (Walk place words) = tt
any_op (Read to area place) = tt
any_op (Write area place from) = tt

any_ops : (steps : Steps) → OpsAre AnyOp steps
any_ops End = tt
any_ops (Then action rest) = (any_op action, any_ops rest)
any_ops (For counter turns body rest) = (any_ops body, any_ops rest)
any_ops (If left below one other rest) = (any_ops one, (any_ops other, any_ops rest))

pub ready_good : (spill : ℕ) (nests : List (Steps × Given)) → AreHomed spill nests → AllByRecursion (NestIsGood MayWrite AnyOp spill) nests
ready_good spill [] ready = tt
ready_good spill (nest ∷ nests) ready =
    let own : NestIsGood MayWrite AnyOp spill nest = record {
      homes = λ key. home_good MayWrite given_writes nest.1.spill (home_of nest.1 key) (home-lies nest.0 nest.1 ready.0.given ready.0.fit key);
      ops = any_ops nest.0;
    } in
    (own, ready_good spill nests ready.1)

pub lines_are_free : ConstantsFit → (nests : List (Steps × Given)) (spill : ℕ) → AreHomed spill nests
    → IsTrue (list_all is_free (program spill nests 0).lines)
lines_are_free c nests spill ready =
    program_fine AreFree MayWrite MayRead AnyOp (admits_free c) (λ at. refl) spill nests 0 (ready_good spill nests ready)

-- ---- base

abbrev pub AreBase : ℕ → List Line → Type 0
AreBase at lines = IsTrue (list_all is_base lines)

abbrev pub IsBase : Op → Type 0
IsBase code = is_base_op code ≡ true

pub admits_base : ConstantsFit → Admits AreBase Any Any IsBase
admits_base c = record {
  none = λ at. refl;
  both = λ at front back p q. both_pass is_base front back p q;
  reads = λ r w. tt;
  nothing = tt;
  block = tt;
  scratch = λ r low high. tt;
  plain = λ at code to left right base w l r. rw base refl;
  product = λ o at to left right w l r. absurd (false≢true o);
  quotient = λ o at to left right w l r. absurd (false≢true o);
  remainder = λ o at to left right w l r. absurd (false≢true o);
  immediate = λ at code to from amount w r fits. refl;
  load = λ at to amount pointer w r fits. refl;
  store = λ at from amount pointer r s fits. refl;
  constant = λ at to value w. c.base to value;
  skip = λ at left right to from l r w f. refl;
  near = λ at left right top l r before reach. refl;
  far = λ at left right top l r before. refl;
  choice = λ at left one other l p q. both_pass is_base one (Jal 0 (at + 3 + length one + length other) ∷ other) p q;
}

base_op : (action : Action) → is_base_action action ≡ true → OpIs IsBase action
base_op (Set to value) h = tt
base_op (Copy to from) h = tt
base_op (One code to from) h = tt
base_op (Two code to left right) h = h
base_op (Place to word) h = tt
base_op (Spot to word by) h = tt
base_op (Walk place words) h = tt
base_op (Read to area place) h = tt
base_op (Write area place from) h = tt

base_ops : (steps : Steps) → are_base steps ≡ true → OpsAre IsBase steps
base_ops End h = tt
base_ops (Then action rest) h = let parts = and_parts (is_base_action action) _ h in (base_op action parts.0, base_ops rest parts.1)
base_ops (For counter turns body rest) h = let parts = and_parts (are_base body) _ h in (base_ops body parts.0, base_ops rest parts.1)
base_ops (If left below one other rest) h =
    let parts = and_parts (are_base one) _ h in
    let others = and_parts (are_base other) _ parts.1 in
    (base_ops one parts.0, (base_ops other others.0, base_ops rest others.1))

base_good : (spill : ℕ) (nests : List (Steps × Given)) → list_all (λ nest. are_base nest.0) nests ≡ true
    → AllByRecursion (NestIsGood Any IsBase spill) nests
base_good spill [] h = tt
base_good spill (nest ∷ nests) h =
    let parts = and_parts (are_base nest.0) _ h in
    let own : NestIsGood Any IsBase spill nest = record {
      homes = λ key. any_good (home_at (plan_of spill nest) key);
      ops = base_ops nest.0 parts.0;
    } in
    (own, base_good spill nests parts.1)

pub lines_are_base : ConstantsFit → (nests : List (Steps × Given)) (spill : ℕ) → IsTrue (list_all (λ nest. are_base nest.0) nests)
    → IsTrue (list_all is_base (program spill nests 0).lines)
lines_are_base c nests spill h =
    program_fine AreBase Any Any IsBase (admits_base c) (λ at. refl) spill nests 0 (base_good spill nests h)

-- ---- that they fit

-- where they end within a program of so many lines, not more than a jump reaches
abbrev pub WouldFit : ℕ → ℕ → List Line → Type 0
WouldFit count at lines = at + length lines ≤ count → FitLines count at lines

abbrev pub PiecesFit : Type 0
PiecesFit = (count at : ℕ) (front back : List Line) → FitLines count at front → FitLines count (at + length front) back
    → FitLines count at (front ++ back)

choice_fits : PiecesFit → (count at left : ℕ) → count ≤ 262143 → left < 32 → (one other : List Line) → WouldFit count (at + 2) one
    → WouldFit count (at + 3 + length one) other
    → WouldFit count at (BranchLine branch.Blt left 29 (at + 2) ∷ Jal 0 (at + 3 + length one)
    ∷ (one ++ Jal 0 (at + 3 + length one + length other) ∷ other))
choice_fits pieces count at left few l one other p q fits =
    let jump = Jal 0 (at + 3 + length one + length other) in
    let joined = length-append one (jump ∷ other) in
    let all : at + 3 + length one + length other ≤ count = omega (arith, fits, joined) in
    let first : FitLines count (at + 2) one = p (omega (arith, all)) in
    let place : at + 2 + length one + 1 ≡ at + 3 + length one = omega arith in
    let second : FitLines count (at + 2 + length one + 1) other =
    subst (λ k. FitLines count k other) (sym place) (q (omega (arith, all))) in
    let behind : FitLines count (at + 2 + length one) (jump ∷ other) = (
      record {
        to = omega arith;
        target = record { exists = all; back = omega arith; ahead = omega (arith, all) };
      },
      second,
    ) in
    let two : at + 1 + 1 ≡ at + 2 = omega arith in
    let lists = pieces count (at + 2) one (jump ∷ other) first behind in (
      record {
        left = l;
        right = omega arith;
        target = record { exists = omega (arith, all); back = omega arith; ahead = omega arith };
      },
      (
        record {
          to = omega arith;
          target = record { exists = omega (arith, all); back = omega arith; ahead = omega (arith, all) };
        },
        subst (λ k. FitLines count k (one ++ jump ∷ other)) (sym two) lists,
      ),
    )

pub admits_fit : ConstantsFit → PiecesFit → (count : ℕ) → count ≤ 262143 → Admits (WouldFit count) MayWrite MayRead AnyOp
admits_fit c pieces count few = record {
  none = λ at fits. tt;
  both = λ at front back p q fits.
      pieces count at front back (p (omega (arith, fits, length-append front back))) (q (omega (arith, fits, length-append front back)));
  reads = λ r w. w.below;
  nothing = omega arith;
  block = omega arith;
  scratch = scratch_writes;
  plain = λ at code to left right base w l r fits. (record { to = w.below; left = l; right = r }, tt);
  product = λ o at to left right w l r fits. (record { to = w.below; left = l; right = r }, tt);
  quotient = λ o at to left right w l r fits. (record { to = w.below; left = l; right = r }, tt);
  remainder = λ o at to left right w l r fits. (record { to = w.below; left = l; right = r }, tt);
  immediate = λ at code to from amount w r small fits. (record { to = w.below; from = r; imm = small }, tt);
  load = λ at to amount pointer w r small fits. (record { operand = w.below; base = r; imm = small }, tt);
  store = λ at from amount pointer r s small fits. (record { operand = r; base = s; imm = small }, tt);
  constant = λ at to value w fits. c.fit count to at value w.below;
  skip = λ at left right to from l r w f fits. (
    record { left = l; right = r; target = record { exists = omega (arith, fits); back = omega arith; ahead = omega arith } },
    (record { to = w.below; from = f; imm = small_immediate (pos 0) refl }, tt),
  );
  near = λ at left right top l r before reach fits. (
    record {
      left = l;
      right = r;
      target = record { exists = omega (arith, before, fits); back = omega (arith, before, reach); ahead = omega (arith, before) };
    },
    tt,
  );
  far = λ at left right top l r before fits. (
    record { left = l; right = r; target = record { exists = omega (arith, fits); back = omega arith; ahead = omega arith } },
    (
      record { to = omega arith; target = record { exists = omega (arith, fits); back = omega arith; ahead = omega arith } },
      (
        record {
          to = omega arith;
          target = record { exists = omega (arith, before, fits); back = omega (arith, before, fits, few); ahead = omega (arith, before) };
        },
        tt,
      ),
    ),
  );
  choice = λ at left one other l p q. choice_fits pieces count at left few l one other p q;
}

pub lines_fit : ConstantsFit → PiecesFit → (nests : List (Steps × Given)) (spill : ℕ) → AreHomed spill nests
    → length (program spill nests 0).lines ≤ 262143 → FitLines (length (program spill nests 0).lines) 0 (program spill nests 0).lines
lines_fit c pieces nests spill ready few =
    let count = length (program spill nests 0).lines in
    program_fine (WouldFit count) MayWrite MayRead AnyOp (admits_fit c pieces count few)
    (λ at fits. (record { operand = omega arith; base = omega arith; imm = small_immediate (pos 0) refl }, tt)) spill nests 0
    (ready_good spill nests ready) (omega arith)
