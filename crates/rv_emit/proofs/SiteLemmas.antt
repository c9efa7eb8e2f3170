-- Homes of machine registers, and the lines of reads and writes behind those that repay what their places owe.
use Rattle.std.specs.Prelude.{◌≡◌, ℕ, ◌<◌, ℤ, true, Some, List, ◌∷◌, [], ◌++◌}
use Rattle.std.proofs.Common.{ap, ◌∙◌, arith, append_assoc}
use Rattle.std.proofs.lemmas.Bool.Decides.{nat_tests}
use Rattle.loop_ir.specs.Running.{Key}
use Rattle.loop_ir.specs.Steps.{Steps}
use Rattle.register_map.specs.declared.home.Home.{Home}
use Rattle.register_map.specs.declared.home.Home.TheVariants as home
use Rattle.register_map.specs.Fits.{IsFit}
use Rattle.register_map.specs.Homes.{Given, IsGiven, IsHome, home_of, is_given}
use Rattle.rv_line.specs.declared.line.Line.{Line}
use Rattle.rv_line.specs.declared.line.Line.TheVariants.{Load as LoadLine, Store as StoreLine}
use Rattle.rv_line.specs.declared.line.Load.TheVariants.{Ld}
use Rattle.rv_line.specs.declared.line.Store.TheVariants.{Sd}
use Rattle.rv_emit.specs.Emitting.{near_lines, offset}
use Rattle.rv_emit.specs.Moving.{fetch_lines, put_lines, register_of}
use Rattle.rv_emit.specs.Programs.{HasRegisters}
use Rattle.rv_emit.specs.Walks.{Owed}

given-within : (number : ℕ) → is_given number ≡ true → (0 < number) × (number < 32)
given-within number h = grind (arith, nat_tests)

-- what a home that fits a nest is
pub home-lies : (nest : Steps) (given : Given) → IsGiven given → IsFit nest given → (key : Key) (home : Home)
    → home_of given key ≡ Some home → IsHome given.spill home
home-lies nest given is fit key (home.Register number) e = fit.registers key number e
home-lies nest given is fit key (home.Spill word) e = is.below key word e

pub found-within : (given : Given) → HasRegisters given → (key : Key) (home : Home) → home_of given key ≡ Some home
    → (0 < register_of 30 home) × (register_of 30 home < 32)
found-within given registers key (home.Register number) e = given-within number (registers key number e)
found-within given registers key (home.Spill word) e = (omega arith, omega arith)

abbrev pub loads : Home → Home → ℤ → List Line
loads home from imm = fetch_lines 30 from ++ (LoadLine Ld (register_of 30 home) imm (register_of 30 from) ∷ put_lines home)

abbrev pub stores : Home → Home → ℤ → List Line
stores home to imm = fetch_lines 28 home ++ (fetch_lines 30 to ++ StoreLine Sd (register_of 28 home) imm (register_of 30 to) ∷ [])

pub behind-near : (moves : Home → Home → ℤ → List Line) (owed : Owed) (old new : List Line) (home own place at : Home) (imm : ℤ)
    → new ≡ old ++ near_lines owed at → imm ≡ offset owed at → own ≡ home → at ≡ place
    → new ++ moves own at imm ≡ old ++ (near_lines owed place ++ moves home place (offset owed place))
behind-near moves owed old new home own place at imm near off one two =
    ap (λ list. list ++ moves own at imm) near ∙ append_assoc old (near_lines owed at) (moves own at imm)
    ∙ ap (λ (i : ℤ). old ++ (near_lines owed at ++ moves own at i)) off
    ∙ ap (λ (p : Home). old ++ (near_lines owed p ++ moves own p (offset owed p))) two
    ∙ ap (λ (h : Home). old ++ (near_lines owed place ++ moves h place (offset owed place))) one
