-- What the code that makes a value adds. This project's own.
use Rattle.std.specs.Prelude.{◌≡◌, ℕ, ◌+◌, List, ◌++◌, length}
use Rattle.stride_form.specs.Operational.{Operational}
use Rattle.loop_ir.specs.declared.step.Step.{Step}
use Rattle.nest_build.specs.Coding.{plain}
use Rattle.nest_build.specs.Nests.{made_of}
use Rattle.nest_build.specs.Parts.{Loop, accesses, literals}

-- the steps of a value are added, the value is in this register, and its literals and places are counted
pub record Makes (loops : List Loop) (low : ℕ → ℕ) (free : ℕ) (form : Operational) (value : ℕ)
    (before : List Step) (literal place : ℕ) (after : List Step) (next_literal next_place : ℕ) : Type 0 where
  pub register : value ≡ (made_of loops low free literal place form).value
  pub steps : after ≡ before ++ plain (made_of loops low free literal place form).steps
  pub literals : next_literal ≡ literal + length (literals form)
  pub places : next_place ≡ place + length (accesses form)
