use Rattle.std.proofs.Common.{◌≡◌, ℕ, inl, inr, refl, ap, arith, length}
use Rattle.psi_top.specs.CallExamples.{cut, full, idle}
use Rattle.psi_top.specs.Put.IsPut.{whole, out_failed, err_failed}
use Rattle.psi_top.specs.Views.{SinkView}
use Rattle.psi_top.proofs.ExampleLemmas.{front_begins, line_cut, line_put, printed_cut, printed_put}
use Rattle.psi_top.proofs.call_examples.what_is_put_is_told.Goals as goal

pub returns-clause-text : goal.returns-clause-text
returns-clause-text c = whole refl (record { held = refl; faults = refl }) (record { held = refl; faults = refl })

pub returns-clause-no_text : goal.returns-clause-no_text
returns-clause-no_text c = λ put. let held = (printed_put _ _ _ _ _ _ put refl).0 in cc

pub returns-clause-text_and_line : goal.returns-clause-text_and_line
returns-clause-text_and_line c = λ put. let held = (printed_put _ _ _ _ _ _ put refl).1 in cc

pub returns-clause-front : goal.returns-clause-front
returns-clause-front c = out_failed refl refl (record { held = (1, omega arith, refl); rose = omega arith }) (inl (record { held = refl; faults = refl }))

pub returns-clause-front_unsaid : goal.returns-clause-front_unsaid
returns-clause-front_unsaid c = λ put. elim (printed_cut _ _ _ _ _ _ put refl) [
  | inl (text, inl line) ↦ let held = line.held in cc
  | inl (text, inr line) ↦ omega (arith, line.rose)
  | inr (same, line) ↦ omega (arith, line.rose)
]

pub returns-clause-other_text : goal.returns-clause-other_text
returns-clause-other_text c = λ put. elim (printed_cut _ _ _ _ _ _ put refl) [
  | inl (text, line) ↦ omega (arith, front_begins text.held.0 54 53 _ _ text.held.2)
  | inr (same, line) ↦ omega (arith, ap (λ (sink : SinkView). sink.faults) same)
]

pub returns-clause-line : goal.returns-clause-line
returns-clause-line c = whole refl (record { held = refl; faults = refl }) (record { held = refl; faults = refl })

pub returns-clause-line_unsaid : goal.returns-clause-line_unsaid
returns-clause-line_unsaid c = λ put. let held = line_put _ _ _ _ _ _ _ put (λ e. omega (arith, e)) in cc

pub returns-clause-front_of_line : goal.returns-clause-front_of_line
returns-clause-front_of_line c = err_failed refl (record { held = (5, omega arith, refl); rose = omega arith })

pub returns-clause-text_put_then : goal.returns-clause-text_put_then
returns-clause-text_put_then c = λ put.
    let same = line_cut _ _ _ _ _ _ _ put (λ e. omega (arith, e)) (λ e. cc) in
    let held = ap (λ (sink : SinkView). sink.held) same in cc
