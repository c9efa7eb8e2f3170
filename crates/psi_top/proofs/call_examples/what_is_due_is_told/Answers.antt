use Rattle.std.proofs.Common.{◌≡◌, ℕ, List, [], ◌∷◌, inl, inr, refl, sym, ap, ◌∙◌, arith, codes}
use Rattle.std.specs.Prelude.{slice_index_or}
use Rattle.std.proofs.lemmas.List.Elements.{All-nil}
use Rattle.psi_top.specs.CallExamples.{told, untold}
use Rattle.psi_top.specs.Command.{Asks}
use Rattle.psi_top.specs.Line.{cannot_read_line}
use Rattle.psi_top.specs.Outcome.{IsUnreadable}
use Rattle.psi_top.specs.Outcome.IsDue.{cannot_read}
use Rattle.psi_top.specs.Views.{ShelfView}
use Rattle.psi_top.specs.declared.command.Task.TheVariants as task
use Rattle.psi_top.proofs.DueLemmas.{due_usage}
use Rattle.psi_top.proofs.ExampleLemmas.{misuse, unread_named, untouched}
use Rattle.psi_top.proofs.call_examples.what_is_due_is_told.Goals as goal

asked_a : Asks (codes "check" ∷ codes "a" ∷ []) (codes "a" ∷ [])
asked_a = Asks.source {task = task.Check} (record { form = refl; short = omega arith })

pub returns-clause-usage : goal.returns-clause-usage
returns-clause-usage c = due_usage [] (untold 0 [] 0) misuse

pub returns-clause-given : goal.returns-clause-given
returns-clause-given c = λ due. elim (untouched _ _ _ due).1 [ inl e ↦ omega (arith, e) | inr e ↦ omega (arith, e.1) ]

pub returns-clause-failed : goal.returns-clause-failed
returns-clause-failed c = λ due. omega (arith, (untouched _ _ _ due).0)

pub returns-clause-unread : goal.returns-clause-unread
returns-clause-unread c = cannot_read (record { before = []; behind = []; asked = asked_a; runnable = All-nil _; rose = omega arith; named = refl })

pub returns-clause-last_count : goal.returns-clause-last_count
returns-clause-last_count c = cannot_read (record { before = []; behind = []; asked = asked_a; runnable = All-nil _; rose = omega arith; named = refl })

pub returns-clause-stood_still : goal.returns-clause-stood_still
returns-clause-stood_still c = λ due. omega (arith, (unread_named _ _ _ _ due refl).1.rose)

pub returns-clause-missing : goal.returns-clause-missing
returns-clause-missing c = λ due. omega (arith, (unread_named _ _ _ _ due refl).1.rose)

pub returns-clause-other_name : goal.returns-clause-other_name
returns-clause-other_name c = λ due.
    let unread = unread_named _ _ _ _ due refl in
    omega (arith, ap (λ line. slice_index_or line 18 0) (unread.2 ∙ ap cannot_read_line (sym unread.1.named)))
