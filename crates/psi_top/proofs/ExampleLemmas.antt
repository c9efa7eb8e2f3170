-- What examples need of what is due and of what is put.
use Rattle.std.proofs.Common.{◌≡◌, ℕ, ◌+◌, ◌≤◌, ◌⊎◌, inl, inr, zero, suc, List, [], ◌∷◌, ◌++◌, length, take, Option, Some, None, refl, sym, ap, subst, ◌∙◌, arith, length-append}
use Rattle.std.specs.Prelude.{◌≢◌}
use Rattle.psi_edges.specs.Files.{Files}
use Rattle.psi_edges.specs.Held.{Appends}
use Rattle.psi_top.specs.Command.{IsCommand, IsMisuse, IsRun, words_of}
use Rattle.psi_top.specs.Line.{cannot_read_line, cannot_write_line}
use Rattle.psi_top.specs.Outcome.{IsDue, IsGiven, IsOutcome, IsTextOf, IsUnreadable, Outcome, line_of, status_of}
use Rattle.psi_top.specs.Outcome.IsDue.{over_files, cannot_read, no_memory}
use Rattle.psi_top.specs.Outcome.IsOutcome.{usage, missing, found, runs}
use Rattle.psi_top.specs.Outcome.Outcome.{Refuses, Prints}
use Rattle.psi_top.specs.Put.{IsCut, IsPut, IsWhole}
use Rattle.psi_top.specs.Put.IsPut.{whole, out_failed, err_failed}
use Rattle.psi_top.specs.Views.{ShelfView, SinkView}
use Rattle.psi_top.specs.declared.command.Task.{Task}
use Rattle.psi_top.proofs.AnswerLemmas.{nothing_asked}

-- ---- words

no_command : (task : Task) (name : List ℕ) → [] ≡ words_of task ++ name ∷ [] → ⊥
no_command task name form = omega (arith, ap length form, length-append (words_of task) (name ∷ []))

-- no words are no command
pub misuse : IsMisuse []
misuse = record { no_source = λ task name asked. no_command task name asked.form; no_run = λ assembly arrays asked. let form = asked.form in cc }

-- ---- what is due

none_read : (files later : Files) (outcome : Outcome) (read : ℕ) → IsOutcome [] files later outcome read → read ≡ 0
none_read files later outcome read (usage m) = refl
none_read files later outcome read (missing a at) = absurd (misuse.no_source _ _ a)
none_read files later outcome read (found a at r) = absurd (misuse.no_source _ _ a)
none_read files later outcome read (runs a) = absurd (misuse.no_run _ _ a)

-- of no words nothing is read
pub untouched : (old new : ShelfView) (outcome : Outcome) → IsDue [] old new outcome → (new.faults ≡ old.faults) × IsGiven old.given new.given 0
untouched old new outcome (over_files {read = read} told again o given faults other) =
    (faults, subst (λ n. IsGiven old.given new.given n) (none_read _ _ outcome read o) given)
untouched old new outcome (cannot_read unread) = absurd (nothing_asked [] _ misuse unread.asked)
untouched old new outcome (no_memory a) = absurd (nothing_asked [] _ misuse a)

-- of status 2 a file cannot be read, and the line names it
pub unread_named : (words : List (List ℕ)) (old new : ShelfView) (outcome : Outcome) → IsDue words old new outcome → status_of outcome ≡ 2 → (name : List ℕ) × IsUnreadable words old new name × (line_of outcome ≡ cannot_read_line name)
unread_named words old new outcome (over_files told again o given faults other) two = absurd (other two)
unread_named words old new outcome (cannot_read {name = name} unread) two = (name, unread, refl)
unread_named words old new outcome (no_memory a) two = absurd (omega (arith, two))

-- ---- what is put

module _ (out_old out_new err_old err_new : SinkView) where
  -- a printed text is put whole, and no line, or a front of it
  pub printed_put : (printed : List ℕ) (status : ℕ) → IsPut (Prints printed) out_old out_new err_old err_new status → status ≡ 0 → Appends out_old.held out_new.held printed × Appends err_old.held err_new.held []
  printed_put printed status (whole t out err) e = (subst (λ text. Appends out_old.held out_new.held text) t out.held, err.held)
  printed_put printed status (out_failed l t out err) e = absurd (omega (arith, e))
  printed_put printed status (err_failed out err) e = absurd (omega (arith, e))

  pub printed_cut : (printed : List ℕ) (status : ℕ) → IsPut (Prints printed) out_old out_new err_old err_new status → status ≡ 3
      → (IsCut printed out_old out_new × (IsWhole cannot_write_line err_old err_new ⊎ IsCut cannot_write_line err_old err_new)) ⊎ ((out_new ≡ out_old) × IsCut [] err_old err_new)
  printed_cut printed status (whole t out err) e = absurd (omega (arith, e))
  printed_cut printed status (out_failed l t out err) e = inl (subst (λ text. IsCut text out_old out_new) t out, err)
  printed_cut printed status (err_failed out err) e = inr (out, err)

  -- a line is put whole, or a front of it and no text
  pub line_put : (code : ℕ) (line : List ℕ) (status : ℕ) → IsPut (Refuses code line) out_old out_new err_old err_new status → status ≢ 3 → Appends err_old.held err_new.held line
  line_put code line status (whole t out err) n = err.held
  line_put code line status (out_failed l t out err) n = absurd (n refl)
  line_put code line status (err_failed out err) n = absurd (n refl)

  pub line_cut : (code : ℕ) (line : List ℕ) (status : ℕ) → IsPut (Refuses code line) out_old out_new err_old err_new status → status ≢ code → line ≢ [] → out_new ≡ out_old
  line_cut code line status (whole t out err) n some = absurd (n refl)
  line_cut code line status (out_failed l t out err) n some = absurd (some l)
  line_cut code line status (err_failed out err) n some = out

-- what a front of bytes begins with
pub front_begins : (count x y : ℕ) (xs ys : List ℕ) → Some (x ∷ xs) ≡ Some (take count (y ∷ ys)) → x ≡ y
front_begins zero x y xs ys e = absurd (cc)
front_begins (suc n) x y xs ys e = cc
