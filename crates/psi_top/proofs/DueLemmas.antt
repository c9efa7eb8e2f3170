-- What is due of the reads that were made.
use Rattle.std.proofs.Common.{◌≡◌, ℕ, ◌+◌, ◌<◌, inl, inr, List, [], ◌∷◌, length, replicate, Option, Some, None, cond, refl, sym, ap, subst, ◌∙◌, arith}
use Rattle.std.specs.Prelude.{◌≢◌, ◌⊎◌, IfErr, IfOk, IsSomeAnd, Result, Ok, Err, Vec}
use Rattle.std.proofs.lemmas.List.{length-replicate}
use Rattle.std.proofs.lemmas.List.Elements.{All-cons, All-nil}
use Rattle.std.specs.Cmp.{eq_by_cmp_equiv}
use Rattle.std.specs.Cmp.Lexicographic.{nat_list_cmp_total}
use Rattle.std.specs.FinMap.{empty, get, get-insert, insert}
use Rattle.array_text.specs.Limits.{longest_arrays}
use Rattle.moa_reader.specs.Limits.{longest_source}
use Rattle.rv_reader.specs.Limits.{longest_assembly}
use Rattle.psi_edges.specs.Causes.{Rose, raised}
use Rattle.psi_edges.specs.Files.{Files, OnFile}
use Rattle.rv_line.specs.Parts.{Parts}
use Rattle.rv_reader.specs.Refusals.{parts_of}
use Rattle.array_run.specs.Ran.{Ran, ran}
use Rattle.psi_top.specs.Answer.{IsAnswer, IsRead, IsTextDue, IsUnread, outcome_of}
use Rattle.psi_top.specs.Answer.IsUnread.{failed, longer, starved}
use Rattle.psi_top.specs.Command.{Asks, IsCommand, IsMisuse, IsRun}
use Rattle.psi_top.specs.Line.{usage_line}
use Rattle.psi_top.specs.Outcome.{AreFiles, IsDue, IsOutcome, IsRunnable, IsSourceOutcome, Outcome, Reached, after_reading, over_arrays, over_text, ran_outcome, run_outcome}
use Rattle.psi_top.specs.Outcome.IsOutcome.{found, runs}
use Rattle.psi_top.specs.Outcome.IsSourceOutcome.{too_long}
use Rattle.psi_top.specs.Outcome.Outcome.{Refuses}
use Rattle.psi_top.specs.Views.{ShelfView}
use Rattle.psi_top.specs.declared.command.Task.{Task}
use Rattle.psi_top.specs.declared.refusal.Refusal.{Refusal}
use Rattle.psi_top.specs.declared.refusal.Refusal.TheVariants.{Usage, CannotRead, TooLong, Text, Rule, Limit, NotBuilt, Run, Memory}
use Rattle.psi_top.proofs.RunLemmas.{over_long, over_short, over_spelled, ran_not_two, refused_not_two, source_not_two}

-- a refusal is want of memory, or it is not
is_memory : (refusal : Refusal) → (refusal ≡ Memory) ⊎ (refusal ≢ Memory)
is_memory Usage = inr (λ e. cc)
is_memory (CannotRead name) = inr (λ e. cc)
is_memory (TooLong name which most) = inr (λ e. cc)
is_memory (Text name at cause) = inr (λ e. cc)
is_memory (Rule name at rule) = inr (λ e. cc)
is_memory (Limit name at which value) = inr (λ e. cc)
is_memory (NotBuilt name at) = inr (λ e. cc)
is_memory (Run name failure) = inr (λ e. cc)
is_memory Memory = inl refl

-- there are files of each length
long_file : (n : ℕ) → (file : List ℕ) × (n < length file)
long_file n = (replicate (n + 1) 0, omega (arith, length-replicate {A = ℕ} (n + 1) 0))

-- where a shelf tells no files, there are files of which one is as wanted
file_at : (told : Option Files) (name example : List ℕ) (P : List ℕ → Type 0) → P example → OnFile told name P → (files : Files) × AreFiles told files × (file : List ℕ) × (get files name ≡ Some file) × P file
file_at None name example P fits on =
    let none : Files = empty in
    let files : Files = insert none name example in
    let there : get files name ≡ Some example = get-insert nat_list_cmp_total none name example name ∙ ap (λ b. cond b (Some example) (get none name)) ((eq_by_cmp_equiv nat_list_cmp_total).refl name) in
    (files, tt, example, there, fits)
file_at (Some files) name example P fits on = at (get files name) refl on
  where
    at : (found : Option (List ℕ)) → get files name ≡ found → IsSomeAnd found P → (told : Files) × (files ≡ told) × (file : List ℕ) × (get told name ≡ Some file) × P file
    at None is on = elim on [ ]
    at (Some file) is on = (files, refl, file, is, on)

-- what is true of these bytes is true of a file that holds them
on_same : (told : Option Files) (name bytes : List ℕ) (P : List ℕ → Type 0) → OnFile told name (λ file. bytes ≡ file) → P bytes → OnFile told name P
on_same None name bytes P on fits = tt
on_same (Some files) name bytes P on fits = held (get files name) on
  where
    held : (found : Option (List ℕ)) → IsSomeAnd found (λ file. bytes ≡ file) → IsSomeAnd found P
    held None on = elim on [ ]
    held (Some file) on = subst P on fits

some_files : (told : Option Files) → (files : Files) × AreFiles told files
some_files None = (empty, tt)
some_files (Some files) = (files, refl)

-- the usage is due of words that are no command
pub due_usage : (words : List (List ℕ)) (shelf : ShelfView) → IsMisuse words → IsDue words shelf shelf (Refuses 1 usage_line)
due_usage words shelf misuse = let some = some_files shelf.files in IsDue.over_files some.1 some.1 (IsOutcome.usage misuse) (inr (refl, refl)) refl (λ e. omega (arith, e))

-- Of a source.
module _ (words : List (List ℕ)) (old new : ShelfView) (task : Task) (name : List ℕ) (command : IsCommand words task name) where
  -- the file was not read
  pub due_unread_source : (outcome : Outcome) → IsUnread old new name 1 longest_source outcome → IsDue words old new outcome
  due_unread_source outcome (failed rose named) = IsDue.cannot_read (record { before = []; behind = []; asked = Asks.source command; runnable = All-nil _; rose = rose; named = named })
  due_unread_source outcome (longer on given faults) =
      let long = long_file longest_source in
      let file = file_at old.files name long.0 (λ file. longest_source < length file) long.1 on in
      IsDue.over_files file.1 file.1 (found command file.3 (too_long file.4)) (inl given) faults (λ e. omega (arith, e))
  due_unread_source outcome starved = IsDue.no_memory (Asks.source command)

  -- the file was read, and came to this outcome
  pub due_source : (bytes : List ℕ) → IsRead old new name longest_source bytes → (outcome : Outcome) → IsSourceOutcome task name bytes outcome (length bytes) → IsDue words old new outcome
  due_source bytes read outcome is =
      let file = file_at old.files name bytes (λ file. bytes ≡ file) refl read.whole in
      IsDue.over_files file.1 file.1 (found command file.3 (subst (λ source. IsSourceOutcome task name source outcome (length bytes)) file.4 is)) (inl read.given) read.faults (source_not_two task name bytes outcome (length bytes) is)

-- what a run comes to
reached : (words : List (List ℕ)) (files later : Files) (assembly arrays : List ℕ) (outcome : Outcome) (read : ℕ) → IsRun words assembly arrays → run_outcome files later assembly arrays ≡ (outcome, read) → IsOutcome words files later outcome read
reached words files later assembly arrays outcome read asked e = subst (λ (r : Reached). IsOutcome words files later r.0 r.1) e (runs asked)

-- two counts, one after the other
given_both : (before between now first second : ℕ) → between ≡ raised before first → now ≡ raised between second → now ≡ raised before (first + second)
given_both before between now first second e f = omega (arith, e, f)

-- Of a run.
module _ (words : List (List ℕ)) (assembly arrays : List ℕ) (asked : IsRun words assembly arrays) where
  -- the assembly text was not read
  pub due_unread_assembly : (old new : ShelfView) (outcome : Outcome) → IsUnread old new assembly 8 longest_assembly outcome → IsDue words old new outcome
  due_unread_assembly old new outcome (failed rose named) = IsDue.cannot_read (record { before = []; behind = arrays ∷ []; asked = Asks.run asked; runnable = All-nil _; rose = rose; named = named })
  due_unread_assembly old new outcome (longer on given faults) =
      let long = long_file longest_assembly in
      let file = file_at old.files assembly long.0 (λ file. longest_assembly < length file) long.1 on in
      let reaches = over_long file.0 assembly 8 longest_assembly (over_text assembly (over_arrays file.0 assembly arrays)) file.2 file.3 file.4 in
      IsDue.over_files file.1 file.1 (reached words file.0 file.0 assembly arrays _ _ asked reaches) (inl given) faults (λ e. omega (arith, e))
  due_unread_assembly old new outcome starved = IsDue.no_memory (Asks.run asked)

  -- it was read, and is refused
  pub due_refused : (old new : ShelfView) (text : List ℕ) (outcome : Outcome) → IsRead old new assembly longest_assembly text → ((rest : Parts → Reached) → over_text assembly rest text ≡ (outcome, 0)) → IsDue words old new outcome
  due_refused old new text outcome read refused =
      let file = file_at old.files assembly text (λ file. text ≡ file) refl read.whole in
      let there = file.3 ∙ ap Some (sym file.4) in
      let rest = over_arrays file.0 assembly arrays in
      let reaches = over_short file.0 assembly 8 longest_assembly (over_text assembly rest) text there read.short ∙ ap (after_reading (length text)) (refused rest) in
      IsDue.over_files file.1 file.1 (reached words file.0 file.0 assembly arrays outcome (length text + 0) asked reaches) (inl (given_both _ _ _ (length text) 0 read.given (omega arith))) read.faults (refused_not_two assembly text outcome refused)

  pub due_refusal : (old new : ShelfView) (text : List ℕ) (refusal : Refusal) → IsRead old new assembly longest_assembly text → (refusal ≢ Memory → (rest : Parts → Reached) → over_text assembly rest text ≡ (outcome_of refusal, 0)) → IsDue words old new (outcome_of refusal)
  due_refusal old new text refusal read refused = elim (is_memory refusal) [
    | inl e ↦ subst (λ (r : Refusal). IsDue words old new (outcome_of r)) (sym e) (IsDue.no_memory (Asks.run asked))
    | inr other ↦ due_refused old new text (outcome_of refusal) read (refused other)
  ]

  -- Of the arrays, where the assembly text was read and can be run.
  module _ (old between new : ShelfView) (text : List ℕ) (read : IsRead old between assembly longest_assembly text) (runnable : IsRunnable text) where
    -- the arrays were not read
    pub due_unread_arrays : (outcome : Outcome) → IsUnread between new arrays 9 longest_arrays outcome → IsDue words old new outcome
    due_unread_arrays outcome (failed rose named) =
        let can : OnFile old.files assembly IsRunnable = on_same old.files assembly text IsRunnable read.whole runnable in
        IsDue.cannot_read (record {
          before = assembly ∷ [];
          behind = [];
          asked = Asks.run asked;
          runnable = All-cons (λ file. OnFile old.files file IsRunnable) assembly [] can (All-nil _);
          rose = subst (λ before. Rose before new.faults) read.faults rose;
          named = named;
        })
    due_unread_arrays outcome (longer on given faults) =
        let file = file_at old.files assembly text (λ file. text ≡ file) refl read.whole in
        let there = file.3 ∙ ap Some (sym file.4) in
        let long = long_file longest_arrays in
        let second = file_at old.files arrays long.0 (λ file. longest_arrays < length file) long.1 (subst (λ told. OnFile told arrays (λ file. longest_arrays < length file)) read.files on) in
        let rest = over_arrays second.0 assembly arrays in
        let reaches = over_short file.0 assembly 8 longest_assembly (over_text assembly rest) text there read.short
        ∙ ap (after_reading (length text)) (over_spelled assembly rest text runnable ∙ over_long second.0 arrays 9 longest_arrays (λ bytes. (ran_outcome assembly arrays (ran (parts_of text) bytes), 0)) second.2 second.3 second.4) in
        IsDue.over_files file.1 second.1 (reached words file.0 second.0 assembly arrays _ _ asked reaches) (inl (given_both _ _ _ (length text) (longest_arrays + 1) read.given given)) (faults ∙ read.faults) (λ e. omega (arith, e))
    due_unread_arrays outcome starved = IsDue.no_memory (Asks.run asked)

    -- the arrays were read, and this became of the run
    pub due_ran : (bytes : List ℕ) → IsRead between new arrays longest_arrays bytes → (came : Ran) → ran (parts_of text) bytes ≡ came → IsDue words old new (ran_outcome assembly arrays came)
    due_ran bytes again came is =
        let file = file_at old.files assembly text (λ file. text ≡ file) refl read.whole in
        let there = file.3 ∙ ap Some (sym file.4) in
        let second = file_at old.files arrays bytes (λ file. bytes ≡ file) refl (subst (λ told. OnFile told arrays (λ file. bytes ≡ file)) read.files again.whole) in
        let behind = second.3 ∙ ap Some (sym second.4) in
        let rest = over_arrays second.0 assembly arrays in
        let reaches = over_short file.0 assembly 8 longest_assembly (over_text assembly rest) text there read.short
        ∙ ap (after_reading (length text)) (over_spelled assembly rest text runnable ∙ over_short second.0 arrays 9 longest_arrays (λ bytes. (ran_outcome assembly arrays (ran (parts_of text) bytes), 0)) bytes behind again.short)
        ∙ ap (λ (r : Ran). (ran_outcome assembly arrays r, length text + (length bytes + 0))) is in
        let given : new.given ≡ raised between.given (length bytes + 0) = omega (arith, again.given) in
        IsDue.over_files file.1 second.1 (reached words file.0 second.0 assembly arrays _ _ asked reaches) (inl (given_both _ _ _ (length text) (length bytes + 0) read.given given)) (again.faults ∙ read.faults) (ran_not_two assembly arrays came)

    -- it is said of a refusal, where a program is that of the text, or it is the text that is due
    pub due_run_refusal : (program : Parts) (bytes : List ℕ) (refusal : Refusal) → program ≡ parts_of text → IsRead between new arrays longest_arrays bytes → (refusal ≢ Memory → ran_outcome assembly arrays (ran program bytes) ≡ outcome_of refusal) → IsDue words old new (outcome_of refusal)
    due_run_refusal program bytes refusal same again refused = elim (is_memory refusal) [
      | inl e ↦ subst (λ (r : Refusal). IsDue words old new (outcome_of r)) (sym e) (IsDue.no_memory (Asks.run asked))
      | inr other ↦ subst (IsDue words old new) (refused other) (due_ran bytes again (ran program bytes) (ap (λ p. ran p bytes) (sym same)))
    ]

    pub due_printed : (program : Parts) (bytes printed : List ℕ) → program ≡ parts_of text → IsRead between new arrays longest_arrays bytes → ran program bytes ≡ Ran.Prints printed → IsTextDue words old new printed
    due_printed program bytes printed same again prints =
        record { outcome = Outcome.Prints printed; due = due_ran bytes again (Ran.Prints printed) (ap (λ p. ran p bytes) (sym same) ∙ prints); is_text = refl; done = refl; no_line = refl }

    -- what the run answers
    pub due_answer : {Z : Type 0} (result : Result (Vec ℕ Z) Refusal) (program : Parts) (bytes : List ℕ) → program ≡ parts_of text → IsRead between new arrays longest_arrays bytes → IfOk result (λ printed. ran program bytes ≡ Ran.Prints printed.items) → IfErr result (λ refusal. refusal ≢ Memory → ran_outcome assembly arrays (ran program bytes) ≡ outcome_of refusal) → IsAnswer words old new result
    due_answer (Ok printed) program bytes same again prints refused = due_printed program bytes printed.items same again prints
    due_answer (Err refusal) program bytes same again prints refused = due_run_refusal program bytes refusal same again refused
