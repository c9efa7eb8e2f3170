-- What is put of an answer, and what follows of it and of what was due.
use Rattle.std.proofs.Common.{◌≡◌, ℕ, ◌⊎◌, inl, inr, List, [], Option, Some, None, append-nil, refl, sym, ap, subst, ◌∙◌, arith}
use Rattle.std.specs.Prelude.{◌≢◌, Contains, IsSomeAnd, Result, Ok, Err, Vec}
use Rattle.std.specs.FinMap.{get}
use Rattle.psi_edges.specs.Causes.{Rose}
use Rattle.psi_edges.specs.Files.{Files, OnFile}
use Rattle.rv_line.specs.Spells.{Spells}
use Rattle.rv_reader.specs.Refusals.{parts_of, refusal}
use Rattle.psi_edges.specs.Held.{Appends}
use Rattle.shape_check.specs.Rules.{Failure}
use Rattle.psi_top.specs.Answer.{IsAnswer, IsPublished, IsSaid, failed_run, outcome_of}
use Rattle.psi_top.specs.Command.{Asks, IsMisuse}
use Rattle.psi_top.specs.Line.{cannot_read_line, cannot_write_line}
use Rattle.psi_top.specs.Made.{IsDone, IsMade, IsRunOf}
use Rattle.psi_top.specs.Made.IsDone.{of_run, of_source}
use Rattle.psi_top.specs.Outcome.{AreFiles, IsDue, IsOutcome, IsSourceOutcome, IsUnreadable, IsTextOf, Outcome, line_of, status_of}
use Rattle.psi_top.specs.Outcome.IsDue.{over_files, cannot_read, no_memory}
use Rattle.psi_top.specs.Outcome.IsOutcome.{usage, missing, found, runs}
use Rattle.psi_top.specs.Outcome.IsSourceOutcome.{too_long, refused, not_built, fails, made}
use Rattle.psi_top.specs.Outcome.Outcome.{Refuses, Makes, Prints}
use Rattle.psi_top.specs.Put.{IsCut, IsLinePut, IsPut, IsWhole}
use Rattle.psi_top.specs.Put.IsPut.{whole, out_failed, err_failed}
use Rattle.psi_top.specs.Views.{ShelfView, SinkView}
use Rattle.psi_top.specs.declared.command.Task.{Task}
use Rattle.psi_top.specs.declared.refusal.Refusal.{Refusal}
use Rattle.psi_top.specs.declared.refusal.Refusal.TheVariants.{Usage, CannotRead, TooLong, Text, Rule, Limit, NotBuilt, Run, Memory}
use Rattle.psi_top.specs.declared.run_failure.RunFailure.{RunFailure}
use Rattle.psi_top.specs.declared.run_failure.RunFailure.TheVariants.{Assembly, Block, Data, Access, OffText, Trap, Budget}
use Rattle.psi_top.proofs.RunLemmas.{IsPrinted, printed_run, run_status, statuses}

-- no bytes more are the same bytes
append_nothing : (before now : Option (List ℕ)) → Appends before now [] → now ≡ before
append_nothing None now h = h
append_nothing (Some held) now h = h ∙ ap Some (append-nil held)

-- no bytes are no bytes more
nothing_appended : (held : Option (List ℕ)) → Appends held held []
nothing_appended None = refl
nothing_appended (Some held) = ap Some (sym (append-nil held))

-- a text was put, and no line
pub text_put : (outcome : Outcome) (out_old out_new err : SinkView) (text : List ℕ) (status : ℕ) → IsTextOf outcome text → status_of outcome ≡ status → line_of outcome ≡ [] → Appends out_old.held out_new.held text → out_new.faults ≡ out_old.faults → IsPut outcome out_old out_new err err status
text_put outcome out_old out_new err text status is_text e none held faults =
    let line : IsWhole (line_of outcome) err err = subst (λ line. IsWhole line err err) (sym none) (record { held = nothing_appended err.held; faults = refl }) in
    subst (λ s. IsPut outcome out_old out_new err err s) e (whole is_text (record { held = held; faults = faults }) line)

-- a text was cut, and the line put that says so
pub text_cut : (outcome : Outcome) (out_old out_new err_old err_new : SinkView) (text : List ℕ) (status : ℕ) → IsTextOf outcome text → line_of outcome ≡ [] → IsCut text out_old out_new → IsLinePut 3 cannot_write_line err_old err_new status → IsPut outcome out_old out_new err_old err_new status
text_cut outcome out_old out_new err_old err_new text status is_text none cut (inl line) =
    subst (λ s. IsPut outcome out_old out_new err_old err_new s) (sym line.0) (out_failed none is_text cut (inl line.1))
text_cut outcome out_old out_new err_old err_new text status is_text none cut (inr line) =
    subst (λ s. IsPut outcome out_old out_new err_old err_new s) (sym line.0) (out_failed none is_text cut (inr line.1))

-- a line was put, and no text
line_put : (outcome : Outcome) (out err_old err_new : SinkView) (status : ℕ) → IsTextOf outcome [] → IsLinePut (status_of outcome) (line_of outcome) err_old err_new status → IsPut outcome out out err_old err_new status
line_put outcome out err_old err_new status is_text (inl line) =
    subst (λ s. IsPut outcome out out err_old err_new s) (sym line.0) (whole is_text (record { held = nothing_appended out.held; faults = refl }) line.1)
line_put outcome out err_old err_new status is_text (inr line) =
    subst (λ s. IsPut outcome out out err_old err_new s) (sym line.0) (err_failed refl line.1)

-- a refusal has no text
failure_text : (name : List ℕ) (failure : RunFailure) → IsTextOf (failed_run name failure) []
failure_text name (Assembly line cause) = refl
failure_text name (Block words) = refl
failure_text name (Data line cause) = refl
failure_text name (Access line address) = refl
failure_text name (OffText address) = refl
failure_text name (Trap line) = refl
failure_text name (Budget steps) = refl

refusal_text : (refusal : Refusal) → IsTextOf (outcome_of refusal) []
refusal_text Usage = refl
refusal_text (CannotRead name) = refl
refusal_text (TooLong name which most) = refl
refusal_text (Text name at cause) = refl
refusal_text (Rule name at rule) = refl
refusal_text (Limit name at which value) = refl
refusal_text (NotBuilt name at) = refl
refusal_text (Run name failure) = failure_text name.now failure
refusal_text Memory = refl

said_text : (refusal : Refusal) (said : Outcome) → IsSaid (outcome_of refusal) said → IsTextOf said []
said_text refusal said (inl same) = subst (λ outcome. IsTextOf outcome []) (sym same) (refusal_text refusal)
said_text refusal said (inr memory) = subst (λ outcome. IsTextOf outcome []) (sym memory.1) refl

-- a refusal was put
pub refusal_put : (refusal : Refusal) (said : Outcome) (out err_old err_new : SinkView) (status : ℕ) → IsSaid (outcome_of refusal) said → IsLinePut (status_of said) (line_of said) err_old err_new status → IsPut said out out err_old err_new status
refusal_put refusal said out err_old err_new status is put = line_put said out err_old err_new status (said_text refusal said is) put

-- only the refusal of wrong words has status 1
failure_status : (name : List ℕ) (failure : RunFailure) → status_of (failed_run name failure) ≢ 1
failure_status name (Assembly line cause) = λ e. omega arith
failure_status name (Block words) = λ e. omega arith
failure_status name (Data line cause) = λ e. omega arith
failure_status name (Access line address) = λ e. omega arith
failure_status name (OffText address) = λ e. omega arith
failure_status name (Trap line) = λ e. omega arith
failure_status name (Budget steps) = λ e. omega arith

pub not_usage : (refusal : Refusal) → refusal ≢ Usage → status_of (outcome_of refusal) ≢ 1
not_usage Usage other = absurd (other refl)
not_usage (CannotRead name) other = λ e. omega arith
not_usage (TooLong name which most) other = λ e. omega arith
not_usage (Text name at cause) other = λ e. omega arith
not_usage (Rule name at rule) other = λ e. omega arith
not_usage (Limit name at which value) other = λ e. omega arith
not_usage (NotBuilt name at) other = λ e. omega arith
not_usage (Run name failure) other = failure_status name.now failure
not_usage Memory other = λ e. omega arith

source_status : (task : Task) (name source : List ℕ) (outcome : Outcome) (read : ℕ) → IsSourceOutcome task name source outcome read → Contains statuses (status_of outcome)
source_status task name source outcome read (too_long a) = (6, omega arith, refl)
source_status task name source outcome read (refused a r) = (4, omega arith, refl)
source_status task name source outcome read (not_built a t r) = (11, omega arith, refl)
source_status task name source outcome read (fails {failure = Failure.Rule place rule} a other r v) = (5, omega arith, refl)
source_status task name source outcome read (fails {failure = Failure.Limit place which value} a other r v) = (6, omega arith, refl)
source_status task name source outcome read (made a r can) = (0, omega arith, refl)

outcome_status : (words : List (List ℕ)) (files later : Files) (outcome : Outcome) (read : ℕ) → IsOutcome words files later outcome read → Contains statuses (status_of outcome)
outcome_status words files later outcome read (usage m) = (1, omega arith, refl)
outcome_status words files later outcome read (missing a at) = (2, omega arith, refl)
outcome_status words files later outcome read (found a at r) = source_status _ _ _ outcome read r
outcome_status words files later outcome read (runs {assembly = assembly} {arrays = arrays} a) = run_status files later assembly arrays

due_status : (words : List (List ℕ)) (old new : ShelfView) (outcome : Outcome) → IsDue words old new outcome → Contains statuses (status_of outcome)
due_status words old new outcome (over_files told again o given faults other) = outcome_status words _ _ outcome _ o
due_status words old new outcome (cannot_read unread) = (2, omega arith, refl)
due_status words old new outcome (no_memory a) = (10, omega arith, refl)

-- words that are no command ask for nothing
pub nothing_asked : (words names : List (List ℕ)) → IsMisuse words → Asks words names → ⊥
nothing_asked words names m (Asks.source a) = m.no_source _ _ a
nothing_asked words names m (Asks.run a) = m.no_run _ _ a

-- of words that are no command the outcome is one
misuse_outcome : (words : List (List ℕ)) (files later : Files) (outcome : Outcome) (read : ℕ) → IsMisuse words → IsOutcome words files later outcome read → (status_of outcome ≡ 1) × (line_of outcome ≢ [])
misuse_outcome words files later outcome read m (usage n) = (refl, λ e. cc)
misuse_outcome words files later outcome read m (missing a at) = absurd (m.no_source _ _ a)
misuse_outcome words files later outcome read m (found a at r) = absurd (m.no_source _ _ a)
misuse_outcome words files later outcome read m (runs a) = absurd (m.no_run _ _ a)

misuse_due : (words : List (List ℕ)) (old new : ShelfView) (outcome : Outcome) → IsMisuse words → IsDue words old new outcome → (status_of outcome ≡ 1) × (line_of outcome ≢ [])
misuse_due words old new outcome m (over_files told again o given faults other) = misuse_outcome words _ _ outcome _ m o
misuse_due words old new outcome m (cannot_read unread) = absurd (nothing_asked words _ m unread.asked)
misuse_due words old new outcome m (no_memory a) = absurd (nothing_asked words _ m a)

-- a text of status 0 is what the task makes of the source
source_text : (task : Task) (name source : List ℕ) (outcome : Outcome) (read : ℕ) (text : List ℕ) → IsSourceOutcome task name source outcome read → status_of outcome ≡ 0 → IsTextOf outcome text → IsMade task source text × (line_of outcome ≡ [])
source_text task name source outcome read text (too_long a) e t = absurd (omega arith)
source_text task name source outcome read text (refused a r) e t = absurd (omega arith)
source_text task name source outcome read text (not_built a is r) e t = absurd (omega arith)
source_text task name source outcome read text (fails {failure = Failure.Rule place rule} a other r v) e t = absurd (omega arith)
source_text task name source outcome read text (fails {failure = Failure.Limit place which value} a other r v) e t = absurd (omega arith)
source_text task name source outcome read text (made {tree = tree} a r can) e t = (record { tree = tree; read = r; can = can; made = t }, refl)

-- what is true of two files, of the one as they are first and of the other as they are later, where a shelf tells them
told_files : (told : Option Files) (files later : Files) (one other : List ℕ) (P : List ℕ → List ℕ → Type 0) (first second : List ℕ) → AreFiles told files → AreFiles told later → get files one ≡ Some first → get later other ≡ Some second → P first second → OnFile told one (λ text. OnFile told other (λ file. P text file))
told_files None files later one other P first second are again at there fits = tt
told_files (Some told) files later one other P first second are again at there fits =
    let here : get told one ≡ Some first = ap (λ f. get f one) are ∙ at in
    let behind : get told other ≡ Some second = ap (λ f. get f other) again ∙ there in
    subst (λ found. IsSomeAnd found (λ text. IsSomeAnd (get told other) (λ file. P text file))) (sym here) (subst (λ found. IsSomeAnd found (λ file. P first file)) (sym behind) fits)

-- What follows of an outcome of status 0, where a text that is not refused spells its parts.
module _ (spelled : (text : List ℕ) → refusal text ≡ None → Spells text (parts_of text)) where
  -- an outcome of status 0 is a text for what the words ask for
  text_outcome : (words : List (List ℕ)) (told : Option Files) (files later : Files) (outcome : Outcome) (read : ℕ) (text : List ℕ) → AreFiles told files → AreFiles told later → IsOutcome words files later outcome read → status_of outcome ≡ 0 → IsTextOf outcome text → IsDone words told text × (line_of outcome ≡ [])
  text_outcome words told files later outcome read text are again (usage n) e t = absurd (omega arith)
  text_outcome words told files later outcome read text are again (missing a at) e t = absurd (omega arith)
  text_outcome words None files later outcome read text are again (found {task = task} {name = name} a at r) e t = (of_source a tt, (source_text _ _ _ outcome read text r e t).1)
  text_outcome words (Some told) files later outcome read text are again (found {task = task} {name = name} a at r) e t =
      let there : get told name ≡ Some _ = ap (λ f. get f name) are ∙ at in
      let is = source_text _ _ _ outcome read text r e t in
      (of_source a (subst (λ file. IsSomeAnd file (λ source. IsMade task source text)) (sym there) is.0), is.1)
  text_outcome words told files later outcome read text are again (runs {assembly = assembly} {arrays = arrays} a) e t =
      let is : IsPrinted files later assembly arrays text = (printed_run files later assembly arrays text e t).0 in
      let made : IsRunOf is.assembly_text is.array_file text = record { program = parts_of is.assembly_text; spelled = spelled is.assembly_text is.runnable.spelled; prints = is.prints } in
      (of_run a (told_files told files later assembly arrays (λ program file. IsRunOf program file text) is.assembly_text is.array_file are again is.there is.behind made), (printed_run files later assembly arrays text e t).1)

  text_due : (words : List (List ℕ)) (old new : ShelfView) (outcome : Outcome) (text : List ℕ) → IsDue words old new outcome → status_of outcome ≡ 0 → IsTextOf outcome text → IsDone words old.files text × (line_of outcome ≡ [])
  text_due words old new outcome text (over_files told again o given faults other) e t = text_outcome words old.files _ _ outcome _ text told again o e t
  text_due words old new outcome text (cannot_read unread) e t = absurd (omega arith)
  text_due words old new outcome text (no_memory a) e t = absurd (omega arith)

-- the text of an outcome of another status is none
no_text : (outcome : Outcome) (text : List ℕ) → status_of outcome ≢ 0 → IsTextOf outcome text → text ≡ []
no_text (Refuses status line) text n t = t
no_text (Makes task tree) text n t = absurd (n refl)
no_text (Prints printed) text n t = absurd (n refl)

-- something was asked for where another outcome than that of wrong words is due
asked_outcome : (words : List (List ℕ)) (files later : Files) (outcome : Outcome) (read : ℕ) → IsOutcome words files later outcome read → status_of outcome ≢ 1 → (names : List (List ℕ)) × Asks words names
asked_outcome words files later outcome read (usage m) n = absurd (n refl)
asked_outcome words files later outcome read (missing a at) n = (_, Asks.source a)
asked_outcome words files later outcome read (found a at r) n = (_, Asks.source a)
asked_outcome words files later outcome read (runs a) n = (_, Asks.run a)

asked_due : (words : List (List ℕ)) (old new : ShelfView) (outcome : Outcome) → IsDue words old new outcome → status_of outcome ≢ 1 → (names : List (List ℕ)) × Asks words names
asked_due words old new outcome (over_files told again o given faults other) n = asked_outcome words _ _ outcome _ o n
asked_due words old new outcome (cannot_read unread) n = (_, unread.asked)
asked_due words old new outcome (no_memory a) n = (_, a)

-- what is said in place of what is due is due
said_due : (words : List (List ℕ)) (old new : ShelfView) (outcome said : Outcome) → IsDue words old new outcome → IsSaid outcome said → IsDue words old new said
said_due words old new outcome said due (inl same) = subst (λ o. IsDue words old new o) (sym same) due
said_due words old new outcome said due (inr memory) = subst (λ o. IsDue words old new o) (sym memory.1) (no_memory (asked_due words old new outcome due memory.0).1)

-- what was answered is due, and was put
pub answered : {Z : Type 0} (answer : Result (Vec ℕ Z) Refusal) (words : List (List ℕ)) (old new : ShelfView) (out_old out_new err_old err_new : SinkView) (status : ℕ) → IsAnswer words old new answer → IsPublished answer out_old out_new err_old err_new status → (outcome : Outcome) × IsDue words old new outcome × IsPut outcome out_old out_new err_old err_new status
answered (Ok text) words old new out_old out_new err_old err_new status due put = (due.outcome, due.due, put due.outcome due.is_text due.done due.no_line)
answered (Err refusal) words old new out_old out_new err_old err_new status due put = (put.0, said_due words old new (outcome_of refusal) put.0 due put.1, put.2)

-- What follows of the status from what is due and was put.
module _ (words : List (List ℕ)) (old new : ShelfView) (out_old out_new err_old err_new : SinkView) where
  -- where no put failed, all was put
  pub put_whole : (outcome : Outcome) (status : ℕ) → IsPut outcome out_old out_new err_old err_new status → status ≢ 3 → (text : List ℕ) × IsTextOf outcome text × IsWhole text out_old out_new × IsWhole (line_of outcome) err_old err_new × (status ≡ status_of outcome)
  put_whole outcome status (whole {text = text} t out err) n = (text, t, out, err, refl)
  put_whole outcome status (out_failed l t out err) n = absurd (n refl)
  put_whole outcome status (err_failed out err) n = absurd (n refl)

  module _ (status : ℕ) (done : (outcome : Outcome) × IsDue words old new outcome × IsPut outcome out_old out_new err_old err_new status) where
    pub text_of_zero : ((text : List ℕ) → refusal text ≡ None → Spells text (parts_of text)) → status ≡ 0 → (text : List ℕ) × IsDone words old.files text × Appends out_old.held out_new.held text × (err_new.held ≡ err_old.held)
    text_of_zero spelled e =
        let put = put_whole done.0 status done.2 (λ three. omega arith) in
        let text = text_due spelled words old new done.0 put.0 done.1 (sym put.4 ∙ e) put.1 in
        let line : Appends err_old.held err_new.held [] = subst (λ line. Appends err_old.held err_new.held line) text.1 put.3.held in
        (put.0, text.0, put.2.held, append_nothing _ _ line)

    pub out_unchanged : status ≢ 0 → status ≢ 3 → out_new.held ≡ out_old.held
    out_unchanged zero three =
        let put = put_whole done.0 status done.2 three in
        let none = no_text done.0 put.0 (λ e. zero (put.4 ∙ e)) put.1 in
        append_nothing _ _ (subst (λ text. Appends out_old.held out_new.held text) none put.2.held)

    pub puts_same : status ≢ 3 → (out_new.faults ≡ out_old.faults) × (err_new.faults ≡ err_old.faults)
    puts_same three = let put = put_whole done.0 status done.2 three in (put.2.faults, put.3.faults)

  -- a status is that of the outcome, or a put failed
  pub put_status : (outcome : Outcome) (status : ℕ) → IsPut outcome out_old out_new err_old err_new status → (status ≡ status_of outcome) ⊎ ((status ≡ 3) × (Rose out_old.faults out_new.faults × (line_of outcome ≡ []) ⊎ Rose err_old.faults err_new.faults))
  put_status outcome status (whole t out err) = inl refl
  put_status outcome status (out_failed l t out err) = inr (refl, inl (out.rose, l))
  put_status outcome status (err_failed out err) = inr (refl, inr err.rose)

  pub status_among : (outcome : Outcome) (status : ℕ) → IsDue words old new outcome → IsPut outcome out_old out_new err_old err_new status → Contains statuses status
  status_among outcome status due put = elim (put_status outcome status put) [
    | inl e ↦ subst (λ s. Contains statuses s) (sym e) (due_status words old new outcome due)
    | inr e ↦ (3, omega arith, sym e.0)
  ]

  pub misuse_status : (outcome : Outcome) (status : ℕ) → IsDue words old new outcome → IsPut outcome out_old out_new err_old err_new status → IsMisuse words → (status ≡ 1) ⊎ ((status ≡ 3) × Rose err_old.faults err_new.faults)
  misuse_status outcome status due put m =
      let wrong = misuse_due words old new outcome m due in
      elim (put_status outcome status put) [
        | inl e ↦ inl (e ∙ wrong.0)
        | inr (e, inl out) ↦ absurd (wrong.1 out.1)
        | inr (e, inr err) ↦ inr (e, err)
      ]

  -- the status that is due is that of the outcome over the files
  due_complete : (one_outcome : (words : List (List ℕ)) (files later : Files) (one other : Outcome) (read other_read : ℕ) → IsOutcome words files later one read → IsOutcome words files later other other_read → (one ≡ other) × (read ≡ other_read)) (due outcome : Outcome) (read : ℕ) → IsDue words old new due → IsSomeAnd old.files (λ files. IsOutcome words files files outcome read) → ¬ Rose old.faults new.faults ⊎ (status_of outcome ≡ 2) → (status_of due ≡ status_of outcome) ⊎ (status_of due ≡ 10)
  due_complete one_outcome due outcome read (over_files told again o given faults other) over calm = inl (same_outcome old.files _ _ told again o over)
    where
      same_outcome : (told : Option Files) (files later : Files) {n : ℕ} → AreFiles told files → AreFiles told later → IsOutcome words files later due n → IsSomeAnd told (λ files. IsOutcome words files files outcome read) → status_of due ≡ status_of outcome
      same_outcome None files later are again o over = elim over [ ]
      same_outcome (Some told) files later are again o over =
          let first : IsOutcome words files told outcome read = subst (λ f. IsOutcome words f told outcome read) are over in
          ap status_of (one_outcome words files later due outcome _ read o (subst (λ f. IsOutcome words files f outcome read) again first)).0
  due_complete one_outcome due outcome read (cannot_read unread) over (inl calm) = absurd (calm unread.rose)
  due_complete one_outcome due outcome read (cannot_read unread) over (inr two) = inl (sym two)
  due_complete one_outcome due outcome read (no_memory a) over calm = inr refl

  pub status_complete : (one_outcome : (words : List (List ℕ)) (files later : Files) (one other : Outcome) (read other_read : ℕ) → IsOutcome words files later one read → IsOutcome words files later other other_read → (one ≡ other) × (read ≡ other_read)) (due outcome : Outcome) (read status : ℕ) → IsDue words old new due → IsPut due out_old out_new err_old err_new status → IsSomeAnd old.files (λ files. IsOutcome words files files outcome read) → ¬ Rose old.faults new.faults ⊎ (status_of outcome ≡ 2) → ¬ Rose out_old.faults out_new.faults → ¬ Rose err_old.faults err_new.faults → (status ≡ status_of outcome) ⊎ (status ≡ 10)
  status_complete one_outcome due outcome read status is put over calm out err = elim (put_status due status put) [
    | inl e ↦ elim (due_complete one_outcome due outcome read is over calm) [ inl same ↦ inl (e ∙ same) | inr ten ↦ inr (e ∙ ten) ]
    | inr (e, inl rose) ↦ absurd (out rose.0)
    | inr (e, inr rose) ↦ absurd (err rose)
  ]

  -- where a file cannot be read, a read of it failed, and the line that says so was put
  pub two_unreadable : (outcome : Outcome) (status : ℕ) → IsDue words old new outcome → IsPut outcome out_old out_new err_old err_new status → status ≡ 2 → (name : List ℕ) × IsUnreadable words old new name × Appends err_old.held err_new.held (cannot_read_line name)
  two_unreadable outcome status due put two =
      let all = put_whole outcome status put (λ three. omega (arith, two, three)) in
      due_two outcome due (sym all.4 ∙ two) all.3.held
    where
      due_two : (outcome : Outcome) → IsDue words old new outcome → status_of outcome ≡ 2 → Appends err_old.held err_new.held (line_of outcome) → (name : List ℕ) × IsUnreadable words old new name × Appends err_old.held err_new.held (cannot_read_line name)
      due_two outcome (over_files told again o given faults other) two line = absurd (other two)
      due_two outcome (cannot_read {name = name} unread) two line = (name, unread, line)
      due_two outcome (no_memory a) two line = absurd (omega arith)

  pub reads_same : (outcome : Outcome) (status : ℕ) → IsDue words old new outcome → IsPut outcome out_old out_new err_old err_new status → status ≢ 2 → status ≢ 3 → status ≢ 10 → new.faults ≡ old.faults
  reads_same outcome status due put two three ten =
      let e = (put_whole outcome status put three).4 in
      due_calm outcome due (λ is. two (e ∙ is)) (λ is. ten (e ∙ is))
    where
      due_calm : (outcome : Outcome) → IsDue words old new outcome → status_of outcome ≢ 2 → status_of outcome ≢ 10 → new.faults ≡ old.faults
      due_calm outcome (over_files told again o given faults other) two ten = faults
      due_calm outcome (cannot_read unread) two ten = absurd (two refl)
      due_calm outcome (no_memory a) two ten = absurd (ten refl)
