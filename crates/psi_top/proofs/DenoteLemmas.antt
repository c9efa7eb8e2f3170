-- What a run prints of the text that a source is compiled to.
use Rattle.std.proofs.Common.{◌≡◌, ℕ, ◌^◌, ◌≤◌, inl, inr, List, length, Option, Some, None, refl, sym, ap, subst, ◌∙◌, arith}
use Rattle.std.specs.Prelude.{◌≢◌, ℤ, IsSomeAnd}
use Rattle.std.specs.FinMap.{get}
use Rattle.shapes_core.specs.Limits.{most_items, most_words}
use Rattle.moa_tree.specs.Expr.{Tree}
use Rattle.shape_check.specs.Layout.{areas}
use Rattle.psi_edges.specs.Files.{Files, OnFile, TellsFile}
use Rattle.psi_edges.specs.Held.{Appends}
use Rattle.shapes_core.specs.declared.area.Area.{Area}
use Rattle.rv_line.specs.Parts.{Parts, block_words}
use Rattle.rv_line.specs.Spells.{Spells}
use Rattle.rv_steps.specs.GoodText.{IsGood}
use Rattle.rv_reader.specs.Refusals.{parts_of, refusal}
use Rattle.array_text.specs.Outcome as file
use Rattle.array_run.specs.Ran.{Ran, printed_all, ran, ran_after, ran_on}
use Rattle.array_run.specs.Starts.{inputs, outputs}
use Rattle.psi_compile.specs.Compiled.{IsCompiled}
use Rattle.psi_compile.specs.Demands.{denoted}
use Rattle.psi_top.specs.Answer.{IsFaithful}
use Rattle.psi_top.specs.Command.{IsRun}
use Rattle.psi_top.specs.Outcome.{AreFiles, IsDue, IsOutcome, IsRunnable, IsTextOf, Outcome, ran_outcome, run_outcome, status_of}
use Rattle.psi_top.specs.Outcome.IsDue.{over_files, cannot_read, no_memory}
use Rattle.psi_top.specs.Outcome.IsOutcome.{usage, missing, found, runs}
use Rattle.psi_top.specs.Outcome.Outcome.{Refuses, Prints}
use Rattle.psi_top.specs.Put.{IsPut}
use Rattle.psi_top.specs.Views.{ShelfView, SinkView}
use Rattle.psi_top.proofs.AnswerLemmas.{put_status, put_whole}
use Rattle.psi_top.proofs.OutcomeLemmas.{not_both, same_run}
use Rattle.psi_top.proofs.RunLemmas.{run_cases}

-- what a source is compiled to runs as the source denotes
pub faithful : ((text : List ℕ) (parts : Parts) → Spells text parts → refusal text ≡ None)
    → ((text : List ℕ) → refusal text ≡ None → Spells text (parts_of text))
    → ((text bytes : List ℕ) (areas : List Area) (demand : List (List ℤ) → List (List ℤ)) (program : Parts) (arrays : List (List ℤ)) → IsGood text areas demand → Spells text program → length program.lines ≤ most_items → block_words program.header program.areas ≤ most_words → file.outcome_of (inputs program.areas) bytes ≡ file.Outcome.Accepted arrays → ran program bytes ≡ Ran.Prints (printed_all (outputs program.areas) (demand arrays)))
    → (tree : Tree) (text : List ℕ) → IsCompiled tree text → IsFaithful tree text
faithful read spelled good tree text compiled =
    let is : refusal text ≡ None = read text compiled.good.program compiled.good.spelled in
    let spells : Spells text (parts_of text) = spelled text is in
    let one : parts_of text ≡ compiled.good.program = compiled.good.only (parts_of text) spells in
    let layout : (parts_of text).areas ≡ areas tree.statements = ap (λ (p : Parts). p.areas) one ∙ compiled.good.layout in
    let few : length (parts_of text).lines ≤ most_items = omega (arith, ap (λ (p : Parts). length p.lines) one, compiled.bounded.lines) in
    record {
      unrefused = is;
      layout = layout;
      prints = λ bytes lists room accepted.
          good text bytes (areas tree.statements) (denoted tree) (parts_of text) lists compiled.good spells few (omega (arith, room)) (ap (λ a. file.outcome_of (inputs a) bytes) layout ∙ accepted)
          ∙ ap (λ a. Ran.Prints (printed_all (outputs a) (denoted tree lists))) layout;
    }

-- the file is accepted with some arrays, and this is the printed form of what the program denotes of them
pub record Denotes (tree : Tree) (printed bytes : List ℕ) : Type 0 where
  pub lists : List (List ℤ)
  pub accepted : file.outcome_of (inputs (areas tree.statements)) bytes ≡ file.Outcome.Accepted lists
  pub prints : printed ≡ printed_all (outputs (areas tree.statements)) (denoted tree lists)

-- what is true of an outcome over these files: it does not blame the text, and what it prints is denoted
record IsFair (tree : Tree) (files : Files) (arrays : List ℕ) (outcome : Outcome) : Type 0 where
  spelled : status_of outcome ≢ 8
  ended : status_of outcome ≢ 9
  denotes : (printed : List ℕ) → status_of outcome ≡ 0 → IsTextOf outcome printed → IsSomeAnd (get files arrays) (Denotes tree printed)

-- an outcome of another status is fair
fair : (tree : Tree) (files : Files) (arrays : List ℕ) (outcome : Outcome) → status_of outcome ≢ 8 → status_of outcome ≢ 9 → status_of outcome ≢ 0 → IsFair tree files arrays outcome
fair tree files arrays outcome eight nine zero = record { spelled = eight; ended = nine; denotes = λ printed e t. absurd (zero e) }

module _ (tree : Tree) (text : List ℕ) (faithful : IsFaithful tree text) where
  -- of what became of the file
  ran_fair : (files : Files) (assembly arrays bytes : List ℕ) → get files arrays ≡ Some bytes → IsRunnable text → (came : file.Outcome) → file.outcome_of (inputs (areas tree.statements)) bytes ≡ came → IsFair tree files arrays (ran_outcome assembly arrays (ran_after (parts_of text) came))
  ran_fair files assembly arrays bytes there runnable (file.Outcome.Accepted lists) is =
      let prints = faithful.prints bytes lists runnable.room is in
      let same : ran (parts_of text) bytes ≡ ran_on (parts_of text) lists = ap (ran_after (parts_of text)) (ap (λ a. file.outcome_of (inputs a) bytes) faithful.layout ∙ is) in
      let fine : IsFair tree files arrays (Prints (printed_all (outputs (areas tree.statements)) (denoted tree lists))) = record {
        spelled = λ e. omega (arith, e);
        ended = λ e. omega (arith, e);
        denotes = λ printed e t. subst (λ held. IsSomeAnd held (Denotes tree printed)) (sym there) (record { lists = lists; accepted = is; prints = t });
      } in
      subst (λ (found : Ran). IsFair tree files arrays (ran_outcome assembly arrays found)) (sym prints ∙ same) fine
  ran_fair files assembly arrays bytes there runnable (file.Outcome.Refused line cause) is = fair tree files arrays (Refuses 7 _) (λ e. omega (arith, e)) (λ e. omega (arith, e)) (λ e. omega (arith, e))
  ran_fair files assembly arrays bytes there runnable (file.Outcome.Goes came want) is = fair tree files arrays (Refuses 7 _) (λ e. omega (arith, e)) (λ e. omega (arith, e)) (λ e. omega (arith, e))

  -- of a run of this text
  run_fair : (files later : Files) (assembly arrays : List ℕ) → get files assembly ≡ Some text → IsFair tree later arrays (run_outcome files later assembly arrays).0
  run_fair files later assembly arrays at =
      run_cases (IsFair tree later arrays) files later assembly arrays
      (λ name. fair tree later arrays (Refuses 2 _) (λ e. omega (arith, e)) (λ e. omega (arith, e)) (λ e. omega (arith, e)))
      (λ name which most. fair tree later arrays (Refuses 6 _) (λ e. omega (arith, e)) (λ e. omega (arith, e)) (λ e. omega (arith, e)))
      (λ other place there is. absurd (no_refusal other place there is))
      (λ words. fair tree later arrays (Refuses 6 _) (λ e. omega (arith, e)) (λ e. omega (arith, e)) (λ e. omega (arith, e)))
      (λ other bytes there behind runnable. came other bytes there behind runnable)
    where
      same_text : (other : List ℕ) → get files assembly ≡ Some other → text ≡ other
      same_text other there = let both = sym at ∙ there in cc

      no_refusal : (other : List ℕ) (place : ℕ × ℕ) → get files assembly ≡ Some other → refusal other ≡ Some place → ⊥
      no_refusal other place there is = let both : None ≡ Some place = sym faithful.unrefused ∙ ap refusal (same_text other there) ∙ is in cc

      came : (other bytes : List ℕ) → get files assembly ≡ Some other → get later arrays ≡ Some bytes → IsRunnable other → IsFair tree later arrays (ran_outcome assembly arrays (ran (parts_of other) bytes))
      came other bytes there behind runnable =
          let e : other ≡ text = sym (same_text other there) in
          let same : ran (parts_of text) bytes ≡ ran_after (parts_of text) (file.outcome_of (inputs (areas tree.statements)) bytes) = ap (λ a. ran_after (parts_of text) (file.outcome_of (inputs a) bytes)) faithful.layout in
          subst (λ t. IsFair tree later arrays (ran_outcome assembly arrays (ran (parts_of t) bytes))) (sym e)
          (subst (λ (found : Ran). IsFair tree later arrays (ran_outcome assembly arrays found)) (sym same)
          (ran_fair later assembly arrays bytes behind (subst IsRunnable e runnable) (file.outcome_of (inputs (areas tree.statements)) bytes) refl))

  -- of what is due
  outcome_fair : (words : List (List ℕ)) (files later : Files) (assembly arrays : List ℕ) (outcome : Outcome) (read : ℕ) → IsRun words assembly arrays → get files assembly ≡ Some text → IsOutcome words files later outcome read → IsFair tree later arrays outcome
  outcome_fair words files later assembly arrays outcome read asked at (usage m) = absurd (m.no_run _ _ asked)
  outcome_fair words files later assembly arrays outcome read asked at (missing a there) = absurd (not_both words _ _ _ _ a asked)
  outcome_fair words files later assembly arrays outcome read asked at (found a there r) = absurd (not_both words _ _ _ _ a asked)
  outcome_fair words files later assembly arrays outcome read asked at (runs {assembly = other} {arrays = others} a) =
      let same = same_run words assembly other arrays others asked a in
      subst (λ name. IsFair tree later arrays (run_outcome files later name others).0) same.0
      (subst (λ name. IsFair tree later arrays (run_outcome files later assembly name).0) same.1 (run_fair files later assembly arrays at))

  due_fair : (words : List (List ℕ)) (files : Files) (old new : ShelfView) (assembly arrays : List ℕ) (outcome : Outcome) → IsRun words assembly arrays → old.files ≡ Some files → get files assembly ≡ Some text → IsDue words old new outcome → IsFair tree files arrays outcome
  due_fair words files old new assembly arrays outcome asked tells at (over_files {files = first} {later = later} told again o given faults there) =
      let one : files ≡ first = subst (λ t. AreFiles t first) tells told in
      let other : files ≡ later = subst (λ t. AreFiles t later) tells again in
      subst (λ f. IsFair tree f arrays outcome) (sym other)
      (outcome_fair words first later assembly arrays outcome _ asked (subst (λ f. get f assembly ≡ Some text) one at) o)
  due_fair words files old new assembly arrays outcome asked tells at (cannot_read unread) = fair tree files arrays (Refuses 2 _) (λ e. omega (arith, e)) (λ e. omega (arith, e)) (λ e. omega (arith, e))
  due_fair words files old new assembly arrays outcome asked tells at (no_memory a) = fair tree files arrays (Refuses 10 _) (λ e. omega (arith, e)) (λ e. omega (arith, e)) (λ e. omega (arith, e))

-- a shelf that tells a file tells its files
tells_files : (told : Option Files) (name bytes : List ℕ) → TellsFile told name bytes → (files : Files) × (told ≡ Some files) × (get files name ≡ Some bytes)
tells_files None name bytes tells = elim tells [ ]
tells_files (Some files) name bytes tells = (files, refl, tells)

-- a call of a run of this text answers no status that blames it, and what it puts is denoted
pub denotes : (words : List (List ℕ)) (old new : ShelfView) (out_old out_new err_old err_new : SinkView) (status : ℕ) → (outcome : Outcome) × IsDue words old new outcome × IsPut outcome out_old out_new err_old err_new status → (tree : Tree) (text assembly arrays : List ℕ) → IsFaithful tree text → IsRun words assembly arrays → TellsFile old.files assembly text → (status ≢ 8) × (status ≢ 9) × (status ≡ 0 → OnFile old.files arrays (λ bytes. (lists : List (List ℤ)) × (file.outcome_of (inputs (areas tree.statements)) bytes ≡ file.Outcome.Accepted lists) × Appends out_old.held out_new.held (printed_all (outputs (areas tree.statements)) (denoted tree lists))))
denotes words old new out_old out_new err_old err_new status done tree text assembly arrays faithful asked tells =
    let told = tells_files old.files assembly text tells in
    let is : IsFair tree told.0 arrays done.0 = due_fair tree text faithful words told.0 old new assembly arrays done.0 asked told.1 told.2 done.1 in
    let whole = λ (e : status ≡ 0). put_whole words old new out_old out_new err_old err_new done.0 status done.2 (λ three. omega (arith, e, three)) in
    (blames 8 is.spelled (λ e. omega (arith, e)), blames 9 is.ended (λ e. omega (arith, e)), λ e. put told.0 told.1 (whole e).0 (is.denotes (whole e).0 (sym (whole e).4 ∙ e) (whole e).1) (whole e).2.held)
  where
    blames : (n : ℕ) → status_of done.0 ≢ n → n ≢ 3 → status ≢ n
    blames n other three e = elim (put_status words old new out_old out_new err_old err_new done.0 status done.2) [
      | inl same ↦ other (sym same ∙ e)
      | inr failed ↦ three (sym e ∙ failed.0)
    ]

    put : (files : Files) → old.files ≡ Some files → (printed : List ℕ) → IsSomeAnd (get files arrays) (Denotes tree printed) → Appends out_old.held out_new.held printed → OnFile old.files arrays (λ bytes. (lists : List (List ℤ)) × (file.outcome_of (inputs (areas tree.statements)) bytes ≡ file.Outcome.Accepted lists) × Appends out_old.held out_new.held (printed_all (outputs (areas tree.statements)) (denoted tree lists)))
    put files told printed is held = subst (λ t. OnFile t arrays (λ bytes. (lists : List (List ℤ)) × (file.outcome_of (inputs (areas tree.statements)) bytes ≡ file.Outcome.Accepted lists) × Appends out_old.held out_new.held (printed_all (outputs (areas tree.statements)) (denoted tree lists)))) (sym told) (on_held (get files arrays) is)
      where
        on_held : (found : Option (List ℕ)) → IsSomeAnd found (Denotes tree printed) → IsSomeAnd found (λ bytes. (lists : List (List ℤ)) × (file.outcome_of (inputs (areas tree.statements)) bytes ≡ file.Outcome.Accepted lists) × Appends out_old.held out_new.held (printed_all (outputs (areas tree.statements)) (denoted tree lists)))
        on_held None is = elim is [ ]
        on_held (Some bytes) is = (is.lists, is.accepted, subst (λ p. Appends out_old.held out_new.held p) is.prints held)
