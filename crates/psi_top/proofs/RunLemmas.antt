-- What a run comes to over files.
use Rattle.std.proofs.Common.{◌≡◌, ℕ, ◌+◌, ◌<◌, ◌≤◌, List, [], ◌∷◌, length, Option, Some, None, Bool, true, false, refl, sym, ap, subst, ◌∙◌, arith}
use Rattle.std.proofs.lemmas.Bool.{le-leb, leb-true, lt-leb}
use Rattle.std.specs.FinMap.{get}
use Rattle.std.specs.Prelude.{◌≢◌, Contains, nat_le, if◌then◌else◌}
use Rattle.array_text.specs.Limits.{longest_arrays}
use Rattle.rv_reader.specs.Limits.{longest_assembly}
use Rattle.psi_edges.specs.Files.{Files}
use Rattle.rv_line.specs.Parts.{Parts}
use Rattle.rv_reader.specs.Refusals.{Refusal, parts_of, refusal}
use Rattle.array_run.specs.Ran.{Ran, ran}
use Rattle.psi_top.specs.Line.{assembly_line, block_line, cannot_read_line, greatest_block, longer_line}
use Rattle.psi_top.specs.Outcome.{IsRunnable, IsSourceOutcome, IsTextOf, Outcome, Reached, after_reading, line_of, over_arrays, over_bytes, over_file, over_program, over_text, ran_outcome, run_outcome, status_of, unless_refused, words_of_block}
use Rattle.psi_top.specs.Outcome.Outcome.{Refuses}
use Rattle.psi_top.specs.declared.command.Task.{Task}
use Rattle.shape_check.specs.Rules.{Failure}

-- over a file that is as long as it may be, over a longer one, and over a text that can be run
pub over_short : (files : Files) (name : List ℕ) (which most : ℕ) (rest : List ℕ → Reached) (bytes : List ℕ) → get files name ≡ Some bytes → length bytes ≤ most → over_file files name which most rest ≡ after_reading (length bytes) (rest bytes)
over_short files name which most rest bytes at short =
    ap (over_bytes name which most rest) at
    ∙ ap (λ (b : Bool). if b then after_reading (length bytes) (rest bytes) else (Refuses 6 (longer_line name which most), most + 1)) (le-leb (length bytes) most short)

pub over_long : (files : Files) (name : List ℕ) (which most : ℕ) (rest : List ℕ → Reached) (bytes : List ℕ) → get files name ≡ Some bytes → most < length bytes → over_file files name which most rest ≡ (Refuses 6 (longer_line name which most), most + 1)
over_long files name which most rest bytes at long =
    ap (over_bytes name which most rest) at
    ∙ ap (λ (b : Bool). if b then after_reading (length bytes) (rest bytes) else (Refuses 6 (longer_line name which most), most + 1)) (lt-leb (length bytes) most long)

pub over_spelled : (name : List ℕ) (rest : Parts → Reached) (text : List ℕ) → IsRunnable text → over_text name rest text ≡ rest (parts_of text)
over_spelled name rest text runnable =
    ap (unless_refused name (over_program name rest (parts_of text))) runnable.spelled
    ∙ ap (λ (b : Bool). if b then rest (parts_of text) else (Refuses 6 (block_line name (words_of_block (parts_of text))), 0)) (le-leb (words_of_block (parts_of text)) greatest_block runnable.room)

-- over a text of which the block has too many words
pub over_full : (name : List ℕ) (rest : Parts → Reached) (text : List ℕ) (program : Parts) → refusal text ≡ None → program ≡ parts_of text → greatest_block < words_of_block program → over_text name rest text ≡ (Refuses 6 (block_line name (words_of_block program)), 0)
over_full name rest text program spelled same full =
    ap (unless_refused name (over_program name rest (parts_of text))) spelled
    ∙ ap (over_program name rest) (sym same)
    ∙ ap (λ (b : Bool). if b then rest program else (Refuses 6 (block_line name (words_of_block program)), 0)) (lt-leb (words_of_block program) greatest_block full)

-- What is true of each outcome of a run.
module _ (P : Outcome → Type 0) where
  over_bytes_cases : (name : List ℕ) (which most : ℕ) (rest : List ℕ → Reached) (held : Option (List ℕ)) → P (Refuses 2 (cannot_read_line name)) → P (Refuses 6 (longer_line name which most)) → ((bytes : List ℕ) → held ≡ Some bytes → length bytes ≤ most → P (rest bytes).0) → P (over_bytes name which most rest held).0
  over_bytes_cases name which most rest None two six go = two
  over_bytes_cases name which most rest (Some bytes) two six go = tried (nat_le (length bytes) most) refl
    where
      tried : (short : Bool) → nat_le (length bytes) most ≡ short → P (if short then after_reading (length bytes) (rest bytes) else (Refuses 6 (longer_line name which most), most + 1)).0
      tried true is = go bytes refl (leb-true (length bytes) most is)
      tried false is = six

  over_program_cases : (name : List ℕ) (rest : Parts → Reached) (program : Parts) → P (Refuses 6 (block_line name (words_of_block program))) → (words_of_block program ≤ greatest_block → P (rest program).0) → P (over_program name rest program).0
  over_program_cases name rest program six go = tried (nat_le (words_of_block program) greatest_block) refl
    where
      tried : (room : Bool) → nat_le (words_of_block program) greatest_block ≡ room → P (if room then rest program else (Refuses 6 (block_line name (words_of_block program)), 0)).0
      tried true is = go (leb-true (words_of_block program) greatest_block is)
      tried false is = six

  over_text_cases : (name : List ℕ) (rest : Parts → Reached) (text : List ℕ) → ((at : ℕ × ℕ) → refusal text ≡ Some at → P (Refuses 8 (assembly_line name at.0 at.1))) → P (Refuses 6 (block_line name (words_of_block (parts_of text)))) → (refusal text ≡ None → words_of_block (parts_of text) ≤ greatest_block → P (rest (parts_of text)).0) → P (over_text name rest text).0
  over_text_cases name rest text eight six go = tried (refusal text) refl
    where
      tried : (found : Refusal) → refusal text ≡ found → P (unless_refused name (over_program name rest (parts_of text)) found).0
      tried None is = over_program_cases name rest (parts_of text) six (go is)
      tried (Some at) is = eight at is

  pub run_cases : (files later : Files) (assembly arrays : List ℕ) → ((name : List ℕ) → P (Refuses 2 (cannot_read_line name))) → ((name : List ℕ) (which most : ℕ) → P (Refuses 6 (longer_line name which most))) → ((text : List ℕ) (at : ℕ × ℕ) → get files assembly ≡ Some text → refusal text ≡ Some at → P (Refuses 8 (assembly_line assembly at.0 at.1))) → ((words : ℕ) → P (Refuses 6 (block_line assembly words))) → ((text bytes : List ℕ) → get files assembly ≡ Some text → get later arrays ≡ Some bytes → IsRunnable text → P (ran_outcome assembly arrays (ran (parts_of text) bytes))) → P (run_outcome files later assembly arrays).0
  run_cases files later assembly arrays two long eight block go =
      over_bytes_cases assembly 8 longest_assembly (over_text assembly (over_arrays later assembly arrays)) (get files assembly) (two assembly) (long assembly 8 longest_assembly) (λ text there short.
      over_text_cases assembly (over_arrays later assembly arrays) text (λ at is. eight text at there is) (block (words_of_block (parts_of text))) (λ spelled room.
      over_bytes_cases arrays 9 longest_arrays (λ bytes. (ran_outcome assembly arrays (ran (parts_of text) bytes), 0)) (get later arrays) (two arrays) (long arrays 9 longest_arrays) (λ bytes behind small.
      go text bytes there behind (record { short = short; spelled = spelled; room = room }))))

-- only a file that is not there has status 2: a source that was read has not
pub source_not_two : (task : Task) (name source : List ℕ) (outcome : Outcome) (read : ℕ) → IsSourceOutcome task name source outcome read → status_of outcome ≢ 2
source_not_two task name source outcome read (IsSourceOutcome.too_long a) = λ e. omega (arith, e)
source_not_two task name source outcome read (IsSourceOutcome.refused a r) = λ e. omega (arith, e)
source_not_two task name source outcome read (IsSourceOutcome.not_built a t r) = λ e. omega (arith, e)
source_not_two task name source outcome read (IsSourceOutcome.fails {failure = Failure.Rule place rule} a other r v) = λ e. omega (arith, e)
source_not_two task name source outcome read (IsSourceOutcome.fails {failure = Failure.Limit place which value} a other r v) = λ e. omega (arith, e)
source_not_two task name source outcome read (IsSourceOutcome.made a r can) = λ e. omega (arith, e)

-- nor has an assembly text that was read, whatever the rest would come to
pub refused_not_two : (name text : List ℕ) (outcome : Outcome) → ((rest : Parts → Reached) → over_text name rest text ≡ (outcome, 0)) → status_of outcome ≢ 2
refused_not_two name text outcome refused =
    let done : Parts → Reached = λ program. (Outcome.Prints [], 0) in
    subst (λ (reached : Reached). status_of reached.0 ≢ 2) (refused done)
    (over_text_cases (λ found. status_of found ≢ 2) name done text (λ at is e. omega (arith, e)) (λ e. omega (arith, e)) (λ is room e. omega (arith, e)))

-- nor has a run
pub ran_not_two : (assembly arrays : List ℕ) (found : Ran) → status_of (ran_outcome assembly arrays found) ≢ 2
ran_not_two assembly arrays (Ran.Prints text) = λ e. omega (arith, e)
ran_not_two assembly arrays (Ran.Refused line cause) = λ e. omega (arith, e)
ran_not_two assembly arrays (Ran.Access line address) = λ e. omega (arith, e)
ran_not_two assembly arrays (Ran.OffText address) = λ e. omega (arith, e)
ran_not_two assembly arrays (Ran.Trap line) = λ e. omega (arith, e)
ran_not_two assembly arrays (Ran.Spent steps) = λ e. omega (arith, e)

-- the statuses of calls
abbrev pub statuses : List ℕ
statuses = 0 ∷ 1 ∷ 2 ∷ 3 ∷ 4 ∷ 5 ∷ 6 ∷ 7 ∷ 8 ∷ 9 ∷ 10 ∷ 11 ∷ []

ran_status : (assembly arrays : List ℕ) (found : Ran) → Contains statuses (status_of (ran_outcome assembly arrays found))
ran_status assembly arrays (Ran.Prints text) = (0, omega arith, refl)
ran_status assembly arrays (Ran.Refused line cause) = (7, omega arith, refl)
ran_status assembly arrays (Ran.Access line address) = (9, omega arith, refl)
ran_status assembly arrays (Ran.OffText address) = (9, omega arith, refl)
ran_status assembly arrays (Ran.Trap line) = (9, omega arith, refl)
ran_status assembly arrays (Ran.Spent steps) = (9, omega arith, refl)

pub run_status : (files later : Files) (assembly arrays : List ℕ) → Contains statuses (status_of (run_outcome files later assembly arrays).0)
run_status files later assembly arrays =
    run_cases (λ outcome. Contains statuses (status_of outcome)) files later assembly arrays
    (λ name. (2, omega arith, refl)) (λ name which most. (6, omega arith, refl)) (λ text at there is. (8, omega arith, refl)) (λ words. (6, omega arith, refl))
    (λ text bytes there behind runnable. ran_status assembly arrays (ran (parts_of text) bytes))

-- the text is printed by the run of what two files hold
pub record IsPrinted (files later : Files) (assembly arrays text : List ℕ) : Type 0 where
  pub assembly_text : List ℕ
  pub array_file : List ℕ
  pub there : get files assembly ≡ Some assembly_text
  pub behind : get later arrays ≡ Some array_file
  pub runnable : IsRunnable assembly_text
  pub prints : ran (parts_of assembly_text) array_file ≡ Ran.Prints text

-- a run of status 0 prints its text
pub printed_run : (files later : Files) (assembly arrays text : List ℕ) → status_of (run_outcome files later assembly arrays).0 ≡ 0 → IsTextOf (run_outcome files later assembly arrays).0 text → IsPrinted files later assembly arrays text × (line_of (run_outcome files later assembly arrays).0 ≡ [])
printed_run files later assembly arrays text =
    run_cases (λ outcome. status_of outcome ≡ 0 → IsTextOf outcome text → IsPrinted files later assembly arrays text × (line_of outcome ≡ [])) files later assembly arrays
    (λ name e t. absurd (omega (arith, e))) (λ name which most e t. absurd (omega (arith, e))) (λ program at there is e t. absurd (omega (arith, e))) (λ words e t. absurd (omega (arith, e)))
    (λ program bytes there behind runnable. printed_ran program bytes there behind runnable (ran (parts_of program) bytes) refl)
  where
    printed_ran : (program bytes : List ℕ) → get files assembly ≡ Some program → get later arrays ≡ Some bytes → IsRunnable program → (found : Ran) → ran (parts_of program) bytes ≡ found → status_of (ran_outcome assembly arrays found) ≡ 0 → IsTextOf (ran_outcome assembly arrays found) text → IsPrinted files later assembly arrays text × (line_of (ran_outcome assembly arrays found) ≡ [])
    printed_ran program bytes there behind runnable (Ran.Prints printed) is e t = (record { assembly_text = program; array_file = bytes; there = there; behind = behind; runnable = runnable; prints = is ∙ ap Ran.Prints (sym t) }, refl)
    printed_ran program bytes there behind runnable (Ran.Refused line cause) is e t = absurd (omega (arith, e))
    printed_ran program bytes there behind runnable (Ran.Access line address) is e t = absurd (omega (arith, e))
    printed_ran program bytes there behind runnable (Ran.OffText address) is e t = absurd (omega (arith, e))
    printed_ran program bytes there behind runnable (Ran.Trap line) is e t = absurd (omega (arith, e))
    printed_ran program bytes there behind runnable (Ran.Spent steps) is e t = absurd (omega (arith, e))
