-- Words are one command, and what they come to over a source is one outcome.
use Rattle.std.proofs.Common.{◌≡◌, ℕ, ◌≤◌, Bool, true, false, not, nat_lt, Some, None, List, [], ◌∷◌, ◌++◌, length, reverse, Option, refl, sym, ap, subst, ◌∙◌, arith}
use Rattle.std.specs.Prelude.{◌≢◌, codes, if◌then◌else◌, position, slice_get, slice_index_or, Err, IsOk}
use Rattle.std.specs.List.{AllByRecursion, prefix_len}
use Rattle.std.proofs.lemmas.Bool.Decides.{nat_tests}
use Rattle.std.specs.FinMap.{get}
use Rattle.std.specs.Str.{bytes_eq}
use Rattle.moa_reader.specs.Limits.{longest_source}
use Rattle.text_tokens.specs.declared.token.Position.{Position}
use Rattle.moa_tree.specs.Expr.{Expr, Tree}
use Rattle.moa_tree.specs.Positions.{expression_positions}
use Rattle.moa_tree.specs.Readings.{Reads}
use Rattle.moa_tree.specs.Refusals.{IsRefused}
use Rattle.moa_tree.specs.ShapeOf.{Shapes}
use Rattle.shape_check.specs.Rules.{Failure}
use Rattle.shape_check.specs.Statements.{verdict_of}
use Rattle.psi_compile.specs.Errors.{IsFailing, failed_at}
use Rattle.nest_jobs.specs.Plain.{ArePlain, is_plain}
use Rattle.psi_compile.specs.Built.{IsNotBuilt, expressions}
use Rattle.psi_compile.specs.declared.error.CompileError.{CompileError}
use Rattle.psi_compile.specs.declared.error.CompileError.TheVariants as error
use Rattle.psi_edges.specs.Files.{Files}
use Rattle.psi_top.specs.Command.{IsCommand, IsRun, words_of}
use Rattle.psi_top.specs.Line.{exceeded_line, no_memory_line, not_built_line, rule_line, text_line}
use Rattle.psi_top.specs.Made.{CanMake, IsCauseFor, makes_nests}
use Rattle.psi_top.specs.Outcome.{IsOutcome, IsSourceOutcome, Outcome, Reached, run_outcome}
use Rattle.psi_top.specs.Outcome.IsOutcome.{usage, missing, found, runs}
use Rattle.psi_top.specs.Outcome.IsSourceOutcome.{too_long, refused, not_built, fails, made}
use Rattle.psi_top.specs.Outcome.Outcome.{Refuses, Makes}
use Rattle.psi_top.specs.declared.command.Task.{Task}
use Rattle.psi_top.specs.declared.command.Task.TheVariants.{Check, ShowSource, ShowDnf, ShowOnf, ShowNest, Compile}

-- ---- words

-- the task that the word before the file's name tells
abbrev told : List ℕ → Task
told word =
    if bytes_eq word (codes "check") then Check else if bytes_eq word (codes "source") then ShowSource
    else if bytes_eq word (codes "dnf") then ShowDnf else if bytes_eq word (codes "onf") then ShowOnf
    else if bytes_eq word (codes "nest") then ShowNest else Compile

-- the word of this number from the last
abbrev from_last : List (List ℕ) → ℕ → List ℕ
from_last words number = slice_index_or (reverse words) number []

told_back : (task : Task) (name : List ℕ) → (told (from_last (words_of task ++ name ∷ []) 1) ≡ task) × (from_last (words_of task ++ name ∷ []) 0 ≡ name)
told_back Check name = (refl, refl)
told_back ShowSource name = (refl, refl)
told_back ShowDnf name = (refl, refl)
told_back ShowOnf name = (refl, refl)
told_back ShowNest name = (refl, refl)
told_back Compile name = (refl, refl)

-- words are one command
pub same_command : (words : List (List ℕ)) (task another : Task) (name other : List ℕ) → IsCommand words task name → IsCommand words another other → (task ≡ another) × (name ≡ other)
same_command words task another name other a b =
    let both = sym a.form ∙ b.form in
    let one = told_back task name in
    let two = told_back another other in
    (sym one.0 ∙ ap (λ list. told (from_last list 1)) both ∙ two.0, sym one.1 ∙ ap (λ list. from_last list 0) both ∙ two.1)

-- words are one run
pub same_run : (words : List (List ℕ)) (assembly another arrays others : List ℕ) → IsRun words assembly arrays → IsRun words another others → (assembly ≡ another) × (arrays ≡ others)
same_run words assembly another arrays others a b = let both = sym a.form ∙ b.form in (cc, cc)

-- and no command on a source besides
pub not_both : (words : List (List ℕ)) (task : Task) (name assembly arrays : List ℕ) → IsCommand words task name → IsRun words assembly arrays → ⊥
not_both words Check name assembly arrays a b = let both = sym a.form ∙ b.form in cc
not_both words ShowSource name assembly arrays a b = let both = sym a.form ∙ b.form in cc
not_both words ShowDnf name assembly arrays a b = let both = sym a.form ∙ b.form in cc
not_both words ShowOnf name assembly arrays a b = let both = sym a.form ∙ b.form in cc
not_both words ShowNest name assembly arrays a b = let both = sym a.form ∙ b.form in cc
not_both words Compile name assembly arrays a b = let both = sym a.form ∙ b.form in cc

-- so there is one file that they name
same_found : (words : List (List ℕ)) (files : Files) (task another : Task) (name other : List ℕ) (first again : Option (List ℕ)) → IsCommand words task name → IsCommand words another other → get files name ≡ first → get files other ≡ again → first ≡ again
same_found words files task another name other first again a b at there = sym at ∙ ap (λ n. get files n) (same_command words task another name other a b).1 ∙ there

-- ---- outcomes of a source

-- where each expression is plain, there is no first one that is not
all_through : (exprs : List Expr) → AllByRecursion (λ expr. is_plain expr ≡ true) exprs → prefix_len (λ expr. not (not (is_plain expr))) exprs ≡ length exprs
all_through [] plain = refl
all_through (first ∷ others) plain = rw plain.0 (let rest = all_through others plain.1 in omega (arith, rest))

no_first : (exprs : List Expr) (number : ℕ) → AllByRecursion (λ expr. is_plain expr ≡ true) exprs → position (λ expr. not (is_plain expr)) exprs ≡ Some number → ⊥
no_first exprs number plain e =
    let same = all_through exprs plain in
    let none : nat_lt (prefix_len (λ expr. not (not (is_plain expr))) exprs) (length exprs) ≡ false = grind (arith, nat_tests) in
    let found : None ≡ Some number = ap (λ (b : Bool). if b then Some (prefix_len (λ expr. not (not (is_plain expr))) exprs) else None) (sym none) ∙ e in
    cc

none_accepted : (failure : Failure) → IsOk {T = Shapes} (Err failure) → ⊥
none_accepted failure e = cc

module _ (one_reading : (text : List ℕ) (first second : Tree) → Reads text first → Reads text second → first ≡ second) (one_refusal : (text : List ℕ) (first second : Position) (cause other : ℕ) → IsRefused text first cause → IsRefused text second other → (first ≡ second) × (cause ≡ other)) (never_both : (text : List ℕ) (tree : Tree) (position : Position) (cause : ℕ) → Reads text tree → IsRefused text position cause → ⊥) where
  -- a program of which nests are made is built
  built : (task : Task) (source : List ℕ) (at : Position) (other : Tree) → makes_nests task ≡ true → IsNotBuilt source at → Reads source other → ArePlain other.statements → ⊥
  built task source at other is none again plain =
      no_first (expressions none.tree) none.number (subst (λ t. ArePlain t.statements) (one_reading source other none.tree again none.read) plain) none.first

  -- a program that fails is not made anything of
  unmade : (task : Task) (source : List ℕ) (tree other : Tree) (failure : Failure) → Reads source tree → Reads source other → verdict_of tree.statements ≡ Err failure → CanMake task other → ⊥
  unmade task source tree other failure read again e can =
      none_accepted failure (subst IsOk (ap (λ (t : Tree). verdict_of t.statements) (one_reading source other tree again read) ∙ e) can.accepted)

  -- a source fails in one way
  one_failure : (source : List ℕ) (tree other : Tree) (first second : Failure) → Reads source tree → Reads source other → verdict_of tree.statements ≡ Err first → verdict_of other.statements ≡ Err second → first ≡ second
  one_failure source tree other first second read again e f = let both = sym e ∙ ap (λ (t : Tree). verdict_of t.statements) (one_reading source tree other read again) ∙ f in cc

  -- the first expression that is not built stands at one place
  one_place : (source : List ℕ) (at there : Position) → IsNotBuilt source at → IsNotBuilt source there → at ≡ there
  one_place source at there r s =
      let tree : r.tree ≡ s.tree = one_reading source r.tree s.tree r.read s.read in
      let numbers : Some r.number ≡ Some s.number = sym r.first ∙ ap (λ (t : Tree). position (λ expr. not (is_plain expr)) (expressions t)) tree ∙ s.first in
      let number : r.number ≡ s.number = cc in
      let both : Some at ≡ Some there = sym r.there ∙ ap (λ n. slice_get (expression_positions source) n) number ∙ s.there in
      cc

  -- a source comes to one outcome
  one_source : (task : Task) (name source : List ℕ) (one other : Outcome) (read other_read : ℕ) → IsSourceOutcome task name source one read → IsSourceOutcome task name source other other_read → (one ≡ other) × (read ≡ other_read)
  one_source task name source one other read other_read (too_long a) (too_long b) = (refl, refl)
  one_source task name source one other read other_read (too_long a) (refused b s) = absurd (omega (arith, a, b))
  one_source task name source one other read other_read (too_long a) (not_built b u s) = absurd (omega (arith, a, b))
  one_source task name source one other read other_read (too_long a) (fails b s p v) = absurd (omega (arith, a, b))
  one_source task name source one other read other_read (too_long a) (made b s can) = absurd (omega (arith, a, b))
  one_source task name source one other read other_read (refused a r) (too_long b) = absurd (omega (arith, a, b))
  one_source task name source one other read other_read (refused a r) (refused b s) =
      let same = one_refusal source _ _ _ _ r s in (rw (same.0, same.1) refl, refl)
  one_source task name source one other read other_read (refused a r) (not_built b u s) = absurd (never_both source s.tree _ _ s.read r)
  one_source task name source one other read other_read (refused a r) (fails b s p v) = absurd (never_both source _ _ _ s r)
  one_source task name source one other read other_read (refused a r) (made b s can) = absurd (never_both source _ _ _ s r)
  one_source task name source one other read other_read (not_built a t r) (too_long b) = absurd (omega (arith, a, b))
  one_source task name source one other read other_read (not_built a t r) (refused b s) = absurd (never_both source r.tree _ _ r.read s)
  one_source task name source one other read other_read (not_built {at = at} a t r) (not_built {at = there} b u s) =
      let same : at ≡ there = one_place source at there r s in (rw same refl, refl)
  one_source task name source one other read other_read (not_built a t r) (fails b s p v) = absurd (built task source _ _ t r s (p t))
  one_source task name source one other read other_read (not_built a t r) (made b s can) = absurd (built task source _ _ t r s (can.built t))
  one_source task name source one other read other_read (fails a r p v) (too_long b) = absurd (omega (arith, a, b))
  one_source task name source one other read other_read (fails a r p v) (refused b s) = absurd (never_both source _ _ _ r s)
  one_source task name source one other read other_read (fails a r p v) (not_built b u s) = absurd (built task source _ _ u s r (p u))
  one_source task name source one other read other_read (fails a r p v) (fails b s q w) =
      let same = one_failure source _ _ _ _ r s v w in (rw same refl, refl)
  one_source task name source one other read other_read (fails a r p v) (made b s can) = absurd (unmade task source _ _ _ r s v can)
  one_source task name source one other read other_read (made a r can) (too_long b) = absurd (omega (arith, a, b))
  one_source task name source one other read other_read (made a r can) (refused b s) = absurd (never_both source _ _ _ r s)
  one_source task name source one other read other_read (made a r can) (not_built b u s) = absurd (built task source _ _ u s r (can.built u))
  one_source task name source one other read other_read (made a r can) (fails b s p v) = absurd (unmade task source _ _ _ s r v can)
  one_source task name source one other read other_read (made a r can) (made b s could) = (ap (λ tree. Makes task tree) (one_reading source _ _ r s), refl)

  -- words come to one outcome over files
  pub one_outcome : (words : List (List ℕ)) (files later : Files) (one other : Outcome) (read other_read : ℕ) → IsOutcome words files later one read → IsOutcome words files later other other_read → (one ≡ other) × (read ≡ other_read)
  one_outcome words files later one other read other_read (usage m) (usage n) = (refl, refl)
  one_outcome words files later one other read other_read (usage m) (missing b there) = absurd (m.no_source _ _ b)
  one_outcome words files later one other read other_read (usage m) (found b there s) = absurd (m.no_source _ _ b)
  one_outcome words files later one other read other_read (usage m) (runs b) = absurd (m.no_run _ _ b)
  one_outcome words files later one other read other_read (missing a at) (usage n) = absurd (n.no_source _ _ a)
  one_outcome words files later one other read other_read (missing a at) (missing b there) = let same = same_command words _ _ _ _ a b in (rw same.1 refl, refl)
  one_outcome words files later one other read other_read (missing a at) (found b there s) = let same = same_found words files _ _ _ _ _ _ a b at there in absurd (cc)
  one_outcome words files later one other read other_read (missing a at) (runs b) = absurd (not_both words _ _ _ _ a b)
  one_outcome words files later one other read other_read (found a at r) (usage n) = absurd (n.no_source _ _ a)
  one_outcome words files later one other read other_read (found a at r) (missing b there) = let same = same_found words files _ _ _ _ _ _ a b at there in absurd (cc)
  one_outcome words files later one other read other_read (found {task = task} {name = name} {source = source} a at r) (found {task = another} {name = again} {source = text} b there s) =
      let command = same_command words task another name again a b in
      let both = same_found words files _ _ _ _ _ _ a b at there in
      let same : source ≡ text = cc in
      one_source task name source one other read other_read r (rw (sym command.0, sym command.1, sym same) at s)
  one_outcome words files later one other read other_read (found a at r) (runs b) = absurd (not_both words _ _ _ _ a b)
  one_outcome words files later one other read other_read (runs a) (usage n) = absurd (n.no_run _ _ a)
  one_outcome words files later one other read other_read (runs a) (missing b there) = absurd (not_both words _ _ _ _ b a)
  one_outcome words files later one other read other_read (runs a) (found b there s) = absurd (not_both words _ _ _ _ b a)
  one_outcome words files later one other read other_read (runs {assembly = assembly} {arrays = arrays} a) (runs {assembly = another} {arrays = others} b) =
      let same = same_run words assembly another arrays others a b in
      let both : run_outcome files later assembly arrays ≡ run_outcome files later another others = rw (same.0, same.1) refl in
      (ap (λ (reached : Reached). reached.0) both, ap (λ (reached : Reached). reached.1) both)

-- what a source comes to where a task cannot be done for this reason
abbrev pub said : List ℕ → CompileError → Outcome
said name (error.Text at cause) = Refuses 4 (text_line name at cause)
said name (error.Rule at rule) = Refuses 5 (rule_line name at rule)
said name (error.Limit at which value) = Refuses 6 (exceeded_line name at which value)
said name (error.NotBuilt at) = Refuses 11 (not_built_line name at)
said name error.Memory = Refuses 10 no_memory_line

module _ (task : Task) (name source : List ℕ) (short : length source ≤ longest_source) where
  failure_said : (tree : Tree) (failure : Failure) → Reads source tree → (makes_nests task ≡ true → ArePlain tree.statements) → verdict_of tree.statements ≡ Err failure → IsSourceOutcome task name source (said name (failed_at source failure)) (length source)
  failure_said tree (Failure.Rule place rule) read plain e = fails short read plain e
  failure_said tree (Failure.Limit place which value) read plain e = fails short read plain e

  failing_said : (reason : CompileError) (f : IsFailing source reason) → (makes_nests task ≡ true → ArePlain f.tree.statements) → IsSourceOutcome task name source (said name reason) (length source)
  failing_said reason f plain = subst (λ r. IsSourceOutcome task name source (said name r) (length source)) (sym f.answered) (failure_said f.tree f.failure f.read plain f.fails)

  -- each reason is an outcome of the source
  pub reason_said : (reason : CompileError) → reason ≢ error.Memory → IsCauseFor task source reason → IsSourceOutcome task name source (said name reason) (length source)
  reason_said (error.Text at cause) some c = refused short c.cause
  reason_said (error.Rule at rule) some c = failing_said (error.Rule at rule) c.cause (λ t. c.built t c.cause.tree c.cause.read)
  reason_said (error.Limit at which value) some c = failing_said (error.Limit at which value) c.cause (λ t. c.built t c.cause.tree c.cause.read)
  reason_said (error.NotBuilt at) some c = not_built short (c.unbuilt tt) c.cause
  reason_said error.Memory some c = absurd (some refl)
