-- Numbers that are read one by one.
use Rattle.std.proofs.Common.{◌≡◌, ◌≢◌, ℕ, suc, ◌≤◌, Bool, false, List, [], ◌∷◌, ◌++◌, refl, sym, ap, ◌∙◌, arith, append_assoc, map, length, ◌+◌, ◌-◌, take, drop, length-append}
use Rattle.std.proofs.lemmas.List.{append-nil}
use Rattle.std.proofs.Math.Seq.{drop-append_seam, take-length}
use Rattle.std.specs.Prelude.{ℤ, if◌then◌else◌}
use Rattle.std.specs.declared.option.Option.TheVariants.{None, Some}
use Rattle.text_tokens.specs.declared.token.Position.{Position}
use Rattle.moa_tree.specs.Expected.{Want, cause_of, next, stuck}
use Rattle.moa_tree.specs.Expr.{Tree}
use Rattle.moa_tree.specs.Outcome.{Outcome, is_stuck, refusal, refused_or}
use Rattle.moa_tree.specs.declared.tree.Numbers.{Numbers}
use Rattle.moa_tree.specs.Pool.{list_at}
use Rattle.moa_tree.specs.Pools.{Pools}
use Rattle.moa_tree.specs.Positions.{begins_expression, is_statement_name}
use Rattle.text_tokens.specs.declared.token.Sign.TheVariants as sign
use Rattle.moa_reader.specs.declared.error.ReadError.{ReadError}
use Rattle.moa_reader.specs.declared.error.ReadError.TheVariants as error
use Rattle.moa_tree.specs.Trees.{and_then, entries_at, extents_at, listed_at as find_list, statements_in}
use Rattle.moa_tree.specs.Vocabulary.{Lexeme}
use Rattle.moa_reader.specs.Build.{with_numbers}
use Rattle.moa_reader.specs.Lexemes.{number_in}
use Rattle.moa_reader.specs.Lists.{StayAtNumbers, TakesList, TakesNumbers}
use Rattle.moa_reader.specs.Outcomes.{Course, IsRefusedWith, Leads, Passes, course_behind, course_of, outcome_along}
use Rattle.moa_reader.specs.Sources.{Ahead, Placed, Takes, all, left}

abbrev pub course_with : Outcome → List Position → List Position → Course
course_with outcome expressions names = record { outcome = outcome; expressions = expressions; names = names }

abbrev pub if_here : Bool → Position → List Position
if_here test at = if test then at ∷ [] else []

-- a lexeme that is not refused is passed over
pub leads_one : (wants : List Want) (lexeme : Lexeme) (at : Position) (others : Placed) (expression name : Bool) → refusal wants lexeme ≡ None
    → begins_expression wants lexeme ≡ expression → is_statement_name wants lexeme ≡ name
    → Leads (if_here expression at) (if_here name at) wants ((lexeme, at) ∷ others) (next wants lexeme) others
leads_one wants lexeme at others expression name e f g tree =
    let rest = course_of tree (next wants lexeme) others in
    let found = if_here (begins_expression wants lexeme) at ++ rest.expressions in
    let named = if_here (is_statement_name wants lexeme) at ++ rest.names in
    ap (λ why. course_with (refused_or why at rest.outcome) found named) e
    ∙ ap (λ test. course_with rest.outcome (if_here test at ++ rest.expressions) named) f
    ∙ ap (λ test. course_with rest.outcome (if_here expression at ++ rest.expressions) (if_here test at ++ rest.names)) g

-- what leads on leads on from where something else led
pub leads_on : (a b c d : List Position) (first second third : List Want) (old middle new : Placed) → Leads a b first old second middle
    → Leads c d second middle third new → Leads (a ++ c) (b ++ d) first old third new
leads_on a b c d first second third old middle new h k tree =
    let rest = course_of tree third new in
    h tree ∙ ap (course_behind a b) (k tree)
    ∙ ap (λ places. course_with rest.outcome places (b ++ (d ++ rest.names))) (sym (append_assoc a c rest.expressions))
    ∙ ap (λ places. course_with rest.outcome ((a ++ c) ++ rest.expressions) places) (sym (append_assoc b d rest.names))

-- the same positions, written otherwise
pub leads_by : (a b : List Position) (wants others : List Want) (old new : Placed) → a ≡ b → Leads a [] wants old others new → Leads b [] wants old others new
leads_by a b wants others old new e h tree = h tree ∙ ap (λ places. course_behind places [] (course_of tree others new)) e

-- what is left behind a lexeme, and that it was left
pub takes_left : (old new : Ahead) (lexeme : Lexeme) → Takes old lexeme new → left old ≡ lexeme ∷ left new
takes_left old new lexeme h = ap (λ list. map (λ found. found.0) list) h

-- there is one lexeme less
pub takes_one : (old new : Ahead) (lexeme : Lexeme) → Takes old lexeme new → length old.behind ≡ suc (length new.behind)
takes_one old new lexeme h = omega (arith, ap length h)

pub takes : (old new : Ahead) (lexeme : Lexeme) → old.lexeme ≡ lexeme → all new ≡ old.behind → Takes old lexeme new
takes old new lexeme e f = ap (λ first. (first, old.at) ∷ old.behind) e ∙ ap (λ others. (lexeme, old.at) ∷ others) (sym f)

pub leads_taken : (wants : List Want) (old new : Ahead) (lexeme : Lexeme) (expression name : Bool) → Takes old lexeme new → refusal wants lexeme ≡ None
    → begins_expression wants lexeme ≡ expression → is_statement_name wants lexeme ≡ name
    → Leads (if_here expression old.at) (if_here name old.at) wants (all old) (next wants lexeme) (all new)
leads_taken wants old new lexeme expression name h e f g tree = ap (course_of tree wants) h ∙ leads_one wants lexeme old.at (all new) expression name e f g tree

pub passes_taken : (wants : List Want) (old new : Ahead) (lexeme : Lexeme) → Takes old lexeme new → refusal wants lexeme ≡ None
    → begins_expression wants lexeme ≡ false → is_statement_name wants lexeme ≡ false → Passes wants (all old) (next wants lexeme) (all new)
passes_taken wants old new lexeme h e f g = leads_taken wants old new lexeme false false h e f g

-- From one place of a text on as from the other: the same numbers are added in all, and the same lexemes follow them.
pub record SameNumbers (old : Ahead) (before : Pools) (new : Ahead) (behind : Pools) : Type 0 where
  pub added : with_numbers before (extents_at (left old)).0 ≡ with_numbers behind (extents_at (left new)).0
  pub follow : (extents_at (left old)).1 ≡ (extents_at (left new)).1
  pub passes : (wants : List Want) → StayAtNumbers wants → Passes wants (all old) wants (all new)
  pub statements : (levels : ℕ) → statements_in levels (left old) ≡ statements_in levels (left new)
  pub fewer : length new.behind ≤ length old.behind

added_one : (pools : Pools) (value : ℤ) (others : List ℤ) → with_numbers pools (value ∷ others) ≡ with_numbers (with_numbers pools (value ∷ [])) others
added_one pools value others =
    ap (λ numbers. record pools { numbers = numbers })
    (sym (append_assoc pools.numbers (value ∷ []) others))

-- behind one number more
pub same_number : (first old new : Ahead) (value : ℤ) (before pools behind : Pools)
    → SameNumbers first before old pools → old.lexeme ≡ Lexeme.Number value → all new ≡ old.behind → behind ≡ with_numbers pools (value ∷ [])
    → SameNumbers first before new behind
same_number first old new value before pools behind same e f g =
    let taken = takes old new (Lexeme.Number value) e f in
    let follows = takes_left old new (Lexeme.Number value) taken in
    record {
      added =
          same.added
          ∙ ap (λ lexemes. with_numbers pools (extents_at lexemes).0) follows
          ∙ added_one pools value (extents_at (left new)).0
          ∙ ap (λ those. with_numbers those (extents_at (left new)).0) (sym g);
      follow = same.follow ∙ ap (λ lexemes. (extents_at lexemes).1) follows;
      passes = λ wants stay tree.
          same.passes wants stay tree ∙ ap (course_of tree wants) taken ∙ stay value old.at (all new) tree;
      statements = λ levels. same.statements levels ∙ ap (statements_in levels) follows;
      fewer = omega (arith, same.fewer, takes_one old new (Lexeme.Number value) taken);
    }

no_number_left : (first : Lexeme) (others : List Lexeme) → number_in first ≡ None → extents_at (first ∷ others) ≡ ([], first ∷ others)
no_number_left (Lexeme.Number value) others e = absurd (cc e)
no_number_left first others e = refl

added_none : (pools : Pools) → with_numbers pools [] ≡ pools
added_none pools =
    ap (λ numbers. record pools { numbers = numbers })
    (append-nil pools.numbers)

-- where no number follows, all of them were added
pub numbers_taken : (old new : Ahead) (before behind : Pools) → SameNumbers old before new behind → number_in new.lexeme ≡ None
    → TakesNumbers old before new behind
numbers_taken old new before behind same ended =
    let e = no_number_left new.lexeme (map (λ found. found.0) new.behind) ended in
    record {
      added = sym (same.added ∙ ap (λ those. with_numbers behind those.0) e ∙ added_none behind);
      follow = same.follow ∙ ap (λ those. those.1) e;
      ended = ended;
      passes = same.passes;
      statements = same.statements;
      fewer = same.fewer;
    }

-- the numbers that were added last are a list
pub appended_list : (before values : List ℤ) (list : Numbers) → list.start ≡ length before → list.start + list.count ≡ length (before ++ values)
    → list_at (before ++ values) list ≡ values
appended_list before values list h k =
    let e : drop list.start (before ++ values) ≡ values = ap (λ n. drop n (before ++ values)) h ∙ drop-append_seam before values in
    let f : (list.start + list.count) - list.start ≡ length values = omega (arith, length-append before values, h, k) in
    ap (λ n. take n (drop list.start (before ++ values))) f ∙ ap (take (length values)) e ∙ take-length values

entries_by_numbers : (lexemes rest : List Lexeme) → (extents_at lexemes).1 ≡ Lexeme.Sign sign.Greater ∷ rest
    → entries_at lexemes ≡ Some ((extents_at lexemes).0, rest)
entries_by_numbers [] rest e = absurd (cc e)
entries_by_numbers (Lexeme.Number value ∷ others) rest e =
    ap (λ found. and_then found (λ list behind. Some (value ∷ list, behind))) (entries_by_numbers others rest e)
entries_by_numbers (Lexeme.Sign sign.Greater ∷ others) rest e = cc e
entries_by_numbers (other ∷ others) rest e = absurd (cc e)

passes_close : (wants : List Want) → is_stuck wants ≡ false → refusal (Want.Entries ∷ wants) (Lexeme.Sign sign.Greater) ≡ None
passes_close wants h = ap (λ test. if test then Some 12 else None) h

-- a list from `<` to `>`
pub list_taken : (old first last new : Ahead) (before behind : Pools) (list : Numbers)
    → Takes old (Lexeme.Sign sign.Less) first → TakesNumbers first before last behind → Takes last (Lexeme.Sign sign.Greater) new
    → list.start ≡ length before.numbers → list.count ≡ length behind.numbers - list.start
    → TakesList old before list new behind
list_taken old first last new before behind list less those greater h k =
    let begins = takes_left old first (Lexeme.Sign sign.Less) less in
    let ends = takes_left last new (Lexeme.Sign sign.Greater) greater in
    let numbers = ap (λ p. p.numbers) those.added in
    let end : list.start + list.count ≡ length behind.numbers =
    omega (arith, ap length numbers, length-append before.numbers (extents_at (left first)).0, h, k) in
    let value : list_at behind.numbers list ≡ (extents_at (left first)).0 =
    ap (λ pool. list_at pool list) numbers ∙ appended_list before.numbers (extents_at (left first)).0 list h (end ∙ ap length numbers) in
    record {
      found =
          ap find_list begins
          ∙ entries_by_numbers (left first) (left new) (those.follow ∙ ends)
          ∙ ap (λ values. Some (values, left new)) (sym value);
      added = those.added ∙ ap (with_numbers before) (sym value);
      start = h;
      end = end;
      passes = λ wants free tree.
          passes_taken (Want.AList ∷ wants) old first (Lexeme.Sign sign.Less) less refl refl refl tree
          ∙ those.passes (Want.Entries ∷ wants) (λ value at others any. refl) tree
          ∙ passes_taken (Want.Entries ∷ wants) last new (Lexeme.Sign sign.Greater) greater (passes_close wants free) refl refl tree;
      statements = λ levels.
          ap (statements_in levels) begins ∙ those.statements levels ∙ ap (statements_in levels) ends;
      fewer = omega (arith, takes_one old first (Lexeme.Sign sign.Less) less, those.fewer, takes_one last new (Lexeme.Sign sign.Greater) greater);
    }

-- what is refused behind lexemes that pass is refused before them
pub refused_later : (wants others : List Want) (old new : Placed) (error : ReadError)
    → ((tree : Tree) → outcome_along tree wants old ≡ outcome_along tree others new) → IsRefusedWith others new error → IsRefusedWith wants old error
refused_later wants others old new (error.Text at cause) same h = λ tree. same tree ∙ h tree
refused_later wants others old new error.Memory same h = tt {0}

pub refused_behind : (wants others : List Want) (old new : Placed) (error : ReadError) → Passes wants old others new
    → IsRefusedWith others new error → IsRefusedWith wants old error
refused_behind wants others old new error passes h = refused_later wants others old new error (λ tree. ap (λ course. course.outcome) (passes tree)) h

entries_stuck : (lexeme : Lexeme) (wants : List Want) → number_in lexeme ≡ None → lexeme ≢ Lexeme.Sign sign.Greater
    → next (Want.Entries ∷ wants) lexeme ≡ stuck
entries_stuck (Lexeme.Number value) wants e h = absurd (cc e)
entries_stuck (Lexeme.Sign sign.Greater) wants e h = absurd (h refl)
entries_stuck lexeme wants e h = refl

-- a list that is not ended is refused
pub list_refused : (old first last : Ahead) (before behind : Pools) (error : ReadError)
    → Takes old (Lexeme.Sign sign.Less) first → TakesNumbers first before last behind → last.lexeme ≢ Lexeme.Sign sign.Greater
    → ((wants : List Want) → next wants last.lexeme ≡ stuck → cause_of wants last.lexeme ≡ 12 → IsRefusedWith wants (all last) error)
    → (wants : List Want) → IsRefusedWith (Want.AList ∷ wants) (all old) error
list_refused old first last before behind error less those other refused wants =
    refused_behind (Want.AList ∷ wants) (Want.Entries ∷ wants) (all old) (all last) error
    (λ tree.
    passes_taken (Want.AList ∷ wants) old first (Lexeme.Sign sign.Less) less refl refl refl tree
    ∙ those.passes (Want.Entries ∷ wants) (λ value at others any. refl) tree)
    (refused (Want.Entries ∷ wants) (entries_stuck last.lexeme wants those.ended other) refl)

pub list_stuck : (lexeme : Lexeme) (wants : List Want) → lexeme ≢ Lexeme.Sign sign.Less → next (Want.AList ∷ wants) lexeme ≡ stuck
list_stuck (Lexeme.Sign sign.Less) wants h = absurd (h refl)
list_stuck lexeme wants h = refl
