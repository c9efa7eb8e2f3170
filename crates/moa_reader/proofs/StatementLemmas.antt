-- Statements are read part by part.
use Rattle.std.proofs.Common.{◌≡◌, ◌≢◌, ℕ, ◌+◌, ◌-◌, ◌≤◌, Bool, true, false, List, [], ◌∷◌, ◌++◌, refl, sym, ap, ◌∙◌, subst, arith, length, map, append_assoc, length-append}
use Rattle.std.proofs.lemmas.List.{append-nil, map-append}
use Rattle.std.specs.List.{flat_map}
use Rattle.std.specs.Prelude.{◌↔◌, pos, if◌then◌else◌}
use Rattle.std.specs.declared.option.Option.TheVariants.{None, Some}
use Rattle.text_tokens.specs.declared.token.Position.{Position}
use Rattle.text_tokens.specs.declared.token.Sign.TheVariants as sign
use Rattle.text_tokens.specs.declared.token.Token.{Token}
use Rattle.text_tokens.specs.Tokens.{start, tokens}
use Rattle.moa_tree.specs.declared.tree.Numbers.{Numbers}
use Rattle.moa_tree.specs.declared.tree.Statement.{Statement}
use Rattle.moa_tree.specs.declared.tree.Statement.TheVariants as statement
use Rattle.moa_tree.specs.declared.tree.Version.{Version}
use Rattle.moa_tree.specs.declared.tree.Version.TheVariants.{First}
use Rattle.moa_tree.specs.Expected.{Want, at_start, cause_of, next, on_items, stuck}
use Rattle.moa_tree.specs.Expr.{Item, Tree}
use Rattle.moa_tree.specs.Outcome.{Outcome, is_stuck, outcome_from, outcome_of, refusal, refused_or, tree_in as found_in}
use Rattle.moa_tree.specs.Pool.{item_of, list_at, trees, walk_of}
use Rattle.moa_tree.specs.Pools.{Pools, nodes_of, tree_of, walk}
use Rattle.moa_tree.specs.Positions.{StandsIn, begins_expression, is_statement_name, places, position_of, positions_at}
use Rattle.moa_tree.specs.Readings.{Reads, deepest}
use Rattle.moa_tree.specs.Refusals.{IsRefused, is_end}
use Rattle.moa_tree.specs.Trees.{and_then, extents_at, item_at, statement as statement_of, statements_in}
use Rattle.moa_tree.specs.Vocabulary.{Lexeme, lexeme_of, lexemes_of, version_number, version_of}
use Rattle.moa_reader.specs.declared.error.ReadError.{ReadError}
use Rattle.moa_reader.specs.declared.error.ReadError.TheVariants as error
use Rattle.moa_reader.specs.declared.words.Declaration.{Declaration}
use Rattle.moa_reader.specs.declared.words.Declaration.TheVariants as declaration
use Rattle.moa_reader.specs.Build.{IsOpen, Keeps, no_pools, with_statement}
use Rattle.moa_reader.specs.Frames.{places_in, tree_in}
use Rattle.moa_reader.specs.Lexemes.{number_in}
use Rattle.moa_reader.specs.Lists.{TakesNumbers}
use Rattle.moa_reader.specs.Outcomes.{Course, Explains, IsRefusedWith, Leads, Passes, course_behind, course_of, outcome_along, places_along}
use Rattle.moa_reader.specs.Sources.{Ahead, Takes, all, left, placed}
use Rattle.moa_reader.specs.Standing.{IsRead}
use Rattle.moa_reader.specs.Statements.{ReadsDefinition, ReadsRest, ReadsStatements, ReadsVersion, course_from, followed_by, seen_behind, word_of}
use Rattle.moa_reader.proofs.BuildLemmas.{open_list, open_statement}
use Rattle.moa_reader.proofs.KeepLemmas.{positions_kept, program_kept, statement_positions, statement_tree}
use Rattle.moa_reader.proofs.ListLemmas.{appended_list, course_with, if_here, leads_taken, passes_taken, refused_behind, refused_later, takes, takes_left, takes_one}
use Rattle.moa_reader.proofs.StandingLemmas.{NumbersKeep}

pub version_refused : (old middle : Ahead) (error : ReadError) → old.lexeme ≡ Lexeme.Psi → all middle ≡ old.behind
    → ((wants : List Want) → IsRefusedWith (Want.VersionNumber ∷ wants) (all middle) error) → IsRefusedWith at_start (all old) error
version_refused old middle error e follows refused =
    refused_behind at_start (Want.VersionNumber ∷ Want.Items false ∷ []) (all old) (all middle) error
    (passes_taken at_start old middle Lexeme.Psi (takes old middle Lexeme.Psi e follows) refl refl refl) (refused (Want.Items false ∷ []))

-- statements are wanted behind the number of a version
number_passes : (version : Version) (middle new : Ahead) → Takes middle (Lexeme.Number (version_number version)) new
    → Passes (Want.VersionNumber ∷ Want.Items false ∷ []) (all middle) (Want.Items false ∷ []) (all new)
number_passes First middle new taken = passes_taken (Want.VersionNumber ∷ Want.Items false ∷ []) middle new (Lexeme.Number (pos 1)) taken refl refl refl

pub version_read : (old middle new : Ahead) (version : Version) → old.lexeme ≡ Lexeme.Psi → all middle ≡ old.behind → Takes middle (Lexeme.Number (version_number version)) new → ReadsVersion old new
version_read old middle new version e follows taken =
    let number = Lexeme.Number (version_number version) in
    let psi = takes old middle Lexeme.Psi e follows in
    record {
      passes = λ tree.
          passes_taken at_start old middle Lexeme.Psi psi refl refl refl tree
          ∙ number_passes version middle new taken tree;
      statements = λ levels. ap (statements_in levels) (takes_left old middle Lexeme.Psi psi ∙ ap (λ rest. Lexeme.Psi ∷ rest) (takes_left middle new number taken));
    }

equal_stuck : (lexeme : Lexeme) (wants : List Want) → lexeme ≢ Lexeme.Sign sign.Equal → next (Want.AnEqual ∷ wants) lexeme ≡ stuck
equal_stuck (Lexeme.Sign sign.Equal) wants h = absurd (h refl)
equal_stuck lexeme wants h = refl

-- a definition, and what is refused in it
module _ (old named : Ahead) (name : List ℕ) (taken : Takes old (Lexeme.Name name) named) where
  name_leads : (wants : List Want) → is_stuck wants ≡ false → Leads [] (old.at ∷ []) (Want.AName ∷ wants) (all old) wants (all named)
  name_leads wants free = leads_taken (Want.AName ∷ wants) old named (Lexeme.Name name) false true taken (ap (λ test. if test then Some 7 else None) free) refl refl

  pub equal_refused : (error : ReadError) → named.lexeme ≢ Lexeme.Sign sign.Equal
      → ((wants : List Want) → next wants named.lexeme ≡ stuck → cause_of wants named.lexeme ≡ 8 → IsRefusedWith wants (all named) error)
      → (wants : List Want) → IsRefusedWith (Want.AName ∷ Want.AnEqual ∷ Want.AnExpr 1 ∷ wants) (all old) error
  equal_refused error other refused wants =
      refused_later (Want.AName ∷ Want.AnEqual ∷ Want.AnExpr 1 ∷ wants) (Want.AnEqual ∷ Want.AnExpr 1 ∷ wants) (all old) (all named) error
      (λ tree. ap (λ course. course.outcome) (name_leads (Want.AnEqual ∷ Want.AnExpr 1 ∷ wants) refl tree))
      (refused (Want.AnEqual ∷ Want.AnExpr 1 ∷ wants) (equal_stuck named.lexeme (Want.AnExpr 1 ∷ wants) other) refl)

  module _ (middle : Ahead) (equal : Takes named (Lexeme.Sign sign.Equal) middle) where
    begins_leads : (wants : List Want)
        → Leads [] (old.at ∷ []) (Want.AName ∷ Want.AnEqual ∷ Want.AnExpr 1 ∷ wants) (all old) (Want.AnExpr 1 ∷ wants) (all middle)
    begins_leads wants tree =
        name_leads (Want.AnEqual ∷ Want.AnExpr 1 ∷ wants) refl tree
        ∙ ap (course_behind [] (old.at ∷ []))
        (passes_taken (Want.AnEqual ∷ Want.AnExpr 1 ∷ wants) named middle (Lexeme.Sign sign.Equal) equal refl refl refl tree)

    pub expression_refused : (error : ReadError) → ((wants : List Want) → is_stuck wants ≡ false → IsRefusedWith (Want.AnExpr 1 ∷ wants) (all middle) error)
        → (wants : List Want) → is_stuck wants ≡ false → IsRefusedWith (Want.AName ∷ Want.AnEqual ∷ Want.AnExpr 1 ∷ wants) (all old) error
    expression_refused error refused wants free =
        refused_later (Want.AName ∷ Want.AnEqual ∷ Want.AnExpr 1 ∷ wants) (Want.AnExpr 1 ∷ wants) (all old) (all middle) error
        (λ tree. ap (λ course. course.outcome) (begins_leads wants tree)) (refused wants free)

    pub definition_read : (new : Ahead) (before behind : Pools) (number : ℕ) → IsRead middle before [] number new behind → length new.behind ≤ length middle.behind
        → ReadsDefinition old before name number new behind
    definition_read new before behind number read fewer = record {
      middle = middle;
      front = takes_left old named (Lexeme.Name name) taken ∙ ap (λ rest. Lexeme.Name name ∷ rest) (takes_left named middle (Lexeme.Sign sign.Equal) equal);
      read = read;
      passes = λ wants free tree. begins_leads wants tree ∙ ap (course_behind [] (old.at ∷ [])) (read.passes wants free tree);
      fewer = omega (arith, takes_one old named (Lexeme.Name name) taken, takes_one named middle (Lexeme.Sign sign.Equal) equal, fewer);
    }

-- a statement more of a tree
item_added : (before behind added : Pools) (s : Statement) (item : Item) (old rest : List Item) → tree_of behind ≡ tree_of before → added ≡ with_statement behind s
    → item_of behind.numbers (trees behind.numbers behind.nodes) s ≡ item → old ≡ item ∷ rest
    → followed_by (tree_of before) old ≡ followed_by (tree_of added) rest
item_added before behind added s item old rest kept adds is found =
    ap (followed_by (tree_of before)) found
    ∙ ap (λ items. record (tree_of before) { statements = items }) (sym (append_assoc (tree_of before).statements (item ∷ []) rest))
    ∙ ap (λ tree. followed_by (followed_by tree (item ∷ [])) rest) (sym kept)
    ∙ ap (λ one. followed_by (followed_by (tree_of behind) (one ∷ [])) rest) (sym is)
    ∙ ap (λ tree. followed_by tree rest) (sym (statement_tree behind s))
    ∙ ap (λ pools. followed_by (tree_of pools) rest) (sym adds)

-- and a position more
name_added : (before behind added : Pools) (s : Statement) (at here : Position) → behind.statements ≡ before.statements → added ≡ with_statement behind s
    → position_of s ≡ at → at ≡ here → map position_of added.statements ≡ map position_of before.statements ++ here ∷ []
name_added before behind added s at here kept adds is stands =
    ap (λ pools. map position_of pools.statements) adds
    ∙ map-append position_of behind.statements (s ∷ [])
    ∙ ap (λ list. map position_of list ++ position_of s ∷ []) kept
    ∙ ap (λ place. map position_of before.statements ++ place ∷ []) (is ∙ stands)

-- and those of its nodes
nodes_added : (before behind added : Pools) (s : Statement) → IsOpen [] [] before → Keeps before behind → added ≡ with_statement behind s
    → positions_at added.positions (walk added)
    ≡ positions_at before.positions (walk before) ++ positions_at behind.positions (flat_map (walk_of behind.nodes) (nodes_of s))
nodes_added before behind added s made keeps adds =
    let those = positions_at behind.positions (flat_map (walk_of behind.nodes) (nodes_of s)) in
    ap (λ pools. positions_at pools.positions (walk pools)) adds
    ∙ statement_positions behind s
    ∙ ap (λ list. list ++ those) (positions_kept before behind keeps [] [] made)

-- the course behind the pools with a statement more
course_added : (before added : Pools) (expressions names : List Position) (course : Course)
    → positions_at added.positions (walk added) ≡ positions_at before.positions (walk before) ++ expressions
    → map position_of added.statements ≡ map position_of before.statements ++ names
    → course_from before (course_behind expressions names course) ≡ course_from added course
course_added before added expressions names course h k =
    let nodes = positions_at before.positions (walk before) in
    let places = map position_of before.statements in
    ap (λ list. course_with course.outcome list (places ++ (names ++ course.names)))
    (sym (append_assoc nodes expressions course.expressions) ∙ ap (λ list. list ++ course.expressions) (sym h))
    ∙ ap (course_with course.outcome (positions_at added.positions (walk added) ++ course.expressions))
    (sym (append_assoc places names course.names) ∙ ap (λ list. list ++ course.names) (sym k))

-- a definition is added
module _ (old new : Ahead) (before behind added : Pools) (name : List ℕ) (number : ℕ) (at : Position) (made : IsOpen [] [] before)
    (read : ReadsDefinition old before name number new behind) where
  rest_left : statements_in deepest (left old) ≡ statements_in deepest (left new)
  rest_left = ap (statements_in deepest) read.front ∙ read.read.statements deepest

  defined : (seen : Bool) (s : Statement) → nodes_of s ≡ number ∷ [] → position_of s ≡ at → at ≡ old.at → added ≡ with_statement behind s → (any : Tree)
      → course_from before (course_of any (Want.AName ∷ Want.AnEqual ∷ Want.AnExpr 1 ∷ Want.Items seen ∷ []) (all old))
      ≡ course_from added (course_of any (Want.Items seen ∷ []) (all new))
  defined seen s nodes is stands adds any =
      let walked = ap (λ numbers. positions_at behind.positions (flat_map (walk_of behind.nodes) numbers)) nodes
      ∙ ap (positions_at behind.positions) (append-nil (walk_of behind.nodes number)) in
      ap (course_from before) (read.passes (Want.Items seen ∷ []) refl any)
      ∙ course_added before added (places_in behind number) (old.at ∷ []) (course_of any (Want.Items seen ∷ []) (all new))
      (nodes_added before behind added s made read.read.keeps adds ∙ ap (λ list. positions_at before.positions (walk before) ++ list) walked)
      (name_added before behind added s at old.at read.read.keeps.statements adds is stands)

  pub let_read : at ≡ old.at → added ≡ with_statement behind (statement.Name name number at) → ReadsRest declaration.Name old before new added
  let_read stands adds = record {
    passes = λ seen. defined seen (statement.Name name number at) refl refl stands adds;
    tree = item_added before behind added (statement.Name name number at) (Item.Let name (tree_in behind number))
        (statements_in deepest (Lexeme.Let ∷ left old)) (statements_in deepest (left new))
        (program_kept before behind read.read.keeps [] [] made) adds refl
        (ap (λ rest. statement_of (item_at deepest (Lexeme.Let ∷ rest)) ++ statements_in deepest (left old)) read.front
        ∙ ap (λ found. statement_of (and_then found (λ of behind. Some (Item.Let name of, behind))) ++ statements_in deepest (left old)) read.read.found
        ∙ ap (λ rest. Item.Let name (tree_in behind number) ∷ rest) rest_left);
    made = open_statement (number ∷ []) [] [] [] behind added (statement.Name name number at) refl refl adds read.read.made;
    fewer = read.fewer;
  }

  pub out_read : at ≡ old.at → added ≡ with_statement behind (statement.Output name number at) → ReadsRest declaration.Output old before new added
  out_read stands adds = record {
    passes = λ seen. defined true (statement.Output name number at) refl refl stands adds;
    tree = item_added before behind added (statement.Output name number at) (Item.Output name (tree_in behind number))
        (statements_in deepest (Lexeme.Out ∷ left old)) (statements_in deepest (left new))
        (program_kept before behind read.read.keeps [] [] made) adds refl
        (ap (λ rest. statement_of (item_at deepest (Lexeme.Out ∷ rest)) ++ statements_in deepest (left old)) read.front
        ∙ ap (λ found. statement_of (and_then found (λ of behind. Some (Item.Output name of, behind))) ++ statements_in deepest (left old)) read.read.found
        ∙ ap (λ rest. Item.Output name (tree_in behind number) ∷ rest) rest_left);
    made = open_statement (number ∷ []) [] [] [] behind added (statement.Output name number at) refl refl adds read.read.made;
    fewer = read.fewer;
  }

-- behind extents that have ended a statement is wanted
extents_refusal : (lexeme : Lexeme) (seen : Bool) → number_in lexeme ≡ None → refusal (Want.Extents seen ∷ []) lexeme ≡ refusal (Want.Items seen ∷ []) lexeme
extents_refusal (Lexeme.Number value) seen e = absurd (cc e)
extents_refusal _ seen e = refl

extents_next : (lexeme : Lexeme) (seen : Bool) → number_in lexeme ≡ None → next (Want.Extents seen ∷ []) lexeme ≡ next (Want.Items seen ∷ []) lexeme
extents_next (Lexeme.Number value) seen e = absurd (cc e)
extents_next _ seen e = refl

no_expression : (lexeme : Lexeme) (seen : Bool)
    → (begins_expression (Want.Extents seen ∷ []) lexeme ≡ false) × (begins_expression (Want.Items seen ∷ []) lexeme ≡ false)
no_expression (Lexeme.Sign sign.Open) seen = (refl, refl)
no_expression _ seen = (refl, refl)

extents_end : (here : Ahead) (seen : Bool) → number_in here.lexeme ≡ None → Passes (Want.Extents seen ∷ []) (all here) (Want.Items seen ∷ []) (all here)
extents_end here seen e tree =
    let none = no_expression here.lexeme seen in
    let following = course_of tree (next (Want.Items seen ∷ []) here.lexeme) here.behind in
    ap (λ wants. course_with (refused_or (refusal (Want.Extents seen ∷ []) here.lexeme) here.at (outcome_along tree wants here.behind))
    (if_here (begins_expression (Want.Extents seen ∷ []) here.lexeme) here.at ++ places_along begins_expression wants here.behind)
    (places_along is_statement_name wants here.behind)) (extents_next here.lexeme seen e)
    ∙ ap (λ found. course_with (refused_or found here.at following.outcome)
    (if_here (begins_expression (Want.Extents seen ∷ []) here.lexeme) here.at ++ following.expressions) following.names) (extents_refusal here.lexeme seen e)
    ∙ ap (λ test. course_with (refused_or (refusal (Want.Items seen ∷ []) here.lexeme) here.at following.outcome)
    (if_here test here.at ++ following.expressions) following.names) (none.0 ∙ sym none.1)

-- an input
pub input_read : NumbersKeep → (old middle new : Ahead) (before behind added : Pools) (name : List ℕ) (list : Numbers) (at : Position) → IsOpen [] [] before
    → Takes old (Lexeme.Name name) middle → TakesNumbers middle before new behind
    → list.start ≡ length before.numbers → list.count ≡ length behind.numbers - list.start
    → at ≡ old.at → added ≡ with_statement behind (statement.Input name list at) → ReadsRest declaration.Input old before new added
input_read law old middle new before behind added name list at made taken those h k stands adds =
    let extents = (extents_at (left middle)).0 in
    let numbers = ap (λ p. p.numbers) those.added in
    let end : list.start + list.count ≡ length behind.numbers = omega (arith, ap length numbers, length-append before.numbers extents, h, k) in
    let value : list_at behind.numbers list ≡ extents =
    ap (λ pool. list_at pool list) numbers ∙ appended_list before.numbers extents list h (end ∙ ap length numbers) in
    let keeps : Keeps before behind = subst (Keeps before) (sym those.added) (law [] [] before extents made) in
    let front = takes_left old middle (Lexeme.Name name) taken in
    record {
      passes = λ seen any.
          ap (course_from before)
          (leads_taken (Want.AName ∷ Want.Extents seen ∷ []) old middle (Lexeme.Name name) false true taken refl refl refl any
          ∙ ap (course_behind [] (old.at ∷ []))
          (those.passes (Want.Extents seen ∷ []) (λ value place others tree. refl) any ∙ extents_end new seen those.ended any))
          ∙ course_added before added [] (old.at ∷ []) (course_of any (Want.Items seen ∷ []) (all new))
          (nodes_added before behind added (statement.Input name list at) made keeps adds)
          (name_added before behind added (statement.Input name list at) at old.at keeps.statements adds refl stands);
      tree = item_added before behind added (statement.Input name list at) (Item.Input name extents)
          (statements_in deepest (Lexeme.In ∷ left old)) (statements_in deepest (left new))
          (program_kept before behind keeps [] [] made) adds (ap (Item.Input name) value)
          (ap (λ rest. statement_of (item_at deepest (Lexeme.In ∷ rest)) ++ statements_in deepest rest) front
          ∙ ap (λ rest. Item.Input name extents ∷ rest) (those.statements deepest));
      made = open_statement [] [] (list ∷ []) [] behind added (statement.Input name list at) refl refl adds
          (open_list [] [] before behind extents list those.added h end made);
      fewer = omega (arith, takes_one old middle (Lexeme.Name name) taken, those.fewer);
    }

word_not_refused : (what : Declaration) (seen : Bool) → refusal (Want.Items seen ∷ []) (word_of what) ≡ None
word_not_refused declaration.Input seen = refl
word_not_refused declaration.Name seen = refl
word_not_refused declaration.Output seen = refl

word_passes : (seen : Bool) (what : Declaration) (old middle : Ahead) → old.lexeme ≡ word_of what → all middle ≡ old.behind
    → Passes (Want.Items seen ∷ []) (all old) (on_items seen [] (word_of what)) (all middle)
word_passes seen what old middle e follows =
    passes_taken (Want.Items seen ∷ []) old middle (word_of what) (takes old middle (word_of what) e follows) (word_not_refused what seen)
    (no_expression (word_of what) seen).1 refl

-- a statement from its word on
pub statement_read : (seen : Bool) (what : Declaration) (old middle new : Ahead) (before behind : Pools) → old.lexeme ≡ word_of what → all middle ≡ old.behind
    → ReadsRest what middle before new behind → ReadsStatements seen old before (seen_behind what seen) new behind
statement_read seen what old middle new before behind e follows rest =
    let taken = takes old middle (word_of what) e follows in
    record {
      passes = λ any. ap (course_from before) (word_passes seen what old middle e follows any) ∙ rest.passes seen any;
      tree = ap (λ lexemes. followed_by (tree_of before) (statements_in deepest lexemes)) (takes_left old middle (word_of what) taken) ∙ rest.tree;
      made = rest.made;
    }

pub rest_refused : (seen : Bool) (what : Declaration) (old middle : Ahead) (error : ReadError) → old.lexeme ≡ word_of what → all middle ≡ old.behind
    → ((seen : Bool) → IsRefusedWith (on_items seen [] (word_of what)) (all middle) error) → IsRefusedWith (Want.Items seen ∷ []) (all old) error
rest_refused seen what old middle error e follows refused =
    refused_behind (Want.Items seen ∷ []) (on_items seen [] (word_of what)) (all old) (all middle) error
    (word_passes seen what old middle e follows) (refused seen)

-- no statement yet, and one more
pub statements_none : (here : Ahead) (pools : Pools) → IsOpen [] [] pools → ReadsStatements false here pools false here pools
statements_none here pools made = record { passes = λ any. refl; tree = refl; made = made }

pub statements_more : (first old new : Ahead) (before pools behind : Pools) (seen later : Bool) → ReadsStatements false first before seen old pools
    → ReadsStatements seen old pools later new behind → ReadsStatements false first before later new behind
statements_more first old new before pools behind seen later h k = record {
  passes = λ any. h.passes any ∙ k.passes any;
  tree = h.tree ∙ k.tree;
  made = k.made;
}

pub statements_refused : (first old : Ahead) (before pools : Pools) (seen : Bool) (error : ReadError) → ReadsStatements false first before seen old pools
    → IsRefusedWith (Want.Items seen ∷ []) (all old) error → IsRefusedWith (Want.Items false ∷ []) (all first) error
statements_refused first old before pools seen error h refused =
    refused_later (Want.Items false ∷ []) (Want.Items seen ∷ []) (all first) (all old) error (λ tree. ap (λ course. course.outcome) (h.passes tree)) refused

pub end_taken : (lexeme : Lexeme) → is_end lexeme ≡ true → lexeme ≡ Lexeme.End
end_taken Lexeme.End h = refl
end_taken _ h = absurd (cc h)

-- an output is wanted where the text ends without one
pub output_stuck : (lexeme : Lexeme) → is_end lexeme ≡ true → next (Want.Items false ∷ []) lexeme ≡ stuck
output_stuck Lexeme.End h = refl
output_stuck _ h = absurd (cc h)

pub output_cause : (lexeme : Lexeme) → is_end lexeme ≡ true → cause_of (Want.Items false ∷ []) lexeme ≡ 6
output_cause lexeme h = ap (λ test. if test then 6 else 5) h

-- tokens as lexemes
outcome_placed : (tree : Tree) (wants : List Want) (list : List (Token × Position)) → outcome_from tree wants list ≡ outcome_along tree wants (placed tree.version list)
outcome_placed tree wants [] = refl
outcome_placed tree wants (first ∷ others) =
    let lexeme = lexeme_of tree.version first.0 in
    ap (refused_or (refusal wants lexeme) first.1) (outcome_placed tree (next wants lexeme) others)

lexemes_placed : (version : Version) (list : List (Token × Position)) → lexemes_of version list ≡ map (λ found. found.0) (placed version list)
lexemes_placed version [] = refl
lexemes_placed version (first ∷ others) = ap (λ rest. lexeme_of version first.0 ∷ rest) (lexemes_placed version others)

end_reads : (tree : Tree) (here : Ahead) → is_end here.lexeme ≡ true → here.behind ≡ [] → outcome_along tree (Want.Items true ∷ []) (all here) ≡ Outcome.Read tree
end_reads tree here h e =
    ap (λ first. outcome_along tree (Want.Items true ∷ []) ((first, here.at) ∷ here.behind)) (end_taken here.lexeme h)
    ∙ ap (outcome_along tree []) e

end_empty : (here : Ahead) → is_end here.lexeme ≡ true → here.behind ≡ [] → statements_in deepest (left here) ≡ []
end_empty here h e =
    ap (λ first. statements_in deepest (first ∷ map (λ found. found.0) here.behind)) (end_taken here.lexeme h)
    ∙ ap (λ behind. statements_in deepest (map (λ found. found.0) behind)) e

-- a text that is read to its end is the program of the pools
pub text_read : (text : List ℕ) (first middle here : Ahead) (pools : Pools) → all first ≡ placed (version_of text) (tokens start text) → ReadsVersion first middle
    → ReadsStatements false middle (no_pools (version_of text)) true here pools → is_end here.lexeme ≡ true → here.behind ≡ [] → outcome_of text ≡ Outcome.Read (tree_of pools)
text_read text first middle here pools whole version statements ended last =
    let whole_tree = found_in text in
    let none = tree_of (no_pools (version_of text)) in
    let same : whole_tree ≡ tree_of pools =
    ap (followed_by none)
    (ap (statements_in deepest) (lexemes_placed (version_of text) (tokens start text) ∙ ap (map (λ found. found.0)) (sym whole)) ∙ version.statements deepest)
    ∙ statements.tree
    ∙ ap (followed_by (tree_of pools)) (end_empty here ended last)
    ∙ ap (λ items. record (tree_of pools) { statements = items }) (append-nil (tree_of pools).statements) in
    outcome_placed whole_tree at_start (tokens start text)
    ∙ ap (outcome_along whole_tree at_start) (sym whole)
    ∙ ap (λ course. course.outcome) (version.passes whole_tree)
    ∙ ap (λ course. course.outcome) (statements.passes whole_tree)
    ∙ end_reads whole_tree here ended last
    ∙ ap Outcome.Read same

-- what is refused behind the version
pub behind_version_refused : (first middle : Ahead) (error : ReadError) → ReadsVersion first middle → IsRefusedWith (Want.Items false ∷ []) (all middle) error
    → IsRefusedWith at_start (all first) error
behind_version_refused first middle error version refused =
    refused_behind at_start (Want.Items false ∷ []) (all first) (all middle) error version.passes refused

-- a text that is refused
pub text_refused : (text : List ℕ) (first : Ahead) (at : Position) (cause : ℕ) → all first ≡ placed (version_of text) (tokens start text)
    → IsRefusedWith at_start (all first) (error.Text at cause) → outcome_of text ≡ Outcome.Refused at cause
text_refused text first at cause whole refused =
    let whole_tree = found_in text in
    outcome_placed whole_tree at_start (tokens start text) ∙ ap (outcome_along whole_tree at_start) (sym whole) ∙ refused whole_tree

-- so an error says why the text is refused
pub error_explains : ((text : List ℕ) (position : Position) (cause : ℕ) → (outcome_of text ≡ Outcome.Refused position cause) ↔ IsRefused text position cause)
    → (text : List ℕ) (first : Ahead) (error : ReadError) → all first ≡ placed (version_of text) (tokens start text) → IsRefusedWith at_start (all first) error → Explains text error
error_explains law text first (error.Text at cause) whole refused = (law text at cause).0 (text_refused text first at cause whole refused)
error_explains law text first error.Memory whole refused = tt {0}

-- and the pools stand for what the text is read as
pub program_read : ((text : List ℕ) (tree : Tree) → (outcome_of text ≡ Outcome.Read tree) ↔ Reads text tree)
    → (text : List ℕ) (first middle here : Ahead) (before pools : Pools) → all first ≡ placed (version_of text) (tokens start text) → ReadsVersion first middle
    → before ≡ no_pools (version_of text) → ReadsStatements false middle before true here pools → (is_end here.lexeme ≡ true) × (here.behind ≡ []) → Reads text (tree_of pools)
program_read law text first middle here before pools whole version none statements ended =
    let From : Pools → Type 0 = λ those. ReadsStatements false middle those true here pools in
    (law text (tree_of pools)).0 (text_read text first middle here pools whole version (subst From none statements) ended.0 ended.1)

-- and stand in it
places_placed : (version : Version) (test : List Want → Lexeme → Bool) (wants : List Want) (list : List (Token × Position))
    → places version test wants list ≡ places_along test wants (placed version list)
places_placed version test wants [] = refl
places_placed version test wants (first ∷ others) =
    let lexeme = lexeme_of version first.0 in
    ap (λ rest. if_here (test wants lexeme) first.1 ++ rest) (places_placed version test (next wants lexeme) others)

-- nothing stands behind the end
end_places : (test : List Want → Lexeme → Bool) (here : Ahead) → is_end here.lexeme ≡ true → here.behind ≡ [] → test (Want.Items true ∷ []) here.lexeme ≡ false
    → places_along test (Want.Items true ∷ []) (all here) ≡ []
end_places test here h e none =
    let wants = Want.Items true ∷ [] in
    ap (λ found. if_here found here.at ++ places_along test (next wants here.lexeme) here.behind) none
    ∙ ap (places_along test (next wants here.lexeme)) e

pub text_stands : (text : List ℕ) (first middle here : Ahead) (before pools : Pools) → all first ≡ placed (version_of text) (tokens start text) → ReadsVersion first middle
    → before ≡ no_pools (version_of text) → ReadsStatements false middle before true here pools → (is_end here.lexeme ≡ true) × (here.behind ≡ []) → StandsIn text pools
text_stands text first middle here before pools whole version none statements ended =
    let From : Pools → Type 0 = λ those. ReadsStatements false middle those true here pools in
    let any = tree_of pools in
    let passed = version.passes any ∙ (subst From none statements).passes any in
    record {
      expressions =
          sym (append-nil (positions_at pools.positions (walk pools)))
          ∙ ap (λ list. positions_at pools.positions (walk pools) ++ list)
          (sym (end_places begins_expression here ended.0 ended.1 (no_expression here.lexeme true).1))
          ∙ ap (λ course. course.expressions) (sym passed)
          ∙ ap (places_along begins_expression at_start) whole
          ∙ sym (places_placed (version_of text) begins_expression at_start (tokens start text));
      names =
          sym (append-nil (map position_of pools.statements))
          ∙ ap (λ list. map position_of pools.statements ++ list) (sym (end_places is_statement_name here ended.0 ended.1 refl))
          ∙ ap (λ course. course.names) (sym passed)
          ∙ ap (places_along is_statement_name at_start) whole
          ∙ sym (places_placed (version_of text) is_statement_name at_start (tokens start text));
    }
