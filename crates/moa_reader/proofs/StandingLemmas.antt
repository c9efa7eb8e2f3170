-- An expression is read form by form.
use Rattle.std.proofs.Common.{◌≡◌, ◌≢◌, ℕ, zero, suc, ◌+◌, ◌<◌, true, false, List, [], ◌∷◌, ◌++◌, refl, sym, ap, ◌∙◌, subst, append_assoc, arith, length, inl, inr}
use Rattle.std.specs.Prelude.{ℤ, ◌==◌, nat_lt, not, if◌then◌else◌}
use Rattle.std.specs.List.{flat_map}
use Rattle.std.specs.declared.option.Option.TheVariants.{None, Some}
use Rattle.std.proofs.lemmas.Bool.{cases_lt, eq-eqb, le-ltb, lt-ltb, ne_eqb}
use Rattle.std.proofs.lemmas.Bool.Decides.{nat_tests}
use Rattle.std.proofs.lemmas.List.{append-nil}
use Rattle.text_tokens.specs.declared.token.Position.{Position}
use Rattle.text_tokens.specs.declared.token.Sign.TheVariants as sign
use Rattle.moa_tree.specs.declared.tree.Node.{Node}
use Rattle.moa_tree.specs.declared.tree.Numbers.{Numbers}
use Rattle.moa_tree.specs.Expected.{Want, cause_of, next, on_expr, stuck}
use Rattle.moa_tree.specs.Expr.{Expr}
use Rattle.moa_tree.specs.Outcome.{is_stuck}
use Rattle.moa_tree.specs.Pool.{expr_of, list_at, operands, tree_at as tree_among, trees}
use Rattle.moa_tree.specs.Pools.{AreThere, Pools, lists_of}
use Rattle.moa_tree.specs.Readings.{deepest}
use Rattle.moa_tree.specs.Trees.{expr_at, statements_in}
use Rattle.moa_tree.specs.Vocabulary.{Lexeme}
use Rattle.moa_reader.specs.declared.error.ReadError.{ReadError}
use Rattle.moa_reader.specs.declared.forms.OneForm.{OneForm}
use Rattle.moa_reader.specs.declared.forms.TwoForm.{TwoForm}
use Rattle.moa_reader.specs.declared.frames.Frame.{Frame}
use Rattle.moa_reader.specs.declared.frames.Frame.TheVariants as frame
use Rattle.moa_reader.specs.declared.heads.Head.{Head}
use Rattle.moa_reader.specs.declared.heads.Head.TheVariants as head
use Rattle.moa_reader.specs.Build.{IsOpen, Keeps, with_node, with_numbers}
use Rattle.moa_reader.specs.Forms.{form_lists, one_of, two_of}
use Rattle.moa_reader.specs.Frames.{depth_in, frame_lists, frame_nodes, frame_places, places_before, places_in, resume, resume_one, tree_in, wants_behind}
use Rattle.moa_reader.specs.Heads.{AddsList, Begins, ReadsHead, place_of}
use Rattle.moa_reader.specs.Outcomes.{IsRefusedWith, Leads, Passes, course_behind}
use Rattle.moa_reader.specs.Sources.{Ahead, Takes, all, left}
use Rattle.moa_reader.specs.Standing.{IsRead, IsWanted, Stands}
use Rattle.moa_reader.proofs.BuildLemmas.{open_exchanged, open_list, open_node}
use Rattle.moa_reader.proofs.CountLemmas.{all-cut}
use Rattle.moa_reader.proofs.HeadLemmas.{begins_no_statement, first_leads}
use Rattle.moa_reader.proofs.KeepLemmas.{frames_stay, keeps_itself, keeps_on, resume_kept}
use Rattle.moa_reader.proofs.ListLemmas.{leads_by, leads_on, passes_taken, refused_later, takes_left}

-- the laws of pools in the making
abbrev pub NodeKeeps : Type 0
NodeKeeps = (roots : List ℕ) (lists : List Numbers) (pools : Pools) (node : Node) (at : Position) → IsOpen roots lists pools → Keeps pools (with_node pools node at)

abbrev pub NumbersKeep : Type 0
NumbersKeep = (roots : List ℕ) (lists : List Numbers) (pools : Pools) (values : List ℤ) → IsOpen roots lists pools → Keeps pools (with_numbers pools values)

abbrev pub NodeStands : Type 0
NodeStands = (roots : List ℕ) (lists : List Numbers) (pools : Pools) (node : Node) (at : Position) → IsOpen (operands node ++ roots) lists pools
    → places_in (with_node pools node at) (length pools.nodes) ≡ at ∷ flat_map (places_in pools) (operands node)

node_stands : NodeStands → (named roots : List ℕ) (lists : List Numbers) (pools behind : Pools) (node : Node) (at : Position) (number : ℕ)
    → operands node ≡ named → behind ≡ with_node pools node at → number ≡ length pools.nodes → IsOpen (named ++ roots) lists pools
    → places_in behind number ≡ at ∷ flat_map (places_in pools) named
node_stands law named roots lists pools behind node at number names added numbered made =
    ap (λ those. places_in those number) added
    ∙ ap (places_in (with_node pools node at)) numbered
    ∙ law roots lists pools node at (subst (λ those. IsOpen (those ++ roots) lists pools) (sym names) made)
    ∙ ap (λ those. at ∷ flat_map (places_in pools) those) names

added_keeps : NodeKeeps → (roots : List ℕ) (lists : List Numbers) (pools behind : Pools) (node : Node) (at : Position) → IsOpen roots lists pools
    → behind ≡ with_node pools node at → Keeps pools behind
added_keeps law roots lists pools behind node at made added = subst (Keeps pools) (sym added) (law roots lists pools node at made)

list_keeps : NumbersKeep → (roots : List ℕ) (lists held : List Numbers) (pools behind : Pools) → IsOpen roots lists pools → AddsList pools held behind → Keeps pools behind
list_keeps law roots lists [] pools behind made adds = subst (Keeps pools) (sym adds) (keeps_itself pools)
list_keeps law roots lists (list ∷ []) pools behind made adds = subst (Keeps pools) (sym adds.0) (law roots lists pools (list_at behind.numbers list) made)
list_keeps law roots lists (list ∷ other ∷ others) pools behind made adds = absurd adds

list_opens : (roots : List ℕ) (lists held : List Numbers) (pools behind : Pools) → IsOpen roots lists pools → AddsList pools held behind → IsOpen roots (held ++ lists) behind
list_opens roots lists [] pools behind made adds = subst (IsOpen roots lists) (sym adds) made
list_opens roots lists (list ∷ []) pools behind made adds = open_list roots lists pools behind (list_at behind.numbers list) list adds.0 adds.1 adds.2 made
list_opens roots lists (list ∷ other ∷ others) pools behind made adds = absurd adds

-- an expression is wanted, in no form
pub wanted_first : (here : Ahead) (pools : Pools) → IsOpen [] [] pools → IsWanted here pools [] here pools
wanted_first here pools made = record {
  levels = 128;
  deep = refl;
  found = refl;
  passes = λ wants free tree. refl;
  statements = λ many. refl;
  made = made;
  keeps = keeps_itself pools;
}

-- something is wanted behind each form
pub behind_is_free : (frames : List Frame) (wants : List Want) → is_stuck wants ≡ false → is_stuck (wants_behind frames wants) ≡ false
behind_is_free [] wants free = free
behind_is_free (frame.Parentheses ∷ frames) wants free = refl
behind_is_free (frame.One form at ∷ frames) wants free = behind_is_free frames wants free
behind_is_free (frame.First form at ∷ frames) wants free = refl
behind_is_free (frame.Second form at left ∷ frames) wants free = behind_is_free frames wants free

shallow_depth : (frames : List Frame) → length frames < 128 → (depth_in frames == 129) ≡ false
shallow_depth frames h = ne_eqb (depth_in frames) 129 (λ e. omega (arith, e, h))

-- whether an operand may begin, by how many forms it stands in
pub is_below : (frames : List Frame) (len : ℕ) → len ≡ length frames → nat_lt len 128 ≡ true → length frames < 128
is_below frames len e h = grind (arith, nat_tests)

pub at_the_bottom : (frames : List Frame) (depth len levels : ℕ) → levels + length frames ≡ 128 → len ≡ length frames → depth ≡ depth_in frames
    → (depth == 129) ≡ not (nat_lt len 128)
at_the_bottom frames depth len levels deep e f = elim (cases_lt len 128) [
  | inl below ↦ ne_eqb depth 129 (λ same. omega (arith, same, below, e, f)) ∙ ap not (sym (lt-ltb len 128 below))
  | inr full ↦ eq-eqb depth 129 (omega (arith, deep, full, e, f)) ∙ ap not (sym (le-ltb len 128 full))
]

-- what an expression begins with, where it is wanted
pub wanted_begins : NodeKeeps → NumbersKeep → NodeStands → (first old new : Ahead) (before pools behind : Pools) (frames : List Frame) (head : Head)
    → IsWanted first before frames old pools → Begins old pools head new behind → length frames < 128 → Stands first before frames head new behind
wanted_begins node_law list_law place_law first old new before pools behind frames which w b shallow = begun which w.levels w.deep w.found b.reads
  where
    passed : (wants : List Want) → is_stuck wants ≡ false
        → Leads (places_before pools frames ++ place_of b.first old.at) [] (Want.AnExpr 1 ∷ wants) (all first)
        (on_expr (depth_in frames) (wants_behind frames wants) b.first) (all b.middle)
    passed wants free =
        leads_on (places_before pools frames) [] (place_of b.first old.at) [] (Want.AnExpr 1 ∷ wants)
        (Want.AnExpr (depth_in frames) ∷ wants_behind frames wants) (on_expr (depth_in frames) (wants_behind frames wants) b.first) (all first) (all old) (all b.middle)
        (w.passes wants free)
        (first_leads old b.middle b.first (depth_in frames) (wants_behind frames wants) b.taken b.may_begin (shallow_depth frames shallow)
        (behind_is_free frames wants free))

    -- up to the end of the head, or to its first operand
    passed_on : (wants others : List Want) (places : List Position) → is_stuck wants ≡ false → places_before pools frames ++ place_of b.first old.at ≡ places
        → Passes (on_expr (depth_in frames) (wants_behind frames wants) b.first) (all b.middle) others (all new)
        → Leads places [] (Want.AnExpr 1 ∷ wants) (all first) others (all new)
    passed_on wants others places free e h =
        leads_by (places_before pools frames ++ place_of b.first old.at) places (Want.AnExpr 1 ∷ wants) others (all first) (all new) e
        (λ tree. passed wants free tree ∙ ap (course_behind (places_before pools frames ++ place_of b.first old.at) []) (h tree))

    skipped : (many : ℕ) → statements_in many (left first) ≡ statements_in many (left b.middle)
    skipped many =
        w.statements many ∙ ap (statements_in many) (takes_left old b.middle b.first b.taken)
        ∙ begins_no_statement b.first many (left b.middle) b.may_begin

    begun : (which : Head) (levels : ℕ) → levels + length frames ≡ deepest
        → expr_at deepest (left first) ≡ resume pools levels frames (expr_at levels (left old))
        → ReadsHead b.first old.at b.middle pools which new behind → Stands first before frames which new behind
    begun which zero deep found reads = absurd (omega (arith, deep, shallow))
    begun (head.Whole number) (suc levels) deep found reads =
        let keeps = added_keeps node_law (flat_map frame_nodes frames) (flat_map frame_lists frames) pools behind reads.adds.node old.at w.made reads.adds.added in
        let stands = node_stands place_law [] (flat_map frame_nodes frames) (flat_map frame_lists frames) pools behind reads.adds.node old.at number
        reads.adds.alone reads.adds.added reads.adds.numbered w.made in
        let places = ap (λ here. places_before pools frames ++ here) (reads.stands ∙ sym stands)
        ∙ ap (λ before. before ++ places_in behind number) (sym (frames_stay pools behind keeps frames w.made.roots_there)) in
        record {
          levels = suc levels;
          deep = deep;
          found =
              found
              ∙ ap (λ lexemes. resume pools (suc levels) frames (expr_at (suc levels) lexemes)) (takes_left old b.middle b.first b.taken)
              ∙ ap (resume pools (suc levels) frames) (reads.found levels)
              ∙ sym (resume_kept pools behind keeps (suc levels) frames w.made.roots_there w.made.free_lists_there (Some (tree_in behind number, left new)));
          passes = λ wants free.
              passed_on wants (wants_behind frames wants) (places_before behind frames ++ places_in behind number) free places
              (reads.passes (depth_in frames) (wants_behind frames wants) (behind_is_free frames wants free));
          statements = λ many. skipped many ∙ reads.statements many;
          made = open_node [] (flat_map frame_nodes frames) [] (flat_map frame_lists frames) pools behind reads.adds.node old.at number
              reads.adds.alone reads.adds.without_list reads.adds.added reads.adds.numbered w.made;
          keeps = keeps_on before pools behind w.keeps keeps;
        }
    begun (head.Begun form) (suc levels) deep found reads =
        let keeps = list_keeps list_law (flat_map frame_nodes frames) (flat_map frame_lists frames) (frame_lists form) pools behind w.made reads.adds in
        let places = ap (λ here. places_before pools frames ++ here) reads.stands
        ∙ ap (λ before. before ++ frame_places behind form) (sym (frames_stay pools behind keeps frames w.made.roots_there)) in
        let made = list_opens (flat_map frame_nodes frames) (flat_map frame_lists frames) (frame_lists form) pools behind w.made reads.adds in
        record {
          levels = levels;
          deep = omega (arith, deep);
          found =
              found
              ∙ ap (λ lexemes. resume pools (suc levels) frames (expr_at (suc levels) lexemes)) (takes_left old b.middle b.first b.taken)
              ∙ ap (resume pools (suc levels) frames) (reads.found levels)
              ∙ sym (resume_kept pools behind keeps (suc levels) frames w.made.roots_there w.made.free_lists_there (resume_one behind levels form (expr_at levels (left new))));
          passes = λ wants free.
              passed_on wants (Want.AnExpr (suc (depth_in frames)) ∷ wants_behind (form ∷ frames) wants) (places_before behind (form ∷ frames)) free places
              (reads.passes (depth_in frames) (wants_behind frames wants) (behind_is_free frames wants free));
          statements = λ many. skipped many ∙ reads.statements many;
          made = let P : List ℕ → Type 0 = λ nodes. IsOpen (nodes ++ flat_map frame_nodes frames) (frame_lists form ++ flat_map frame_lists frames) behind in
              subst P (sym reads.fresh) made;
          keeps = keeps_on before pools behind w.keeps keeps;
        }

-- what is refused where an operand is wanted
pub wanted_refused : (first old : Ahead) (before pools : Pools) (frames : List Frame) (error : ReadError) → IsWanted first before frames old pools
    → ((depth : ℕ) (wants : List Want) → depth ≡ depth_in frames → is_stuck wants ≡ false → IsRefusedWith (Want.AnExpr depth ∷ wants) (all old) error)
    → (wants : List Want) → is_stuck wants ≡ false → IsRefusedWith (Want.AnExpr 1 ∷ wants) (all first) error
wanted_refused first old before pools frames error w refused wants free =
    refused_later (Want.AnExpr 1 ∷ wants) (Want.AnExpr (depth_in frames) ∷ wants_behind frames wants) (all first) (all old) error
    (λ tree. ap (λ course. course.outcome) (w.passes wants free tree)) (refused (depth_in frames) (wants_behind frames wants) refl (behind_is_free frames wants free))

close_stuck : (lexeme : Lexeme) (wants : List Want) → lexeme ≢ Lexeme.Sign sign.Close → next (Want.AClose ∷ wants) lexeme ≡ stuck
close_stuck (Lexeme.Sign sign.Close) wants h = absurd (h refl)
close_stuck lexeme wants h = refl

-- parentheses around an operand that was read
pub parentheses_close : (first old new : Ahead) (before pools : Pools) (frames : List Frame) (number : ℕ)
    → IsRead first before (frame.Parentheses ∷ frames) number old pools → Takes old (Lexeme.Sign sign.Close) new → IsRead first before frames number new pools
parentheses_close first old new before pools frames number r taken =
    let e = takes_left old new (Lexeme.Sign sign.Close) taken in
    record {
      levels = suc r.levels;
      deep = omega (arith, r.deep);
      found = r.found ∙ ap (λ lexemes. resume pools r.levels (frame.Parentheses ∷ frames) (Some (tree_in pools number, lexemes))) e;
      passes = λ wants free.
          let outer = places_before pools frames in
          leads_by ((outer ++ []) ++ places_in pools number) (outer ++ places_in pools number) (Want.AnExpr 1 ∷ wants) (wants_behind frames wants) (all first) (all new)
          (ap (λ those. those ++ places_in pools number) (append-nil outer))
          (λ tree.
          r.passes wants free tree
          ∙ ap (course_behind ((outer ++ []) ++ places_in pools number) [])
          (passes_taken (Want.AClose ∷ wants_behind frames wants) old new (Lexeme.Sign sign.Close) taken
          (ap (λ test. if test then Some 10 else None) (behind_is_free frames wants free)) refl refl tree));
      statements = λ many. r.statements many ∙ ap (statements_in many) e;
      made = r.made;
      keeps = r.keeps;
    }

pub parentheses_refused : (first old : Ahead) (before pools : Pools) (frames : List Frame) (number : ℕ) (error : ReadError)
    → IsRead first before (frame.Parentheses ∷ frames) number old pools → old.lexeme ≢ Lexeme.Sign sign.Close
    → ((wants : List Want) → next wants old.lexeme ≡ stuck → cause_of wants old.lexeme ≡ 10 → IsRefusedWith wants (all old) error)
    → (wants : List Want) → is_stuck wants ≡ false → IsRefusedWith (Want.AnExpr 1 ∷ wants) (all first) error
parentheses_refused first old before pools frames number error r other refused wants free =
    refused_later (Want.AnExpr 1 ∷ wants) (Want.AClose ∷ wants_behind frames wants) (all first) (all old) error
    (λ tree. ap (λ course. course.outcome) (r.passes wants free tree)) (refused (Want.AClose ∷ wants_behind frames wants) (close_stuck old.lexeme (wants_behind frames wants) other) refl)

-- a form with one operand
pub one_closes : NodeKeeps → NodeStands → (first old : Ahead) (before pools behind : Pools) (frames : List Frame) (form : OneForm) (at : Position) (of number : ℕ) (node : Node)
    → IsRead first before (frame.One form at ∷ frames) of old pools
    → operands node ≡ of ∷ [] → lists_of node ≡ form_lists form
    → ((pool : List ℤ) (those : List Expr) → expr_of pool those node ≡ one_of pool form (tree_among those of))
    → behind ≡ with_node pools node at → number ≡ length pools.nodes
    → tree_in behind number ≡ expr_of pools.numbers (trees pools.numbers pools.nodes) node
    → IsRead first before frames number old behind
one_closes law place_law first old before pools behind frames form at of number node r names holds expr added numbered tree =
    let keeps = added_keeps law (of ∷ flat_map frame_nodes frames) (form_lists form ++ flat_map frame_lists frames) pools behind node at r.made added in
    let outer = places_before pools frames in
    let stands = node_stands place_law (of ∷ []) (flat_map frame_nodes frames) (form_lists form ++ flat_map frame_lists frames) pools behind node at number
    names added numbered r.made in
    let places = append_assoc outer (at ∷ []) (places_in pools of)
    ∙ ap (λ those. outer ++ (at ∷ those)) (sym (append-nil (places_in pools of)))
    ∙ ap (λ those. outer ++ those) (sym stands)
    ∙ ap (λ those. those ++ places_in behind number) (sym (frames_stay pools behind keeps frames r.made.roots_there.1)) in
    record {
      levels = suc r.levels;
      deep = omega (arith, r.deep);
      found =
          r.found
          ∙ ap (λ value. resume pools (suc r.levels) frames (Some (value, left old))) (sym (tree ∙ expr pools.numbers (trees pools.numbers pools.nodes)))
          ∙ sym (resume_kept pools behind keeps (suc r.levels) frames r.made.roots_there.1
          (all-cut (AreThere pools.numbers) (form_lists form) (flat_map frame_lists frames) r.made.free_lists_there).1 (Some (tree_in behind number, left old)));
      passes = λ wants free.
          leads_by ((outer ++ at ∷ []) ++ places_in pools of) (places_before behind frames ++ places_in behind number) (Want.AnExpr 1 ∷ wants) (wants_behind frames wants)
          (all first) (all old) places (r.passes wants free);
      statements = r.statements;
      made = open_node (of ∷ []) (flat_map frame_nodes frames) (form_lists form) (flat_map frame_lists frames) pools behind node at number names holds added numbered r.made;
      keeps = keeps_on before pools behind r.keeps keeps;
    }

-- the first operand of a form with two
pub first_closes : (first old : Ahead) (before pools : Pools) (frames : List Frame) (form : TwoForm) (at : Position) (number : ℕ)
    → IsRead first before (frame.First form at ∷ frames) number old pools → IsWanted first before (frame.Second form at number ∷ frames) old pools
first_closes first old before pools frames form at number r = record {
  levels = r.levels;
  deep = r.deep;
  found = r.found;
  passes = λ wants free.
      let outer = places_before pools frames in
      leads_by ((outer ++ at ∷ []) ++ places_in pools number) (outer ++ (at ∷ places_in pools number)) (Want.AnExpr 1 ∷ wants)
      (Want.AnExpr (suc (depth_in frames)) ∷ wants_behind frames wants) (all first) (all old) (append_assoc outer (at ∷ []) (places_in pools number)) (r.passes wants free);
  statements = r.statements;
  made = r.made;
  keeps = r.keeps;
}

-- the second
pub two_closes : NodeKeeps → NodeStands → (first old : Ahead) (before pools behind : Pools) (frames : List Frame) (form : TwoForm) (at : Position) (operand right number : ℕ) (node : Node)
    → IsRead first before (frame.Second form at operand ∷ frames) right old pools
    → operands node ≡ operand ∷ right ∷ [] → lists_of node ≡ []
    → ((pool : List ℤ) (those : List Expr) → expr_of pool those node ≡ two_of form (tree_among those operand) (tree_among those right))
    → behind ≡ with_node pools node at → number ≡ length pools.nodes
    → tree_in behind number ≡ expr_of pools.numbers (trees pools.numbers pools.nodes) node
    → IsRead first before frames number old behind
two_closes law place_law first old before pools behind frames form at operand right number node r names holds expr added numbered tree =
    let made = open_exchanged operand right (flat_map frame_nodes frames) (flat_map frame_lists frames) pools r.made in
    let keeps = added_keeps law (operand ∷ right ∷ flat_map frame_nodes frames) (flat_map frame_lists frames) pools behind node at made added in
    let outer = places_before pools frames in
    let stands = node_stands place_law (operand ∷ right ∷ []) (flat_map frame_nodes frames) (flat_map frame_lists frames) pools behind node at number
    names added numbered made in
    let places = append_assoc outer (at ∷ places_in pools operand) (places_in pools right)
    ∙ ap (λ those. outer ++ (at ∷ (places_in pools operand ++ those))) (sym (append-nil (places_in pools right)))
    ∙ ap (λ those. outer ++ those) (sym stands)
    ∙ ap (λ those. those ++ places_in behind number) (sym (frames_stay pools behind keeps frames r.made.roots_there.1.1)) in
    record {
      levels = suc r.levels;
      deep = omega (arith, r.deep);
      found =
          r.found
          ∙ ap (λ value. resume pools (suc r.levels) frames (Some (value, left old))) (sym (tree ∙ expr pools.numbers (trees pools.numbers pools.nodes)))
          ∙ sym (resume_kept pools behind keeps (suc r.levels) frames r.made.roots_there.1.1 r.made.free_lists_there (Some (tree_in behind number, left old)));
      passes = λ wants free.
          leads_by ((outer ++ (at ∷ places_in pools operand)) ++ places_in pools right) (places_before behind frames ++ places_in behind number)
          (Want.AnExpr 1 ∷ wants) (wants_behind frames wants) (all first) (all old) places (r.passes wants free);
      statements = r.statements;
      made = open_node (operand ∷ right ∷ []) (flat_map frame_nodes frames) [] (flat_map frame_lists frames) pools behind node at number names holds added numbered made;
      keeps = keeps_on before pools behind r.keeps keeps;
    }
