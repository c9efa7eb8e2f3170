-- What keeps its meaning while nodes and numbers are added.
use Rattle.std.specs.Prelude.{◌≡◌, ℕ, suc, ◌<◌, List, [], ◌∷◌, ◌++◌, length, map, slice_index_or, All}
use Rattle.std.specs.List.{flat_map}
use Rattle.std.specs.declared.option.Option.TheVariants.{None, Some}
use Rattle.std.proofs.Common.{refl, ap, sym, ◌∙◌, arith}
use Rattle.std.proofs.lemmas.Grind.{flat_map-append}
use Rattle.std.proofs.lemmas.List.{append-nil, map-append}
use Rattle.text_tokens.specs.Tokens.{start}
use Rattle.moa_tree.specs.declared.tree.Numbers.{Numbers}
use Rattle.moa_tree.specs.declared.tree.Statement.{Statement}
use Rattle.moa_tree.specs.declared.tree.Statement.TheVariants as statement
use Rattle.moa_tree.specs.declared.tree.Version.{Version}
use Rattle.moa_tree.specs.Expr.{Expr, Item, Input, Let, Output, Psi, Take, Drop, Permute, Reshape, Tree}
use Rattle.moa_tree.specs.Pool.{item_of, trees, walk_of}
use Rattle.moa_tree.specs.Pools.{AreThere, Pools, extents_of, nodes_of, tree_of, walk}
use Rattle.moa_tree.specs.Positions.{positions_at}
use Rattle.moa_tree.specs.Trees.{Found}
use Rattle.moa_reader.specs.declared.forms.OneForm.{OneForm}
use Rattle.moa_reader.specs.declared.forms.OneForm.TheVariants as one
use Rattle.moa_reader.specs.declared.frames.Frame.{Frame}
use Rattle.moa_reader.specs.declared.frames.Frame.TheVariants as frame
use Rattle.moa_reader.specs.Build.{IsOpen, Keeps, with_statement}
use Rattle.moa_reader.specs.Forms.{form_lists, one_of, two_of}
use Rattle.moa_reader.specs.Frames.{frame_lists, frame_nodes, frame_places, places_before, resume, resume_one}
use Rattle.moa_reader.specs.Statements.{followed_by}
use Rattle.moa_reader.proofs.BuildLemmas.{AllBelow, AllThere}
use Rattle.moa_reader.proofs.CountLemmas.{all-cut, all-parts}

pub keeps_itself : (pools : Pools) → Keeps pools pools
keeps_itself pools = record {
  version = refl;
  nodes_longer = omega arith;
  numbers_longer = omega arith;
  statements = refl;
  lists = λ list there. refl;
  trees = λ number within. refl;
  stand = λ number within. refl;
}

pub keeps_on : (first second third : Pools) → Keeps first second → Keeps second third → Keeps first third
keeps_on first second third h k = record {
  version = k.version ∙ h.version;
  nodes_longer = omega (arith, h.nodes_longer, k.nodes_longer);
  numbers_longer = omega (arith, h.numbers_longer, k.numbers_longer);
  statements = k.statements ∙ h.statements;
  lists = λ list there. k.lists list (omega (arith, there, h.numbers_longer)) ∙ h.lists list there;
  trees = λ number within. k.trees number (omega (arith, within, h.nodes_longer)) ∙ h.trees number within;
  stand = λ number within. k.stand number (omega (arith, within, h.nodes_longer)) ∙ h.stand number within;
}

abbrev tree_with : Version → List Item → Tree
tree_with version items = record { version = version; statements = items }

-- a statement more: its item, and the positions of its nodes
pub statement_tree : (pools : Pools) (s : Statement)
    → tree_of (with_statement pools s) ≡ followed_by (tree_of pools) (item_of pools.numbers (trees pools.numbers pools.nodes) s ∷ [])
statement_tree pools s =
    ap (tree_with pools.version) (map-append (item_of pools.numbers (trees pools.numbers pools.nodes)) pools.statements (s ∷ []))

pub statement_positions : (pools : Pools) (s : Statement)
    → positions_at pools.positions (walk (with_statement pools s))
    ≡ positions_at pools.positions (walk pools) ++ positions_at pools.positions (flat_map (walk_of pools.nodes) (nodes_of s))
statement_positions pools s =
    let before = flat_map nodes_of pools.statements in
    ap (λ numbers. positions_at pools.positions (flat_map (walk_of pools.nodes) numbers))
    (flat_map-append nodes_of pools.statements (s ∷ []) ∙ ap (λ numbers. before ++ numbers) (append-nil (nodes_of s)))
    ∙ ap (positions_at pools.positions) (flat_map-append (walk_of pools.nodes) before (nodes_of s))
    ∙ map-append (λ k. slice_index_or pools.positions k start) (walk pools) (flat_map (walk_of pools.nodes) (nodes_of s))

module _ (old new : Pools) (h : Keeps old new) where
  item_kept : (s : Statement) → AllThere old.numbers (extents_of s) → AllBelow (length old.nodes) (nodes_of s)
      → item_of new.numbers (trees new.numbers new.nodes) s ≡ item_of old.numbers (trees old.numbers old.nodes) s
  item_kept (statement.Input name extents at) there within = ap (Input name) (h.lists extents there.0)
  item_kept (statement.Name name number at) there within = ap (Let name) (h.trees number within.0)
  item_kept (statement.Output name number at) there within = ap (Output name) (h.trees number within.0)

  items_kept : (statements : List Statement) → All (λ s. AllThere old.numbers (extents_of s)) statements → All (λ s. AllBelow (length old.nodes) (nodes_of s)) statements
      → map (item_of new.numbers (trees new.numbers new.nodes)) statements ≡ map (item_of old.numbers (trees old.numbers old.nodes)) statements
  items_kept [] there within = refl
  items_kept (first ∷ others) there within =
      ap (λ item. item ∷ map (item_of new.numbers (trees new.numbers new.nodes)) others) (item_kept first (there 0 first (omega arith)) (within 0 first (omega arith)))
      ∙ ap (λ items. item_of old.numbers (trees old.numbers old.nodes) first ∷ items)
      (items_kept others (λ k d below. there (suc k) d (omega (arith, below))) (λ k d below. within (suc k) d (omega (arith, below))))

  -- the version, and the statements that were there
  pub program_kept : (roots : List ℕ) (lists : List Numbers) → IsOpen roots lists old → tree_of new ≡ tree_of old
  program_kept roots lists made =
      ap (tree_with new.version)
      (ap (map (item_of new.numbers (trees new.numbers new.nodes))) h.statements ∙ items_kept old.statements made.extents_there made.nodes_there)
      ∙ ap (λ version. tree_with version (tree_of old).statements) h.version

  walks_kept : (numbers : List ℕ) → AllBelow (length old.nodes) numbers
      → positions_at new.positions (flat_map (walk_of new.nodes) numbers) ≡ positions_at old.positions (flat_map (walk_of old.nodes) numbers)
  walks_kept [] within = refl
  walks_kept (number ∷ numbers) within =
      map-append (λ k. slice_index_or new.positions k start) (walk_of new.nodes number) (flat_map (walk_of new.nodes) numbers)
      ∙ ap (λ those. those ++ positions_at new.positions (flat_map (walk_of new.nodes) numbers)) (h.stand number within.0)
      ∙ ap (λ those. positions_at old.positions (walk_of old.nodes number) ++ those) (walks_kept numbers within.1)
      ∙ sym (map-append (λ k. slice_index_or old.positions k start) (walk_of old.nodes number) (flat_map (walk_of old.nodes) numbers))

  -- and their positions
  pub positions_kept : (roots : List ℕ) (lists : List Numbers) → IsOpen roots lists old → positions_at new.positions (walk new) ≡ positions_at old.positions (walk old)
  positions_kept roots lists made =
      ap (λ statements. positions_at new.positions (flat_map (walk_of new.nodes) (flat_map nodes_of statements))) h.statements
      ∙ walks_kept (flat_map nodes_of old.statements) (all-parts (λ number. number < length old.nodes) nodes_of old.statements made.nodes_there)

  one_kept : (form : OneForm) → AllThere old.numbers (form_lists form) → (of : Expr) → one_of new.numbers form of ≡ one_of old.numbers form of
  one_kept (one.Psi list) there of = ap (λ values. Psi values of) (h.lists list there.0)
  one_kept (one.Take list) there of = ap (λ values. Take values of) (h.lists list there.0)
  one_kept (one.Drop list) there of = ap (λ values. Drop values of) (h.lists list there.0)
  one_kept (one.Permute list) there of = ap (λ values. Permute values of) (h.lists list there.0)
  one_kept (one.Reshape list) there of = ap (λ values. Reshape values of) (h.lists list there.0)
  one_kept _ there of = refl

  frame_kept : (levels : ℕ) (form : Frame) → AllBelow (length old.nodes) (frame_nodes form) → AllThere old.numbers (frame_lists form)
      → (found : Found Expr) → resume_one new levels form found ≡ resume_one old levels form found
  frame_kept levels (frame.One form at) within there None = refl
  frame_kept levels (frame.One form at) within there (Some found) = ap (λ expr. Some (expr, found.1)) (one_kept form there found.0)
  frame_kept levels (frame.Second form at left) within there None = refl
  frame_kept levels (frame.Second form at left) within there (Some found) = ap (λ expr. Some (two_of form expr found.0, found.1)) (h.trees left within.0)
  frame_kept levels frame.Parentheses within there found = refl
  frame_kept levels (frame.First form at) within there found = refl

  -- what forms that have begun make of an expression
  pub resume_kept : (levels : ℕ) (frames : List Frame) → AllBelow (length old.nodes) (flat_map frame_nodes frames) → AllThere old.numbers (flat_map frame_lists frames)
      → (found : Found Expr) → resume new levels frames found ≡ resume old levels frames found
  resume_kept levels [] within there found = refl
  resume_kept levels (first ∷ others) within there found =
      let nodes = all-cut (λ number. number < length old.nodes) (frame_nodes first) (flat_map frame_nodes others) within in
      let lists = all-cut (AreThere old.numbers) (frame_lists first) (flat_map frame_lists others) there in
      ap (resume new (suc levels) others) (frame_kept levels first nodes.0 lists.0 found)
      ∙ resume_kept (suc levels) others nodes.1 lists.1 (resume_one old levels first found)

  frame_stays : (form : Frame) → AllBelow (length old.nodes) (frame_nodes form) → frame_places new form ≡ frame_places old form
  frame_stays frame.Parentheses within = refl
  frame_stays (frame.One form at) within = refl
  frame_stays (frame.First form at) within = refl
  frame_stays (frame.Second form at left) within = ap (λ places. at ∷ places) (h.stand left within.0)

  -- and where its expressions stand
  pub frames_stay : (frames : List Frame) → AllBelow (length old.nodes) (flat_map frame_nodes frames) → places_before new frames ≡ places_before old frames
  frames_stay [] within = refl
  frames_stay (first ∷ others) within =
      let nodes = all-cut (λ number. number < length old.nodes) (frame_nodes first) (flat_map frame_nodes others) within in
      ap (λ places. places ++ frame_places new first) (frames_stay others nodes.1)
      ∙ ap (λ places. places_before old others ++ places) (frame_stays first nodes.0)
