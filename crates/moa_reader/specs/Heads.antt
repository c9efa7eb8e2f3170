-- What an expression begins with: all of it, or a form whose operand comes next. This project's own.
use Rattle.std.specs.Prelude.{◌≡◌, ℕ, suc, ◌+◌, ◌≤◌, Bool, true, false, List, [], ◌∷◌, length}
use Rattle.std.specs.declared.option.Option.TheVariants.{Some}
use Rattle.text_tokens.specs.declared.token.Position.{Position}
use Rattle.text_tokens.specs.declared.token.Sign.TheVariants as sign
use Rattle.moa_tree.specs.declared.tree.Node.{Node}
use Rattle.moa_tree.specs.declared.tree.Numbers.{Numbers}
use Rattle.moa_tree.specs.Expected.{Want, on_expr}
use Rattle.moa_tree.specs.Outcome.{is_stuck}
use Rattle.moa_tree.specs.Pool.{list_at, operands}
use Rattle.moa_tree.specs.Pools.{Pools, lists_of}
use Rattle.moa_tree.specs.Trees.{expr_at, form_at, statements_in}
use Rattle.moa_tree.specs.Vocabulary.{Lexeme}
use Rattle.moa_reader.specs.declared.frames.Frame.{Frame}
use Rattle.moa_reader.specs.declared.heads.Head.{Head}
use Rattle.moa_reader.specs.declared.heads.Head.TheVariants as head
use Rattle.moa_reader.specs.Build.{with_node, with_numbers}
use Rattle.moa_reader.specs.Frames.{frame_lists, frame_nodes, frame_places, resume_one, tree_in, wants_of}
use Rattle.moa_reader.specs.Outcomes.{Passes}
use Rattle.moa_reader.specs.Sources.{Ahead, Takes, all, left}

-- whether an expression may begin with the lexeme
abbrev pub begins : Lexeme → Bool
begins (Lexeme.Number value) = true
begins (Lexeme.Name name) = true
begins Lexeme.Iota = true
begins (Lexeme.Sign sign.Open) = true
begins (Lexeme.Unary op) = true
begins (Lexeme.Binary op) = true
begins Lexeme.Psi = true
begins Lexeme.Take = true
begins Lexeme.Drop = true
begins Lexeme.Permute = true
begins Lexeme.Reshape = true
begins Lexeme.Reverse = true
begins Lexeme.Transpose = true
begins Lexeme.Ravel = true
begins Lexeme.Rotate = true
begins Lexeme.Cat = true
begins Lexeme.Outer = true
begins Lexeme.Inner = true
begins Lexeme.Reduce = true
begins Lexeme.Scan = true
begins _ = false

-- where an expression stands that begins with this lexeme: parentheses have no position of their own
abbrev pub place_of : Lexeme → Position → List Position
place_of (Lexeme.Sign sign.Open) at = []
place_of lexeme at = at ∷ []

-- a node without operands and lists is added, which stands here
pub record AddsLeaf (before : Pools) (number : ℕ) (at : Position) (behind : Pools) : Type 0 where
  pub node : Node
  pub added : behind ≡ with_node before node at
  pub numbered : number ≡ length before.nodes
  pub alone : operands node ≡ []
  pub without_list : lists_of node ≡ []

-- the numbers of the one list are added, or none
abbrev pub AddsList : Pools → List Numbers → Pools → Type 0
AddsList before [] behind = behind ≡ before
AddsList before (list ∷ []) behind =
    (behind ≡ with_numbers before (list_at behind.numbers list)) × (list.start ≡ length before.numbers)
    × (list.start + list.count ≡ length behind.numbers)
AddsList before _ behind = ⊥

-- behind this lexeme, which stands here, lexemes are passed over that end the expression, which is this node
pub record ReadsWhole (first : Lexeme) (at : Position) (old : Ahead) (before : Pools) (number : ℕ) (new : Ahead) (behind : Pools) : Type 0 where
  pub found : (levels : ℕ) → form_at (expr_at levels) first (left old) ≡ Some (tree_in behind number, left new)
  pub passes : (depth : ℕ) (wants : List Want) → is_stuck wants ≡ false → Passes (on_expr depth wants first) (all old) wants (all new)
  pub statements : (levels : ℕ) → statements_in levels (left old) ≡ statements_in levels (left new)
  pub stands : place_of first at ≡ at ∷ []
  pub adds : AddsLeaf before number at behind
  pub fewer : length new.behind ≤ length old.behind

-- behind this lexeme, which stands here, lexemes are passed over up to the first operand of this form
pub record ReadsFrame (first : Lexeme) (at : Position) (old : Ahead) (before : Pools) (frame : Frame) (new : Ahead) (behind : Pools) : Type 0 where
  pub found : (levels : ℕ) → form_at (expr_at levels) first (left old) ≡ resume_one behind levels frame (expr_at levels (left new))
  pub passes : (depth : ℕ) (wants : List Want) → is_stuck wants ≡ false
      → Passes (on_expr depth wants first) (all old) (Want.AnExpr (suc depth) ∷ wants_of (suc depth) frame wants) (all new)
  pub statements : (levels : ℕ) → statements_in levels (left old) ≡ statements_in levels (left new)
  pub stands : place_of first at ≡ frame_places behind frame
  pub adds : AddsList before (frame_lists frame) behind
  pub fresh : frame_nodes frame ≡ []
  pub fewer : length new.behind ≤ length old.behind

abbrev pub ReadsHead : Lexeme → Position → Ahead → Pools → Head → Ahead → Pools → Type 0
ReadsHead first at old before (head.Whole number) new behind = ReadsWhole first at old before number new behind
ReadsHead first at old before (head.Begun frame) new behind = ReadsFrame first at old before frame new behind

-- an expression begins here, with this lexeme
pub record Begins (old : Ahead) (before : Pools) (head : Head) (new : Ahead) (behind : Pools) : Type 0 where
  pub first : Lexeme
  pub middle : Ahead
  pub taken : Takes old first middle
  pub may_begin : begins first ≡ true
  pub reads : ReadsHead first old.at middle before head new behind
