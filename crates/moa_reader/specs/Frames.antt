-- What the forms that have begun make of the expression that is read next. This project's own.
use Rattle.std.specs.Prelude.{ℕ, suc, List, [], ◌∷◌, ◌++◌, length}
use Rattle.std.specs.declared.option.Option.TheVariants.{Some}
use Rattle.text_tokens.specs.declared.token.Position.{Position}
use Rattle.moa_tree.specs.declared.tree.Numbers.{Numbers}
use Rattle.moa_tree.specs.Expected.{Want}
use Rattle.moa_tree.specs.Expr.{Expr}
use Rattle.moa_tree.specs.Pool.{tree_at, trees, walk_of}
use Rattle.moa_tree.specs.Pools.{Pools}
use Rattle.moa_tree.specs.Positions.{positions_at}
use Rattle.moa_tree.specs.Trees.{Found, and_then, close_at, expr_at, one_at}
use Rattle.moa_reader.specs.declared.frames.Frame.{Frame}
use Rattle.moa_reader.specs.declared.frames.Frame.TheVariants as frame
use Rattle.moa_reader.specs.Forms.{form_lists, one_of, two_of}

-- the tree of a node in its pools
abbrev pub tree_in : Pools → ℕ → Expr
tree_in pools number = tree_at (trees pools.numbers pools.nodes) number

-- the positions of a node and of those under it, in prefix order
abbrev pub places_in : Pools → ℕ → List Position
places_in pools number = positions_at pools.positions (walk_of pools.nodes number)

-- what is found where a form has begun, once its next operand is found: operands have so many levels
abbrev pub resume_one : Pools → ℕ → Frame → Found Expr → Found Expr
resume_one pools levels frame.Parentheses found = and_then found close_at
resume_one pools levels (frame.One form at) found = and_then found (λ of behind. Some (one_of pools.numbers form of, behind))
resume_one pools levels (frame.First form at) found = and_then found (λ left behind. one_at (expr_at levels) (two_of form left) behind)
resume_one pools levels (frame.Second form at left) found = and_then found (λ right behind. Some (two_of form (tree_in pools left) right, behind))

-- the same for forms in one another
abbrev pub resume : Pools → ℕ → List Frame → Found Expr → Found Expr
resume pools levels [] found = found
resume pools levels (frame ∷ frames) found = resume pools (suc levels) frames (resume_one pools levels frame found)

-- what a form wants behind its next operand, which stands at this depth
abbrev pub wants_of : ℕ → Frame → List Want → List Want
wants_of depth frame.Parentheses wants = Want.AClose ∷ wants
wants_of depth (frame.One form at) wants = wants
wants_of depth (frame.First form at) wants = Want.AnExpr depth ∷ wants
wants_of depth (frame.Second form at left) wants = wants

-- the depth of the next operand
abbrev pub depth_in : List Frame → ℕ
depth_in frames = suc (length frames)

-- what forms in one another want behind the next operand
abbrev pub wants_behind : List Frame → List Want → List Want
wants_behind [] wants = wants
wants_behind (frame ∷ frames) wants = wants_of (suc (depth_in frames)) frame (wants_behind frames wants)

-- the list of a form that has begun, and the node
abbrev pub frame_lists : Frame → List Numbers
frame_lists (frame.One form at) = form_lists form
frame_lists _ = []

abbrev pub frame_nodes : Frame → List ℕ
frame_nodes (frame.Second form at left) = left ∷ []
frame_nodes _ = []

-- where the expressions stand that a form has so far: its own, and those of its first operand
abbrev pub frame_places : Pools → Frame → List Position
frame_places pools frame.Parentheses = []
frame_places pools (frame.One form at) = at ∷ []
frame_places pools (frame.First form at) = at ∷ []
frame_places pools (frame.Second form at left) = at ∷ places_in pools left

-- the same of forms in one another, from the outermost on
abbrev pub places_before : Pools → List Frame → List Position
places_before pools [] = []
places_before pools (frame ∷ frames) = places_before pools frames ++ frame_places pools frame
