-- Where an expression that is being read stands. This project's own.
use Rattle.std.specs.Prelude.{◌≡◌, ℕ, ◌+◌, false, List, [], ◌∷◌, ◌++◌, length}
use Rattle.std.specs.List.{flat_map}
use Rattle.std.specs.declared.option.Option.TheVariants.{Some}
use Rattle.moa_tree.specs.Expected.{Want}
use Rattle.moa_tree.specs.Outcome.{is_stuck}
use Rattle.moa_tree.specs.Pools.{Pools}
use Rattle.moa_tree.specs.Readings.{deepest}
use Rattle.moa_tree.specs.Trees.{expr_at, statements_in}
use Rattle.moa_reader.specs.declared.frames.Frame.{Frame}
use Rattle.moa_reader.specs.declared.heads.Head.{Head}
use Rattle.moa_reader.specs.declared.heads.Head.TheVariants as head
use Rattle.moa_reader.specs.Build.{IsOpen, Keeps}
use Rattle.moa_reader.specs.Frames.{depth_in, frame_lists, frame_nodes, places_before, places_in, resume, tree_in, wants_behind}
use Rattle.moa_reader.specs.Outcomes.{Leads}
use Rattle.moa_reader.specs.Sources.{Ahead, all, left}

-- An expression began at the first place of a text, with pools before it. These forms have begun in it, and the next operand is wanted here.
pub record IsWanted (first : Ahead) (before : Pools) (frames : List Frame) (here : Ahead) (pools : Pools) : Type 0 where
  -- how many levels the operand has
  pub levels : ℕ
  pub deep : levels + length frames ≡ deepest
  pub found : expr_at deepest (left first) ≡ resume pools levels frames (expr_at levels (left here))
  pub passes : (wants : List Want) → is_stuck wants ≡ false
      → Leads (places_before pools frames) [] (Want.AnExpr 1 ∷ wants) (all first) (Want.AnExpr (depth_in frames) ∷ wants_behind frames wants) (all here)
  pub statements : (many : ℕ) → statements_in many (left first) ≡ statements_in many (left here)
  pub made : IsOpen (flat_map frame_nodes frames) (flat_map frame_lists frames) pools
  pub keeps : Keeps before pools

-- the same where the operand was read, which is this node
pub record IsRead (first : Ahead) (before : Pools) (frames : List Frame) (number : ℕ) (here : Ahead) (pools : Pools) : Type 0 where
  pub levels : ℕ
  pub deep : levels + length frames ≡ deepest
  pub found : expr_at deepest (left first) ≡ resume pools levels frames (Some (tree_in pools number, left here))
  pub passes : (wants : List Want) → is_stuck wants ≡ false
      → Leads (places_before pools frames ++ places_in pools number) [] (Want.AnExpr 1 ∷ wants) (all first) (wants_behind frames wants) (all here)
  pub statements : (many : ℕ) → statements_in many (left first) ≡ statements_in many (left here)
  pub made : IsOpen (number ∷ flat_map frame_nodes frames) (flat_map frame_lists frames) pools
  pub keeps : Keeps before pools

-- the operand is whole, or a form more has begun
abbrev pub Stands : Ahead → Pools → List Frame → Head → Ahead → Pools → Type 0
Stands first before frames (head.Whole number) here pools = IsRead first before frames number here pools
Stands first before frames (head.Begun frame) here pools = IsWanted first before (frame ∷ frames) here pools
