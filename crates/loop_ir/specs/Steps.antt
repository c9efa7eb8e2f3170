-- Nests as trees: lists of steps, in which loops and choices hold the lists that they do. This project's own.
use Rattle.std.specs.Prelude.{ℕ, ℤ}
use Rattle.moa_tree.specs.declared.operator.Op.{Op}
use Rattle.moa_tree.specs.declared.operator.Unary.{Unary}

-- a step that does no list: numbers of registers and of places, values and words
pub data Action : Type 0 where
  Set : (to : ℕ) → (value : ℤ) → Action
  Copy : (to from : ℕ) → Action
  One : (op : Unary) → (to from : ℕ) → Action
  Two : (op : Op) → (to left right : ℕ) → Action
  Place : (to : ℕ) → (word : ℤ) → Action
  Spot : (to : ℕ) → (word : ℤ) → (by : ℕ) → Action
  Walk : (place : ℕ) → (words : ℤ) → Action
  Read : (to area place : ℕ) → Action
  Write : (area place from : ℕ) → Action

-- a list of steps: its end, or a step and the rest
pub data Steps : Type 0 where
  End : Steps
  Then : Action → Steps → Steps
  For : (counter turns : ℕ) → (body rest : Steps) → Steps
  If : (left : ℕ) → (below : ℤ) → (one other rest : Steps) → Steps

-- one list behind another
abbrev pub joined : Steps → Steps → Steps
joined End others = others
joined (Then action rest) others = Then action (joined rest others)
joined (For counter turns body rest) others = For counter turns body (joined rest others)
joined (If left below one other rest) others = If left below one other (joined rest others)
