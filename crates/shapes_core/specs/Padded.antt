-- Lists in arrays of one size. This project's own.
use Rattle.std.specs.Prelude.{ℕ, ◌-◌, ◌≡◌, ◌≤◌, List, ◌++◌, length, take, replicate}

-- the list, filled with one item up to a size
abbrev pub padded : {X : Type 0} → X → ℕ → List X → List X
padded other size list = list ++ replicate (size - length list) other

-- an array of a size, of which the first `count` places are in use and the others hold one item
pub record IsPadded {X : Type 0} (other : X) (size : ℕ) (array : List X) (count : ℕ) : Type 0 where
  pub within : count ≤ size
  pub counted : length (take count array) ≡ count
  pub filled : padded other size (take count array) ≡ array
