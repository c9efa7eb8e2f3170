-- How long a name is.
use Rattle.std.proofs.Common.{ℕ, ◌≤◌, List, [], ◌∷◌, length, arith}
use Rattle.std.proofs.lemmas.Bool.Decides.{nat_tests}
use Rattle.shapes_core.specs.Name.{IsName}

-- a name has at most 64 bytes
pub length-IsName : (bytes : List ℕ) → IsName bytes → length bytes ≤ 64
length-IsName [] h = omega arith
length-IsName (first ∷ others) h = grind (arith, nat_tests)
