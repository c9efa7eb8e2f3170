-- Operands as they are separated. This project's own.
use Rattle.std.specs.Prelude.{◌≡◌, ℕ, ◌<◌, List, [], ◌∷◌, length}
use Rattle.rv_reader.specs.declared.split.Operands.{Operands}
use Rattle.rv_reader.specs.declared.split.Operands.TheVariants as operands

-- these are the operands, or there are more than three
abbrev pub AreSplit : Operands → List (List ℕ) → Type 0
AreSplit operands.Zero list = list ≡ []
AreSplit (operands.One one) list = list ≡ one.now ∷ []
AreSplit (operands.Two one two) list = list ≡ one.now ∷ two.now ∷ []
AreSplit (operands.Three one two three) list = list ≡ one.now ∷ two.now ∷ three.now ∷ []
AreSplit operands.More list = 3 < length list
