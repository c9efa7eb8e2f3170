-- The parts of messages, one after another.
use Rattle.std.proofs.Common.{◌≡◌, ℕ, List, ◌++◌, append_assoc, arith}
use Rattle.std.proofs.lemmas.Grind.{common_steps}

-- a text in four parts
pub in-four : (a b c d : List ℕ) → a ++ (b ++ (c ++ d)) ≡ a ++ b ++ c ++ d
in-four a b c d = grind (arith, common_steps, append_assoc)

-- a text in five parts, of which the first four stand together
pub in-five : (a b c d e : List ℕ) → a ++ (b ++ (c ++ (d ++ e))) ≡ a ++ (b ++ (c ++ d)) ++ e
in-five a b c d e = grind (arith, common_steps, append_assoc)
