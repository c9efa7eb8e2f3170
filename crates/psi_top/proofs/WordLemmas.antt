-- The words for numbers that are none of a rule.
use Rattle.std.proofs.Common.{◌≡◌, ℕ, zero, suc, ◌<◌, ◌≤◌, List, [], ◌∷◌, length, refl, sym, arith}
use Rattle.std.specs.Prelude.{slice_index_or}
use Rattle.psi_top.specs.Line.{rule_words, rules}

past : (words : List (List ℕ)) (place : ℕ) → length words ≤ place → slice_index_or words place [] ≡ []
past [] place h = refl
past (first ∷ words) zero h = absurd (omega (arith, h))
past (first ∷ words) (suc place) h = past words place (omega (arith, h))

-- below 1 and above 24 there are no words
pub no_rule_below : (rule : ℕ) → rule < 1 → [] ≡ rule_words rule
unfolding rule_words
no_rule_below zero h = refl
no_rule_below (suc before) h = absurd (omega (arith, h))

pub no_rule_above : (rule : ℕ) → 25 ≤ rule → [] ≡ rule_words rule
unfolding rule_words
no_rule_above zero h = absurd (omega (arith, h))
no_rule_above (suc before) h = sym (past rules before (omega (arith, h)))
