-- The codes of the registers and places that nests name. This project's own.
use Rattle.std.specs.Prelude.{◌≡◌, ℕ, suc, ◌≤◌, ⊤, ◌==◌, ◌||◌, Bool, List, [], ◌∷◌, ◌++◌, map, is_some}
use Rattle.std.specs.BTreeMap.{is_at}
use Rattle.std.specs.List.{list_any}
use Rattle.std.specs.Map.{lookup}
use Rattle.std.specs.Ordering.{nat_cmp}
use Rattle.loop_ir.specs.Costs.{named}
use Rattle.loop_ir.specs.Running.{Register}
use Rattle.loop_ir.specs.Steps.{Steps, End, Then, For, If}
use Rattle.register_map.specs.Homes.{code}

-- the codes that steps name, with those that they name more than once
abbrev pub codes_of : Steps → List ℕ
codes_of End = []
codes_of (Then action rest) = map code (named action) ++ codes_of rest
codes_of (For counter turns body rest) = code (Register counter) ∷ (codes_of body ++ codes_of rest)
codes_of (If left below one other rest) = code (Register left) ∷ (codes_of one ++ (codes_of other ++ codes_of rest))

-- whether a code is among others
abbrev pub is_among : List ℕ → ℕ → Bool
is_among codes code = list_any (λ other. other == code) codes

-- whether a code has a weight
abbrev pub has_weight : List (ℕ × ℕ) → ℕ → Bool
has_weight weights code = is_some (lookup (is_at (nat_cmp code)) weights)

-- these codes have weights too
abbrev pub Weighs : List ℕ → List (ℕ × ℕ) → List (ℕ × ℕ) → Type 0
Weighs codes old new = (code : ℕ) → has_weight new code ≡ (is_among codes code || has_weight old code)

-- each number is above those before it, and the first is at least this
abbrev pub IsRising : ℕ → List ℕ → Type 0
IsRising low [] = ⊤
IsRising low (number ∷ numbers) = (low ≤ number) × IsRising (suc number) numbers
