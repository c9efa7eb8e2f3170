-- The bytes that a sink tells that it holds, before and after a call. This project's own.
use Rattle.std.specs.Prelude.{ℕ, ◌≡◌, ◌≤◌, ◌++◌, List, length, take, Option, Result, MatchResult}
use Rattle.std.specs.Option.{option_map}

-- the sink, where it tells what it holds, holds these bytes more
abbrev pub Appends : Option (List ℕ) → Option (List ℕ) → List ℕ → Type 0
Appends before now bytes = now ≡ option_map (λ held. held ++ bytes) before

-- it holds a front of these bytes more
abbrev pub AppendsFront : Option (List ℕ) → Option (List ℕ) → List ℕ → Type 0
AppendsFront before now bytes = (count : ℕ) × (count ≤ length bytes) × Appends before now (take count bytes)

-- what a put does to what the sink tells: the front that was taken is appended, and a failed put changes nothing
abbrev pub Puts : {E : Type 0} → Result ℕ E → Option (List ℕ) → Option (List ℕ) → List ℕ → Type 0
Puts result before now bytes = MatchResult result (λ count. Appends before now (take count bytes)) (λ _. now ≡ before)
