-- Homes in the order of codes: machine registers to those that are marked, spill words to the others. This project's own.
use Rattle.std.specs.Prelude.{ℕ, suc, ◌+◌, ◌==◌, List, [], ◌∷◌, Option, None, Some, nat_lt, position, if◌then◌else◌}
use Rattle.std.specs.Option.{option_and_then}
use Rattle.register_map.specs.declared.home.Home.{Home}
use Rattle.register_map.specs.declared.home.Home.TheVariants as home
use Rattle.register_map.specs.Homes.{Given}

-- the machine registers that are given, by their places among the ten: x5 to x7, and then x11 to x17
abbrev pub register_at : ℕ → Option ℕ
register_at place = if nat_lt place 3 then Some (place + 5) else (if nat_lt place 10 then Some (place + 8) else None)

-- the machine register of a code, by its place among those that get one
abbrev pub mark : List ℕ → ℕ → Option ℕ
mark marked code = option_and_then register_at (position (λ other. other == code) marked)

-- the home of a code with this mark, where this is the next spill word, and the next one behind it
abbrev pub home_for : Option ℕ → ℕ → Home
home_for (Some number) word = home.Register number
home_for None word = home.Spill word

abbrev pub word_behind : Option ℕ → ℕ → ℕ
word_behind (Some number) word = word
word_behind None word = suc word

-- the homes of codes, and the next spill word behind them
abbrev pub assigned : (ℕ → Option ℕ) → ℕ → List ℕ → List (ℕ × Home)
assigned marks word [] = []
assigned marks word (code ∷ codes) = (code, home_for (marks code) word) ∷ assigned marks (word_behind (marks code) word) codes

abbrev pub words_behind : (ℕ → Option ℕ) → ℕ → List ℕ → ℕ
words_behind marks word [] = word
words_behind marks word (code ∷ codes) = words_behind marks (word_behind (marks code) word) codes

abbrev pub given_to : List ℕ → List ℕ → Given
given_to marked codes = record { homes = assigned (mark marked) 0 codes; spill = words_behind (mark marked) 0 codes }
