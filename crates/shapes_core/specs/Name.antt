-- Names of arrays. This project's own.
use Rattle.std.specs.Prelude.{ℕ, Bool, false, ◌&&◌, ◌||◌, ◌==◌, nat_le, IsTrue, List, [], ◌∷◌, length}
use Rattle.std.specs.List.{list_all}

-- a letter of ASCII, A to Z or a to z
abbrev pub is_letter : ℕ → Bool
is_letter byte = (nat_le 65 byte && nat_le byte 90) || (nat_le 97 byte && nat_le byte 122)

-- a decimal digit of ASCII
abbrev pub is_digit : ℕ → Bool
is_digit byte = nat_le 48 byte && nat_le byte 57

-- what a name goes on with: a letter, a digit or `_`
abbrev pub is_name_byte : ℕ → Bool
is_name_byte byte = is_letter byte || is_digit byte || byte == 95

-- a letter, followed by at most 63 letters, digits or `_`
abbrev pub is_name : List ℕ → Bool
is_name [] = false
is_name (first ∷ others) = is_letter first && list_all is_name_byte others && nat_le (length others) 63

abbrev pub IsName : List ℕ → Type 0
IsName bytes = IsTrue (is_name bytes)
