-- Whole numbers as words. A pointer may stand before the address 0 or behind the last one, and wraps. This project's own.
use Rattle.std.specs.Prelude.{ℕ, suc, ◌-◌, ◌%◌, ◌^◌, ℤ, pos, negsuc}

-- the residue of a whole number, from 0 to below the modulus
abbrev pub residue : ℕ → ℤ → ℕ
residue modulus (pos n) = n % modulus
residue modulus (negsuc n) = modulus - suc (n % modulus)

-- a whole number as a word: modulo 2^64
abbrev pub wrapped : ℤ → ℕ
wrapped z = residue (2 ^ 64) z
