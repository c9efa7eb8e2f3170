-- The greatest numbers that a shape, a program and a block may have: this project's own. Each is named here alone.
use Rattle.std.specs.Prelude.{ℕ}

-- axes of a shape
abbrev pub most_axes : ℕ
most_axes = 6

-- an extent, and a span: the product of the extents with each 0 taken as 1
abbrev pub greatest_extent : ℕ
greatest_extent = 16777216

-- the size of a program: its expressions, with those of each name counted again wherever it is used
abbrev pub greatest_size : ℕ
greatest_size = 1024

-- the work of a program: what its arrays have of elements and what each of these takes
abbrev pub greatest_work : ℕ
greatest_work = 1099511627776

-- words of a block's areas, and spill words of a text
abbrev pub most_words : ℕ
most_words = 134217728

-- items of a list in which a program, a form, a nest or a text is kept
abbrev pub most_items : ℕ
most_items = 1073741824
