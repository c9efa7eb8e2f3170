-- From where the forms of a program load. This project's own.
use Rattle.std.specs.Prelude.{◌≡◌, ℕ, List, Some, slice_get, ⊤}
use Rattle.normal_form.specs.Forms.{Lit, Index, Get, Un, Bin, Case, Fold, Let, Normal}

-- each load of a form, also one that is never reached, is from an area with the load's shape, among areas of these shapes
abbrev pub LoadsFrom : List (List ℕ) → Normal → Type 0
LoadsFrom shapes (Lit value) = ⊤
LoadsFrom shapes (Index entry) = ⊤
LoadsFrom shapes (Get load) = slice_get shapes load.area ≡ Some load.shape
LoadsFrom shapes (Un op of) = LoadsFrom shapes of
LoadsFrom shapes (Bin op left right) = LoadsFrom shapes left × LoadsFrom shapes right
LoadsFrom shapes (Case entry below first second) = LoadsFrom shapes first × LoadsFrom shapes second
LoadsFrom shapes (Fold op var low high of) = LoadsFrom shapes of
LoadsFrom shapes (Let var bind of) = LoadsFrom shapes of
