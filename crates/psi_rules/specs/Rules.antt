-- The index rules: the form of an expression at entries, one equation for each operator. After Mullin (1988), and Mullin and Thibault (1994).
use Rattle.std.specs.Prelude.{ℕ, ◌+◌, ◌-◌, pos, List, [], ◌∷◌, ◌++◌, length, map, take, drop, reverse, slice_index, slice_index_or}
use Rattle.std.specs.List.{insert}
use Rattle.shapes_core.specs.Shape.{total}
use Rattle.moa_tree.specs.Axes.{naturals, own_index, each_place, on_axis, turned, restored}
use Rattle.moa_tree.specs.Expr.{Expr, Number, Use, Iota, One, Two, Psi, Take, Drop, Reverse, Rotate, Transpose, Permute, Cat, Reshape, Ravel, Outer, Inner, Reduce, Scan}
use Rattle.moa_tree.specs.ShapeOf.{beside, Shapes, shape_of}
use Rattle.moa_tree.specs.Subexpressions.{scans_in}
use Rattle.normal_form.specs.declared.entry.Entry.{Entry}
use Rattle.normal_form.specs.declared.entry.Entry.TheVariants.{At}
use Rattle.normal_form.specs.Formers.{Former, folding, joining, just, on_both, on_one, reshaping, turning}
use Rattle.normal_form.specs.Forms.{Lit, Index, Get, Un, Bin}
use Rattle.normal_form.specs.Moves.{behind_entry, mirrored_entry, remaining_entry, taken_entry}

-- what a name stands for: an array, by its shape and its form at entries
pub record Named : Type 0 where
  pub shape : List ℕ
  pub form : Former

-- the earlier names
abbrev pub Names : Type 0
Names = List (List ℕ × Named)

-- what an unknown name stands for, of which nothing is ever said
abbrev pub nameless : Named
nameless = record { shape = []; form = λ entries. just (Lit (pos 0)) }

abbrev pub shapes_of : Names → Shapes
shapes_of names = map (λ entry. (entry.0, entry.1.shape)) names

abbrev pub shape_in : Names → Expr → List ℕ
shape_in names expr = shape_of (shapes_of names) expr

-- an array that is stored in an area
abbrev pub loading : ℕ → List ℕ → Former
loading area shape entries = just (Get (record { area = area; shape = shape; at = entries }))

-- the entry on an axis
abbrev pub entry_on : ℕ → List Entry → Entry
entry_on axis entries = slice_index_or entries axis (At (pos 0))

-- the area of the first scan of the second of two operands, where that of the first operand's is this one
abbrev pub scan_behind : ℕ → Expr → ℕ
scan_behind scan left = scan + length (scans_in left)

-- the form of an expression whose scans have areas from this one on, in the order of the text
abbrev pub form : Names → ℕ → Expr → Former
form names scan (Number value) entries = just (Lit value)
form names scan (Use name) entries = (beside nameless names name).form entries
form names scan (Iota extent) entries = just (Index (entry_on 0 entries))
form names scan (One op of) entries = on_one (Un op) (form names scan of entries)
form names scan (Two op left right) entries =
    on_both (Bin op) (form names scan left (own_index (shape_in names left) entries))
    (form names (scan_behind scan left) right (own_index (shape_in names right) entries))
form names scan (Psi list of) entries = form names scan of (map At list ++ entries)
form names scan (Take list of) entries = form names scan of (each_place taken_entry list (shape_in names of) entries)
form names scan (Drop list of) entries = form names scan of (each_place remaining_entry list (shape_in names of) entries)
form names scan (Reverse of) entries = form names scan of (on_axis 0 mirrored_entry (shape_in names of) entries)
form names scan (Rotate by of) entries =
    let n = slice_index (shape_in names of) 0 in
    turning (turned by n 0) n (entry_on 0 entries) (λ entry. form names scan of (on_axis 0 (λ extent old. entry) (shape_in names of) entries))
form names scan (Transpose of) entries = form names scan of (reverse entries)
form names scan (Permute list of) entries = form names scan of (restored (At (pos 0)) (naturals list) entries)
form names scan (Cat left right) entries =
    joining (slice_index (shape_in names left) 0) (slice_index (shape_in names right) 0) (entry_on 0 entries)
    (form names scan left entries)
    (form names (scan_behind scan left) right (on_axis 0 behind_entry (shape_in names left) entries))
form names scan (Reshape list of) entries = reshaping (naturals list) (shape_in names of) entries (λ others. form names scan of others)
form names scan (Ravel of) entries =
    reshaping (total (shape_in names of) ∷ []) (shape_in names of) entries (λ others. form names scan of others)
form names scan (Outer op left right) entries =
    let axes = length (shape_in names left) in
    on_both (Bin op) (form names scan left (take axes entries)) (form names (scan_behind scan left) right (drop axes entries))
form names scan (Inner fold op left right) entries =
    let axes = length (shape_in names left) - 1 in
    folding fold (slice_index (shape_in names left) axes)
    (λ k. on_both (Bin op) (form names scan left (take axes entries ++ k ∷ [])) (form names (scan_behind scan left) right (k ∷ drop axes entries)))
form names scan (Reduce fold of) entries = folding fold (slice_index (shape_in names of) 0) (λ k. form names scan of (insert entries 0 k))
form names scan (Scan fold of) entries = loading scan (shape_in names of) entries
