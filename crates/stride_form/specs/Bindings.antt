-- Forms without a binding. This project's own.
use Rattle.std.specs.Prelude.{Bool, true, false, ◌&&◌}
use Rattle.normal_form.specs.Forms.{Form, Lit, Index, Get, Un, Bin, Case, Fold, Let}

-- whether a form has no binding
abbrev pub has_no_binding : {Load : Type 0} → Form Load → Bool
has_no_binding (Lit value) = true
has_no_binding (Index entry) = true
has_no_binding (Get load) = true
has_no_binding (Un op of) = has_no_binding of
has_no_binding (Bin op left right) = has_no_binding left && has_no_binding right
has_no_binding (Case entry below first second) = has_no_binding first && has_no_binding second
has_no_binding (Fold op var low high of) = has_no_binding of
has_no_binding (Let var bind of) = false
