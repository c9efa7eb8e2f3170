-- Forms whose loads are accesses. This project's own, after Mullin and Thibault (1994).
use Rattle.normal_form.specs.Forms.{Form, Lit, Index, Get, Un, Bin, Case, Fold, Let, Normal}
use Rattle.stride_form.specs.declared.access.Access.{Access}
use Rattle.stride_form.specs.Accesses.{access_of}

abbrev pub Operational : Type 0
Operational = Form Access

-- a form with each load in other words
abbrev pub with_loads : {Load Other : Type 0} → (Load → Other) → Form Load → Form Other
with_loads f (Lit value) = Lit value
with_loads f (Index entry) = Index entry
with_loads f (Get load) = Get (f load)
with_loads f (Un op of) = Un op (with_loads f of)
with_loads f (Bin op left right) = Bin op (with_loads f left) (with_loads f right)
with_loads f (Case entry below first second) = Case entry below (with_loads f first) (with_loads f second)
with_loads f (Fold op var low high of) = Fold op var low high (with_loads f of)
with_loads f (Let var bind of) = Let var bind (with_loads f of)

-- the same form with each load spelled as an access
abbrev pub operational : Normal → Operational
operational form = with_loads access_of form
