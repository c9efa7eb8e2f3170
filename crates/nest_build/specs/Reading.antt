-- What the code reads of a form: the top of a term. This project's own.
use Rattle.std.specs.Prelude.{◌≡◌, ℕ, ◌<◌, List, ⊤}
use Rattle.normal_form.specs.Forms.{Lit, Index, Get, Un, Bin, Case, Fold, Let}
use Rattle.stride_form.specs.declared.access.Access.{Access}
use Rattle.stride_form.specs.declared.op_term.OpTerm.{OpTerm}
use Rattle.stride_form.specs.declared.op_term.OpTerm.TheVariants as term
use Rattle.stride_form.specs.Operational.{Operational}
use Rattle.stride_form.specs.Pool.{op_form_at}
use Rattle.nest_build.specs.declared.part.Part.{Part}
use Rattle.nest_build.specs.declared.part.Part.TheVariants as part

-- a form is an access of this area
pub record IsGet (form : Operational) (area : ℕ) : Type 0 where
  pub access : Access
  pub same : form ≡ Get access
  pub named : access.area ≡ area

-- a form that is not straight at its top
abbrev pub IsOther : Operational → Type 0
IsOther (Case entry below first second) = ⊤
IsOther (Fold op var low high of) = ⊤
IsOther (Let var bind of) = ⊤
IsOther _ = ⊥

-- the form of this term has this top, over operands before it
abbrev pub IsPart : List Operational → ℕ → Operational → Part → Type 0
IsPart forms number form (part.Lit value) = form ≡ Lit value
IsPart forms number form (part.Index entry) = form ≡ Index entry
IsPart forms number form (part.Get area) = IsGet form area
IsPart forms number form (part.Un op of) = (form ≡ Un op (op_form_at forms of)) × (of < number)
IsPart forms number form (part.Bin op left right) =
    (form ≡ Bin op (op_form_at forms left) (op_form_at forms right)) × ((left < number) × (right < number))
IsPart forms number form part.Other = IsOther form

-- the top of a term
abbrev pub part_of : OpTerm → Part
part_of (term.Lit value) = part.Lit value
part_of (term.Index entry) = part.Index entry
part_of (term.Get access) = part.Get access.area
part_of (term.Un op of) = part.Un op of
part_of (term.Bin op left right) = part.Bin op left right
part_of _ = part.Other
