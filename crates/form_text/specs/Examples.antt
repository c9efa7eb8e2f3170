-- Areas, jobs and forms for examples. This project's own.
use Rattle.std.specs.Prelude.{ℕ, codes, List, [], ◌∷◌}
use Rattle.std.specs.declared.option.Option.TheVariants.{None, Some}
use Rattle.shapes_core.specs.declared.area.Area.{Area}
use Rattle.shapes_core.specs.declared.area.AreaKind.TheVariants as kind
use Rattle.moa_tree.specs.declared.operator.Op.TheVariants as op
use Rattle.moa_tree.specs.declared.tree.Job.{Job}
use Rattle.normal_form.specs.declared.entry.Entry.{Entry}
use Rattle.normal_form.specs.declared.term.Bind.TheVariants.{Flat, Digit}
use Rattle.normal_form.specs.Forms.{Bin, Fold, Get, Let, Normal}
use Rattle.normal_form.specs.Moves.{variable, variables}
use Rattle.stride_form.specs.Operational.{operational}
use Rattle.form_text.specs.Spelling.{normal_line, operational_line}

-- two inputs, an output and a scan
abbrev pub areas : List Area
areas =
    record { kind = kind.In (codes "A"); shape = 2 ∷ 2 ∷ []; start = 0 }
    ∷ record { kind = kind.In (codes "B"); shape = 2 ∷ 2 ∷ []; start = 4 }
    ∷ record { kind = kind.Out (codes "C"); shape = 2 ∷ 2 ∷ []; start = 8 }
    ∷ record { kind = kind.Scan 0; shape = 4 ∷ []; start = 12 }
    ∷ []

-- the job of the output and that of the scan
abbrev pub output : Job
output = record { area = 2; node = 0; fold = None }

abbrev pub scan : Job
scan = record { area = 3; node = 0; fold = Some op.Add }

-- an element of an array
abbrev pub element : ℕ → List ℕ → List Entry → Normal
element area shape at = Get (record { area = area; shape = shape; at = at })

-- the line of the output, and the one in which loads are accesses
abbrev pub line : List ℕ → Normal → List ℕ
line shape form = normal_line areas output shape (Some form)

abbrev pub access_line : List ℕ → Normal → List ℕ
access_line shape form = operational_line areas output shape (Some (operational form))

-- the product of two matrices
abbrev pub product : Normal
product =
    Fold op.Add 2 0 2 (Bin op.Mul
    (element 0 (2 ∷ 2 ∷ []) (variable 0 ∷ variable 2 ∷ []))
    (element 1 (2 ∷ 2 ∷ []) (variable 2 ∷ variable 1 ∷ [])))

-- an array of another shape
abbrev pub reshaped : Normal
reshaped =
    Let 2 (Flat (variables 2) (3 ∷ 4 ∷ []))
    (Let 3 (Digit (variable 2) 3 4) (Let 4 (Digit (variable 2) 1 3) (element 0 (4 ∷ 3 ∷ []) (variable 4 ∷ variable 3 ∷ []))))
