-- How forms are spelled, one line a job. Numbers are in shortest decimal form. This project's own, after Mullin and Thibault (1994).
use Rattle.std.specs.Prelude.{ℕ, zero, suc, ℤ, pos, negsuc, List, [], ◌∷◌, ◌++◌, codes, map, not, slice_get}
use Rattle.std.specs.Fmt.{decimal, signed_decimal}
use Rattle.std.specs.List.{filter, join_with_byte}
use Rattle.std.specs.Ordering.{int_eq}
use Rattle.std.specs.declared.option.Option.{Option}
use Rattle.std.specs.declared.option.Option.TheVariants.{None, Some}
use Rattle.shapes_core.specs.declared.area.Area.{Area}
use Rattle.shapes_core.specs.declared.area.AreaKind.{AreaKind}
use Rattle.shapes_core.specs.declared.area.AreaKind.TheVariants as kind
use Rattle.moa_tree.specs.declared.operator.Op.{Op}
use Rattle.moa_tree.specs.declared.operator.Unary.{Unary}
use Rattle.moa_tree.specs.declared.tree.Job.{Job}
use Rattle.moa_tree.specs.Vocabulary.{op_word, unary_word}
use Rattle.normal_form.specs.declared.entry.Entry.{Entry}
use Rattle.normal_form.specs.declared.entry.Entry.TheVariants.{At, Plus, Minus}
use Rattle.normal_form.specs.declared.term.Bind.{Bind}
use Rattle.normal_form.specs.declared.term.Bind.TheVariants.{Turn, Flat, Digit}
use Rattle.normal_form.specs.Forms.{Form, Lit, Index, Get, Un, Bin, Case, Fold, Let, Element, Normal}
use Rattle.stride_form.specs.declared.access.Access.{Access}
use Rattle.stride_form.specs.Operational.{Operational}

-- ---- entries and bindings

abbrev pub variable_text : ℕ → List ℕ
variable_text var = codes "v" ++ decimal var

-- a constant beside a variable, with its sign; 0 is left out
abbrev pub beside_text : ℤ → List ℕ
beside_text (pos zero) = []
beside_text (pos (suc n)) = codes "+" ++ signed_decimal (pos (suc n))
beside_text (negsuc n) = signed_decimal (negsuc n)

abbrev pub entry_text : Entry → List ℕ
entry_text (At constant) = signed_decimal constant
entry_text (Plus var add) = variable_text var ++ beside_text add
entry_text (Minus var add) = codes "-" ++ (variable_text var ++ beside_text add)

-- a blank between two
abbrev pub entries_text : List Entry → List ℕ
entries_text entries = join_with_byte 32 (map entry_text entries)

abbrev pub extents_text : List ℕ → List ℕ
extents_text shape = codes "<" ++ (join_with_byte 32 (map decimal shape) ++ codes ">")

abbrev pub bind_text : Bind → List ℕ
bind_text (Turn of by extent) =
    codes "turn(" ++ (entry_text of ++ (codes ", " ++ (decimal by ++ (codes ", " ++ (decimal extent ++ codes ")")))))
bind_text (Flat of shape) = codes "flat(<" ++ (entries_text of ++ (codes ">, " ++ (extents_text shape ++ codes ")")))
bind_text (Digit of weight extent) =
    codes "digit(" ++ (entry_text of ++ (codes ", " ++ (decimal weight ++ (codes ", " ++ (decimal extent ++ codes ")")))))

-- ---- areas and loads

-- an input or an output by its name, a scan by its number
abbrev pub kind_text : AreaKind → List ℕ
kind_text (kind.In name) = name
kind_text (kind.Out name) = name
kind_text (kind.Scan number) = codes "$" ++ decimal number

abbrev pub kept_text : Option Area → List ℕ
kept_text None = []
kept_text (Some area) = kind_text area.kind

-- the area of this number
abbrev pub area_text : List Area → ℕ → List ℕ
area_text areas number = kept_text (slice_get areas number)

-- an area with the entries of the element
abbrev pub element_text : List Area → Element → List ℕ
element_text areas element = area_text areas element.area ++ (codes "[" ++ (entries_text element.at ++ codes "]"))

abbrev pub stride_text : ℕ × ℤ → List ℕ
stride_text pair = signed_decimal pair.1 ++ (codes "*" ++ variable_text pair.0)

-- strides behind a start, a blank between two
abbrev pub behind_start : List (ℕ × ℤ) → List ℕ
behind_start [] = []
behind_start (first ∷ others) = codes "; " ++ join_with_byte 32 (map stride_text (first ∷ others))

-- a stride of 0 is left out
abbrev pub strides_text : List (ℕ × ℤ) → List ℕ
strides_text strides = behind_start (filter (λ pair. not (int_eq pair.1 (pos 0))) strides)

-- an area with a start and strides by rising variable
abbrev pub access_text : List Area → Access → List ℕ
access_text areas access =
    area_text areas access.area ++ (codes "{" ++ (signed_decimal access.start ++ (strides_text access.strides ++ codes "}")))

-- ---- what of a term stands before its operands

abbrev pub unary_head : Unary → List ℕ
unary_head op = unary_word op ++ codes "("

abbrev pub binary_head : Op → List ℕ
binary_head op = op_word op ++ codes "("

abbrev pub case_head : Entry → ℤ → List ℕ
case_head entry below = codes "case(" ++ (entry_text entry ++ (codes " < " ++ (signed_decimal below ++ codes ", ")))

abbrev pub fold_head : Op → ℕ → ℕ → ℕ → List ℕ
fold_head op var low high =
    codes "fold(" ++ (op_word op ++ (codes ", " ++ (variable_text var
    ++ (codes " from " ++ (decimal low ++ (codes " to " ++ (decimal high ++ codes ", ")))))))

abbrev pub let_head : ℕ → Bind → List ℕ
let_head var bind = codes "let(" ++ (variable_text var ++ (codes " = " ++ (bind_text bind ++ codes ", ")))

-- ---- terms and lines

-- one operand, and two, behind what stands before them
abbrev pub one : List ℕ → List ℕ → List ℕ
one head of = head ++ (of ++ codes ")")

abbrev pub two : List ℕ → List ℕ → List ℕ → List ℕ
two head first second = head ++ (first ++ (codes ", " ++ (second ++ codes ")")))

-- a form whose loads are spelled so
abbrev pub term_text : {Load : Type 0} → (Load → List ℕ) → Form Load → List ℕ
term_text spelled (Lit value) = signed_decimal value
term_text spelled (Index entry) = codes "index(" ++ (entry_text entry ++ codes ")")
term_text spelled (Get load) = spelled load
term_text spelled (Un op of) = one (unary_head op) (term_text spelled of)
term_text spelled (Bin op left right) = two (binary_head op) (term_text spelled left) (term_text spelled right)
term_text spelled (Case entry below first second) = two (case_head entry below) (term_text spelled first) (term_text spelled second)
term_text spelled (Fold op var low high of) = one (fold_head op var low high) (term_text spelled of)
term_text spelled (Let var bind of) = one (let_head var bind) (term_text spelled of)

-- the empty form has no term
abbrev pub body_text : {Load : Type 0} → (Load → List ℕ) → Option (Form Load) → List ℕ
body_text spelled None = codes "empty"
body_text spelled (Some form) = term_text spelled form

-- a job with the shape of its array: an output, or a scan with the operator that it folds by
abbrev pub folded_text : Option Op → List ℕ → List ℕ
folded_text None area = codes "out " ++ area
folded_text (Some op) area = area ++ (codes " scan " ++ op_word op)

abbrev pub job_text : List Area → Job → List ℕ → List ℕ
job_text areas job shape = folded_text job.fold (area_text areas job.area) ++ (codes " " ++ (extents_text shape ++ codes " = "))

-- the line of a job with its normal form
abbrev pub normal_line : List Area → Job → List ℕ → Option Normal → List ℕ
normal_line areas job shape form = job_text areas job shape ++ (body_text (element_text areas) form ++ codes "\n")

-- and with its operational form
abbrev pub operational_line : List Area → Job → List ℕ → Option Operational → List ℕ
operational_line areas job shape form = job_text areas job shape ++ (body_text (access_text areas) form ++ codes "\n")
