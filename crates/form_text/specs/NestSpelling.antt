-- How loop nests are spelled, one step a line. Numbers are in shortest decimal form. This project's own.
use Rattle.std.specs.Prelude.{ℕ, zero, suc, ℤ, List, [], ◌++◌, codes, slice_get}
use Rattle.std.specs.Fmt.{decimal, signed_decimal}
use Rattle.std.specs.declared.option.Option.{Option}
use Rattle.std.specs.declared.option.Option.TheVariants.{None, Some}
use Rattle.shapes_core.specs.declared.area.Area.{Area}
use Rattle.shapes_core.specs.declared.area.AreaKind.{AreaKind}
use Rattle.shapes_core.specs.declared.area.AreaKind.TheVariants as kind
use Rattle.moa_tree.specs.declared.operator.Op.{Op}
use Rattle.moa_tree.specs.declared.tree.Job.{Job}
use Rattle.moa_tree.specs.Vocabulary.{op_word, unary_word}
use Rattle.loop_ir.specs.Steps.{Action, Set, Copy, One, Two, Place, Spot, Walk, Read, Write, Steps, End, Then, For, If}
use Rattle.form_text.specs.Spelling.{area_text}

-- ---- registers, places and actions

abbrev pub register_text : ℕ → List ℕ
register_text number = codes "r" ++ decimal number

abbrev pub place_text : ℕ → List ℕ
place_text number = codes "p" ++ decimal number

-- a word and a register
abbrev pub worded : List ℕ → ℕ → List ℕ
worded word register = word ++ (codes " " ++ register_text register)

-- an action over these areas: what is set stands first, and a write names its array first
abbrev pub action_text : List Area → Action → List ℕ
action_text areas (Set to value) = worded (codes "set") to ++ (codes " " ++ signed_decimal value)
action_text areas (Copy to from) = worded (worded (codes "copy") to) from
action_text areas (One op to from) = worded (worded (unary_word op) to) from
action_text areas (Two op to left right) = worded (worded (worded (op_word op) to) left) right
action_text areas (Place to word) = codes "place " ++ (place_text to ++ (codes " " ++ signed_decimal word))
action_text areas (Spot to word by) = worded (codes "spot " ++ (place_text to ++ (codes " " ++ signed_decimal word))) by
action_text areas (Walk place words) = codes "walk " ++ (place_text place ++ (codes " " ++ signed_decimal words))
action_text areas (Read to area place) = worded (codes "read") to ++ (codes " " ++ (area_text areas area ++ (codes " " ++ place_text place)))
action_text areas (Write area place from) = worded (codes "write " ++ (area_text areas area ++ (codes " " ++ place_text place))) from

-- the heads of loops and choices

abbrev pub for_text : ℕ → ℕ → List ℕ
for_text counter turns = worded (codes "for") counter ++ (codes " < " ++ decimal turns)

abbrev pub if_text : ℕ → ℤ → List ℕ
if_text left below = worded (codes "if") left ++ (codes " < " ++ signed_decimal below)

-- ---- lines

-- two blanks for each loop and each choice around a step
abbrev pub margin : ℕ → List ℕ
margin zero = []
margin (suc depth) = codes "  " ++ margin depth

abbrev pub row : ℕ → List ℕ → List ℕ
row depth text = margin depth ++ (text ++ codes "\n")

-- steps within so many loops and choices
abbrev pub step_lines : List Area → ℕ → Steps → List ℕ
step_lines areas depth End = []
step_lines areas depth (Then action rest) = row depth (action_text areas action) ++ step_lines areas depth rest
step_lines areas depth (For counter turns body rest) =
    row depth (for_text counter turns)
    ++ (step_lines areas (suc depth) body ++ (row depth (codes "end") ++ step_lines areas depth rest))
step_lines areas depth (If left below one other rest) =
    row depth (if_text left below)
    ++ (step_lines areas (suc depth) one
    ++ (row depth (codes "else") ++ (step_lines areas (suc depth) other ++ (row depth (codes "end") ++ step_lines areas depth rest))))

-- ---- nests

-- a scan by its number alone
abbrev pub bare_text : AreaKind → List ℕ
bare_text (kind.In name) = name
bare_text (kind.Out name) = name
bare_text (kind.Scan number) = decimal number

abbrev pub bare_kept_text : Option Area → List ℕ
bare_kept_text None = []
bare_kept_text (Some area) = bare_text area.kind

-- what a job computes: an output, or a scan, which has an operator
abbrev pub target_text : Option Op → List Area → ℕ → List ℕ
target_text None areas area = codes "out " ++ area_text areas area
target_text (Some op) areas area = codes "scan " ++ bare_kept_text (slice_get areas area)

abbrev pub job_row : List Area → Job → List ℕ
job_row areas job = codes "job " ++ (target_text job.fold areas job.area ++ codes "\n")

-- the nest of a job
abbrev pub nest_lines : List Area → Job → Steps → List ℕ
nest_lines areas job steps = job_row areas job ++ step_lines areas 0 steps
