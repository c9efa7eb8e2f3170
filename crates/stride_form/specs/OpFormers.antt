-- Operational forms in the making: what each kind of rule makes of the operational forms of its operands. Entries are resolved already, and what is
-- known of a variable is known in all that is made behind it. After Mullin (1988), and Mullin and Thibault (1994); the rules are this project's own.
use Rattle.std.specs.Prelude.{ℕ, zero, suc, pos, int_lt, List, [], ◌∷◌, slice_index_or, unsigned_abs, if◌then◌else◌}
use Rattle.std.specs.declared.option.Option.{Option}
use Rattle.std.specs.declared.option.Option.TheVariants.{None, Some}
use Rattle.std.specs.Str.{bytes_eq}
use Rattle.shapes_core.specs.Gamma.{digit, gamma}
use Rattle.shapes_core.specs.Shape.{span}
use Rattle.moa_tree.specs.declared.operator.Op.{Op}
use Rattle.moa_tree.specs.Folds.{none_folded}
use Rattle.moa_tree.specs.Operators.{identity}
use Rattle.normal_form.specs.declared.entry.Entry.{Entry}
use Rattle.normal_form.specs.declared.entry.Entry.TheVariants.{At}
use Rattle.normal_form.specs.declared.term.Bind.{Bind}
use Rattle.normal_form.specs.declared.term.Bind.TheVariants.{Turn, Flat, Digit}
use Rattle.normal_form.specs.Formers.{constants}
use Rattle.normal_form.specs.Forms.{Lit, Get, Case, Fold, Let, Element}
use Rattle.normal_form.specs.Moves.{turned_constant, variable}
use Rattle.stride_form.specs.declared.access.Access.{Access}
use Rattle.stride_form.specs.declared.facts.Fact.{Fact}
use Rattle.stride_form.specs.declared.facts.Fact.TheVariants.{Range}
use Rattle.stride_form.specs.Facts.{Facts, fact_of, knowing, resolved}
use Rattle.stride_form.specs.Operational.{Operational}
use Rattle.stride_form.specs.Rules.{offset_in}

-- an operational form, and the next variable behind it
abbrev pub OpMade : Type 0
OpMade = Operational × ℕ

-- what is made from a variable on, where so much is known
abbrev pub OpMaking : Type 0
OpMaking = Facts → ℕ → OpMade

-- the operational form of an expression at entries
abbrev pub OpFormer : Type 0
OpFormer = List Entry → OpMaking

-- a form without a variable of its own
abbrev pub op_just : Operational → OpMaking
op_just form facts next = (form, next)

abbrev pub with_op : (Operational → Operational) → OpMade → OpMade
with_op f made = (f made.0, made.1)

abbrev pub op_one : (Operational → Operational) → OpMaking → OpMaking
op_one f of facts next = with_op f (of facts next)

abbrev pub op_both : (Operational → Operational → Operational) → OpMaking → OpMaking → OpMaking
op_both f left right facts next = with_op (f (left facts next).0) (right facts (left facts next).1)

-- an element of a stored array, as an access
abbrev pub access_at : Facts → Element → Access
access_at facts element =
    let walk = offset_in facts element.at element.shape in
    record { area = element.area; start = walk.start; strides = walk.strides }

abbrev pub op_loading : ℕ → List ℕ → OpFormer
op_loading area shape entries facts next = (Get (access_at facts (record { area = area; shape = shape; at = entries })), next)

-- what follows on the next variable, of which this is known
abbrev pub op_next : Fact → (Entry → OpMaking) → OpMaking
op_next fact rest facts next =
    let known = knowing facts next fact in
    rest (resolved known (variable next)) known (suc next)

-- the next variable is bound, and what is known of it stands in what follows
abbrev pub op_binding : Bind → (Entry → OpMaking) → OpMaking
op_binding bind rest facts next = with_op (Let next bind) (op_next (fact_of facts bind) rest facts next)

-- ---- turns

abbrev pub op_turning : ℕ → ℕ → Entry → (Entry → OpMaking) → OpMaking
op_turning zero n entry rest = rest entry
op_turning (suc by) n (At constant) rest = rest (At (turned_constant (suc by) n constant))
op_turning (suc by) n entry rest = op_binding (Turn entry (suc by) n) rest

-- ---- joins

abbrev pub op_joining : ℕ → ℕ → Entry → OpMaking → OpMaking → OpMaking
op_joining zero m entry first second = second
op_joining (suc n) zero entry first second = first
op_joining (suc n) (suc m) (At constant) first second = if int_lt constant (pos (suc n)) then first else second
op_joining (suc n) (suc m) entry first second = op_both (Case entry (pos (suc n))) first second

-- ---- reshapes

abbrev pub op_offset : Option (List ℕ) → List ℕ → List Entry → (Entry → OpMaking) → OpMaking
op_offset (Some list) shape entries rest = rest (At (pos (gamma list shape)))
op_offset None shape entries rest = op_binding (Flat entries shape) rest

abbrev pub op_flattening : List ℕ → List Entry → (Entry → OpMaking) → OpMaking
op_flattening (n ∷ []) entries rest = rest (slice_index_or entries 0 (At (pos 0)))
op_flattening shape entries rest = op_offset (constants entries) shape entries rest

abbrev pub op_varying : Entry → ℕ → ℕ → (Entry → OpMaking) → OpMaking
op_varying (At constant) weight n rest = rest (At (pos (digit (unsigned_abs constant) weight n)))
op_varying flat weight n rest = op_binding (Digit flat weight n) rest

abbrev pub op_digiting : Entry → ℕ → ℕ → (Entry → OpMaking) → OpMaking
op_digiting flat weight (suc zero) rest = rest (At (pos 0))
op_digiting flat weight n rest = op_varying flat weight n rest

abbrev pub op_spreading : List ℕ → Entry → (List Entry → OpMaking) → OpMaking
op_spreading [] flat rest = rest []
op_spreading (n ∷ shape) flat rest =
    op_digiting flat (span shape) n (λ entry. op_spreading shape flat (λ entries. rest (entry ∷ entries)))

abbrev pub op_unflattening : List ℕ → Entry → (List Entry → OpMaking) → OpMaking
op_unflattening (n ∷ []) flat rest = rest (flat ∷ [])
op_unflattening shape flat rest = op_spreading shape flat rest

abbrev pub op_by_offset : List ℕ → List ℕ → List Entry → OpFormer → OpMaking
op_by_offset shape [] entries of = of []
op_by_offset shape operand entries of = op_flattening shape entries (λ flat. op_unflattening operand flat of)

abbrev pub op_reshaping : List ℕ → List ℕ → List Entry → OpFormer → OpMaking
op_reshaping shape operand entries of = if bytes_eq shape operand then of entries else op_by_offset shape operand entries of

-- ---- folds

abbrev pub op_folding : Op → ℕ → (Entry → OpMaking) → OpMaking
op_folding op zero item = op_just (Lit (none_folded (identity op)))
op_folding op (suc n) item = λ facts next. with_op (Fold op next 0 (suc n)) (op_next (Range 0 (suc n)) item facts next)
