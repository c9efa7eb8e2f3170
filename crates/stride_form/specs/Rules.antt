-- The four rules by which index arithmetic that undoes itself is taken out of a form. After Mullin and Thibault (1994), whose index functions
-- compose; the rules are this project's own.
use Rattle.std.specs.Prelude.{ℕ, ◌==◌, ◌||◌, Bool, true, false, List, [], ◌∷◌, map, pos, slice_index_or}
use Rattle.std.specs.List.{list_any}
use Rattle.std.specs.declared.option.Option.{Option}
use Rattle.std.specs.declared.option.Option.TheVariants.{None, Some}
use Rattle.normal_form.specs.declared.entry.Entry.{Entry}
use Rattle.normal_form.specs.declared.entry.Entry.TheVariants.{At, Plus, Minus}
use Rattle.normal_form.specs.declared.term.Bind.{Bind}
use Rattle.normal_form.specs.declared.term.Bind.TheVariants.{Turn, Flat, Digit}
use Rattle.normal_form.specs.Forms.{Lit, Index, Get, Un, Bin, Case, Fold, Let, Element, Normal}
use Rattle.stride_form.specs.declared.access.Access.{Access}
use Rattle.stride_form.specs.declared.facts.Fact.TheVariants.{Range}
use Rattle.stride_form.specs.declared.facts.Number.{Number}
use Rattle.stride_form.specs.declared.walk.Walk.{Walk}
use Rattle.stride_form.specs.Accesses.{walk_of}
use Rattle.stride_form.specs.Facts.{Facts, digits_of, fact_of, knowing, resolved, starting, walk_at}
use Rattle.stride_form.specs.Operational.{Operational}

-- ---- rules 1 to 3: from the outermost binding inwards

-- a binding with what is known in the place of variables
abbrev pub resolved_bind : Facts → Bind → Bind
resolved_bind facts (Turn of by extent) = Turn (resolved facts of) by extent
resolved_bind facts (Flat of shape) = Flat (map (resolved facts) of) shape
resolved_bind facts (Digit of weight extent) = Digit (resolved facts of) weight extent

-- the offset of a load that is no load at the digits of a number
abbrev pub load_walk : Facts → List Entry → List ℕ → Walk
load_walk facts entries (n ∷ []) = walk_at facts (slice_index_or entries 0 (At (pos 0)))
load_walk facts entries shape = walk_of entries shape

abbrev pub found_walk : Option Number → Walk → Walk
found_walk (Some number) walk = number.walk
found_walk None walk = walk

-- the offset of a load at these entries
abbrev pub offset_in : Facts → List Entry → List ℕ → Walk
offset_in facts entries shape = found_walk (digits_of facts entries shape) (load_walk facts entries shape)

abbrev pub access_in : Facts → Element → Access
access_in facts element =
    let walk = offset_in facts (map (resolved facts) element.at) element.shape in
    record { area = element.area; start = walk.start; strides = walk.strides }

-- a form with what is known in the place of variables, and each load as an access
abbrev pub passed : Facts → Normal → Operational
passed facts (Lit value) = Lit value
passed facts (Index entry) = Index (resolved facts entry)
passed facts (Get load) = Get (access_in facts load)
passed facts (Un op of) = Un op (passed facts of)
passed facts (Bin op left right) = Bin op (passed facts left) (passed facts right)
passed facts (Case entry below first second) = Case (resolved facts entry) below (passed facts first) (passed facts second)
passed facts (Fold op var low high of) = Fold op var low high (passed (knowing facts var (Range low high)) of)
passed facts (Let var bind of) =
    Let var (resolved_bind facts bind) (passed (knowing facts var (fact_of facts (resolved_bind facts bind))) of)

-- ---- rule 4: from below

-- a variable stands somewhere
abbrev pub is_over : ℕ → Entry → Bool
is_over var (At constant) = false
is_over var (Plus other add) = var == other
is_over var (Minus other add) = var == other

abbrev pub is_bound_over : ℕ → Bind → Bool
is_bound_over var (Turn of by extent) = is_over var of
is_bound_over var (Flat of shape) = list_any (is_over var) of
is_bound_over var (Digit of weight extent) = is_over var of

abbrev pub stands : ℕ → Operational → Bool
stands var (Lit value) = false
stands var (Index entry) = is_over var entry
stands var (Get access) = list_any (λ step. var == step.0) access.strides
stands var (Un op of) = stands var of
stands var (Bin op left right) = stands var left || stands var right
stands var (Case entry below first second) = is_over var entry || (stands var first || stands var second)
stands var (Fold op other low high of) = stands var of
stands var (Let other bind of) = is_bound_over var bind || stands var of

abbrev pub where_needed : Bool → ℕ → Bind → Operational → Operational
where_needed true var bind of = Let var bind of
where_needed false var bind of = of

-- a form without the bindings whose variables stand nowhere in what they are bound in, the innermost left out first
abbrev pub needed : Operational → Operational
needed (Lit value) = Lit value
needed (Index entry) = Index entry
needed (Get access) = Get access
needed (Un op of) = Un op (needed of)
needed (Bin op left right) = Bin op (needed left) (needed right)
needed (Case entry below first second) = Case entry below (needed first) (needed second)
needed (Fold op var low high of) = Fold op var low high (needed of)
needed (Let var bind of) = where_needed (stands var (needed of)) var bind (needed of)

-- ---- the whole

-- the operational form of a form on a region
abbrev pub operational_on : List (ℕ × ℕ) → Normal → Operational
operational_on region form = needed (passed (starting region) form)
