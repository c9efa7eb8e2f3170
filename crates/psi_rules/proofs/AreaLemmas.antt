-- The areas of a program's block hold the lists of its inputs, then of its outputs, and then of its scans.
use Rattle.std.specs.Prelude.{◌≡◌, ℕ, suc, ℤ, pos, List, [], ◌∷◌, length, map, slice_index_or}
use Rattle.std.specs.List.{flat_map, sum_by}
use Rattle.std.proofs.Common.{refl, ap, ◌∙◌, arith}
use Rattle.std.proofs.lemmas.List.{length-append, length-map}
use Rattle.std.proofs.lemmas.List.Sums.{sum_by-cons}
use Rattle.std.proofs.lemmas.Option.{get_or_from_slice_get}
use Rattle.shapes_core.specs.Gamma.{IsIndex, gamma}
use Rattle.moa_tree.specs.Denotation.{Store as Lists, env_after, denote_from, output_list, outputs_of, values}
use Rattle.moa_tree.specs.Expr.{Expr, Item, Input, Let, Output}
use Rattle.moa_tree.specs.Values.{Env, element, shape_in, value}
use Rattle.shape_check.specs.Jobs.{input_count, output_count}
use Rattle.psi_rules.specs.Agrees.{HoldEach}
use Rattle.psi_rules.specs.Areas.{input_list}
use Rattle.psi_rules.specs.Blocks.{AreAt}

-- ---- how many lists there are

pub input-counted : (inputs : Lists) (item : Item) → length (input_list inputs item) ≡ input_count item
input-counted inputs (Input name extents) = refl
input-counted inputs (Let name of) = refl
input-counted inputs (Output name of) = refl

pub inputs-counted : (inputs : Lists) (items : List Item) → length (flat_map (input_list inputs) items) ≡ sum_by input_count items
inputs-counted inputs [] = refl
inputs-counted inputs (item ∷ items) =
    let both = length-append (input_list inputs item) (flat_map (input_list inputs) items) in
    omega (arith, both, inputs-counted inputs items, input-counted inputs item, sum_by-cons input_count item items)

pub output-counted : (env : Env) (item : Item) → length (outputs_of env item) ≡ output_count item
output-counted env (Input name extents) = refl
output-counted env (Let name of) = refl
output-counted env (Output name of) = refl

denoted-counted : (inputs : Lists) (env : Env) (items : List Item) → length (denote_from inputs env items) ≡ sum_by output_count items
denoted-counted inputs env [] = refl
denoted-counted inputs env (item ∷ items) =
    let later = env_after inputs env item in
    let both = length-append (outputs_of env item) (denote_from inputs later items) in
    omega (arith, both, denoted-counted inputs later items, output-counted env item, sum_by-cons output_count item items)

pub outputs-counted : (inputs : Lists) (env : Env) (items : List Item)
    → length (map (λ output. output.1) (denote_from inputs env items)) ≡ sum_by output_count items
outputs-counted inputs env items = length-map (denote_from inputs env items) (λ output. output.1) ∙ denoted-counted inputs env items

-- ---- areas that hold the lists of expressions

-- a list that is stored reads back as the values of its expression
abbrev pub ReadBack : Type 0
ReadBack = (env : Env) (expr : Expr) (index : List ℕ) → IsIndex index (shape_in env expr)
    → element (output_list env expr) (shape_in env expr) index ≡ value env expr index

pub hold-each : ReadBack → (areas : List (List ℤ)) (env : Env) (start : ℕ) (exprs : List Expr) → AreAt areas start (map (values env) exprs)
    → HoldEach (λ area place. slice_index_or (slice_index_or areas area []) place (pos 0)) env start exprs
hold-each back areas env start [] h = tt
hold-each back areas env start (expr ∷ exprs) h = (
  (λ index inside. ap (λ list. slice_index_or list (gamma index (shape_in env expr)) (pos 0))
      (get_or_from_slice_get areas start (values env expr) [] h.0) ∙ back env expr index inside),
  hold-each back areas env (suc start) exprs h.1,
)
