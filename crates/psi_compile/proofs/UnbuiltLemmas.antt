-- The first node along a walk whose expression is not built.
use Rattle.std.proofs.Common.{◌≡◌, ℕ, ℤ, suc, ◌+◌, ◌<◌, ◌≤◌, Bool, true, false, not, List, [], ◌∷◌, ◌++◌, refl, ap, sym, subst, ◌∙◌, arith}
use Rattle.std.proofs.Common.{length, map, take, drop, drop-cons, get_or, None, Some}
use Rattle.std.specs.Prelude.{Option, position, slice_get, slice_index_or, if◌then◌else◌}
use Rattle.std.specs.List.{AllByRecursion, flat_map}
use Rattle.std.specs.Option.{option_map}
use Rattle.std.proofs.lemmas.Bool.Decides.{nat_tests}
use Rattle.std.proofs.lemmas.Grind.{flat_map-append}
use Rattle.std.proofs.lemmas.List.{append-nil, take-append-drop, take_all, take_more}
use Rattle.std.proofs.lemmas.Option.{get_or_from_slice_get, none-some, same_Some, slice_get-map, slice_get_within}
use Rattle.text_tokens.specs.Tokens.{start}
use Rattle.text_tokens.specs.declared.token.Position.{Position}
use Rattle.moa_tree.specs.declared.tree.Node.{Node}
use Rattle.moa_tree.specs.declared.tree.Operands.{Operands}
use Rattle.moa_tree.specs.declared.tree.Operands.TheVariants as operand
use Rattle.moa_tree.specs.declared.tree.Statement.{Statement}
use Rattle.moa_tree.specs.Expr.{Expr}
use Rattle.moa_tree.specs.Pool.{IsOrdered, expr_of, listed, operands, tree_at, trees, walk_of}
use Rattle.moa_tree.specs.Pools.{Pools, nodes_of, tree_of, walk}
use Rattle.moa_tree.specs.Positions.{StandsIn}
use Rattle.moa_tree.specs.Readings.{Reads}
use Rattle.moa_tree.specs.Subexpressions.{subexpressions_of}
use Rattle.shape_check.specs.Judged.{node_tree}
use Rattle.nest_jobs.specs.Plain.{ArePlain, EachPlain, is_plain}
use Rattle.psi_compile.specs.Built.{IsNotBuilt}
use Rattle.psi_compile.specs.Unbuilt.{first_in}

-- one list behind the other
abbrev pub or_else : Option ℕ → Option ℕ → Option ℕ
or_else None other = other
or_else (Some number) other = Some number

behind : (b : Bool) (x : ℕ) (both one other : Option ℕ) → both ≡ or_else one other
    → (if b then both else Some x) ≡ or_else (if b then one else Some x) other
behind true x both one other e = e
behind false x both one other e = refl

pub first-append : (pools : Pools) (xs ys : List ℕ) → first_in pools (xs ++ ys) ≡ or_else (first_in pools xs) (first_in pools ys)
first-append pools [] ys = refl
first-append pools (x ∷ xs) ys =
    behind (is_plain (node_tree pools x)) x (first_in pools (xs ++ ys)) (first_in pools xs) (first_in pools ys) (first-append pools xs ys)

-- ---- one node

abbrev pub WalksStep : Type 0
WalksStep = (nodes : List Node) → IsOrdered nodes → (number : ℕ) (other : Node) → number < length nodes
    → walk_of nodes number ≡ number ∷ flat_map (walk_of nodes) (operands (slice_index_or nodes number other))

abbrev pub NodeTrees : Type 0
NodeTrees = (pool : List ℤ) (nodes : List Node) → IsOrdered nodes → (number : ℕ) (other : Node) → number < length nodes
    → tree_at (trees pool nodes) number ≡ expr_of pool (trees pool nodes) (slice_index_or nodes number other)

-- the laws at a node, and whether it is built
module _ (walks_step : WalksStep) (node_trees : NodeTrees) (pools : Pools) (ordered : IsOrdered pools.nodes) (number : ℕ) (n : Node)
    (there : slice_get pools.nodes number ≡ Some n) (built : Bool)
    (is : (pool : List ℤ) (trees : List Expr) → built ≡ is_plain (expr_of pool trees n)) where
  abbrev below : List ℕ
  below = flat_map (walk_of pools.nodes) (operands n)

  plain-here : is_plain (node_tree pools number) ≡ built
  plain-here =
      ap is_plain (node_trees pools.numbers pools.nodes ordered number n (slice_get_within pools.nodes number n there)
      ∙ ap (expr_of pools.numbers (trees pools.numbers pools.nodes)) (get_or_from_slice_get pools.nodes number n n there))
      ∙ sym (is pools.numbers (trees pools.numbers pools.nodes))

  walk-here : walk_of pools.nodes number ≡ number ∷ below
  walk-here =
      walks_step pools.nodes ordered number n (slice_get_within pools.nodes number n there)
      ∙ ap (λ m. number ∷ flat_map (walk_of pools.nodes) (operands m)) (get_or_from_slice_get pools.nodes number n n there)

  first-here : first_in pools (walk_of pools.nodes number) ≡ (if built then first_in pools below else Some number)
  first-here = ap (first_in pools) walk-here ∙ ap (λ (b : Bool). if b then first_in pools below else Some number) plain-here

  pub here_first : built ≡ false → Some number ≡ first_in pools (walk_of pools.nodes number)
  here_first e = sym (first-here ∙ ap (λ (b : Bool). if b then first_in pools below else Some number) e)

  behind-here : built ≡ true → first_in pools (walk_of pools.nodes number) ≡ first_in pools below
  behind-here e = first-here ∙ ap (λ (b : Bool). if b then first_in pools below else Some number) e

  by-list : (found : Operands) → listed found ≡ operands n → built ≡ true
      → first_in pools (flat_map (walk_of pools.nodes) (listed found)) ≡ first_in pools (walk_of pools.nodes number)
  by-list found e b = ap (λ l. first_in pools (flat_map (walk_of pools.nodes) l)) e ∙ sym (behind-here b)

  pub none_below : built ≡ true → listed operand.None ≡ operands n → None ≡ first_in pools (walk_of pools.nodes number)
  none_below b e = by-list operand.None e b

  pub one_below : built ≡ true → (of : ℕ) → listed (operand.One of) ≡ operands n
      → first_in pools (walk_of pools.nodes of) ≡ first_in pools (walk_of pools.nodes number)
  one_below b of e = ap (first_in pools) (sym (append-nil (walk_of pools.nodes of))) ∙ by-list (operand.One of) e b

  two-list : built ≡ true → (left right : ℕ) → listed (operand.Two left right) ≡ operands n
      → or_else (first_in pools (walk_of pools.nodes left)) (first_in pools (walk_of pools.nodes right))
      ≡ first_in pools (walk_of pools.nodes number)
  two-list b left right e =
      sym (first-append pools (walk_of pools.nodes left) (walk_of pools.nodes right))
      ∙ ap (λ l. first_in pools (walk_of pools.nodes left ++ l)) (sym (append-nil (walk_of pools.nodes right)))
      ∙ by-list (operand.Two left right) e b

  pub left_below : built ≡ true → (left right : ℕ) → listed (operand.Two left right) ≡ operands n
      → (found : ℕ) → Some found ≡ first_in pools (walk_of pools.nodes left) → Some found ≡ first_in pools (walk_of pools.nodes number)
  left_below b left right e found f =
      ap (λ (o : Option ℕ). or_else o (first_in pools (walk_of pools.nodes right))) f ∙ two-list b left right e

  pub right_below : built ≡ true → (left right : ℕ) → listed (operand.Two left right) ≡ operands n
      → None ≡ first_in pools (walk_of pools.nodes left)
      → first_in pools (walk_of pools.nodes right) ≡ first_in pools (walk_of pools.nodes number)
  right_below b left right e f =
      ap (λ (o : Option ℕ). or_else o (first_in pools (walk_of pools.nodes right))) f ∙ two-list b left right e

-- ---- one statement after another

flat-flat : {A B C : Type 0} (f : B → List C) (g : A → List B) (xs : List A)
    → flat_map f (flat_map g xs) ≡ flat_map (λ x. flat_map f (g x)) xs
flat-flat f g [] = refl
flat-flat f g (x ∷ xs) = flat_map-append f (g x) (flat_map g xs) ∙ ap (λ l. flat_map f (g x) ++ l) (flat-flat f g xs)

pub through : {X : Type 0} (pools : Pools) (walk : X → List ℕ) (before : List X) (x : X) (after : List X)
    → first_in pools (flat_map walk before) ≡ None
    → first_in pools (flat_map walk (before ++ x ∷ after)) ≡ or_else (first_in pools (walk x)) (first_in pools (flat_map walk after))
through pools walk before x after none =
    ap (first_in pools) (flat_map-append walk before (x ∷ after))
    ∙ first-append pools (flat_map walk before) (walk x ++ flat_map walk after)
    ∙ ap (λ (o : Option ℕ). or_else o (first_in pools (walk x ++ flat_map walk after))) none
    ∙ first-append pools (walk x) (flat_map walk after)

-- the walk of a program goes by its statements
walk-by : (pools : Pools) → walk pools ≡ flat_map (λ s. flat_map (walk_of pools.nodes) (nodes_of s)) pools.statements
walk-by pools = flat-flat (walk_of pools.nodes) nodes_of pools.statements

-- none is found in the statements before this one
module _ (pools : Pools) (items : List Statement) (all : items ≡ pools.statements) (i : ℕ) (s : Statement) (is : s ≡ get_or items i s)
    (within : i < length items)
    (none : first_in pools (flat_map (λ s. flat_map (walk_of pools.nodes) (nodes_of s)) (take i items)) ≡ None) where
  abbrev by : Statement → List ℕ
  by = λ s. flat_map (walk_of pools.nodes) (nodes_of s)

  cut : take i items ++ s ∷ drop (suc i) items ≡ items
  cut = ap (λ x. take i items ++ x ∷ drop (suc i) items) is ∙ ap (λ l. take i items ++ l) (sym (drop-cons items i s within))
      ∙ take-append-drop i items

  pub statement_first : (found : ℕ) → Some found ≡ first_in pools (by s) → Some found ≡ first_in pools (walk pools)
  statement_first found e =
      ap (λ (o : Option ℕ). or_else o (first_in pools (flat_map by (drop (suc i) items)))) e
      ∙ sym (through pools by (take i items) s (drop (suc i) items) none)
      ∙ ap (λ l. first_in pools (flat_map by l)) (cut ∙ all) ∙ ap (first_in pools) (sym (walk-by pools))

  pub statement_none : None ≡ first_in pools (by s) → first_in pools (flat_map by (take (i + 1) items)) ≡ None
  statement_none e =
      ap (λ l. first_in pools (flat_map by l)) (take_more items i s within ∙ ap (λ x. take i items ++ x ∷ []) (sym is))
      ∙ through pools by (take i items) s [] none
      ∙ ap (λ (o : Option ℕ). or_else o None) (sym e)

pub all_none : (pools : Pools) (items : List Statement) → items ≡ pools.statements → (i : ℕ) → length items ≤ i
    → first_in pools (flat_map (λ s. flat_map (walk_of pools.nodes) (nodes_of s)) (take i items)) ≡ None
    → None ≡ first_in pools (walk pools)
all_none pools items all i past none =
    sym none ∙ ap (λ l. first_in pools (flat_map (λ s. flat_map (walk_of pools.nodes) (nodes_of s)) l)) (take_all i items past ∙ all)
    ∙ ap (first_in pools) (sym (walk-by pools))

-- ---- what the first one says

position-here : {X : Type 0} (p : X → Bool) (x : X) (xs : List X) → p x ≡ true → position p (x ∷ xs) ≡ Some 0
position-here p x xs e = grind (arith, nat_tests)

position-behind : {X : Type 0} (p : X → Bool) (x : X) (xs : List X) (k : ℕ) → p x ≡ false → position p xs ≡ Some k
    → position p (x ∷ xs) ≡ Some (suc k)
position-behind p x xs k e f = grind (arith, nat_tests)

abbrev pub unbuilt : Expr → Bool
unbuilt expr = not (is_plain expr)

-- it stands at this place of the walk, and its expression is the first there
pub record IsFoundAt (pools : Pools) (numbers : List ℕ) (number : ℕ) : Type 0 where
  pub at : ℕ
  pub there : slice_get numbers at ≡ Some number
  pub first : position unbuilt (map (node_tree pools) numbers) ≡ Some at

pub found_at : (pools : Pools) (numbers : List ℕ) (number : ℕ) → first_in pools numbers ≡ Some number → IsFoundAt pools numbers number
found_at pools [] number e = absurd (none-some number e)
found_at pools (x ∷ xs) number e =
    here (is_plain (node_tree pools x)) refl (found_at pools xs number) e
  where
    here : (b : Bool) → is_plain (node_tree pools x) ≡ b → (first_in pools xs ≡ Some number → IsFoundAt pools xs number)
        → (if b then first_in pools xs else Some x) ≡ Some number → IsFoundAt pools (x ∷ xs) number
    here true is rest e =
        let found = rest e in
        record {
          at = suc found.at;
          there = found.there;
          first = position-behind unbuilt (node_tree pools x) (map (node_tree pools) xs) found.at (ap not is) found.first;
        }
    here false is rest e = record {
      at = 0;
      there = e;
      first = position-here unbuilt (node_tree pools x) (map (node_tree pools) xs) (ap not is);
    }

pub all_plain : (pools : Pools) (numbers : List ℕ) → first_in pools numbers ≡ None → EachPlain (map (node_tree pools) numbers)
all_plain pools [] e = tt
all_plain pools (x ∷ xs) e = here (is_plain (node_tree pools x)) refl (all_plain pools xs) e
  where
    here : (b : Bool) → is_plain (node_tree pools x) ≡ b → (first_in pools xs ≡ None → EachPlain (map (node_tree pools) xs))
        → (if b then first_in pools xs else Some x) ≡ None → EachPlain (map (node_tree pools) (x ∷ xs))
    here true is rest e = (is, rest e)
    here false is rest e = absurd (none-some x (sym e))

-- ---- in a text

-- what the laws say of the walk of a program that stands in a text
pub not-built : (text : List ℕ) (pools : Pools) → Reads text (tree_of pools) → StandsIn text pools
    → map (node_tree pools) (walk pools) ≡ flat_map subexpressions_of (tree_of pools).statements
    → (number : ℕ) → first_in pools (walk pools) ≡ Some number → (at : Position) → slice_get pools.positions number ≡ Some at
    → IsNotBuilt text at
not-built text pools reads stands law number e at there =
    let found = found_at pools (walk pools) number e in
    record {
      tree = tree_of pools;
      read = reads;
      number = found.at;
      first = ap (position unbuilt) (sym law) ∙ found.first;
      there = ap (λ l. slice_get l found.at) (sym stands.expressions)
          ∙ slice_get-map (λ n. slice_index_or pools.positions n start) (walk pools) found.at
          ∙ ap (option_map (λ n. slice_index_or pools.positions n start)) found.there
          ∙ ap (λ (p : Position). Some p) (get_or_from_slice_get pools.positions number at start there);
    }

pub each-plain : (pools : Pools)
    → map (node_tree pools) (walk pools) ≡ flat_map subexpressions_of (tree_of pools).statements
    → first_in pools (walk pools) ≡ None → ArePlain (tree_of pools).statements
each-plain pools law e = subst EachPlain law (all_plain pools (walk pools) e)

-- a node that is found is there
pub found-within : (pools : Pools) (bound : ℕ) (numbers : List ℕ) → AllByRecursion (λ number. number < bound) numbers
    → (number : ℕ) → first_in pools numbers ≡ Some number → number < bound
found-within pools bound [] h number e = absurd (none-some number e)
found-within pools bound (x ∷ xs) h number e = here (is_plain (node_tree pools x)) (found-within pools bound xs h.1 number) e
  where
    here : (b : Bool) → (first_in pools xs ≡ Some number → number < bound) → (if b then first_in pools xs else Some x) ≡ Some number
        → number < bound
    here true rest e = rest e
    here false rest e = rw (sym (same_Some x number e)) h.0
