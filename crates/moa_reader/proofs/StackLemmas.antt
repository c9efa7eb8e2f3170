-- The nodes that wait on a stack, and their lexemes: a node gives way to its operands behind its head.
use Rattle.std.specs.Prelude.{◌≡◌, ℕ, ◌<◌, false, ℤ, List, [], ◌∷◌, ◌++◌, length, reverse, Some, slice_get, slice_index_or}
use Rattle.std.specs.List.{AllByRecursion, flat_map}
use Rattle.std.proofs.Common.{refl, ap, sym, ◌∙◌, subst, arith, append_assoc, length-append}
use Rattle.std.proofs.lemmas.Grind.{flat_map-append}
use Rattle.std.proofs.lemmas.List.{append-nil, reverse-append, reverse-reverse}
use Rattle.std.proofs.lemmas.Option.{get_or_from_slice_get, slice_get_within}
use Rattle.text_tokens.specs.declared.token.Sign.TheVariants as sign
use Rattle.moa_tree.specs.declared.tree.Node.{Node}
use Rattle.moa_tree.specs.declared.tree.Node.TheVariants as node
use Rattle.moa_tree.specs.Canonical.{expr_lexemes}
use Rattle.moa_tree.specs.Expr.{Expr}
use Rattle.moa_tree.specs.Pool.{IsOrdered, expr_of, list_at, operands, tree_at, trees}
use Rattle.moa_tree.specs.Pools.{IsProgram, Pools}
use Rattle.moa_tree.specs.Readings.{number_lexemes}
use Rattle.moa_tree.specs.Vocabulary.{Lexeme}
use Rattle.moa_reader.specs.Printed.{head_lexemes, spaced}
use Rattle.moa_reader.proofs.LineLemmas.{is_less, last-append, last_of, spaced-append}

after_list : (values : List ℤ) → is_less (last_of (Lexeme.Sign sign.Less) (number_lexemes values ++ Lexeme.Sign sign.Greater ∷ [])) ≡ false
after_list values = ap is_less (last-append (Lexeme.Sign sign.Less) (number_lexemes values) (Lexeme.Sign sign.Greater))

-- no head ends with `<`
head-ends : (pool : List ℤ) (n : Node) → is_less (last_of (Lexeme.Sign sign.Equal) (head_lexemes pool n)) ≡ false
head-ends pool (node.Psi list of) = after_list (list_at pool list)
head-ends pool (node.Take list of) = after_list (list_at pool list)
head-ends pool (node.Drop list of) = after_list (list_at pool list)
head-ends pool (node.Permute list of) = after_list (list_at pool list)
head-ends pool (node.Reshape list of) = after_list (list_at pool list)
head-ends pool n = refl

head-some : (pool : List ℤ) (n : Node) → 0 < length (head_lexemes pool n)
head-some pool (node.Number value) = omega arith
head-some pool n = omega arith

-- the lexemes of some nodes, one behind the other
abbrev pub lexemes_at : List Expr → List ℕ → List Lexeme
lexemes_at trees numbers = flat_map (λ number. expr_lexemes (tree_at trees number)) numbers

one-more : (front a : List Lexeme) → front ++ a ≡ front ++ (a ++ [])
one-more front a = ap (λ t. front ++ t) (sym (append-nil a))

two-more : (front a b : List Lexeme) → front ++ (a ++ b) ≡ front ++ (a ++ (b ++ []))
two-more front a b = ap (λ t. front ++ (a ++ t)) (sym (append-nil b))

module _ (pool : List ℤ) (trees : List Expr) where
  abbrev of_node : ℕ → List Lexeme
  of_node number = expr_lexemes (tree_at trees number)

  -- a node is its head with its operands behind it
  head-first : (n : Node) → expr_lexemes (expr_of pool trees n) ≡ head_lexemes pool n ++ lexemes_at trees (operands n)
  head-first (node.Number value) = refl
  head-first (node.Use name) = refl
  head-first (node.Iota extent) = refl
  head-first (node.One op of) = one-more (head_lexemes pool (node.One op of)) (of_node of)
  head-first (node.Two op left right) = two-more (head_lexemes pool (node.Two op left right)) (of_node left) (of_node right)
  head-first (node.Psi list of) = one-more (head_lexemes pool (node.Psi list of)) (of_node of)
  head-first (node.Take list of) = one-more (head_lexemes pool (node.Take list of)) (of_node of)
  head-first (node.Drop list of) = one-more (head_lexemes pool (node.Drop list of)) (of_node of)
  head-first (node.Reverse of) = one-more (head_lexemes pool (node.Reverse of)) (of_node of)
  head-first (node.Rotate by of) = one-more (head_lexemes pool (node.Rotate by of)) (of_node of)
  head-first (node.Transpose of) = one-more (head_lexemes pool (node.Transpose of)) (of_node of)
  head-first (node.Permute list of) = one-more (head_lexemes pool (node.Permute list of)) (of_node of)
  head-first (node.Cat left right) = two-more (head_lexemes pool (node.Cat left right)) (of_node left) (of_node right)
  head-first (node.Reshape list of) = one-more (head_lexemes pool (node.Reshape list of)) (of_node of)
  head-first (node.Ravel of) = one-more (head_lexemes pool (node.Ravel of)) (of_node of)
  head-first (node.Outer op left right) = two-more (head_lexemes pool (node.Outer op left right)) (of_node left) (of_node right)
  head-first (node.Inner fold op left right) = two-more (head_lexemes pool (node.Inner fold op left right)) (of_node left) (of_node right)
  head-first (node.Reduce fold of) = one-more (head_lexemes pool (node.Reduce fold of)) (of_node of)
  head-first (node.Scan fold of) = one-more (head_lexemes pool (node.Scan fold of)) (of_node of)

  -- a node gives way to its operands behind its head
  taken : (n : Node) (number : ℕ) (rest : List ℕ) → tree_at trees number ≡ expr_of pool trees n
      → lexemes_at trees (number ∷ rest) ≡ head_lexemes pool n ++ lexemes_at trees (operands n ++ rest)
  taken n number rest e =
      ap (λ t. expr_lexemes t ++ lexemes_at trees rest) e
      ∙ ap (λ t. t ++ lexemes_at trees rest) (head-first n)
      ∙ append_assoc (head_lexemes pool n) (lexemes_at trees (operands n)) (lexemes_at trees rest)
      ∙ ap (λ t. head_lexemes pool n ++ t) (sym (flat_map-append (λ number. expr_lexemes (tree_at trees number)) (operands n) rest))

  taken-printed : (n : Node) (number : ℕ) (rest : List ℕ) → tree_at trees number ≡ expr_of pool trees n
      → spaced (lexemes_at trees (number ∷ rest)) ≡ spaced (head_lexemes pool n) ++ spaced (lexemes_at trees (operands n ++ rest))
  taken-printed n number rest e =
      ap spaced (taken n number rest e) ∙ spaced-append (head_lexemes pool n) (lexemes_at trees (operands n ++ rest)) (head-ends pool n)

  taken-fewer : (n : Node) (number : ℕ) (rest : List ℕ) → tree_at trees number ≡ expr_of pool trees n
      → length (lexemes_at trees (operands n ++ rest)) < length (lexemes_at trees (number ∷ rest))
  taken-fewer n number rest e =
      let whole = ap length (taken n number rest e) ∙ length-append (head_lexemes pool n) (lexemes_at trees (operands n ++ rest)) in
      omega (arith, head-some pool n, whole)

-- the top of a stack is its last, and the operands of a node are put on it from the last
popped : (rest : List ℕ) (number : ℕ) → reverse (rest ++ number ∷ []) ≡ number ∷ reverse rest
popped rest number = reverse-append rest (number ∷ [])

pushed : (rest numbers : List ℕ) → reverse (rest ++ reverse numbers) ≡ numbers ++ reverse rest
pushed rest numbers = reverse-append rest (reverse numbers) ∙ ap (λ t. t ++ reverse rest) (reverse-reverse numbers)

-- What was printed, and then the nodes on the stack, is the whole, and these nodes are there.
pub record IsPrinting (pools : Pools) (whole out stack : List ℕ) : Type 0 where
  pub printed : out ++ spaced (lexemes_at (trees pools.numbers pools.nodes) (reverse stack)) ≡ whole
  pub there : AllByRecursion (λ number. number < length pools.nodes) (reverse stack)

abbrev pub NodeLaw : Type 0
NodeLaw = (pool : List ℤ) (nodes : List Node) → IsOrdered nodes → (number : ℕ) (other : Node) → number < length nodes
    → tree_at (trees pool nodes) number ≡ expr_of pool (trees pool nodes) (slice_index_or nodes number other)

abbrev pub OperandLaw : Type 0
OperandLaw = (pools : Pools) (number : ℕ) (n : Node) → IsProgram pools → slice_get pools.nodes number ≡ Some n
    → AllByRecursion (λ operand. (operand < number) × (operand < length pools.nodes)) (operands n)

there-too : (P Q : ℕ → Type 0) (a b : List ℕ) → AllByRecursion (λ number. P number × Q number) a → AllByRecursion Q b → AllByRecursion Q (a ++ b)
there-too P Q [] b h i = i
there-too P Q (first ∷ others) b h i = (h.0.1, there-too P Q others b h.1 i)

module _ (law : NodeLaw) (pools : Pools) (program : IsProgram pools) where
  tree-of : (number : ℕ) (n : Node) → slice_get pools.nodes number ≡ Some n
      → tree_at (trees pools.numbers pools.nodes) number ≡ expr_of pools.numbers (trees pools.numbers pools.nodes) n
  tree-of number n is =
      law pools.numbers pools.nodes program.ordered number n (slice_get_within pools.nodes number n is)
      ∙ ap (expr_of pools.numbers (trees pools.numbers pools.nodes)) (get_or_from_slice_get pools.nodes number n n is)

  pub next-printed : OperandLaw → {whole out stack : List ℕ} (number : ℕ) (n : Node) (rest : List ℕ) → slice_get pools.nodes number ≡ Some n
      → stack ≡ rest ++ number ∷ [] → IsPrinting pools whole out stack
      → IsPrinting pools whole (out ++ spaced (head_lexemes pools.numbers n)) (rest ++ reverse (operands n))
  next-printed operand_law {whole = whole} {out = out} {stack = stack} number n rest is top h =
      let all = trees pools.numbers pools.nodes in
      let order = ap reverse top ∙ popped rest number in
      let there = subst (AllByRecursion (λ number. number < length pools.nodes)) order h.there in
      record {
        printed =
            ap (λ t. (out ++ spaced (head_lexemes pools.numbers n)) ++ spaced (lexemes_at all t)) (pushed rest (operands n))
            ∙ append_assoc out (spaced (head_lexemes pools.numbers n)) (spaced (lexemes_at all (operands n ++ reverse rest)))
            ∙ ap (λ t. out ++ t) (sym (taken-printed pools.numbers all n number (reverse rest) (tree-of number n is)))
            ∙ ap (λ t. out ++ spaced (lexemes_at all t)) (sym order)
            ∙ h.printed;
        there = rw (pushed rest (operands n))
            (there-too (λ operand. operand < number) (λ operand. operand < length pools.nodes) (operands n) (reverse rest) (operand_law pools number n program is) there.1);
      }

  pub next-fewer : (number : ℕ) (n : Node) (rest : List ℕ) → slice_get pools.nodes number ≡ Some n
      → length (lexemes_at (trees pools.numbers pools.nodes) (reverse (rest ++ reverse (operands n))))
      < length (lexemes_at (trees pools.numbers pools.nodes) (reverse (rest ++ number ∷ [])))
  next-fewer number n rest is =
      rw (pushed rest (operands n)) (rw (popped rest number)
      (taken-fewer pools.numbers (trees pools.numbers pools.nodes) n number (reverse rest) (tree-of number n is)))
