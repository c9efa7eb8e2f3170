-- The lists of a choice, between jumps whose targets are set behind them.
use Rattle.std.specs.Prelude.{◌≡◌, ℕ, ◌+◌, max, List, [], ◌∷◌, ◌++◌, length}
use Rattle.std.proofs.Common.{ap, sym, ◌∙◌, arith, append_assoc, length-append}
use Rattle.rv_line.specs.declared.line.Line.{Line}
use Rattle.rv_line.specs.declared.line.Line.TheVariants.{Branch as BranchLine, Jal}
use Rattle.rv_line.specs.declared.line.Branch.TheVariants.{Blt}
use Rattle.rv_emit.specs.Emitting.{Piece, lists_of}
use Rattle.rv_emit.specs.Programs.{Emits}

-- the jump of this number gets a target
abbrev pub SetsJump : List Line → ℕ → ℕ → List Line → Type 0
SetsJump old number target new =
    (before : List Line) (line : Line) (rest : List Line) → old ≡ before ++ line ∷ rest → length before ≡ number
    → new ≡ before ++ Jal 0 target ∷ rest

-- two more lines
longer : (old new list : List Line) → new ≡ old ++ list → length new ≡ length old + length list
longer old new list e = ap length e ∙ length-append old list

pub lists-emitted : (register : ℕ) (one other : ℕ → Piece) (l0 l1 l2 l3 l4 l5 l6 l7 : List Line) (over n1 n2 middle end a b : ℕ)
    → over ≡ length l0 + 2 → l1 ≡ l0 ++ BranchLine Blt register 29 over ∷ [] → n1 ≡ length l1
    → l2 ≡ l1 ++ Jal 0 0 ∷ [] → Emits one l2 l3 a → n2 ≡ length l3
    → l4 ≡ l3 ++ Jal 0 0 ∷ [] → middle ≡ length l4 + 0 → Emits other l4 l5 b → end ≡ length l5 + 0
    → SetsJump l5 n1 middle l6 → SetsJump l6 n2 end l7
    → Emits (λ at. lists_of register at one other) l0 l7 (2 + max a b)
lists-emitted register one other l0 l1 l2 l3 l4 l5 l6 l7 over n1 n2 middle end a b o e1 p1 e2 first p2 e4 m second e set1 set2 =
    let at = length l0 in
    let branch = BranchLine Blt register 29 over in
    let jump = Jal 0 0 in
    let long1 = longer l0 l1 (branch ∷ []) e1 in
    let long2 = longer l1 l2 (jump ∷ []) e2 in
    let top : length l2 ≡ at + 2 = omega (arith, long1, long2) in
    let f = (one (at + 2)).lines in
    let e3 : l3 ≡ l2 ++ f = first.0 ∙ ap (λ (n : ℕ). l2 ++ (one n).lines) top in
    let long3 = longer l2 l3 f e3 in
    let long4 = longer l3 l4 (jump ∷ []) e4 in
    let between : length l4 ≡ at + 3 + length f = omega (arith, top, long3, long4) in
    let s = (other (at + 3 + length f)).lines in
    let e5 : l5 ≡ l4 ++ s = second.0 ∙ ap (λ (n : ℕ). l4 ++ (other n).lines) between in
    let long5 = longer l4 l5 s e5 in
    let whole : l5 ≡ l1 ++ jump ∷ (f ++ jump ∷ s) =
    e5 ∙ ap (λ list. list ++ s) e4 ∙ append_assoc l3 (jump ∷ []) s ∙ ap (λ list. list ++ jump ∷ s) e3 ∙ append_assoc l2 f (jump ∷ s)
    ∙ ap (λ list. list ++ (f ++ jump ∷ s)) e2 ∙ append_assoc l1 (jump ∷ []) (f ++ jump ∷ s) in
    let over_one = Jal 0 middle in
    let over_other = Jal 0 end in
    let six : l6 ≡ (l1 ++ over_one ∷ f) ++ jump ∷ s =
    set1 l1 jump (f ++ jump ∷ s) whole (sym p1) ∙ sym (append_assoc l1 (over_one ∷ f) (jump ∷ s)) in
    let front : length (l1 ++ over_one ∷ f) ≡ n2 = omega (arith, length-append l1 (over_one ∷ f), long2, long3, p2) in
    let seven : l7 ≡ l0 ++ (branch ∷ over_one ∷ (f ++ over_other ∷ s)) =
    set2 (l1 ++ over_one ∷ f) jump s six front ∙ append_assoc l1 (over_one ∷ f) (over_other ∷ s)
    ∙ ap (λ list. list ++ (over_one ∷ (f ++ over_other ∷ s))) e1 ∙ append_assoc l0 (branch ∷ []) (over_one ∷ (f ++ over_other ∷ s)) in
    let here : middle ≡ at + 3 + length f = omega (arith, m, between) in
    let there : end ≡ at + 3 + length f + length s = omega (arith, e, long5, between) in (
      seven
          ∙ ap (λ (n : ℕ). l0 ++ (BranchLine Blt register 29 n ∷ over_one ∷ (f ++ over_other ∷ s))) o
          ∙ ap (λ (n : ℕ). l0 ++ (BranchLine Blt register 29 (at + 2) ∷ Jal 0 n ∷ (f ++ over_other ∷ s))) here
          ∙ ap (λ (n : ℕ). l0 ++ (BranchLine Blt register 29 (at + 2) ∷ Jal 0 (at + 3 + length f) ∷ (f ++ Jal 0 n ∷ s))) there,
      ap (λ (n : ℕ). 2 + max n b) (first.1 ∙ ap (λ (n : ℕ). (one n).steps) top)
          ∙ ap (λ (n : ℕ). 2 + max (one (at + 2)).steps n) (second.1 ∙ ap (λ (n : ℕ). (other n).steps) between),
    )
