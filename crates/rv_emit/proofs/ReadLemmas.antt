-- Sets of the registers that steps read: what is added to what is there, one list of steps behind another.
use Rattle.std.specs.Prelude.{◌≡◌, ℕ, ◌+◌, ◌<◌, ◌==◌, ◌||◌, Bool, true, false, List, [], ◌∷◌, ◌++◌, length, take}
use Rattle.std.proofs.Common.{refl, ap, sym, ◌∙◌, subst, append_assoc, append-nil, get_or}
use Rattle.std.proofs.lemmas.List.{take_more}
use Rattle.std.proofs.lemmas.List.Folds.{list_any-append}
use Rattle.loop_ir.specs.declared.step.Step.{Step}
use Rattle.loop_ir.specs.Needed.{among, reads}
use Rattle.loop_ir.specs.Pool.{steps_of}
use Rattle.loop_ir.specs.Running.{Key, Pointer, Register}
use Rattle.loop_ir.specs.Steps.{Steps, End, Then, For, If, joined}
use Rattle.rv_emit.specs.Counting.{reads_of}
use Rattle.rv_emit.specs.Programs.{Takes, holds, is_among, read_by, registers}
use Rattle.rv_emit.proofs.NestLemmas.{steps-join}

-- ---- a set takes one list behind another

or-turned : (a b c : Bool) → (b || (a || c)) ≡ ((a || b) || c)
or-turned true true c = refl
or-turned true false c = refl
or-turned false true c = refl
or-turned false false c = refl

pub takes-both : (first second : List ℕ) (old mid new : List ℕ) → Takes first old mid → Takes second mid new
    → Takes (first ++ second) old new
takes-both first second old mid new one two number =
    two number ∙ ap (λ b. is_among second number || b) (one number)
    ∙ or-turned (is_among first number) (is_among second number) (holds old number)
    ∙ sym (ap (λ b. b || holds old number) (list_any-append (λ other. number == other) first second))

-- a choice
pub choice-takes : (left : ℕ) (one other : List ℕ) (old first second new : List ℕ) → Takes (left ∷ []) old first → Takes one first second
    → Takes other second new → Takes (left ∷ (one ++ (other ++ []))) old new
choice-takes left one other old first second new a b c =
    takes-both (left ∷ []) (one ++ (other ++ [])) old first new a (takes-both one (other ++ []) first second new b
    (subst (λ list. Takes list second new) (sym (append-nil other)) c))

regroup : (front b c : List ℕ) {a : List ℕ} → a ≡ b ++ c → front ++ a ≡ (front ++ b) ++ c
regroup front b c e = ap (λ list. front ++ list) e ∙ sym (append_assoc front b c)

reads-join : (first second : Steps) → read_by (joined first second) ≡ read_by first ++ read_by second
reads-join End second = refl
reads-join (Then action rest) second = regroup (registers (reads action)) (read_by rest) (read_by second) (reads-join rest second)
reads-join (For counter turns body rest) second = regroup (read_by body) (read_by rest) (read_by second) (reads-join rest second)
reads-join (If left below one other rest) second =
    let later = regroup (read_by other) (read_by rest) (read_by second) (reads-join rest second) in
    ap (λ list. left ∷ list) (regroup (read_by one) (read_by other ++ read_by rest) (read_by second) later)

-- one more step
pub takes-more : (inner : ℕ → Steps) (list : List Step) (i : ℕ) (d : Step) (old mid new : List ℕ) → i < length list
    → Takes (read_by (steps_of inner (take i list))) old mid → Takes (read_by (steps_of inner (get_or list i d ∷ []))) mid new
    → Takes (read_by (steps_of inner (take (i + 1) list))) old new
takes-more inner list i d old mid new below one two =
    let last = get_or list i d ∷ [] in
    let whole : read_by (steps_of inner (take (i + 1) list)) ≡ read_by (steps_of inner (take i list)) ++ read_by (steps_of inner last) =
    ap (λ list. read_by (steps_of inner list)) (take_more list i d below) ∙ ap read_by (steps-join inner (take i list) last)
    ∙ reads-join (steps_of inner (take i list)) (steps_of inner last) in
    subst (λ list. Takes list old new) (sym whole)
    (takes-both (read_by (steps_of inner (take i list))) (read_by (steps_of inner last)) old mid new one two)

-- ---- what steps read

in-registers : (keys : List Key) (number : ℕ) → is_among (registers keys) number ≡ among keys (Register number)
in-registers [] number = refl
in-registers (Register other ∷ keys) number =
    ap (λ b. (number == other) || b) (in-registers keys number)
in-registers (Pointer other ∷ keys) number = in-registers keys number

in-both : (first second : List ℕ) (number : ℕ) → is_among (first ++ second) number ≡ (is_among first number || is_among second number)
in-both first second number = list_any-append (λ other. number == other) first second

pub reads-are : (steps : Steps) (number : ℕ) → is_among (read_by steps) number ≡ reads_of steps (Register number)
reads-are End number = refl
reads-are (Then action rest) number =
    in-both (registers (reads action)) (read_by rest) number
    ∙ ap (λ b. b || is_among (read_by rest) number) (in-registers (reads action) number)
    ∙ ap (λ b. among (reads action) (Register number) || b) (reads-are rest number)
reads-are (For counter turns body rest) number =
    in-both (read_by body) (read_by rest) number ∙ ap (λ b. b || is_among (read_by rest) number) (reads-are body number)
    ∙ ap (λ b. reads_of body (Register number) || b) (reads-are rest number)
reads-are (If left below one other rest) number =
    ap (λ b. (number == left) || b)
    (in-both (read_by one) (read_by other ++ read_by rest) number
    ∙ ap (λ b. b || is_among (read_by other ++ read_by rest) number) (reads-are one number)
    ∙ ap (λ b. reads_of one (Register number) || b)
    (in-both (read_by other) (read_by rest) number ∙ ap (λ b. b || is_among (read_by rest) number) (reads-are other number)
    ∙ ap (λ b. reads_of other (Register number) || b) (reads-are rest number)))

or-false : (b : Bool) → (b || false) ≡ b
or-false true = refl
or-false false = refl

-- a set that takes what steps read, where it was empty
pub taken-are-read : (steps : Steps) (new : List ℕ) → Takes (read_by steps) [] new → (number : ℕ) → holds new number
    ≡ reads_of steps (Register number)
taken-are-read steps new takes number = takes number ∙ or-false (is_among (read_by steps) number) ∙ reads-are steps number
