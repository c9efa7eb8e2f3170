-- The lists of a nest: what falls as they are walked, where steps stand in a list, and one list of steps behind another.
use Rattle.std.specs.Prelude.{◌≡◌, ℕ, zero, suc, ◌+◌, ◌-◌, ◌<◌, max, List, [], ◌∷◌, ◌++◌, length, take}
use Rattle.std.specs.List.{AllByRecursion, flat_map}
use Rattle.std.proofs.Common.{refl, ap, sym, ◌∙◌, subst, arith, append-nil, append_assoc, get_or, length-append}
use Rattle.std.proofs.lemmas.List.{take_more}
use Rattle.loop_ir.specs.declared.step.Step.{Step}
use Rattle.loop_ir.specs.declared.step.Step.TheVariants as step
use Rattle.loop_ir.specs.Kept.{EachNamed, KeepsCounters}
use Rattle.loop_ir.specs.Pool.{inner_lists, steps_of}
use Rattle.loop_ir.specs.Running.{Key}
use Rattle.loop_ir.specs.Steps.{Set, Copy, One, Two, Place, Spot, Walk, Read, Write, Steps, End, Then, For, If, joined}
use Rattle.rv_line.specs.declared.line.Line.{Line}
use Rattle.rv_emit.specs.Emitting.{Piece, Plan, action_lines, behind, choice_of, emitted, loop_of, owed_after, owed_by, settled, straight}
use Rattle.rv_emit.specs.Programs.{Emits}
use Rattle.rv_emit.specs.Walks.{Owed}
use Rattle.rv_emit.proofs.EmitLemmas.{emits-behind}

-- how many lists are behind those that a step names
abbrev pub ahead : ℕ → Step → ℕ
ahead count (step.For counter turns body) = count - body
ahead count (step.If left below one other) = max (count - one) (count - other)
ahead count _ = 0

pub ahead-falls : (number count : ℕ) (of : Step) → number < count
    → AllByRecursion (λ inner. (number < inner) × (inner < count)) (inner_lists of)
    → ahead count of < count - number
ahead-falls number count (step.Set to value) below h = omega arith
ahead-falls number count (step.Copy to from) below h = omega arith
ahead-falls number count (step.One op to from) below h = omega arith
ahead-falls number count (step.Two op to left right) below h = omega arith
ahead-falls number count (step.Place to word) below h = omega arith
ahead-falls number count (step.Spot to word by) below h = omega arith
ahead-falls number count (step.Walk place words) below h = omega arith
ahead-falls number count (step.Read to area place) below h = omega arith
ahead-falls number count (step.Write area place from) below h = omega arith
ahead-falls number count (step.For counter turns body) below h = omega (arith, h.0.0)
ahead-falls number count (step.If left low one other) below h = omega (arith, h.0.0, h.1.0.0)

pub all-weaker : {X : Type 0} {P Q : X → Type 0} → ((x : X) → P x → Q x) → (xs : List X) → AllByRecursion P xs → AllByRecursion Q xs
all-weaker f [] h = tt
all-weaker f (x ∷ xs) h = (f x h.0, all-weaker f xs h.1)

all-split : {X : Type 0} (P : X → Type 0) (xs ys : List X) → AllByRecursion P (xs ++ ys) → AllByRecursion P xs × AllByRecursion P ys
all-split P [] ys h = (tt, h)
all-split P (x ∷ xs) ys h = let rest = all-split P xs ys h.1 in ((h.0, rest.0), rest.1)

-- what a step names is named by its list
pub inner-at : (P : ℕ → Type 0) (list : List Step) (i : ℕ) (d : Step) → i < length list → AllByRecursion P (flat_map inner_lists list)
    → AllByRecursion P (inner_lists (get_or list i d))
inner-at P [] i d below h = absurd (omega (arith, below))
inner-at P (one ∷ list) zero d below h = (all-split P (inner_lists one) (flat_map inner_lists list) h).0
inner-at P (one ∷ list) (suc i) d below h =
    inner-at P list i d (omega (arith, below)) (all-split P (inner_lists one) (flat_map inner_lists list) h).1

-- ---- one list behind another

pub steps-join : (inner : ℕ → Steps) (first second : List Step) → steps_of inner (first ++ second)
    ≡ joined (steps_of inner first) (steps_of inner second)
steps-join inner [] second = refl
steps-join inner (step.Set to value ∷ rest) second = ap (Then (Set to value)) (steps-join inner rest second)
steps-join inner (step.Copy to from ∷ rest) second = ap (Then (Copy to from)) (steps-join inner rest second)
steps-join inner (step.One op to from ∷ rest) second = ap (Then (One op to from)) (steps-join inner rest second)
steps-join inner (step.Two op to left right ∷ rest) second = ap (Then (Two op to left right)) (steps-join inner rest second)
steps-join inner (step.Place to word ∷ rest) second = ap (Then (Place to word)) (steps-join inner rest second)
steps-join inner (step.Spot to word by ∷ rest) second = ap (Then (Spot to word by)) (steps-join inner rest second)
steps-join inner (step.Walk place words ∷ rest) second = ap (Then (Walk place words)) (steps-join inner rest second)
steps-join inner (step.Read to area place ∷ rest) second = ap (Then (Read to area place)) (steps-join inner rest second)
steps-join inner (step.Write area place from ∷ rest) second = ap (Then (Write area place from)) (steps-join inner rest second)
steps-join inner (step.For counter turns body ∷ rest) second = ap (For counter turns (inner body)) (steps-join inner rest second)
steps-join inner (step.If left below one other ∷ rest) second = ap (If left below (inner one) (inner other)) (steps-join inner rest second)

pub owed-join : (plan : Plan) (owed : Owed) (first second : Steps)
    → owed_after plan owed (joined first second) ≡ owed_after plan (owed_after plan owed first) second
owed-join plan owed End second = refl
owed-join plan owed (Then action rest) second = owed-join plan (owed_by plan owed action) rest second
owed-join plan owed (For counter turns body rest) second = owed-join plan [] rest second
owed-join plan owed (If left below one other rest) second = owed-join plan [] rest second

-- a piece and then two more
regroup : (at : ℕ) (first : Piece) (a b : ℕ → Piece) (both : ℕ → Piece)
    → ((n : ℕ) → both n ≡ behind n (a n) b) → behind at first both ≡ behind at (behind at first a) b
regroup at first a b both h =
    let next = at + length first.lines in
    let one = a next in
    let further : next + length one.lines ≡ at + length (first.lines ++ one.lines) = omega (arith, length-append first.lines one.lines) in
    ap (λ (piece : Piece). record { lines = first.lines ++ piece.lines; steps = first.steps + piece.steps }) (h next)
    ∙ ap (λ (n : ℕ). record { lines = first.lines ++ (one.lines ++ (b n).lines); steps = first.steps + (one.steps + (b n).steps) }) further
    ∙ ap (λ (list : List Line). record { lines = list; steps = first.steps + (one.steps + (b (at + length (first.lines ++ one.lines))).steps) })
    (sym (append_assoc first.lines one.lines (b (at + length (first.lines ++ one.lines))).lines))
    ∙ ap (λ (n : ℕ). record { lines = (first.lines ++ one.lines) ++ (b (at + length (first.lines ++ one.lines))).lines; steps = n })
    (omega arith)

pub emitted-join : (plan : Plan) (owed : Owed) (first second : Steps) (at : ℕ)
    → emitted plan owed (joined first second) at ≡ behind at (emitted plan owed first at) (emitted plan (owed_after plan owed first) second)
emitted-join plan owed End second at =
    let none : at ≡ at + 0 = omega arith in
    ap (emitted plan owed second) none
    ∙ ap (λ (n : ℕ). record { lines = (emitted plan owed second (at + 0)).lines; steps = n }) (omega arith)
emitted-join plan owed (Then action rest) second at =
    regroup at (straight (action_lines plan at owed action)) (emitted plan (owed_by plan owed action) rest)
    (emitted plan (owed_after plan (owed_by plan owed action) rest) second) (emitted plan (owed_by plan owed action) (joined rest second))
    (emitted-join plan (owed_by plan owed action) rest second)
emitted-join plan owed (For counter turns body rest) second at =
    regroup at (loop_of plan at owed counter turns (settled plan body)) (emitted plan [] rest)
    (emitted plan (owed_after plan [] rest) second) (emitted plan [] (joined rest second)) (emitted-join plan [] rest second)
emitted-join plan owed (If left below one other rest) second at =
    regroup at (choice_of plan at owed left below (settled plan one) (settled plan other)) (emitted plan [] rest)
    (emitted plan (owed_after plan [] rest) second) (emitted plan [] (joined rest second)) (emitted-join plan [] rest second)

-- ---- one step more

-- what has been emitted for so many steps of a list, and what is owed then
pub record HasCome (plan : Plan)
    (inner : ℕ → Steps) (owed : Owed) (steps : List Step) (old new : List Line) (made : ℕ) (left : Owed) : Type 0 where
  pub emits : Emits (emitted plan owed (steps_of inner steps)) old new made
  pub owes : left ≡ owed_after plan owed (steps_of inner steps)

pub none-yet : (plan : Plan) (inner : ℕ → Steps) (owed : Owed) (old : List Line) → HasCome plan inner owed [] old old 0 owed
none-yet plan inner owed old = record { emits = (sym (append-nil old), refl); owes = refl }

pub one-more : (plan : Plan)
    (inner : ℕ → Steps) (owed : Owed) (list : List Step) (i : ℕ) (d : Step) (old mid new : List Line) (made more : ℕ) (left next : Owed)
    → i < length list → HasCome plan inner owed (take i list) old mid made left
    → Emits (emitted plan left (steps_of inner (get_or list i d ∷ []))) mid new more
    → next ≡ owed_after plan left (steps_of inner (get_or list i d ∷ []))
    → HasCome plan inner owed (take (i + 1) list) old new (made + more) next
one-more plan inner owed list i d old mid new made more left next below come emits owes =
    let before = steps_of inner (take i list) in
    let last = steps_of inner (get_or list i d ∷ []) in
    let whole : steps_of inner (take (i + 1) list) ≡ joined before last =
    ap (steps_of inner) (take_more list i d below) ∙ steps-join inner (take i list) (get_or list i d ∷ []) in
    let step = subst (λ owed. Emits (emitted plan owed last) mid new more) come.owes emits in
    let both = emits-behind (emitted plan owed before) (emitted plan (owed_after plan owed before) last) old mid new made more come.emits step in
    let piece : emitted plan owed (steps_of inner (take (i + 1) list)) (length old)
    ≡ behind (length old) (emitted plan owed before (length old)) (emitted plan (owed_after plan owed before) last) =
    ap (λ steps. emitted plan owed steps (length old)) whole ∙ emitted-join plan owed before last (length old) in
    record {
      emits = (both.0 ∙ sym (ap (λ (p : Piece). old ++ p.lines) piece), both.1 ∙ sym (ap (λ (p : Piece). p.steps) piece));
      owes = owes ∙ ap (λ owed. owed_after plan owed last) come.owes ∙ sym (owed-join plan owed before last)
          ∙ sym (ap (owed_after plan owed) whole);
    }

-- ---- homes of what a list names

named-at-joined : (P : Key → Type 0) (first second : Steps) → EachNamed P (joined first second) → EachNamed P first × EachNamed P second
named-at-joined P End second h = (tt, h)
named-at-joined P (Then action rest) second h = let later = named-at-joined P rest second h.1 in ((h.0, later.0), later.1)
named-at-joined P (For counter turns body rest) second h =
    let later = named-at-joined P rest second h.1.1 in ((h.0, (h.1.0, later.0)), later.1)
named-at-joined P (If left below one other rest) second h =
    let later = named-at-joined P rest second h.1.1.1 in ((h.0, (h.1.0, (h.1.1.0, later.0))), later.1)

pub named-at : (P : Key → Type 0) (inner : ℕ → Steps) (list : List Step) (i : ℕ) (d : Step) → i < length list
    → EachNamed P (steps_of inner list)
    → EachNamed P (steps_of inner (get_or list i d ∷ []))
named-at P inner [] i d below h = absurd (omega (arith, below))
named-at P inner (one ∷ list) zero d below h =
    (named-at-joined P (steps_of inner (one ∷ [])) (steps_of inner list) (subst (EachNamed P) (steps-join inner (one ∷ []) list) h)).0
named-at P inner (one ∷ list) (suc i) d below h =
    named-at P inner list i d (omega (arith, below))
    (named-at-joined P (steps_of inner (one ∷ [])) (steps_of inner list) (subst (EachNamed P) (steps-join inner (one ∷ []) list) h)).1

-- ---- counters of a list

counters-joined : (first second : Steps) → KeepsCounters (joined first second) → KeepsCounters first × KeepsCounters second
counters-joined End second h = (tt, h)
counters-joined (Then action rest) second h = counters-joined rest second h
counters-joined (For counter turns body rest) second h =
    let later = counters-joined rest second h.1.1 in ((h.0, (h.1.0, later.0)), later.1)
counters-joined (If left below one other rest) second h =
    let later = counters-joined rest second h.1.1 in ((h.0, (h.1.0, later.0)), later.1)

pub counters-at : (inner : ℕ → Steps) (list : List Step) (i : ℕ) (d : Step) → i < length list → KeepsCounters (steps_of inner list)
    → KeepsCounters (steps_of inner (get_or list i d ∷ []))
counters-at inner [] i d below h = absurd (omega (arith, below))
counters-at inner (one ∷ list) zero d below h =
    (counters-joined (steps_of inner (one ∷ [])) (steps_of inner list) (subst KeepsCounters (steps-join inner (one ∷ []) list) h)).0
counters-at inner (one ∷ list) (suc i) d below h =
    counters-at inner list i d (omega (arith, below))
    (counters-joined (steps_of inner (one ∷ [])) (steps_of inner list) (subst KeepsCounters (steps-join inner (one ∷ []) list) h)).1

-- ---- a list that ends behind a step

-- a piece with nothing behind it
pub at-end : (piece : ℕ → Piece) (old new : List Line) (steps : ℕ) → Emits piece old new steps
    → Emits (λ at. behind at (piece at) (λ next. straight [])) old new steps
at-end piece old new steps h =
    (h.0 ∙ ap (λ list. old ++ list) (sym (append-nil (piece (length old)).lines)), h.1 ∙ omega arith)
