-- Room for pieces: where a whole may come behind lines, each of its parts may where it comes.
use Rattle.std.specs.Prelude.{◌≡◌, ℕ, zero, suc, ◌+◌, ◌*◌, ◌^◌, ◌<◌, ◌≤◌, max, List, [], ◌∷◌, ◌++◌, length, take, drop}
use Rattle.std.proofs.Common.{ap, sym, ◌∙◌, subst, arith, get_or, length-append}
use Rattle.std.proofs.lemmas.List.{take_more, take-append-drop}
use Rattle.loop_ir.specs.declared.step.Step.{Step}
use Rattle.loop_ir.specs.Pool.{steps_of}
use Rattle.loop_ir.specs.Steps.{Steps, joined}
use Rattle.rv_line.specs.declared.line.Line.{Line}
use Rattle.rv_line.specs.declared.line.Line.TheVariants.{Jal}
use Rattle.rv_emit.specs.Emitting.{Piece, Plan, behind, emitted, lists_of, owed_after, turns_of}
use Rattle.rv_emit.specs.Programs.{Emits, MayCome}
use Rattle.rv_emit.specs.Walks.{Owed}
use Rattle.rv_emit.proofs.NestLemmas.{HasCome, emitted-join, steps-join}

-- ---- one piece behind another

pub room-first : (first next : ℕ → Piece) (old : List Line) → MayCome (λ at. behind at (first at) next) old → MayCome first old
room-first first next old h =
    let piece = first (length old) in
    let rest = next (length old + length piece.lines) in
    let lines = length-append piece.lines rest.lines in
    (omega (arith, h.0, lines), omega (arith, h.1))

pub room-next : (first next : ℕ → Piece) (old mid : List Line) (steps : ℕ) → MayCome (λ at. behind at (first at) next) old
    → Emits first old mid steps → MayCome next mid
room-next first next old mid steps h one =
    let piece = first (length old) in
    let rest = next (length old + length piece.lines) in
    let here : length mid ≡ length old + length piece.lines = ap length one.0 ∙ length-append old piece.lines in
    let lines = ap (λ (n : ℕ). length (next n).lines) here in
    let made = ap (λ (n : ℕ). (next n).steps) here in
    let whole = length-append piece.lines rest.lines in
    (omega (arith, h.0, here, lines, whole), omega (arith, h.1, made))

pub room-sum : (first next : ℕ → Piece) (old mid new : List Line) (steps more : ℕ) → MayCome (λ at. behind at (first at) next) old
    → Emits first old mid steps → Emits next mid new more → steps + more < 2 ^ 64
room-sum first next old mid new steps more h one two =
    let piece = first (length old) in
    let here : length mid ≡ length old + length piece.lines = ap length one.0 ∙ length-append old piece.lines in
    let made = ap (λ (n : ℕ). (next n).steps) here in
    omega (arith, h.1, one.1, two.1, made)

-- ---- the steps of a list

-- the front of a list
front-room : (plan : Plan) (owed : Owed) (front back : Steps) (old : List Line) → MayCome (emitted plan owed (joined front back)) old
    → MayCome (λ at. behind at (emitted plan owed front at) (emitted plan (owed_after plan owed front) back)) old
front-room plan owed front back old h =
    subst (λ (piece : Piece). (length old + length piece.lines < 2 ^ 32) × (piece.steps < 2 ^ 64)) (emitted-join plan owed front back (length old)) h

split-at : {X : Type 0} (i : ℕ) (list : List X) → list ≡ take i list ++ drop i list
split-at i list = sym (take-append-drop i list)

-- of a list so many steps of which have been emitted, with the next one
pub next-room : (plan : Plan) (inner : ℕ → Steps) (owed : Owed) (list : List Step) (i : ℕ) (d : Step) (old : List Line)
    → i < length list → MayCome (emitted plan owed (steps_of inner list)) old
    → MayCome (λ at. behind at (emitted plan owed (steps_of inner (take i list)) at)
    (emitted plan (owed_after plan owed (steps_of inner (take i list))) (steps_of inner (get_or list i d ∷ [])))) old
next-room plan inner owed list i d old below h =
    let front = take (i + 1) list in
    let back = drop (i + 1) list in
    let before = steps_of inner (take i list) in
    let last = steps_of inner (get_or list i d ∷ []) in
    let whole : steps_of inner list ≡ joined (steps_of inner front) (steps_of inner back) =
    ap (steps_of inner) (split-at (i + 1) list) ∙ steps-join inner front back in
    let until : steps_of inner front ≡ joined before last =
    ap (steps_of inner) (take_more list i d below) ∙ steps-join inner (take i list) (get_or list i d ∷ []) in
    let all = front-room plan owed (steps_of inner front) (steps_of inner back) old
    (subst (λ steps. MayCome (emitted plan owed steps) old) whole h) in
    let some = room-first (emitted plan owed (steps_of inner front))
    (emitted plan (owed_after plan owed (steps_of inner front)) (steps_of inner back)) old all in
    front-room plan owed before last old (subst (λ steps. MayCome (emitted plan owed steps) old) until some)

pub room-at : (plan : Plan) (inner : ℕ → Steps) (owed : Owed) (list : List Step) (i : ℕ) (d : Step) (old mid : List Line) (made : ℕ)
    (left : Owed) → i < length list → HasCome plan inner owed (take i list) old mid made left
    → MayCome (emitted plan owed (steps_of inner list)) old → MayCome (emitted plan left (steps_of inner (get_or list i d ∷ []))) mid
room-at plan inner owed list i d old mid made left below come h =
    let before = steps_of inner (take i list) in
    let last = steps_of inner (get_or list i d ∷ []) in
    subst (λ owed. MayCome (emitted plan owed last) mid) (sym come.owes)
    (room-next (emitted plan owed before) (emitted plan (owed_after plan owed before) last) old mid made
    (next-room plan inner owed list i d old below h) come.emits)

pub room-made : (plan : Plan) (inner : ℕ → Steps) (owed : Owed) (list : List Step) (i : ℕ) (d : Step) (old mid new : List Line)
    (made more : ℕ) (left : Owed) → i < length list → HasCome plan inner owed (take i list) old mid made left
    → MayCome (emitted plan owed (steps_of inner list)) old → Emits (emitted plan left (steps_of inner (get_or list i d ∷ []))) mid new more
    → made + more < 2 ^ 64
room-made plan inner owed list i d old mid new made more left below come h emits =
    let before = steps_of inner (take i list) in
    let last = steps_of inner (get_or list i d ∷ []) in
    room-sum (emitted plan owed before) (emitted plan (owed_after plan owed before) last) old mid new made more
    (next-room plan inner owed list i d old below h) come.emits
    (subst (λ owed. Emits (emitted plan owed last) mid new more) come.owes emits)

-- ---- loops

pub room-turn : (turns : ℕ) (turn : ℕ → Piece) (old : List Line) → 0 < turns → MayCome (turns_of turns turn) old → MayCome turn old
room-turn zero turn old some h = elim some [ ]
room-turn (suc turns) turn old some h = (h.0, omega (arith, least turns (turn (length old)).steps, h.1))
  where
    least : (turns steps : ℕ) → steps ≤ suc turns * steps
    least turns steps = omega arith

pub room-turns : (turns : ℕ) (turn : ℕ → Piece) (old new : List Line) (steps : ℕ) → 0 < turns → MayCome (turns_of turns turn) old
    → Emits turn old new steps → turns * steps < 2 ^ 64
room-turns zero turn old new steps some h emits = elim some [ ]
room-turns (suc turns) turn old new steps some h emits = subst (λ (n : ℕ). suc turns * n < 2 ^ 64) (sym emits.1) h.1

-- ---- choices

module _ (register : ℕ) (one other : ℕ → Piece) (l0 l1 l2 : List Line) (x y : Line) (room : MayCome (λ at. lists_of register at one other) l0)
    (first : l1 ≡ l0 ++ x ∷ []) (second : l2 ≡ l1 ++ y ∷ []) where
  two-more : length l2 ≡ length l0 + 2
  two-more = omega (arith, ap length first, ap length second, length-append l0 (x ∷ []), length-append l1 (y ∷ []))

  -- the lines and the steps of the whole
  abbrev head : Piece
  head = one (length l0 + 2)

  abbrev tail : Piece
  tail = other (length l0 + 3 + length head.lines)

  whole : length l0 + 3 + length head.lines + length tail.lines < 2 ^ 32
  whole =
      let jump = Jal 0 (length l0 + 3 + length head.lines + length tail.lines) in
      omega (arith, room.0, length-append head.lines (jump ∷ tail.lines))

  pub room-yes : MayCome one l2
  room-yes =
      let lines = ap (λ (n : ℕ). length (one n).lines) two-more in
      let steps = ap (λ (n : ℕ). (one n).steps) two-more in
      (omega (arith, whole, two-more, lines), omega (arith, room.1, steps))

  middle-is : (l3 l4 : List Line) (z : Line) (a : ℕ) → Emits one l2 l3 a → l4 ≡ l3 ++ z ∷ [] → length l4 ≡ length l0 + 3 + length head.lines
  middle-is l3 l4 z a emits third =
      let lines = ap (λ (n : ℕ). length (one n).lines) two-more in
      let long = ap length emits.0 ∙ length-append l2 (one (length l2)).lines in
      omega (arith, two-more, lines, long, ap length third, length-append l3 (z ∷ []))

  pub room-no : (l3 l4 : List Line) (z : Line) (a : ℕ) → Emits one l2 l3 a → l4 ≡ l3 ++ z ∷ [] → MayCome other l4
  room-no l3 l4 z a emits third =
      let here = middle-is l3 l4 z a emits third in
      let lines = ap (λ (n : ℕ). length (other n).lines) here in
      let steps = ap (λ (n : ℕ). (other n).steps) here in
      (omega (arith, whole, here, lines), omega (arith, room.1, steps))

  pub room-end : (l3 l4 l5 : List Line) (z : Line) (a b : ℕ) → Emits one l2 l3 a → l4 ≡ l3 ++ z ∷ [] → Emits other l4 l5 b
      → (length l5 < 2 ^ 32) × (2 + max a b < 2 ^ 64)
  room-end l3 l4 l5 z a b emits third last =
      let here = middle-is l3 l4 z a emits third in
      let lines = ap (λ (n : ℕ). length (other n).lines) here in
      let long = ap length last.0 ∙ length-append l4 (other (length l4)).lines in
      let yes = emits.1 ∙ ap (λ (n : ℕ). (one n).steps) two-more in
      let no = last.1 ∙ ap (λ (n : ℕ). (other n).steps) here in
      (omega (arith, whole, here, lines, long), omega (arith, room.1, yes, no))
