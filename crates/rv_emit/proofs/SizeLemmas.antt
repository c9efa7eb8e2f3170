-- The lines of steps and those that settle what they owe are at most what they cost and what was owed before.
use Rattle.std.specs.Prelude.{◌≡◌, ℕ, zero, suc, ◌+◌, ◌*◌, ◌==◌, ◌≤◌, max, Bool, true, false, ℤ, pos, ◌+ℤ◌, List, [], ◌∷◌, ◌++◌, length, if◌then◌else◌, IsSome, Option, None, Some}
use Rattle.std.specs.List.{AllByRecursion}
use Rattle.std.specs.Option.{unwrap_or}
use Rattle.std.proofs.Common.{refl, arith, length-append}
use Rattle.std.proofs.Math.Nat.{mul-le-mul_left}
use Rattle.std.proofs.lemmas.Bool.{false≢true}
use Rattle.loop_ir.specs.Costs.{action_cost, choice_cost, cost, loop_cost, named, time}
use Rattle.loop_ir.specs.Kept.{EachNamed}
use Rattle.loop_ir.specs.Running.{Key, Register, Pointer}
use Rattle.loop_ir.specs.Steps.{Action, Set, Copy, One, Two, Place, Spot, Walk, Read, Write, Steps, End, Then, For, If}
use Rattle.moa_tree.specs.declared.operator.Op.{Op}
use Rattle.moa_tree.specs.declared.operator.Op.TheVariants as op
use Rattle.moa_tree.specs.declared.operator.Unary.{Unary}
use Rattle.moa_tree.specs.declared.operator.Unary.TheVariants as unary
use Rattle.register_map.specs.declared.home.Home.{Home}
use Rattle.register_map.specs.declared.home.Home.TheVariants as home
use Rattle.register_map.specs.Homes.{home_of}
use Rattle.rv_line.specs.declared.line.Line.{Line}
use Rattle.rv_line.specs.declared.line.Line.TheVariants.{Three as ThreeLine, Imm as ImmLine, Load as LoadLine, Store as StoreLine, Jal}
use Rattle.rv_line.specs.declared.line.Three.TheVariants.{Add}
use Rattle.rv_line.specs.declared.line.Imm.TheVariants.{Addi, Slli}
use Rattle.rv_line.specs.declared.line.Load.TheVariants.{Ld}
use Rattle.rv_line.specs.declared.line.Store.TheVariants.{Sd}
use Rattle.rv_steps.specs.Constants.{constant_lines}
use Rattle.rv_emit.specs.Computing.{copy_lines, one_lines, two_lines}
use Rattle.rv_emit.specs.Emitting.{Piece, Plan, action_lines, back, choice_of, count_by, count_lines, emitted, first_count, home_at, is_in_reach, last_count, lists_of, loop_of, near_lines, near_owed, offset, owed_after, owed_by, settled, start_lines, test_lines, turn_of, turns_of}
use Rattle.rv_emit.specs.Moving.{fetch_lines, put_lines, register_of, settle_lines}
use Rattle.rv_emit.specs.Pricing.{prices_of, width_of}
use Rattle.rv_emit.specs.Walks.{Owed, bytes}
use Rattle.rv_emit.proofs.ConstantLemmas.{constants_most, constants_same, constants_some, constants_two, spot_few}
use Rattle.rv_emit.proofs.RepayLemmas.{IsClose, IsWide, fetch_wide, near_settles, put_wide, settles, walk_settles, width, without_settles}

-- ---- operators

one_few : (code : Unary) (to from : ℕ) → length (one_lines code to from) ≤ 3
one_few unary.Neg to from = omega arith
one_few unary.Not to from = omega arith
one_few unary.Abs to from = omega arith

either_few : (test : Bool) (one other : List Line) (most : ℕ) → length one ≤ most → length other ≤ most
    → length (if test then one else other) ≤ most
either_few true one other most p q = p
either_few false one other most p q = q

copies_few : (to from : ℕ) → length (copy_lines to from) ≤ 1
copies_few to from = either_few (to == from) _ _ 1 (omega arith) (omega arith)

behind_copies : (to from : ℕ) (lines : List Line) → length lines ≤ 2 → length (copy_lines to from ++ lines) ≤ 3
behind_copies to from lines two = omega (arith, two, copies_few to from, length-append (copy_lines to from) lines)

two_few : (code : Op) (at to left right : ℕ) → length (two_lines at code to left right) ≤ 3
two_few op.Add at to left right = omega arith
two_few op.Sub at to left right = omega arith
two_few op.Mul at to left right = omega arith
two_few op.Quot at to left right = omega arith
two_few op.Rem at to left right = omega arith
two_few op.Min at to left right = either_few (to == right) _ _ 3 (omega arith) (behind_copies to left _ (omega arith))
two_few op.Max at to left right = either_few (to == right) _ _ 3 (omega arith) (behind_copies to left _ (omega arith))
two_few op.Eq at to left right = omega arith
two_few op.Ne at to left right = omega arith
two_few op.Lt at to left right = omega arith
two_few op.Le at to left right = omega arith
two_few op.And at to left right = omega arith
two_few op.Or at to left right = omega arith
two_few op.Xor at to left right = omega arith

-- ---- homes

found_price : (found : Option Home) → IsSome found → width_of found ≡ width (unwrap_or found (home.Spill 0))
found_price None there = absurd (false≢true there)
found_price (Some own) there = refl

module _ (plan : Plan) (few : plan.spill ≤ 8192) (close : (key : Key) → IsClose (home_at plan key)) where
  price : (key : Key) → IsSome (home_of plan.homes key) → width_of (home_of plan.homes key) ≡ width (home_at plan key)
  price key there = found_price (home_of plan.homes key) there

  fetches : (scratch : ℕ) (key : Key) → IsWide (length (fetch_lines scratch (home_at plan key))) (width (home_at plan key))
  fetches scratch key = fetch_wide scratch (home_at plan key) (close key)

  puts : (key : Key) → IsWide (length (put_lines (home_at plan key))) (width (home_at plan key))
  puts key = put_wide (home_at plan key) (close key)

  -- ---- actions

  action_size : (action : Action) (at : ℕ) (owed : Owed) → AllByRecursion (λ key. IsSome (home_of plan.homes key)) (named action)
      → length (action_lines plan at owed action) + settles (owed_by plan owed action)
      ≤ action_cost (prices_of plan.homes) action + settles owed
  action_size (Set to value) at owed there =
      let own = home_at plan (Register to) in
      let lines = length-append (constant_lines (register_of 30 own) value) (put_lines own) in
      omega (
        arith,
        lines,
        (puts (Register to)).twice,
        price (Register to) there.0,
        constants_same (register_of 30 own) 31 value,
        without_settles owed own,
      )
  action_size (Copy to from) at owed there =
      let own = home_at plan (Register to) in
      let other = home_at plan (Register from) in
      let lines = length-append (fetch_lines 28 other) (ImmLine Addi (register_of 30 own) (register_of 28 other) (pos 0) ∷ put_lines own) in
      omega (
        arith,
        lines,
        (puts (Register to)).twice,
        (fetches 28 (Register from)).twice,
        price (Register to) there.0,
        price (Register from) there.1.0,
        without_settles owed own,
      )
  action_size (One code to from) at owed there =
      let own = home_at plan (Register to) in
      let other = home_at plan (Register from) in
      let compute = one_lines code (register_of 30 own) (register_of 28 other) in
      let lines = length-append (fetch_lines 28 other) (compute ++ put_lines own) in
      let more = length-append compute (put_lines own) in
      omega (
        arith,
        lines,
        more,
        one_few code (register_of 30 own) (register_of 28 other),
        (puts (Register to)).twice,
        (fetches 28 (Register from)).twice,
        price (Register to) there.0,
        price (Register from) there.1.0,
        without_settles owed own,
      )
  action_size (Two code to left right) at owed there =
      let own = home_at plan (Register to) in
      let one = home_at plan (Register left) in
      let other = home_at plan (Register right) in
      let both = fetch_lines 28 one ++ fetch_lines 29 other in
      let compute = two_lines (at + length both) code (register_of 30 own) (register_of 28 one) (register_of 29 other) in
      let first = length-append (fetch_lines 28 one) (fetch_lines 29 other) in
      let lines = length-append both (compute ++ put_lines own) in
      let more = length-append compute (put_lines own) in
      omega (
        arith,
        first,
        lines,
        more,
        two_few code (at + length both) (register_of 30 own) (register_of 28 one) (register_of 29 other),
        (puts (Register to)).twice,
        (fetches 28 (Register left)).twice,
        (fetches 29 (Register right)).twice,
        price (Register to) there.0,
        price (Register left) there.1.0,
        price (Register right) there.1.1.0,
        without_settles owed own,
      )
  action_size (Place to word) at owed there =
      let own = home_at plan (Pointer to) in
      let constant = constant_lines 30 (bytes (pos plan.spill +ℤ word)) in
      let lines = length-append constant (ThreeLine Add (register_of 30 own) 30 10 ∷ put_lines own) in
      omega (
        arith,
        lines,
        (puts (Pointer to)).twice,
        price (Pointer to) there.0,
        constants_most 30 (bytes (pos plan.spill +ℤ word)),
        constants_some 31 word,
        without_settles owed own,
      )
  action_size (Spot to word by) at owed there =
      let own = home_at plan (Pointer to) in
      let from = home_at plan (Register by) in
      let constant = constant_lines 30 (bytes (pos plan.spill +ℤ word)) in
      let last =
      ImmLine Slli 29 (register_of 28 from) (pos 3) ∷ ThreeLine Add 30 30 29 ∷ ThreeLine Add (register_of 30 own) 30 10 ∷ put_lines own in
      let lines = length-append (fetch_lines 28 from) (constant ++ last) in
      let more = length-append constant last in
      omega (
        arith,
        lines,
        more,
        (puts (Pointer to)).twice,
        (fetches 28 (Register by)).twice,
        price (Pointer to) there.0,
        price (Register by) there.1.0,
        spot_few 30 plan.spill word few,
        constants_same 30 31 word,
        without_settles owed own,
      )
  action_size (Walk place words) at owed there =
      omega (arith, walk_settles owed (home_at plan (Pointer place)) words (close (Pointer place)), price (Pointer place) there.0)
  action_size (Read to area place) at owed there =
      let from = home_at plan (Pointer place) in
      let own = home_at plan (Register to) in
      let last = LoadLine Ld (register_of 30 own) (offset owed from) (register_of 30 from) ∷ put_lines own in
      let lines = length-append (near_lines owed from) (fetch_lines 30 from ++ last) in
      let more = length-append (fetch_lines 30 from) last in
      omega (
        arith,
        lines,
        more,
        near_settles owed from,
        without_settles (near_owed owed from) own,
        (puts (Register to)).twice,
        (fetches 30 (Pointer place)).twice,
        price (Register to) there.0,
        price (Pointer place) there.1.0,
      )
  action_size (Write area place from) at owed there =
      let to = home_at plan (Pointer place) in
      let own = home_at plan (Register from) in
      let last = StoreLine Sd (register_of 28 own) (offset owed to) (register_of 30 to) ∷ [] in
      let lines = length-append (near_lines owed to) (fetch_lines 28 own ++ (fetch_lines 30 to ++ last)) in
      let more = length-append (fetch_lines 28 own) (fetch_lines 30 to ++ last) in
      let most = length-append (fetch_lines 30 to) last in
      omega (
        arith,
        lines,
        more,
        most,
        near_settles owed to,
        (fetches 28 (Register from)).twice,
        (fetches 30 (Pointer place)).twice,
        price (Pointer place) there.0,
        price (Register from) there.1.0,
      )

  -- ---- loops

  -- the lines of a constant of which a loop has one at its start or one in each turn
  counts_by : (down : Bool) (turns : ℕ)
      → length (constant_lines 31 (if down then pos turns else pos 0)) + length (if down then [] else constant_lines 31 (pos turns))
      ≤ length (constant_lines 31 (pos turns)) + 2
  counts_by true turns = omega arith
  counts_by false turns = omega (arith, constants_two 31 (pos 0) (omega arith))

  first_by : (down : Bool) (turns : ℕ)
      → length (constant_lines 31 (if down then pos turns else pos 0)) ≤ length (constant_lines 31 (pos turns)) + 1
  first_by true turns = omega arith
  first_by false turns = omega (arith, constants_two 31 (pos 0) (omega arith), constants_some 31 (pos turns))

  last_by : (down : Bool) (turns : ℕ) → length (if down then [] else constant_lines 31 (pos turns)) ≤ length (constant_lines 31 (pos turns))
  last_by true turns = omega arith
  last_by false turns = omega arith

  start_size : (owed : Owed) (counter turns : ℕ) → length (start_lines plan owed counter turns)
      ≡ settles owed + (length (constant_lines 31 (first_count plan counter turns)) + length (put_lines (home_at plan (Register counter))))
  start_size owed counter turns =
      let own = home_at plan (Register counter) in
      let constant = constant_lines (register_of 30 own) (first_count plan counter turns) in
      let lines = length-append (settle_lines owed) (constant ++ put_lines own) in
      let more = length-append constant (put_lines own) in
      omega (arith, lines, more, constants_same (register_of 30 own) 31 (first_count plan counter turns))

  count_size : (counter turns : ℕ) → length (count_lines plan counter turns)
      ≡ length (fetch_lines 30 (home_at plan (Register counter))) + (1 + (length (put_lines (home_at plan (Register counter)))
      + length (if plan.down (Register counter) then [] else constant_lines 31 (pos turns))))
  count_size counter turns =
      let own = home_at plan (Register counter) in
      let last = if plan.down (Register counter) then [] else constant_lines 31 (pos turns) in
      let lines = length-append (fetch_lines 30 own)
      (ImmLine Addi (register_of 30 own) (register_of 30 own) (count_by plan counter) ∷ (put_lines own ++ last)) in
      let more = length-append (put_lines own) last in
      omega (arith, lines, more)

  three_by : (test : Bool) (one other : Piece) → length one.lines ≤ 3 → length other.lines ≤ 3
      → length (if test then one else other).lines ≤ 3
  three_by true one other p q = p
  three_by false one other p q = q

  back_lines : (top left right at : ℕ) → length (back top left right at).lines ≤ 3
  back_lines top left right at = three_by (is_in_reach top at) _ _ (omega arith) (omega arith)

  steps_by : (test : Bool) (one other : Piece) → one.steps ≤ 2 → other.steps ≤ 2 → (if test then one else other).steps ≤ 2
  steps_by true one other p q = p
  steps_by false one other p q = q

  back_steps : (top left right at : ℕ) → (back top left right at).steps ≤ 2
  back_steps top left right at = steps_by (is_in_reach top at) _ _ (omega arith) (omega arith)

  turn_lines : (counter turns : ℕ) (body : ℕ → Piece) (most : ℕ) → ((top : ℕ) → length (body top).lines ≤ most) → (top : ℕ)
      → length (turn_of plan counter turns body top).lines ≤ most + length (count_lines plan counter turns) + 3
  turn_lines counter turns body most small top =
      let counting = count_lines plan counter turns in
      let next = top + length (body top).lines in
      let last = back top (register_of 30 (home_at plan (Register counter))) (last_count plan counter) (next + length counting) in
      let lines = length-append (body top).lines (counting ++ last.lines) in
      let more = length-append counting last.lines in
      omega (
        arith,
        lines,
        more,
        small top,
        back_lines top (register_of 30 (home_at plan (Register counter))) (last_count plan counter) (next + length counting),
      )

  turn_steps : (counter turns : ℕ) (body : ℕ → Piece) (most : ℕ) → ((top : ℕ) → (body top).steps ≤ most) → (top : ℕ)
      → (turn_of plan counter turns body top).steps ≤ most + length (count_lines plan counter turns) + 2
  turn_steps counter turns body most small top =
      let counting = count_lines plan counter turns in
      let next = top + length (body top).lines in
      omega (
        arith,
        small top,
        back_steps top (register_of 30 (home_at plan (Register counter))) (last_count plan counter) (next + length counting),
      )

  turns_lines : (turns : ℕ) (turn : ℕ → Piece) (most : ℕ) → ((top : ℕ) → length (turn top).lines ≤ most) → (top : ℕ)
      → length (turns_of turns turn top).lines ≤ most
  turns_lines zero turn most small top = omega arith
  turns_lines (suc turns) turn most small top = small top

  turns_steps : (turns : ℕ) (turn : ℕ → Piece) (most : ℕ) → ((top : ℕ) → (turn top).steps ≤ most) → (top : ℕ)
      → (turns_of turns turn top).steps ≤ turns * most
  turns_steps zero turn most small top = omega arith
  turns_steps (suc turns) turn most small top = mul-le-mul_left (suc turns) (small top)

  loop_lines : (at : ℕ) (owed : Owed) (counter turns : ℕ) (body : ℕ → Piece) (most : ℕ) → IsSome (home_of plan.homes (Register counter))
      → ((top : ℕ) → length (body top).lines ≤ most)
      → length (loop_of plan at owed counter turns body).lines ≤ settles owed + loop_cost (prices_of plan.homes) counter turns + most
  loop_lines at owed counter turns body most there small =
      let key = Register counter in
      let start = start_lines plan owed counter turns in
      let turn = turn_of plan counter turns body in
      let each = turns_lines turns turn (most + length (count_lines plan counter turns) + 3) (turn_lines counter turns body most small)
      (at + length start) in
      let lines = length-append start (turns_of turns turn (at + length start)).lines in
      omega (
        arith,
        each,
        lines,
        start_size owed counter turns,
        count_size counter turns,
        counts_by (plan.down key) turns,
        (puts key).twice,
        (fetches 30 key).twice,
        price key there,
      )

  loop_steps : (at : ℕ) (owed : Owed) (counter turns : ℕ) (body : ℕ → Piece) (most : ℕ) → IsSome (home_of plan.homes (Register counter))
      → ((top : ℕ) → (body top).steps ≤ most)
      → (loop_of plan at owed counter turns body).steps
      ≤ settles owed + loop_cost (prices_of plan.homes) counter turns + turns * (loop_cost (prices_of plan.homes) counter turns + most)
  loop_steps at owed counter turns body most there small =
      let key = Register counter in
      let start = start_lines plan owed counter turns in
      let turn = turn_of plan counter turns body in
      let own = loop_cost (prices_of plan.homes) counter turns in
      let once : (top : ℕ) → (turn top).steps ≤ own + most =
      λ top. omega (
        arith,
        turn_steps counter turns body most small top,
        count_size counter turns,
        last_by (plan.down key) turns,
        (puts key).twice,
        (fetches 30 key).twice,
        price key there,
      ) in
      let each : (turns_of turns turn (at + length start)).steps ≤ turns * (own + most) =
      turns_steps turns turn (own + most) once (at + length start) in
      let first : length start ≤ settles owed + own =
      omega (arith, start_size owed counter turns, first_by (plan.down key) turns, (puts key).twice, price key there) in
      omega (arith, each, first)

  -- ---- choices

  test_size : (owed : Owed) (left : ℕ) (below : ℤ) → length (test_lines plan owed left below)
      ≡ settles owed + (length (fetch_lines 28 (home_at plan (Register left))) + length (constant_lines 31 below))
  test_size owed left below =
      let fetch = fetch_lines 28 (home_at plan (Register left)) in
      let lines = length-append (settle_lines owed) (fetch ++ constant_lines 29 below) in
      let more = length-append fetch (constant_lines 29 below) in
      omega (arith, lines, more, constants_same 29 31 below)

  lists_lines : (register at : ℕ) (one other : ℕ → Piece) (first second : ℕ) → ((top : ℕ) → length (one top).lines ≤ first)
      → ((top : ℕ) → length (other top).lines ≤ second) → length (lists_of register at one other).lines ≤ 3 + first + second
  lists_lines register at one other first second small few =
      let head = one (at + 2) in
      let middle = at + 3 + length head.lines in
      let tail = other middle in
      let lines = length-append head.lines (Jal 0 (middle + length tail.lines) ∷ tail.lines) in
      omega (arith, lines, small (at + 2), few middle)

  most_of : (a b c d : ℕ) → a ≤ c → b ≤ d → max a b ≤ max c d
  most_of a b c d p q = omega (arith, p, q)

  lists_steps : (register at : ℕ) (one other : ℕ → Piece) (first second : ℕ) → ((top : ℕ) → (one top).steps ≤ first)
      → ((top : ℕ) → (other top).steps ≤ second) → (lists_of register at one other).steps ≤ 2 + max first second
  lists_steps register at one other first second small few =
      let head = one (at + 2) in
      let middle = at + 3 + length head.lines in
      omega (arith, most_of head.steps (other middle).steps first second (small (at + 2)) (few middle))

  choice_lines : (at : ℕ) (owed : Owed) (left : ℕ) (below : ℤ) (one other : ℕ → Piece) (first second : ℕ)
      → IsSome (home_of plan.homes (Register left))
      → ((top : ℕ) → length (one top).lines ≤ first) → ((top : ℕ) → length (other top).lines ≤ second)
      → length (choice_of plan at owed left below one other).lines
      ≤ settles owed + choice_cost (prices_of plan.homes) left below + first + second
  choice_lines at owed left below one other first second there small few =
      let key = Register left in
      let test = test_lines plan owed left below in
      let lists = lists_of (register_of 28 (home_at plan key)) (at + length test) one other in
      let lines = length-append test lists.lines in
      omega (
        arith,
        lines,
        test_size owed left below,
        lists_lines (register_of 28 (home_at plan key)) (at + length test) one other first second small few,
        (fetches 28 key).twice,
        price key there,
      )

  choice_steps : (at : ℕ) (owed : Owed) (left : ℕ) (below : ℤ) (one other : ℕ → Piece) (first second : ℕ)
      → IsSome (home_of plan.homes (Register left))
      → ((top : ℕ) → (one top).steps ≤ first) → ((top : ℕ) → (other top).steps ≤ second)
      → (choice_of plan at owed left below one other).steps
      ≤ settles owed + choice_cost (prices_of plan.homes) left below + max first second
  choice_steps at owed left below one other first second there small few =
      let key = Register left in
      let test = test_lines plan owed left below in
      omega (
        arith,
        test_size owed left below,
        lists_steps (register_of 28 (home_at plan key)) (at + length test) one other first second small few,
        (fetches 28 key).twice,
        price key there,
      )

  -- ---- steps

  settled_lines : (steps : Steps) (most : ℕ)
      → ((owed : Owed) (at : ℕ) → length (emitted plan owed steps at).lines + settles (owed_after plan owed steps) ≤ most + settles owed)
      → (top : ℕ) → length (settled plan steps top).lines ≤ most
  settled_lines steps most small top =
      let lines =
      length-append (emitted plan [] steps top).lines (settle_lines (owed_after plan [] steps)) in omega (arith, lines, small [] top)

  settled_steps : (steps : Steps) (most : ℕ)
      → ((owed : Owed) (at : ℕ) → (emitted plan owed steps at).steps + settles (owed_after plan owed steps) ≤ most + settles owed)
      → (top : ℕ) → (settled plan steps top).steps ≤ most
  settled_steps steps most small top = omega (arith, small [] top)

  -- what stands in front costs at most this, and what is behind it begins with nothing owed
  both_cost : (front back after own cost owed : ℕ) → front ≤ owed + own → back + after ≤ cost + 0 → front + back + after ≤ own + cost + owed
  both_cost front back after own cost owed p q = omega (arith, p, q)

  pub steps_lines : (steps : Steps) → EachNamed (λ key. IsSome (home_of plan.homes key)) steps → (owed : Owed) (at : ℕ)
      → length (emitted plan owed steps at).lines + settles (owed_after plan owed steps) ≤ cost (prices_of plan.homes) steps + settles owed
  steps_lines End there owed at = omega arith
  steps_lines (Then action rest) there owed at =
      let own = action_lines plan at owed action in
      let next = owed_by plan owed action in
      let more = steps_lines rest there.1 next (at + length own) in
      let lines = length-append own (emitted plan next rest (at + length own)).lines in
      omega (arith, action_size action at owed there.0, more, lines)
  steps_lines (For counter turns body rest) there owed at =
      let loop = loop_of plan at owed counter turns (settled plan body) in
      let small = loop_lines at owed counter turns (settled plan body) (cost (prices_of plan.homes) body) there.0
      (settled_lines body (cost (prices_of plan.homes) body) (steps_lines body there.1.0)) in
      let more = steps_lines rest there.1.1 [] (at + length loop.lines) in
      let lines = length-append loop.lines (emitted plan [] rest (at + length loop.lines)).lines in
      omega (arith, small, more, lines)
  steps_lines (If left below one other rest) there owed at =
      let choice = choice_of plan at owed left below (settled plan one) (settled plan other) in
      let small = choice_lines at owed left below (settled plan one) (settled plan other) (cost (prices_of plan.homes) one)
      (cost (prices_of plan.homes) other) there.0
      (settled_lines one (cost (prices_of plan.homes) one) (steps_lines one there.1.0))
      (settled_lines other (cost (prices_of plan.homes) other) (steps_lines other there.1.1.0)) in
      let more = steps_lines rest there.1.1.1 [] (at + length choice.lines) in
      let lines = length-append choice.lines (emitted plan [] rest (at + length choice.lines)).lines in
      omega (arith, small, more, lines)

  pub steps_time : (steps : Steps) → EachNamed (λ key. IsSome (home_of plan.homes key)) steps → (owed : Owed) (at : ℕ)
      → (emitted plan owed steps at).steps + settles (owed_after plan owed steps) ≤ time (prices_of plan.homes) steps + settles owed
  steps_time End there owed at = omega arith
  steps_time (Then action rest) there owed at =
      let own = action_lines plan at owed action in
      let next = owed_by plan owed action in
      let more = steps_time rest there.1 next (at + length own) in
      omega (arith, action_size action at owed there.0, more)
  steps_time (For counter turns body rest) there owed at =
      let loop = loop_of plan at owed counter turns (settled plan body) in
      let own = loop_cost (prices_of plan.homes) counter turns in
      let each = time (prices_of plan.homes) body in
      let small : loop.steps ≤ settles owed + (own + turns * (own + each)) =
      omega (
        arith,
        loop_steps at owed counter turns (settled plan body) each there.0
            (settled_steps body each (steps_time body there.1.0)),
      ) in
      let more = steps_time rest there.1.1 [] (at + length loop.lines) in
      both_cost loop.steps (emitted plan [] rest (at + length loop.lines)).steps (settles (owed_after plan [] rest))
      (own + turns * (own + each))
      (time (prices_of plan.homes) rest) (settles owed) small more
  steps_time (If left below one other rest) there owed at =
      let choice = choice_of plan at owed left below (settled plan one) (settled plan other) in
      let small = choice_steps at owed left below (settled plan one) (settled plan other) (time (prices_of plan.homes) one)
      (time (prices_of plan.homes) other) there.0
      (settled_steps one (time (prices_of plan.homes) one) (steps_time one there.1.0))
      (settled_steps other (time (prices_of plan.homes) other) (steps_time other there.1.1.0)) in
      let more = steps_time rest there.1.1.1 [] (at + length choice.lines) in
      omega (arith, small, more)
