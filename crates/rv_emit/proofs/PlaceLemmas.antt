-- The lines of steps that set places do what these do.
use Rattle.std.specs.Prelude.{◌≡◌, ℕ, ◌+◌, ◌%◌, ◌^◌, true, ℤ, pos, ◌+ℤ◌, ◌-ℤ◌, ◌*ℤ◌, List, [], ◌∷◌, ◌++◌, length}
use Rattle.std.proofs.Common.{refl, sym, ap, ◌∙◌, arith}
use Rattle.std.proofs.lemmas.Int.{ints}
use Rattle.loop_ir.specs.Needed.{needed}
use Rattle.loop_ir.specs.Running.{Register, Pointer, State, holding}
use Rattle.loop_ir.specs.Steps.{End, Then, Place, Spot, Walk}
use Rattle.register_map.specs.declared.home.Home.{Home}
use Rattle.rv_line.specs.declared.line.Imm.{Imm}
use Rattle.rv_line.specs.declared.line.Line.{Line}
use Rattle.rv_line.specs.declared.line.Three.{Three}
use Rattle.rv_steps.specs.Constants.{constant_lines}
use Rattle.rv_steps.specs.Effects.{word_of}
use Rattle.rv_steps.specs.Machine.{Config, Goes, IsAt, address_of, next_step, register_at, with_result}
use Rattle.rv_steps.specs.Pieces.{StandsAt}
use Rattle.rv_steps.specs.Wrapped.{wrapped}
use Rattle.rv_emit.specs.Emitting.{Plan, home_at}
use Rattle.rv_emit.specs.Handling.{Fetching, Putting}
use Rattle.rv_emit.specs.MachineLaws.{MachineLaws}
use Rattle.rv_emit.specs.Moving.{fetch_lines, put_lines, register_of}
use Rattle.rv_emit.specs.Showing.{shown}
use Rattle.rv_emit.specs.Simulating.{ActionSimulates}
use Rattle.rv_emit.specs.Walks.{Owed, bytes, without}
use Rattle.rv_emit.proofs.PlaceNumberLemmas.{bytes-fit, key-same, sum-wraps, without-same, wrapped-bytes}
use Rattle.rv_emit.proofs.PlaceRunLemmas.{did-before, did-put, did-simulates, made-constant, made-none, made-result, made-runs}
use Rattle.rv_emit.proofs.PlaceRunLemmas.{own-register, still-agrees, still-written, with_constant}
use Rattle.rv_emit.proofs.ShowLemmas.{among-one, home-there, read-before, shows-walk, wanted-before}
use Rattle.rv_emit.proofs.SimulateLemmas.{keeps-on}

-- ---- a walk has no lines

pub walk-simulates : MachineLaws → (place : ℕ) (words : ℤ) → ActionSimulates (Walk place words)
walk-simulates laws place words lines plan base at owed keys state c setting fits set owing there apart sets shows stands pc touches =
    let home = home_at plan (Pointer place) in
    did-simulates laws lines plan base _ keys _ at [] [] true state c refl
    (record {
      last = c;
      made = made-none laws lines base plan.spill at c pc;
      shows =
          shows-walk plan base owed keys state c place words there.0 sets shows;
    })

-- ---- a sum with the address of the block

block-sum : (base : ℕ) (x : ℤ) → (wrapped x + base) % 2 ^ 64 ≡ (wrapped x + wrapped (pos base)) % 2 ^ 64
block-sum base x = omega arith

module _ (laws : MachineLaws) (lines : List Line) (plan : Plan) (base : ℕ) (at to : ℕ) (x : ℤ) (c : Config) (rest : List Line)
    (stands : StandsAt lines at (Line.Three Three.Add to 30 10 ∷ rest)) (left : register_at c.registers 30 ≡ wrapped x)
    (right : register_at c.registers 10 ≡ base) where
  step-block : IsAt lines at (Line.Three Three.Add to 30 10) c → next_step lines base c ≡ Goes (with_result c to (wrapped (x +ℤ pos base)))
  step-block is =
      let sum : (register_at c.registers 30 + register_at c.registers 10) % 2 ^ 64 ≡ wrapped (x +ℤ pos base) =
      rw (left, right) (block-sum base x ∙ laws.sum x (pos base)) in
      laws.goes lines base at c (Line.Three Three.Add to 30 10) is ∙ ap (λ value. Goes (with_result c to value)) sum

-- what a place's home holds
shows-place : (plan : Plan) (base : ℕ) (owed : Owed) (state : State) (to : ℕ) (home : Home) (number x : ℤ)
    → wrapped x ≡ wrapped (pos 8 *ℤ (pos plan.spill +ℤ number))
    → wrapped (x +ℤ pos base) ≡ shown plan base (without owed home) (holding (Pointer to) number state) (Pointer to) home
shows-place plan base owed state to home number x e =
    let sum : pos 8 *ℤ (pos plan.spill +ℤ number) +ℤ pos base ≡ pos base +ℤ pos 8 *ℤ (pos plan.spill +ℤ (number -ℤ pos 0)) =
    omega (arith, ints) in
    sum-wraps x (pos 8 *ℤ (pos plan.spill +ℤ number)) (pos base) e ∙ ap wrapped sum
    ∙ rw (key-same (Pointer to), without-same owed home) refl

pub place-simulates : MachineLaws → Putting → (to : ℕ) (word : ℤ) → ActionSimulates (Place to word)
place-simulates laws put to word lines plan base at owed keys state c setting fits set owing there apart sets shows stands pc touches =
    let home = home_at plan (Pointer to) in
    let r = register_of 30 home in
    let on = home-there plan (Pointer to) there.0 in
    let own = own-register plan.spill 30 home (setting.homes (Pointer to) home on) (omega arith) (omega arith) in
    let count = shows.block.count in
    let x = bytes (pos plan.spill +ℤ word) in
    let constant = constant_lines 30 x in
    let add = Line.Three Three.Add r 30 10 in
    let back = laws.back lines at constant (add ∷ put_lines home) stands in
    let k = at + length constant in
    -- the constant
    let c1 = with_constant laws lines base plan.spill at 30 x c in
    let made1 = made-constant laws lines base plan.spill at 30 x (add ∷ put_lines home) c stands (omega arith) (omega (arith, count))
    (bytes-fit (pos plan.spill +ℤ word)) pc in
    let still1 = still-written laws r 30 (word_of x) (address_of k) c (λ n far below. omega arith) in
    let left : register_at c1.registers 30 ≡ wrapped x = laws.set c.registers 30 (word_of x) (omega arith) (omega (arith, count))
    ∙ laws.signed x (bytes-fit (pos plan.spill +ℤ word)) in
    let right : register_at c1.registers 10 ≡ base = laws.unset c.registers 30 (word_of x) 10 (omega arith) ∙ shows.block.block_at in
    -- the sum
    let value = wrapped (x +ℤ pos base) in
    let c2 = with_result c1 r value in
    let made2 = made-result laws lines base plan.spill k add (put_lines home) r value c1 back refl
    (step-block laws lines plan base k r x c1 (put_lines home) back left right) refl in
    let still2 = still-written laws r r value (c1.pc + 4) c1 (λ n far below. far) in
    let here : register_at c2.registers r ≡ value = laws.set c1.registers r value own.some
    (omega (arith, own.below, still1.sized, count)) in
    let after = holding (Pointer to) word state in
    let before = did-before laws lines plan base (without owed home) keys after in
    let done = did-put laws put lines plan base owed (needed (Then (Place to word) End) keys) keys state after c c2 (Pointer to) home
    setting on
    (λ other want e. sets (Pointer to) other (among-one (Pointer to) (Pointer to) ∙ key-same (Pointer to)) want e)
    (λ other want out. wanted-before [] (Pointer to ∷ []) keys other want (among-one other (Pointer to) ∙ out))
    (λ other out. rw out refl) refl shows (keeps-on r c c1 c2 still1 still2)
    (here ∙ shows-place plan base owed state to home word x (wrapped-bytes (pos plan.spill +ℤ word)))
    (k + 1) (laws.back lines k (add ∷ []) (put_lines home) back) made2.behind in
    did-simulates laws lines plan base (without owed home) keys after at _ [] true state c refl
    (before at constant (add ∷ put_lines home) [] [] c c1 made1
    (before k (add ∷ []) (put_lines home) [] [] c1 c2 made2 done))

pub spot-simulates : MachineLaws → Fetching → Putting → (to : ℕ) (word : ℤ) (by : ℕ) → ActionSimulates (Spot to word by)
spot-simulates laws fetching put to word by lines plan base at owed keys state c setting fits set owing there apart sets shows stands pc
    touches =
    let home = home_at plan (Pointer to) in
    let from = home_at plan (Register by) in
    let r = register_of 30 home in
    let f = register_of 28 from in
    let on = home-there plan (Pointer to) there.0 in
    let on-from = home-there plan (Register by) there.1.0 in
    let is-from = setting.homes (Register by) from on-from in
    let own = own-register plan.spill 30 home (setting.homes (Pointer to) home on) (omega arith) (omega arith) in
    let own-from = own-register plan.spill 28 from is-from (omega arith) (omega arith) in
    let count = shows.block.count in
    let held = state.held (Register by) in
    let x = bytes (pos plan.spill +ℤ word) in
    let constant = constant_lines 30 x in
    let shift = Line.Imm Imm.Slli 29 f (pos 3) in
    let sum = Line.Three Three.Add 30 30 29 in
    let add = Line.Three Three.Add r 30 10 in
    let after = holding (Pointer to) (word +ℤ held) state in
    -- the register
    let fetch = fetching lines base plan.spill (length state.words) at 28 from c setting.room shows.block is-from (omega arith) (omega arith)
    (laws.front lines at (fetch_lines 28 from) (constant ++ (shift ∷ sum ∷ add ∷ put_lines home)) stands) pc in
    let c1 = fetch.run.last in
    let k1 = at + length (fetch_lines 28 from) in
    let stands1 = laws.back lines at (fetch_lines 28 from) (constant ++ (shift ∷ sum ∷ add ∷ put_lines home)) stands in
    let made1 = made-runs laws lines base plan.spill at (fetch_lines 28 from) c fetch.run in
    let still1 = still-agrees r 28 c c1 (omega arith) fetch.others fetch.block in
    let read : register_at c1.registers f ≡ wrapped held =
    fetch.value ∙ shows.held (Register by) from (read-before (Register by ∷ []) (Pointer to ∷ []) keys (Register by)
    (among-one (Register by) (Register by) ∙ key-same (Register by))) on-from in
    let count1 : length c1.registers ≡ 32 = fetch.others.sized ∙ count in
    -- the constant
    let c2 = with_constant laws lines base plan.spill k1 30 x c1 in
    let k2 = k1 + length constant in
    let stands2 = laws.back lines k1 constant (shift ∷ sum ∷ add ∷ put_lines home) stands1 in
    let made2 = made-constant laws lines base plan.spill k1 30 x (shift ∷ sum ∷ add ∷ put_lines home) c1 stands1 (omega arith)
    (omega (arith, count1)) (bytes-fit (pos plan.spill +ℤ word)) made1.behind in
    let still2 = still-written laws r 30 (word_of x) (address_of k2) c1 (λ n far below. omega arith) in
    let count2 : length c2.registers ≡ 32 = still2.sized ∙ count1 in
    let left2 : register_at c2.registers 30 ≡ wrapped x = laws.set c1.registers 30 (word_of x) (omega arith) (omega (arith, count1))
    ∙ laws.signed x (bytes-fit (pos plan.spill +ℤ word)) in
    let read2 : register_at c2.registers f ≡ wrapped held = laws.unset c1.registers 30 (word_of x) f (omega (arith, own-from.most))
    ∙ read in
    -- the bytes
    let c3 = with_result c2 29 (wrapped (pos 8 *ℤ held)) in
    let stands3 = laws.back lines k2 (shift ∷ []) (sum ∷ add ∷ put_lines home) stands2 in
    let made3 = made-result laws lines base plan.spill k2 shift (sum ∷ add ∷ put_lines home) 29 (wrapped (pos 8 *ℤ held)) c2 stands2 refl
    (λ is. laws.shift lines base k2 29 c2 f 3 held is (omega arith) read2) refl in
    let still3 = still-written laws r 29 (wrapped (pos 8 *ℤ held)) (c2.pc + 4) c2 (λ n far below. omega arith) in
    let count3 : length c3.registers ≡ 32 = still3.sized ∙ count2 in
    let left3 : register_at c3.registers 30 ≡ wrapped x = laws.unset c2.registers 29 (wrapped (pos 8 *ℤ held)) 30 (omega arith) ∙ left2 in
    let right3 : register_at c3.registers 29 ≡ wrapped (pos 8 *ℤ held) =
    laws.set c2.registers 29 (wrapped (pos 8 *ℤ held)) (omega arith) (omega (arith, count2)) in
    -- the sums
    let y = x +ℤ pos 8 *ℤ held in
    let c4 = with_result c3 30 (wrapped y) in
    let stands4 = laws.back lines (k2 + 1) (sum ∷ []) (add ∷ put_lines home) stands3 in
    let made4 = made-result laws lines base plan.spill (k2 + 1) sum (add ∷ put_lines home) 30 (wrapped y) c3 stands3 made3.behind
    (λ is. laws.add lines base (k2 + 1) 30 c3 30 29 x (pos 8 *ℤ held) is left3 right3) refl in
    let still4 = still-written laws r 30 (wrapped y) (c3.pc + 4) c3 (λ n far below. omega arith) in
    let count4 : length c4.registers ≡ 32 = still4.sized ∙ count3 in
    let left4 : register_at c4.registers 30 ≡ wrapped y = laws.set c3.registers 30 (wrapped y) (omega arith) (omega (arith, count3)) in
    let still14 = keeps-on r c c1 c4 still1 (keeps-on r c1 c2 c4 still2 (keeps-on r c2 c3 c4 still3 still4)) in
    let right4 : register_at c4.registers 10 ≡ base = still14.same 10 (omega arith) (λ e. own.ten (sym e)) ∙ shows.block.block_at in
    let value = wrapped (y +ℤ pos base) in
    let c5 = with_result c4 r value in
    let stands5 = laws.back lines (k2 + 1 + 1) (add ∷ []) (put_lines home) stands4 in
    let made5 = made-result laws lines base plan.spill (k2 + 1 + 1) add (put_lines home) r value c4 stands4 made4.behind
    (step-block laws lines plan base (k2 + 1 + 1) r y c4 (put_lines home) stands4 left4 right4) refl in
    let still5 = still-written laws r r value (c4.pc + 4) c4 (λ n far below. far) in
    let here : register_at c5.registers r ≡ value = laws.set c4.registers r value own.some (omega (arith, own.below, count4)) in
    let all : pos 8 *ℤ (pos plan.spill +ℤ word) +ℤ pos 8 *ℤ held ≡ pos 8 *ℤ (pos plan.spill +ℤ (word +ℤ held)) = omega (arith, ints) in
    let same : wrapped y ≡ wrapped (pos 8 *ℤ (pos plan.spill +ℤ (word +ℤ held))) =
    sum-wraps x (pos 8 *ℤ (pos plan.spill +ℤ word)) (pos 8 *ℤ held) (wrapped-bytes (pos plan.spill +ℤ word)) ∙ ap wrapped all in
    let before = did-before laws lines plan base (without owed home) keys after in
    let done = did-put laws put lines plan base owed (needed (Then (Spot to word by) End) keys) keys state after c c5 (Pointer to) home
    setting on
    (λ other want e. sets (Pointer to) other (among-one (Pointer to) (Pointer to) ∙ key-same (Pointer to)) want e)
    (λ other want out. wanted-before (Register by ∷ []) (Pointer to ∷ []) keys other want (among-one other (Pointer to) ∙ out))
    (λ other out. rw out refl) refl shows (keeps-on r c c4 c5 still14 still5)
    (here ∙ shows-place plan base owed state to home (word +ℤ held) y same)
    (k2 + 1 + 1 + 1) stands5 made5.behind in
    did-simulates laws lines plan base (without owed home) keys after at _ [] true state c refl
    (before at (fetch_lines 28 from) (constant ++ (shift ∷ sum ∷ add ∷ put_lines home)) [] [] c c1 made1
    (before k1 constant (shift ∷ sum ∷ add ∷ put_lines home) [] [] c1 c2 made2
    (before k2 (shift ∷ []) (sum ∷ add ∷ put_lines home) [] [] c2 c3 made3
    (before (k2 + 1) (sum ∷ []) (add ∷ put_lines home) [] [] c3 c4 made4
    (before (k2 + 1 + 1) (add ∷ []) (put_lines home) [] [] c4 c5 made5 done)))))
