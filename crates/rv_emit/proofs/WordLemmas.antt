-- The lines of reads and writes do what these do.
use Rattle.std.specs.Prelude.{◌≡◌, ℕ, ◌+◌, ◌*◌, ◌^◌, ◌<◌, ◌≤◌, Bool, true, false, ◌||◌, ℤ, pos, negsuc, ◌+ℤ◌, ◌-ℤ◌, ◌*ℤ◌}
use Rattle.std.specs.Prelude.{List, [], ◌∷◌, ◌++◌, length, Some, if◌then◌else◌, slice_get, slice_set}
use Rattle.std.specs.Int.{w64}
use Rattle.std.proofs.Common.{refl, sym, ap, subst, ◌∙◌, arith}
use Rattle.std.proofs.lemmas.Bool.Decides.{nat_tests}
use Rattle.std.proofs.lemmas.Int.{ints}
use Rattle.std.proofs.lemmas.List.{length-set}
use Rattle.std.proofs.lemmas.Option.{get_or_from_slice_get}
use Rattle.loop_ir.specs.Needed.{Keys, among, needed}
use Rattle.loop_ir.specs.Running.{Key, Register, Pointer, State, ReadsWord, WritesWord, acted, is_key, with_word, word_at}
use Rattle.loop_ir.specs.Steps.{End, Then, Read, Write}
use Rattle.register_map.specs.declared.home.Home.{Home}
use Rattle.register_map.specs.declared.home.Home.TheVariants as home
use Rattle.register_map.specs.Fits.{AreApart}
use Rattle.register_map.specs.Homes.{IsHome, home_of}
use Rattle.rv_line.specs.Fits.{IsImmediate}
use Rattle.rv_line.specs.declared.line.Line.{Line}
use Rattle.rv_line.specs.declared.line.Load.{Load}
use Rattle.rv_line.specs.declared.line.Store.{Store}
use Rattle.rv_steps.specs.Constants.{is_signed_below}
use Rattle.rv_steps.specs.Effects.{signed_value}
use Rattle.rv_steps.specs.Good.{values_at}
use Rattle.rv_steps.specs.Machine.{Config, IsAt, Loads, Stores, address, address_of, register_at, value_at, with_result}
use Rattle.rv_steps.specs.Machine.{with_value}
use Rattle.rv_steps.specs.Pieces.{StandsAt}
use Rattle.rv_steps.specs.Registers.{is_among}
use Rattle.rv_steps.specs.Wrapped.{wrapped}
use Rattle.rv_emit.specs.Emitting.{Plan, home_at, is_offset, near_lines, near_owed, offset}
use Rattle.rv_emit.specs.Handling.{Fetching, Putting, Repaying}
use Rattle.rv_emit.specs.MachineLaws.{MachineLaws}
use Rattle.rv_emit.specs.Moving.{fetch_lines, put_lines, register_of, repay_lines}
use Rattle.rv_emit.specs.Showing.{AreInOrder, HasBlock, IsSetting, Shows, held_in, is_whole}
use Rattle.rv_emit.specs.Simulating.{ActionSimulates}
use Rattle.rv_emit.specs.Walks.{Owed, bytes, owed_at, without}
use Rattle.rv_emit.proofs.PlaceNumberLemmas.{key-same, signed-wrapped, sum-bytes, without-same, wrapped-below, wrapped-signed}
use Rattle.rv_emit.proofs.PlaceRunLemmas.{Made, did-before, did-put, did-simulates, given-range, is-at, made-line, made-none}
use Rattle.rv_emit.proofs.PlaceRunLemmas.{made-runs, own-register, still-agrees, still-written}
use Rattle.rv_emit.proofs.ShowLemmas.{among-one, home-there, read-before, shown-same, shows-changed, wanted-before}
use Rattle.rv_emit.proofs.SimulateLemmas.{KeepsBut, block-kept, keeps-on}

-- ---- the address of a word

immediate : (z : ℤ) → is_signed_below 2048 z ≡ true → IsImmediate z
immediate (pos n) h = let small : n < 2048 = grind (arith, nat_tests) in record { low = omega (arith, ints); high = omega (arith, ints) }
immediate (negsuc n) h = let small : n < 2048 = grind (arith, nat_tests) in record { low = omega (arith, ints); high = omega (arith, ints) }

-- from the number in the home, the offset leads to the word of the place
near-address : MachineLaws → (plan : Plan) (base : ℕ) (owed : Owed) (from : Home) (held : ℤ) (registers : List ℕ) (r : ℕ)
    → register_at registers r ≡ wrapped (pos base +ℤ pos 8 *ℤ (pos plan.spill +ℤ (held -ℤ owed_at (near_owed owed from) from)))
    → address registers r (offset owed from) ≡ wrapped (pos base +ℤ pos 8 *ℤ (pos plan.spill +ℤ held))
near-address laws plan base owed from held registers r = by (is_offset (owed_at owed from)) refl
  where
    by : (b : Bool) → is_offset (owed_at owed from) ≡ b
        → register_at registers r ≡ wrapped (pos base +ℤ pos 8 *ℤ
        (pos plan.spill +ℤ (held -ℤ owed_at (if b then owed else without owed from) from)))
        → address registers r (if b then bytes (owed_at owed from) else pos 0) ≡ wrapped (pos base +ℤ pos 8 *ℤ (pos plan.spill +ℤ held))
    by true e h =
        let o = owed_at owed from in
        let z = pos base +ℤ pos 8 *ℤ (pos plan.spill +ℤ (held -ℤ o)) in
        let sum : z +ℤ pos 8 *ℤ o ≡ pos base +ℤ pos 8 *ℤ (pos plan.spill +ℤ held) = omega (arith, ints) in
        laws.reach registers r z (bytes o) h (immediate (bytes o) e) ∙ sum-bytes z o ∙ ap wrapped sum
    by false e h =
        let z = pos base +ℤ pos 8 *ℤ (pos plan.spill +ℤ (held -ℤ pos 0)) in
        let sum : z +ℤ pos 0 ≡ pos base +ℤ pos 8 *ℤ (pos plan.spill +ℤ held) = omega (arith, ints) in
        let now : register_at registers r ≡ wrapped z = rw (without-same owed from) at h in
        laws.reach registers r z (pos 0) now (immediate (pos 0) refl) ∙ ap wrapped sum

-- that is where the word lies
word-address : (base spill place : ℕ) (word : ℤ) → word ≡ pos place → base + 8 * (spill + place) < 2 ^ 64
    → wrapped (pos base +ℤ pos 8 *ℤ (pos spill +ℤ word)) ≡ base + 8 * (spill + place)
word-address base spill place word e small =
    let whole : pos base +ℤ pos 8 *ℤ (pos spill +ℤ word) ≡ pos (base + 8 * (spill + place)) = omega (arith, ints, e) in
    let same : wrapped (pos (base + 8 * (spill + place))) ≡ base + 8 * (spill + place) = omega arith in
    ap wrapped whole ∙ same

-- ---- a home whose place is near

-- a piece that leads to where the same is shown, and this is owed
record Near (lines : List Line) (plan : Plan) (base at : ℕ) (early : Keys) (state : State) (c : Config) (piece : List Line) (owing : Owed)
    : Type 0 where
  last : Config
  made : Made lines base plan.spill at piece [] c last
  shows : Shows plan base owing early state last

comes-near : MachineLaws → Repaying → (lines : List Line) (plan : Plan) (base at : ℕ) (owed : Owed) (early : Keys) (state : State)
    (place : ℕ) (from : Home) (c : Config)
    → IsSetting plan base (length state.words) → home_of plan.homes (Pointer place) ≡ Some from → early (Pointer place) ≡ true
    → AreApart (home_of plan.homes) early → Shows plan base owed early state c → StandsAt lines at (near_lines owed from)
    → c.pc ≡ address_of at
    → Near lines plan base at early state c (near_lines owed from) (near_owed owed from)
comes-near laws repay lines plan base at owed early state place from c setting on read apart shows = by (is_offset (owed_at owed from)) refl
  where
    by : (b : Bool) → is_offset (owed_at owed from) ≡ b
        → StandsAt lines at (if b then [] else repay_lines from (owed_at owed from)) → c.pc ≡ address_of at
        → Near lines plan base at early state c (if b then [] else repay_lines from (owed_at owed from))
        (if b then owed else without owed from)
    by true e stands pc = record { last = c; made = made-none laws lines base plan.spill at c pc; shows = shows }
    by false e stands pc =
        let o = owed_at owed from in
        let held = state.held (Pointer place) in
        let z = pos base +ℤ pos 8 *ℤ (pos plan.spill +ℤ (held -ℤ o)) in
        let sum : z +ℤ pos 8 *ℤ o ≡ pos base +ℤ pos 8 *ℤ (pos plan.spill +ℤ (held -ℤ pos 0)) = omega (arith, ints) in
        let paid = repay lines base plan.spill (length state.words) at from o z c setting.room shows.block
        (setting.homes (Pointer place) from on) stands pc
        (shows.held (Pointer place) from read on) in
        record {
          last = paid.0.last;
          made = made-runs laws lines base plan.spill at (repay_lines from o) c paid.0;
          shows = shows-changed plan base owed early early state state c paid.0.last (Pointer place) from (wrapped (z +ℤ pos 8 *ℤ o))
              setting on
              (λ other want e. apart (Pointer place) other read want e) (λ other want out. want) (λ other out. refl) refl shows paid.1
              (ap wrapped sum ∙ rw (without-same owed from) refl);
        }

-- ---- loads and stores of words behind the spill words

far-word : (base spill place : ℕ) → is_whole base spill (base + 8 * (spill + place)) 8 ≡ false
far-word base spill place = grind (arith, nat_tests)

load-order : (base spill area at place : ℕ) (word : ℤ) → at ≡ base + 8 * (spill + place) → word ≡ pos place
    → AreInOrder base spill (Loads at 8 ∷ []) (ReadsWord area word ∷ [])
load-order base spill area at place word e f = let far = far-word base spill place in rw (e, f, far) refl

store-order : (base spill area at place : ℕ) (word : ℤ) → at ≡ base + 8 * (spill + place) → word ≡ pos place
    → AreInOrder base spill (Stores at 8 ∷ []) (WritesWord area word ∷ [])
store-order base spill area at place word e f = let far = far-word base spill place in rw (e, f, far) refl

-- ---- a read

pub read-simulates : MachineLaws → Fetching → Putting → Repaying → (to area place : ℕ) → ActionSimulates (Read to area place)
read-simulates laws fetching put repay to area place lines plan base at owed keys state c setting fits set owing there apart sets shows
    stands pc touches =
    let home = home_at plan (Register to) in
    let from = home_at plan (Pointer place) in
    let r = register_of 30 home in
    let f = register_of 30 from in
    let word = state.held (Pointer place) in
    let early = needed (Then (Read to area place) End) keys in
    let after = acted (Read to area place) state in
    let on = home-there plan (Register to) there.0 in
    let on-from = home-there plan (Pointer place) there.1.0 in
    let is-from = setting.homes (Pointer place) from on-from in
    let own = own-register plan.spill 30 home (setting.homes (Register to) home on) (omega arith) (omega arith) in
    let own-from = own-register plan.spill 30 from is-from (omega arith) (omega arith) in
    let read = read-before (Pointer place ∷ []) (Register to ∷ []) keys (Pointer place)
    (among-one (Pointer place) (Pointer place) ∙ key-same (Pointer place)) in
    let load = Line.Load Load.Ld r (offset owed from) f in
    let n = length state.words in
    let touch = touches.0 in
    let i = touch.place in
    let room = setting.room.within in
    let within = touch.within in
    -- the place
    let near = comes-near laws repay lines plan base at owed early state place from c setting on-from read apart shows
    (laws.front lines at (near_lines owed from) (fetch_lines 30 from ++ (load ∷ put_lines home)) stands) pc in
    let c0 = near.last in
    let owes = near_owed owed from in
    let k0 = at + length (near_lines owed from) in
    let stands0 = laws.back lines at (near_lines owed from) (fetch_lines 30 from ++ (load ∷ put_lines home)) stands in
    -- its register
    let fetch = fetching lines base plan.spill n k0 30 from c0 setting.room near.shows.block is-from
    (omega arith) (omega arith)
    (laws.front lines k0 (fetch_lines 30 from) (load ∷ put_lines home) stands0) near.made.behind in
    let c1 = fetch.run.last in
    let k1 = k0 + length (fetch_lines 30 from) in
    let stands1 = laws.back lines k0 (fetch_lines 30 from) (load ∷ put_lines home) stands0 in
    let made1 = made-runs laws lines base plan.spill k0 (fetch_lines 30 from) c0 fetch.run in
    let still1 = still-agrees r 30 c0 c1 (omega arith) fetch.others fetch.block in
    let count1 : length c1.registers ≡ 32 = fetch.others.sized ∙ near.shows.block.count in
    let to-word : address c1.registers f (offset owed from) ≡ base + 8 * (plan.spill + i) =
    near-address laws plan base owed from word c1.registers f (fetch.value ∙ near.shows.held (Pointer place) from read on-from)
    ∙ word-address base plan.spill i word touch.same (omega (arith, room, within)) in
    let sized1 : length c1.block ≡ 8 * (plan.spill + n) = ap (λ block. length block) fetch.block ∙ near.shows.block.sized in
    -- the word
    let v = value_at w64 c1.block (8 * (plan.spill + i)) in
    let is : IsAt lines k1 load c1 = is-at laws lines base plan.spill k1 load (put_lines home) c1 stands1 fetch.run.behind in
    let goes = laws.load lines base k1 c1 r (offset owed from) f (plan.spill + i) is setting.room.aligned to-word
    (omega (arith, sized1, within)) in
    let c2 = with_result c1 r v in
    let made2 = made-line laws lines base plan.spill k1 load (ReadsWord area word ∷ []) c1 c2 is goes (omega (arith, fetch.run.behind))
    (load-order base plan.spill area (address c1.registers f (offset owed from)) i word to-word touch.same) in
    let still2 = still-written laws r r v (c1.pc + 4) c1 (λ n far below. far) in
    let here : register_at c2.registers r ≡ v = laws.set c1.registers r v own.some (omega (arith, own.below, count1)) in
    let small : v < 2 ^ 64 = rw fetch.block (laws.small_word c0.block (8 * (plan.spill + i)) near.shows.block.bytes) in
    let listed : values_at c1.block plan.spill n ≡ state.words = ap (λ block. values_at block plan.spill n) fetch.block
    ∙ near.shows.words in
    let got : word_at state.words word ≡ signed_value v =
    ap (λ w. word_at state.words w) touch.same
    ∙ get_or_from_slice_get state.words i (signed_value v) (pos 0)
    (ap (λ list. slice_get list i) (sym listed) ∙ laws.value c1.block plan.spill n i within) in
    let held : v ≡ wrapped (word_at state.words word) = sym (wrapped-signed v small) ∙ ap wrapped (sym got) in
    let before = did-before laws lines plan base (without owes home) keys after in
    let done = did-put laws put lines plan base owes early keys state after c0 c2 (Register to) home
    setting on
    (λ other want e. sets (Register to) other (among-one (Register to) (Register to) ∙ key-same (Register to)) want e)
    (λ other want out. wanted-before (Pointer place ∷ []) (Register to ∷ []) keys other want (among-one other (Register to) ∙ out))
    (λ other out. rw out refl) refl near.shows (keeps-on r c0 c1 c2 still1 still2)
    (here ∙ held ∙ rw (key-same (Register to)) refl)
    (k1 + 1) (laws.back lines k1 (load ∷ []) (put_lines home) stands1) made2.behind in
    did-simulates laws lines plan base (without owes home) keys after at _ (ReadsWord area word ∷ []) true state c refl
    (before at (near_lines owed from) (fetch_lines 30 from ++ (load ∷ put_lines home)) [] (ReadsWord area word ∷ []) c c0 near.made
    (before k0 (fetch_lines 30 from) (load ∷ put_lines home) [] (ReadsWord area word ∷ []) c0 c1 made1
    (before k1 (load ∷ []) (put_lines home) (ReadsWord area word ∷ []) [] c1 c2 made2 done)))

-- ---- a write

-- what each home holds stays where no home's register was written
kept-held : (spill : ℕ) (other : Home) (c d : Config) → KeepsBut 30 c d → IsHome spill other → held_in d other ≡ held_in c other
kept-held spill (home.Register n) c d still is = still.same n (omega (arith, given-range n is)) (λ e. omega (arith, e, given-range n is))
kept-held spill (home.Spill word) c d still is = ap (λ block. value_at w64 block (8 * word)) still.block

-- the first key and the second one are among two
among-first : (key : Key) (others : List Key) → among (key ∷ others) key ≡ true
among-first key others = rw (key-same key) refl

among-second : (key other : Key) → among (other ∷ key ∷ []) key ≡ true
among-second key other = rw (key-same key) (either (is_key key other))
  where
    either : (b : Bool) → (b || true) ≡ true
    either true = refl
    either false = refl

-- a register that is fetched first stays where a second one is fetched
among-none : (r : ℕ) → r ≤ 28 → is_among r (30 ∷ 31 ∷ []) ≡ false
among-none r most = grind (arith, nat_tests)

module _ (laws : MachineLaws) (plan : Plan) (base : ℕ) (owed : Owed) (early keys : Keys) (state after : State) (c d : Config) (i value : ℕ)
    (x : ℤ)
    (setting : IsSetting plan base (length state.words)) (wanted : (key : Key) → keys key ≡ true → early key ≡ true)
    (same : (key : Key) → after.held key ≡ state.held key) (words : after.words ≡ slice_set state.words i x)
    (within : i < length state.words)
    (small : value < 2 ^ 64) (signed : signed_value value ≡ x) (shows : Shows plan base owed early state c) (still : KeepsBut 30 c d) where
  abbrev stored : Config
  stored = record d { pc = d.pc + 4; block = with_value w64 d.block (8 * (plan.spill + i)) value }

  has-block : HasBlock base plan.spill (length state.words) d
  has-block = block-kept base plan.spill (length state.words) 30 c d (λ e. omega (arith, e)) still shows.block

  inside : 8 * (plan.spill + i) + 8 ≤ length d.block
  inside = omega (arith, has-block.sized, within)

  as-many : length state.words ≡ length after.words
  as-many = sym (ap (λ list. length list) words ∙ length-set state.words i x)

  stored-block : HasBlock base plan.spill (length state.words) stored
  stored-block = record {
    count = has-block.count;
    bytes = laws.bytes w64 d.block (8 * (plan.spill + i)) value has-block.bytes;
    sized = laws.sized w64 d.block (8 * (plan.spill + i)) value inside ∙ has-block.sized;
    block_at = has-block.block_at;
  }

  stored-words : values_at stored.block plan.spill (length state.words) ≡ after.words
  stored-words =
      laws.inside d.block plan.spill (length state.words) i value within inside small
      ∙ ap (λ block. slice_set (values_at block plan.spill (length state.words)) i (signed_value value)) still.block
      ∙ ap (λ list. slice_set list i (signed_value value)) shows.words
      ∙ ap (λ number. slice_set state.words i number) signed ∙ sym words

  stored-home : (other : Home) → IsHome plan.spill other → held_in stored other ≡ held_in d other
  stored-home (home.Register n) is = refl
  stored-home (home.Spill word) is = laws.other_word d.block (plan.spill + i) word value inside (λ e. omega (arith, e, is))

  pub shows-stored : Shows plan base owed keys after stored
  shows-stored = record {
    block = subst (λ n. HasBlock base plan.spill n stored) as-many stored-block;
    words = subst (λ n. values_at stored.block plan.spill n ≡ after.words) as-many stored-words;
    held = λ key place want on.
        stored-home place (setting.homes key place on) ∙ kept-held plan.spill place c d still (setting.homes key place on)
        ∙ shows.held key place (wanted key want) on ∙ shown-same plan base owed owed state after key place (same key) refl;
    clear = λ number place want on. shows.clear number place (wanted (Register number) want) on;
  }

pub write-simulates : MachineLaws → Fetching → Repaying → (area place from : ℕ) → ActionSimulates (Write area place from)
write-simulates laws fetching repay area place from lines plan base at owed keys state c setting fits set owing there apart sets shows
    stands pc touches =
    let home = home_at plan (Register from) in
    let to = home_at plan (Pointer place) in
    let s = register_of 28 home in
    let t = register_of 30 to in
    let word = state.held (Pointer place) in
    let number = state.held (Register from) in
    let early = needed (Then (Write area place from) End) keys in
    let after = acted (Write area place from) state in
    let on-to = home-there plan (Pointer place) there.0 in
    let on-from = home-there plan (Register from) there.1.0 in
    let is-to = setting.homes (Pointer place) to on-to in
    let is-from = setting.homes (Register from) home on-from in
    let own-from = own-register plan.spill 28 home is-from (omega arith) (omega arith) in
    let keys-read = Pointer place ∷ Register from ∷ [] in
    let read-to = read-before keys-read [] keys (Pointer place) (among-first (Pointer place) (Register from ∷ [])) in
    let read-from = read-before keys-read [] keys (Register from) (among-second (Register from) (Pointer place)) in
    let store = Line.Store Store.Sd s (offset owed to) t in
    let n = length state.words in
    let touch = touches.0 in
    let i = touch.place in
    let room = setting.room.within in
    let within = touch.within in
    let tail = store ∷ [] in
    -- the place
    let near = comes-near laws repay lines plan base at owed early state place to c setting on-to read-to apart shows
    (laws.front lines at (near_lines owed to) (fetch_lines 28 home ++ (fetch_lines 30 to ++ tail)) stands) pc in
    let c0 = near.last in
    let owes = near_owed owed to in
    let k0 = at + length (near_lines owed to) in
    let stands0 = laws.back lines at (near_lines owed to) (fetch_lines 28 home ++ (fetch_lines 30 to ++ tail)) stands in
    -- the number
    let first = fetching lines base plan.spill n k0 28 home c0 setting.room near.shows.block is-from
    (omega arith) (omega arith)
    (laws.front lines k0 (fetch_lines 28 home) (fetch_lines 30 to ++ tail) stands0) near.made.behind in
    let c1 = first.run.last in
    let k1 = k0 + length (fetch_lines 28 home) in
    let stands1 = laws.back lines k0 (fetch_lines 28 home) (fetch_lines 30 to ++ tail) stands0 in
    let made1 = made-runs laws lines base plan.spill k0 (fetch_lines 28 home) c0 first.run in
    let still1 = still-agrees 30 28 c0 c1 (omega arith) first.others first.block in
    let block1 = block-kept base plan.spill n 30 c0 c1 (λ e. omega (arith, e)) still1 near.shows.block in
    let value1 : register_at c1.registers s ≡ wrapped number = first.value ∙ near.shows.held (Register from) home read-from on-from in
    -- the register of the place
    let second = fetching lines base plan.spill n k1 30 to c1 setting.room block1 is-to (omega arith)
    (omega arith)
    (laws.front lines k1 (fetch_lines 30 to) tail stands1) first.run.behind in
    let c2 = second.run.last in
    let k2 = k1 + length (fetch_lines 30 to) in
    let stands2 = laws.back lines k1 (fetch_lines 30 to) tail stands1 in
    let made2 = made-runs laws lines base plan.spill k1 (fetch_lines 30 to) c1 second.run in
    let still2 = still-agrees 30 30 c1 c2 (omega arith) second.others second.block in
    let still = keeps-on 30 c0 c1 c2 still1 still2 in
    let value2 : register_at c2.registers s ≡ wrapped number = second.others.same s (among-none s own-from.most) ∙ value1 in
    let to-word : address c2.registers t (offset owed to) ≡ base + 8 * (plan.spill + i) =
    near-address laws plan base owed to word c2.registers t (second.value ∙ kept-held plan.spill to c0 c1 still1 is-to
    ∙ near.shows.held (Pointer place) to read-to on-to)
    ∙ word-address base plan.spill i word touch.same (omega (arith, room, within)) in
    let sized2 : length c2.block ≡ 8 * (plan.spill + n) = ap (λ block. length block) still.block ∙ near.shows.block.sized in
    -- the word
    let value = register_at c2.registers s in
    let c3 : Config = record c2 { pc = c2.pc + 4; block = with_value w64 c2.block (8 * (plan.spill + i)) value } in
    let is : IsAt lines k2 store c2 = is-at laws lines base plan.spill k2 store [] c2 stands2 second.run.behind in
    let goes = laws.store lines base k2 c2 s (offset owed to) t (plan.spill + i) is setting.room.aligned to-word
    (omega (arith, sized2, within)) in
    let made3 = made-line laws lines base plan.spill k2 store (WritesWord area word ∷ []) c2 c3 is goes (omega (arith, second.run.behind))
    (store-order base plan.spill area (address c2.registers t (offset owed to)) i word to-word touch.same) in
    let small : value < 2 ^ 64 = rw value2 (wrapped-below number) in
    let signed : signed_value value ≡ number = ap signed_value value2 ∙ signed-wrapped number (fits.registers from) in
    let before = did-before laws lines plan base owes keys after in
    let shows3 = shows-stored laws plan base owes early keys state after c0 c2 i value number setting
    (λ key want. wanted-before keys-read [] keys key want refl)
    (λ key. refl) (ap (λ w. with_word state.words w number) touch.same) within small signed near.shows still in
    did-simulates laws lines plan base owes keys after at _ (WritesWord area word ∷ []) true state c refl
    (before at (near_lines owed to) (fetch_lines 28 home ++ (fetch_lines 30 to ++ tail)) [] (WritesWord area word ∷ []) c c0 near.made
    (before k0 (fetch_lines 28 home) (fetch_lines 30 to ++ tail) [] (WritesWord area word ∷ []) c0 c1 made1
    (before k1 (fetch_lines 30 to) tail [] (WritesWord area word ∷ []) c1 c2 made2
    (record { last = c3; made = made3; shows = shows3 }))))
