-- Loops over a region go through its index vectors, and through no other assignment.
use Rattle.std.specs.Prelude.{◌≡◌, ℕ, zero, suc, ◌+◌, ◌-◌, ◌<◌, ◌≤◌, ◌==◌, Bool, true, false, List, [], ◌∷◌, length, slice_index_or, if◌then◌else◌}
use Rattle.std.specs.List.{AllByRecursion}
use Rattle.std.proofs.Common.{refl, ap, sym, subst, ◌∙◌, arith, inl, inr}
use Rattle.std.proofs.lemmas.Bool.{cases_lt, eqb-true, false≢true, true≢false}
use Rattle.normal_form.specs.Assignments.{Assignment, assigned, bound}
use Rattle.normal_form.specs.Kept.{IsInBox}
use Rattle.nest_build.specs.Parts.{Loop, loops_from, low_of}
use Rattle.nest_build.proofs.LoopLemmas.{AreLow, Covers, Rises}
use Rattle.nest_build.proofs.RunLemmas.{Numbered}
use Rattle.nest_build.proofs.StrideLemmas.{bound-here, bound-other}
use Rattle.nest_build.proofs.WalkLemmas.{numbered-map}

-- ---- variables in a region

-- the variables from one on are in these ranges, and all others are as in another assignment
pub record AreWithin (var : ℕ) (pairs : List (ℕ × ℕ)) (m goal : Assignment) : Type 0 where
  pub inside : Numbered (λ v pair. (pair.0 ≤ goal v) × (goal v < pair.1)) var pairs
  pub before : (v : ℕ) → v < var → goal v ≡ m v
  pub behind : (v : ℕ) → var + length pairs ≤ v → goal v ≡ m v

-- the variables from one on are at their least numbers, which are those of these ranges
abbrev pub AreLeast : (ℕ → ℕ) → Assignment → ℕ → List (ℕ × ℕ) → Type 0
AreLeast low m var pairs = Numbered (λ v pair. (low v ≡ pair.0) × ((m v ≡ low v) × (pair.0 < pair.1))) var pairs

-- where the least variable is bound, those behind it are as they were
least-later : (low : ℕ → ℕ) (m : Assignment) (var k : ℕ) (pairs : List (ℕ × ℕ)) → AreLeast low m (suc var) pairs
    → AreLeast low (bound m var k) (suc var) pairs
least-later low m var k pairs h =
    numbered-map (λ v pair. (low v ≡ pair.0) × ((m v ≡ low v) × (pair.0 < pair.1)))
    (λ v pair. (low v ≡ pair.0) × ((bound m var k v ≡ low v) × (pair.0 < pair.1))) (suc var) (suc var) pairs (omega arith)
    (λ v pair later e. (e.0, (bound-other m var k v (λ same. omega (arith, same, later)) ∙ e.1.0, e.1.1))) h

-- ---- the loops of a region

covers-choice : (low : ℕ → ℕ) (test : Bool) (loop : Loop) (without within : List Loop) (m goal : Assignment)
    → (test ≡ true → Covers low without m goal) → (test ≡ false → Covers low (loop ∷ within) m goal)
    → Covers low (if test then without else loop ∷ within) m goal
covers-choice low true loop without within m goal f g = f refl
covers-choice low false loop without within m goal f g = g refl

at-one : (P : ℕ → Type 0) (v var : ℕ) → P var → (v < var → P v) → v < suc var → P v
at-one P v var here before under = elim (cases_lt v var) [
  | inl less ↦ before less
  | inr more ↦ let e : var ≡ v = omega (arith, more, under) in subst P e here
]

one-turn : (low goal least high turns : ℕ) → low ≡ least → least ≤ goal → goal < high → turns ≡ high - least → turns ≡ 1 → goal ≡ low
one-turn low goal least high turns e f g t one = omega (arith, e, f, g, t, one)

pub covers-box : (low m goal : Assignment) (pairs : List (ℕ × ℕ)) (counter var : ℕ) → AreLeast low m var pairs → AreWithin var pairs m goal
    → Covers low (loops_from counter var pairs) m goal
covers-box low m goal [] counter var least h = λ i v. same v i
  where
    same : (v : ℕ) → goal v ≡ m v
    same v = elim (cases_lt v var) [
      | inl under ↦ h.before v under
      | inr over ↦ h.behind v (omega (arith, over))
    ]
covers-box low m goal (pair ∷ pairs) counter var least h =
    let turns = pair.1 - pair.0 in
    let k = goal var - pair.0 in
    let here = bound m var (low var + k) in
    covers-choice low (turns == 1) (record { counter = counter; var = var; turns = turns })
    (loops_from counter (suc var) pairs) (loops_from (suc counter) (suc var) pairs) m goal
    (λ one. covers-box low m goal pairs counter (suc var) least.1 (record {
      inside = h.inside.1;
      before = λ v under. at-one (λ n. goal n ≡ m n) v var
          (one-turn (low var) (goal var) pair.0 pair.1 turns least.0.0 h.inside.0.0 h.inside.0.1 refl (eqb-true turns 1 one) ∙ sym least.0.1.0)
          (h.before v) under;
      behind = λ v over. h.behind v (omega (arith, over));
    }))
    (λ more. (
      k,
      (
        omega (arith, h.inside.0.0, h.inside.0.1),
        covers-box low here goal pairs (suc counter) (suc var)
            (least-later low m var (low var + k) pairs least.1) (record {
              inside = h.inside.1;
              before = λ v under. at-one (λ n. goal n ≡ here n) v var
                  (let e : goal var ≡ low var + k = omega (arith, least.0.0, h.inside.0.0) in e ∙ sym (bound-here m var (low var + k)))
                  (λ less. h.before v less ∙ sym (bound-other m var (low var + k) v (λ same. omega (arith, same, less)))) under;
              behind = λ v over. h.behind v (omega (arith, over)) ∙ sym (bound-other m var (low var + k) v (λ same. omega (arith, same, over)));
            }),
      ),
    ))

uncovers-choice : (X : Type 0) (low : ℕ → ℕ) (test : Bool) (loop : Loop) (without within : List Loop) (m goal : Assignment)
    → (test ≡ true → Covers low without m goal → X) → (Covers low (loop ∷ within) m goal → X)
    → Covers low (if test then without else loop ∷ within) m goal → X
uncovers-choice X low true loop without within m goal f g c = f refl c
uncovers-choice X low false loop without within m goal f g c = g c

pub box-covered : (low m goal : Assignment) (pairs : List (ℕ × ℕ)) (counter var : ℕ) → AreLeast low m var pairs
    → Covers low (loops_from counter var pairs) m goal → AreWithin var pairs m goal
box-covered low m goal [] counter var least c = record {
  inside = tt;
  before = λ v under. ap (λ (f : Assignment). f v) c;
  behind = λ v over. ap (λ (f : Assignment). f v) c;
}
box-covered low m goal (pair ∷ pairs) counter var least c =
    let turns = pair.1 - pair.0 in
    uncovers-choice (AreWithin var (pair ∷ pairs) m goal) low (turns == 1) (record { counter = counter; var = var; turns = turns })
    (loops_from counter (suc var) pairs) (loops_from (suc counter) (suc var) pairs) m goal
    (λ one cover.
    let h = box-covered low m goal pairs counter (suc var) least.1 cover in
    let e = h.before var (omega arith) in
    record {
      inside = ((omega (arith, e, least.0.0, least.0.1.0), omega (arith, e, least.0.0, least.0.1.0, least.0.1.1)), h.inside);
      before = λ v under. h.before v (omega (arith, under));
      behind = λ v over. h.behind v (omega (arith, over));
    })
    (λ cover.
    let k = cover.0 in
    let h = box-covered low (bound m var (low var + k)) goal pairs (suc counter) (suc var)
    (least-later low m var (low var + k) pairs least.1) cover.1.1 in
    let e : goal var ≡ low var + k = h.before var (omega arith) ∙ bound-here m var (low var + k) in
    record {
      inside = ((omega (arith, e, least.0.0), omega (arith, e, least.0.0, cover.1.0)), h.inside);
      before = λ v under. h.before v (omega (arith, under)) ∙ bound-other m var (low var + k) v (λ same. omega (arith, same, under));
      behind = λ v over. h.behind v (omega (arith, over)) ∙ bound-other m var (low var + k) v (λ same. omega (arith, same, over));
    }) c

-- ---- counters and variables

rises-choice : (literal counter var : ℕ) (test : Bool) (loop : Loop) (without within : List Loop)
    → (test ≡ true → Rises literal counter var without) → (test ≡ false → Rises literal counter var (loop ∷ within))
    → Rises literal counter var (if test then without else loop ∷ within)
rises-choice literal counter var true loop without within f g = f refl
rises-choice literal counter var false loop without within f g = g refl

rises-earlier : (literal counter var later : ℕ) (loops : List Loop) → var ≤ later → Rises literal counter later loops
    → Rises literal counter var loops
rises-earlier literal counter var later [] le h = h
rises-earlier literal counter var later (loop ∷ loops) le h = (h.0, (h.1.0, (omega (arith, le, h.1.1.0), h.1.1.1)))

count-choice : (counter literal : ℕ) (test : Bool) (loop : Loop) (without within : List Loop)
    → counter + length (if test then without else loop ∷ within) ≤ literal
    → (test ≡ true → counter + length without ≤ literal) × (test ≡ false → suc counter + length within ≤ literal)
count-choice counter literal true loop without within h = (λ e. h, λ e. absurd (true≢false e))
count-choice counter literal false loop without within h = (λ e. absurd (false≢true e), λ e. omega (arith, h))

pub loops-rise : (literal : ℕ) (pairs : List (ℕ × ℕ)) (counter var : ℕ) → counter + length (loops_from counter var pairs) ≤ literal
    → Rises literal counter var (loops_from counter var pairs)
loops-rise literal [] counter var le = omega (arith, le)
loops-rise literal (pair ∷ pairs) counter var le =
    let turns = pair.1 - pair.0 in
    let loop : Loop = record { counter = counter; var = var; turns = turns } in
    let few = count-choice counter literal (turns == 1) loop (loops_from counter (suc var) pairs) (loops_from (suc counter) (suc var) pairs) le in
    rises-choice literal counter var (turns == 1) loop (loops_from counter (suc var) pairs) (loops_from (suc counter) (suc var) pairs)
    (λ one. rises-earlier literal counter var (suc var) (loops_from counter (suc var) pairs) (omega arith)
    (loops-rise literal pairs counter (suc var) (few.0 one)))
    (λ more. (omega arith, (omega (arith, few.1 more), (omega arith, loops-rise literal pairs (suc counter) (suc var) (few.1 more)))))

pub lows-low : (low : ℕ → ℕ) (loops : List Loop) → AreLow low low loops
lows-low low [] = tt
lows-low low (loop ∷ loops) = (refl, lows-low low loops)

-- ---- index vectors

-- the numbers of the variables from one on
abbrev index_of : Assignment → ℕ → List (ℕ × ℕ) → List ℕ
index_of goal var [] = []
index_of goal var (pair ∷ pairs) = goal var ∷ index_of goal (suc var) pairs

index-in-box : (goal : Assignment) (var : ℕ) (pairs : List (ℕ × ℕ)) → Numbered (λ v pair. (pair.0 ≤ goal v) × (goal v < pair.1)) var pairs
    → IsInBox (index_of goal var pairs) pairs
index-in-box goal var [] h = tt
index-in-box goal var (pair ∷ pairs) h = (h.0, index-in-box goal (suc var) pairs h.1)

index-item : (goal : Assignment) (var : ℕ) (pairs : List (ℕ × ℕ)) (i : ℕ) → (length pairs ≤ i → goal (var + i) ≡ 0)
    → goal (var + i) ≡ slice_index_or (index_of goal var pairs) i 0
index-item goal var [] i h = h (omega arith)
index-item goal var (pair ∷ pairs) zero h = ap goal (omega arith)
index-item goal var (pair ∷ pairs) (suc i) h =
    let e : suc var + i ≡ var + suc i = omega arith in
    subst (λ n. goal n ≡ slice_index_or (index_of goal (suc var) pairs) i 0) e
    (index-item goal (suc var) pairs i (λ over. subst (λ n. goal n ≡ 0) (sym e) (h (omega (arith, over)))))

box-numbered : (f : ℕ → ℕ) (var : ℕ) (index : List ℕ) (pairs : List (ℕ × ℕ)) → IsInBox index pairs
    → ((i : ℕ) → f (var + i) ≡ slice_index_or index i 0) → Numbered (λ v pair. (pair.0 ≤ f v) × (f v < pair.1)) var pairs
box-numbered f var [] [] h same = tt
box-numbered f var [] (pair ∷ pairs) h same = absurd h
box-numbered f var (k ∷ index) [] h same = absurd h
box-numbered f var (k ∷ index) (pair ∷ pairs) h same =
    let e : f var ≡ k = ap f (let z : var ≡ var + 0 = omega arith in z) ∙ same 0 in (
      (omega (arith, e, h.0.0), omega (arith, e, h.0.1)),
      box-numbered f (suc var) index pairs h.1 (λ i. ap f (let z : suc var + i ≡ var + suc i = omega arith in z) ∙ same (suc i)),
    )

-- each range has an item
abbrev pub AreRanges : List (ℕ × ℕ) → Type 0
AreRanges pairs = AllByRecursion (λ pair. pair.0 < pair.1) pairs

low-numbered : (f : ℕ → ℕ) (var : ℕ) (pairs : List (ℕ × ℕ)) → AreRanges pairs → ((i : ℕ) → f (var + i) ≡ low_of pairs i)
    → AreLeast f f var pairs
low-numbered f var [] some same = tt
low-numbered f var (pair ∷ pairs) some same =
    let e : f var ≡ pair.0 = ap f (let z : var ≡ var + 0 = omega arith in z) ∙ same 0 in (
      (e, (refl, some.0)),
      low-numbered f (suc var) pairs some.1 (λ i. ap f (let z : suc var + i ≡ var + suc i = omega arith in z) ∙ same (suc i)),
    )

low-behind : (pairs : List (ℕ × ℕ)) (i : ℕ) → length pairs ≤ i → low_of pairs i ≡ 0
low-behind [] i over = refl
low-behind (pair ∷ pairs) zero over = absurd (omega (arith, over))
low-behind (pair ∷ pairs) (suc i) over = low-behind pairs i (omega (arith, over))

index-behind : (index : List ℕ) (pairs : List (ℕ × ℕ)) (i : ℕ) → IsInBox index pairs → length pairs ≤ i → slice_index_or index i 0 ≡ 0
index-behind [] pairs i h over = refl
index-behind (k ∷ index) [] i h over = absurd h
index-behind (k ∷ index) (pair ∷ pairs) zero h over = absurd (omega (arith, over))
index-behind (k ∷ index) (pair ∷ pairs) (suc i) h over = index-behind index pairs i h.1 (omega (arith, over))

-- the assignments of the index vectors of a region
abbrev pub IsOfRegion : List (ℕ × ℕ) → Assignment → Type 0
IsOfRegion region m = (index : List ℕ) × (IsInBox index region × (m ≡ assigned index))

pub region-covered : (region : List (ℕ × ℕ)) (index : List ℕ) → AreRanges region → IsInBox index region
    → Covers (low_of region) (loops_from 0 0 region) (low_of region) (assigned index)
region-covered region index some inside =
    covers-box (low_of region) (low_of region) (assigned index) region 0 0
    (low-numbered (low_of region) 0 region some (λ i. ap (low_of region) (let z : 0 + i ≡ i = omega arith in z)))
    (record {
      inside = box-numbered (assigned index) 0 index region inside (λ i. ap (assigned index) (let z : 0 + i ≡ i = omega arith in z));
      before = λ v under. absurd (omega (arith, under));
      behind = λ v over. index-behind index region v inside (omega (arith, over)) ∙ sym (low-behind region v (omega (arith, over)));
    })

pub covered-region : (region : List (ℕ × ℕ)) (goal : Assignment) → AreRanges region
    → Covers (low_of region) (loops_from 0 0 region) (low_of region) goal → IsOfRegion region goal
covered-region region goal some c =
    let h = box-covered (low_of region) (low_of region) goal region 0 0
    (low-numbered (low_of region) 0 region some (λ i. ap (low_of region) (let z : 0 + i ≡ i = omega arith in z))) c in
    (index_of goal 0 region, (index-in-box goal 0 region h.inside, λ i v. same h v i))
  where
    same : AreWithin 0 region (low_of region) goal → (v : ℕ) → goal v ≡ assigned (index_of goal 0 region) v
    same h v =
        let z : 0 + v ≡ v = omega arith in
        ap goal (sym z) ∙ index-item goal 0 region v
        (λ over. ap goal z ∙ h.behind v (omega (arith, over)) ∙ low-behind region v over)
