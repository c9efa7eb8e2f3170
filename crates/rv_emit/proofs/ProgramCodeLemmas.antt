-- The programs of nests, one nest after another.
use Rattle.std.specs.Prelude.{◌≡◌, ℕ, zero, suc, ◌+◌, ◌^◌, ◌<◌, ◌≤◌, pos, max, List, [], ◌∷◌, ◌++◌, length, drop}
use Rattle.std.specs.List.{AllByRecursion}
use Rattle.std.proofs.Common.{refl, ap, sym, subst, ◌∙◌, arith, append_assoc, get_or, length-append}
use Rattle.std.proofs.lemmas.List.{drop_all, drop_more}
use Rattle.loop_ir.specs.declared.step.Step.{Step}
use Rattle.loop_ir.specs.Pool.{tree}
use Rattle.loop_ir.specs.Steps.{Steps}
use Rattle.register_map.specs.Fits.{IsFit}
use Rattle.register_map.specs.Homes.{Given, IsGiven}
use Rattle.rv_line.specs.declared.line.Line.{Line}
use Rattle.rv_line.specs.declared.line.Line.TheVariants.{Jalr}
use Rattle.rv_emit.specs.Emitting.{emitted, plan_of, program}
use Rattle.rv_emit.specs.Pricing.{total_cost, total_time}
use Rattle.rv_emit.specs.Programs.{Emits, MayCome, most_spill, pairs}
use Rattle.rv_emit.specs.Simulating.{AreHomed}

-- ---- the most spill words

pub most-more : (homes : List Given) (i : ℕ) (d : Given) (most : ℕ) → i < length homes → max most (most_spill (drop i homes))
    ≡ most_spill homes
    → max (max most (get_or homes i d).spill) (most_spill (drop (i + 1) homes)) ≡ most_spill homes
most-more homes i d most below so_far =
    let one = ap most_spill (drop_more homes i d below) in
    omega (arith, one, so_far)

pub most-whole : (homes : List Given) (i most : ℕ) → length homes ≤ i → max most (most_spill (drop i homes)) ≡ most_spill homes
    → most ≡ most_spill homes
most-whole homes i most all so_far =
    let none = ap most_spill (drop_all i homes all) in
    omega (arith, none, so_far)

-- ---- pairs by their places

pub pairs-drop : (nests : List (List (List Step))) (homes : List Given) (i : ℕ) (d : List (List Step)) (e : Given) → length nests
    ≡ length homes
    → i < length nests → drop i (pairs nests homes) ≡ (tree (get_or nests i d), get_or homes i e) ∷ drop (i + 1) (pairs nests homes)
pairs-drop [] homes i d e same below = absurd (omega (arith, below))
pairs-drop (nest ∷ nests) [] i d e same below = absurd (omega (arith, same))
pairs-drop (nest ∷ nests) (home ∷ homes) zero d e same below = refl
pairs-drop (nest ∷ nests) (home ∷ homes) (suc i) d e same below =
    let next : suc (i + 1) ≡ suc i + 1 = omega arith in
    pairs-drop nests homes i d e (omega (arith, same)) (omega (arith, below))
    ∙ ap (λ (n : ℕ). (tree (get_or nests i d), get_or homes i e) ∷ drop n (pairs (nest ∷ nests) (home ∷ homes))) next

pub pairs-end : (nests : List (List (List Step))) (homes : List Given) (i : ℕ) → length nests ≤ i → drop i (pairs nests homes) ≡ []
pairs-end nests homes i all = drop_all i (pairs nests homes) (omega (arith, few nests homes, all))
  where
    few : (nests : List (List (List Step))) (homes : List Given) → length (pairs nests homes) ≤ length nests
    few [] homes = omega arith
    few (nest ∷ nests) [] = omega arith
    few (nest ∷ nests) (home ∷ homes) = omega (arith, few nests homes)

pub pairs-at : (P : Steps × Given → Type 0)
    (nests : List (List (List Step))) (homes : List Given) (i : ℕ) (d : List (List Step)) (e : Given)
    → length nests ≡ length homes → i < length nests → AllByRecursion P (pairs nests homes) → P (tree (get_or nests i d), get_or homes i e)
pairs-at P [] homes i d e same below h = absurd (omega (arith, below))
pairs-at P (nest ∷ nests) [] i d e same below h = absurd (omega (arith, same))
pairs-at P (nest ∷ nests) (home ∷ homes) zero d e same below h = h.0
pairs-at P (nest ∷ nests) (home ∷ homes) (suc i) d e same below h =
    pairs-at P nests homes i d e (omega (arith, same)) (omega (arith, below)) h.1

pub homed : (spill : ℕ) (nests : List (List (List Step))) (homes : List Given) → most_spill homes ≤ spill → AllByRecursion IsGiven homes
    → AllByRecursion (λ nest. IsFit nest.0 nest.1) (pairs nests homes) → AreHomed spill (pairs nests homes)
homed spill [] homes within given fit = tt
homed spill (nest ∷ nests) [] within given fit = tt
homed spill (nest ∷ nests) (home ∷ homes) within given fit = (
  record { given = given.0; within = omega (arith, within); fit = fit.0 },
  homed spill nests homes (omega (arith, within)) given.1 fit.1,
)

-- ---- room

-- a program within the bounds may come behind no line
pub room-within : (spill : ℕ) (all : List (Steps × Given)) (old : List Line) → old ≡ [] → length (program spill all 0).lines ≤ total_cost all
    → (program spill all 0).steps ≤ total_time all → total_cost all ≤ 245760 → total_time all ≤ 2 ^ 50 → MayCome (program spill all) old
room-within spill all old none lines steps few short =
    subst (MayCome (program spill all)) (sym none) (omega (arith, lines, few), omega (arith, steps, short))

-- ---- what is emitted, with what is left

-- lines and steps so far, and those of the nests that are left, are those of all
pub record Leads (spill : ℕ) (all left : List (Steps × Given)) (old now : List Line) (steps : ℕ) : Type 0 where
  pub lines : now ++ (program spill left (length now)).lines ≡ old ++ (program spill all (length old)).lines
  pub made : steps + (program spill left (length now)).steps ≡ (program spill all (length old)).steps

pub at-start : (spill : ℕ) (all : List (Steps × Given)) (old : List Line) → Leads spill all all old old 0
at-start spill all old = record { lines = refl; made = omega arith }

pub one-nest : (spill : ℕ) (all left : List (Steps × Given)) (nest : Steps) (homes : Given) (old now new : List Line) (steps more : ℕ)
    → Leads spill all ((nest, homes) ∷ left) old now steps → Emits (emitted (plan_of spill (nest, homes)) [] nest) now new more
    → Leads spill all left old new (steps + more)
one-nest spill all left nest homes old now new steps more so_far emits =
    let piece = emitted (plan_of spill (nest, homes)) [] nest (length now) in
    let at : length new ≡ length now + length piece.lines = ap length emits.0 ∙ length-append now piece.lines in
    let rest = program spill left (length now + length piece.lines) in
    record {
      lines = ap (λ (n : ℕ). new ++ (program spill left n).lines) at ∙ ap (λ list. list ++ rest.lines) emits.0
          ∙ append_assoc now piece.lines rest.lines ∙ so_far.lines;
      made = let same = ap (λ (n : ℕ). (program spill left n).steps) at in let whole = so_far.made in
          omega (arith, same, whole, emits.1);
    }

pub program-is : (spill : ℕ) (all : List (Steps × Given)) (old new : List Line) (steps : ℕ) → old ≡ [] → Emits (program spill all) old new steps
    → (new ≡ (program spill all 0).lines) × (steps ≡ (program spill all 0).steps)
program-is spill all old new steps none h = (
  subst (λ (list : List Line). new ≡ list ++ (program spill all (length list)).lines) none h.0,
  subst (λ (list : List Line). steps ≡ (program spill all (length list)).steps) none h.1,
)

-- the next nest has room, and the steps so far with its own fit 64 bits
next-whole : (spill : ℕ) (all left : List (Steps × Given)) (nest : Steps) (homes : Given) (old now : List Line) (steps : ℕ)
    → Leads spill all ((nest, homes) ∷ left) old now steps → MayCome (program spill all) old
    → (length now + length (emitted (plan_of spill (nest, homes)) [] nest (length now)).lines < 2 ^ 32)
    × (steps + (emitted (plan_of spill (nest, homes)) [] nest (length now)).steps < 2 ^ 64)
next-whole spill all left nest homes old now steps so_far room =
    let piece = emitted (plan_of spill (nest, homes)) [] nest (length now) in
    let rest = program spill left (length now + length piece.lines) in
    let both = sym (length-append now (piece.lines ++ rest.lines)) ∙ ap length so_far.lines
    ∙ length-append old (program spill all (length old)).lines in
    (omega (arith, both, length-append piece.lines rest.lines, room.0), omega (arith, so_far.made, room.1))

pub next-room : (spill : ℕ) (all left : List (Steps × Given)) (nest : Steps) (homes : Given) (old now : List Line) (steps : ℕ)
    → Leads spill all ((nest, homes) ∷ left) old now steps → MayCome (program spill all) old
    → MayCome (emitted (plan_of spill (nest, homes)) [] nest) now
next-room spill all left nest homes old now steps so_far room =
    let whole = next-whole spill all left nest homes old now steps so_far room in (whole.0, omega (arith, whole.1))

pub next-made : (spill : ℕ) (all left : List (Steps × Given)) (nest : Steps) (homes : Given) (old now new : List Line) (steps more : ℕ)
    → Leads spill all ((nest, homes) ∷ left) old now steps → MayCome (program spill all) old
    → Emits (emitted (plan_of spill (nest, homes)) [] nest) now new more → steps + more < 2 ^ 64
next-made spill all left nest homes old now new steps more so_far room emits =
    let whole = next-whole spill all left nest homes old now steps so_far room in omega (arith, whole.1, emits.1)

pub last-made : (spill : ℕ) (all : List (Steps × Given)) (old now : List Line) (steps : ℕ) → Leads spill all [] old now steps
    → MayCome (program spill all) old → steps + 1 < 2 ^ 64
last-made spill all old now steps so_far room = omega (arith, so_far.made, room.1)

pub at-return : (spill : ℕ) (all : List (Steps × Given)) (old now new : List Line) (steps : ℕ) → Leads spill all [] old now steps
    → new ≡ now ++ Jalr 0 (pos 0) 1 ∷ [] → Emits (program spill all) old new (steps + 1)
at-return spill all old now new steps so_far last = (last ∙ so_far.lines, so_far.made)
