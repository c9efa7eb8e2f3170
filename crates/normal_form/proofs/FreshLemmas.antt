-- Variables that are to come: what entries of other variables stand for is kept where one is bound.
use Rattle.std.specs.Prelude.{◌≡◌, ℕ, ◌+◌, ◌<◌, ◌≤◌, ◌==◌, pos, ◌+ℤ◌, ◌-ℤ◌, List, [], ◌∷◌, length, map, slice_index, slice_index_or, unsigned_abs}
use Rattle.std.proofs.Common.{refl, ap, ap₂, ◌∙◌, arith, ne_eqb, eq-eqb}
use Rattle.std.proofs.lemmas.Bool.{cond-false, cond-true}
use Rattle.normal_form.specs.declared.entry.Entry.{Entry}
use Rattle.normal_form.specs.declared.entry.Entry.TheVariants.{At, Plus, Minus}
use Rattle.normal_form.specs.Assignments.{Assignment, bound, number, places}
use Rattle.normal_form.specs.Moves.{variable}
use Rattle.normal_form.specs.Stands.{AreBelow, StandFor, uses_below}

-- assignments that agree on the variables below one
pub record Agree (next : ℕ) (m other : Assignment) : Type 0 where
  pub same : (var : ℕ) → var < next → other var ≡ m var

pub agree-same : (next : ℕ) (m : Assignment) → Agree next m m
agree-same next m = record { same = λ var below. refl }

pub agree-less : (least next : ℕ) (m other : Assignment) → least ≤ next → Agree next m other → Agree least m other
agree-less least next m other less h = record { same = λ var below. h.same var (omega arith) }

pub agree-both : (next : ℕ) (m between other : Assignment) → Agree next m between → Agree next between other
    → Agree next m other
agree-both next m between other h k = record { same = λ var below. k.same var below ∙ h.same var below }

-- a variable that is bound
pub bound-agrees : (m : Assignment) (next k : ℕ) → Agree next m (bound m next k)
bound-agrees m next k = record {
  same = λ var below. cond-false (var == next) k (m var) (ne_eqb var next (λ e. omega (arith, e, below)));
}

bound-here : (m : Assignment) (var k : ℕ) → bound m var k var ≡ k
bound-here m var k = cond-true (var == var) k (m var) (eq-eqb var var refl)

pub bound-number : (m : Assignment) (var k : ℕ) → number (bound m var k) (variable var) ≡ pos k
bound-number m var k = ap pos (let e : bound m var k var + 0 ≡ k = omega (arith, bound-here m var k) in e)

-- what entries stand for is kept by an assignment that agrees
pub agree-number : (next : ℕ) (m other : Assignment) (entry : Entry) → Agree next m other → uses_below next entry
    → number other entry ≡ number m entry
agree-number next m other (At constant) h below = refl
agree-number next m other (Plus var add) h below = ap (λ k. pos k +ℤ add) (h.same var below)
agree-number next m other (Minus var add) h below = ap (λ k. add -ℤ pos k) (h.same var below)

agree-numbers : (next : ℕ) (m other : Assignment) (entries : List Entry) → Agree next m other → AreBelow next entries
    → map (number other) entries ≡ map (number m) entries
agree-numbers next m other [] h below = refl
agree-numbers next m other (entry ∷ entries) h below =
    ap₂ (λ first others. first ∷ others) (agree-number next m other entry h below.0)
    (agree-numbers next m other entries h below.1)

pub stand-agree : (next : ℕ) (m other : Assignment) (entries : List Entry) (index : List ℕ) → Agree next m other
    → AreBelow next entries → StandFor m entries index → StandFor other entries index
stand-agree next m other entries index h below stand = agree-numbers next m other entries h below ∙ stand

-- entries of variables below one are of variables below a later one
pub use-later : (next later : ℕ) (entry : Entry) → next ≤ later → uses_below next entry → uses_below later entry
use-later next later (At constant) more below = tt
use-later next later (Plus var add) more below = omega (arith, below)
use-later next later (Minus var add) more below = omega (arith, below)

pub below-later : (next later : ℕ) (entries : List Entry) → next ≤ later → AreBelow next entries → AreBelow later entries
below-later next later [] more below = tt
below-later next later (entry ∷ entries) more below =
    (use-later next later entry more below.0, below-later next later entries more below.1)

-- the first of entries that stand for places stands for the first place
pub first-number : (m : Assignment) (entries : List Entry) (index : List ℕ) → 0 < length index → StandFor m entries index
    → number m (slice_index_or entries 0 (At (pos 0))) ≡ pos (slice_index index 0)
first-number m entries [] full h = absurd (omega (arith, full))
first-number m [] (i ∷ index) full h = absurd (cc)
first-number m (entry ∷ entries) (i ∷ index) full h = cc

-- entries that stand for places have them
pub places-of : (m : Assignment) (entries : List Entry) (index : List ℕ) → StandFor m entries index → places m entries ≡ index
places-of m [] [] h = refl
places-of m [] (i ∷ index) h = absurd (cc)
places-of m (entry ∷ entries) [] h = absurd (cc)
places-of m (entry ∷ entries) (i ∷ index) h =
    let first : number m entry ≡ pos i = cc in
    let others : map (number m) entries ≡ map pos index = cc in
    ap₂ (λ place more. place ∷ more) (ap unsigned_abs first) (places-of m entries index others)
