use Rattle.std.specs.Prelude.{◌≡◌, ◌≢◌, ℕ, zero, suc, ◌+◌, ◌<◌, ◌≤◌, pos, ℤ, List, [], ◌∷◌, slice_index_or, unsigned_abs}
use Rattle.std.proofs.Common.{ap, arith, refl}
use Rattle.shapes_core.specs.Gamma.{gamma}
use Rattle.normal_form.specs.Assignments.{assigned}
use Rattle.normal_form.specs.Kept.{IsInBox}
use Rattle.normal_form.specs.Meaning.{meaning}
use Rattle.stride_form.specs.Accesses.{access_value}
use Rattle.loop_ir.specs.NestExamples.{fresh}
use Rattle.loop_ir.specs.Running.{run}
use Rattle.nest_build.specs.Gives.{store_of}
use Rattle.nest_build.specs.NestExamples.{part_areas, part_form, part_nest, part_words}
use Rattle.nest_build.proofs.nest_examples.values_are_given.Goals as goal

abbrev after : List ℤ
after = (run part_nest (fresh part_words)).words

values : (index : List ℕ) → IsInBox index ((1, 3) ∷ [])
    → slice_index_or after (5 + gamma index (5 ∷ [])) (pos 0) ≡ meaning (access_value (store_of part_areas part_words)) (assigned index) part_form
values [] h = absurd h
values (zero ∷ []) h = let low : 1 ≤ 0 = h.0.0 in let no : ⊥ = omega (arith, low) in absurd no
values (suc zero ∷ []) h = refl
values (suc (suc zero) ∷ []) h = refl
values (suc (suc (suc k)) ∷ []) h = let high : suc (suc (suc k)) < 3 = h.0.1 in let no : ⊥ = omega (arith, high) in absurd no
values (k ∷ (other ∷ rest)) h = absurd h.1

-- the words before the part, its two words, and those behind it
others : (word : ℕ) → ((index : List ℕ) → IsInBox index ((1, 3) ∷ []) → word ≢ 5 + gamma index (5 ∷ []))
    → slice_index_or after word (pos 0) ≡ slice_index_or part_words word (pos 0)
others zero h = refl
others (suc zero) h = refl
others (suc (suc zero)) h = refl
others (suc (suc (suc zero))) h = refl
others (suc (suc (suc (suc zero)))) h = refl
others (suc (suc (suc (suc (suc zero))))) h = refl
others (suc (suc (suc (suc (suc (suc zero)))))) h = absurd (h (1 ∷ []) ((omega arith, omega arith), tt) refl)
others (suc (suc (suc (suc (suc (suc (suc zero))))))) h = absurd (h (2 ∷ []) ((omega arith, omega arith), tt) refl)
others (suc (suc (suc (suc (suc (suc (suc (suc word)))))))) h = refl

pub returns-clause-nest : goal.returns-clause-nest
returns-clause-nest c = record { sized = refl; values = values; others = others }

pub returns-clause-nothing_done : goal.returns-clause-nothing_done
returns-clause-nothing_done c = λ gives.
    let same : 7 ≡ 41 = ap unsigned_abs (gives.values (1 ∷ []) ((omega arith, omega arith), tt)) in omega (arith, same)

apart : (index : List ℕ) → IsInBox index ((1, 3) ∷ []) → 5 ≢ 5 + gamma index (5 ∷ [])
apart [] h = absurd h
apart (k ∷ []) h = λ same. let low : 1 ≤ k = h.0.0 in omega (arith, low, same)
apart (k ∷ (other ∷ rest)) h = absurd h.1

pub returns-clause-one_more : goal.returns-clause-one_more
returns-clause-one_more c = λ gives. let same : 50 ≡ 7 = ap unsigned_abs (gives.others 5 apart) in omega (arith, same)

pub returns-clause-one_longer : goal.returns-clause-one_longer
returns-clause-one_longer c = λ gives. let same : 11 ≡ 10 = gives.sized in omega (arith, same)
