-- The words of a block before a run.
use Rattle.std.proofs.Common.{◌≡◌, ℕ, ◌+◌, ◌*◌, ◌≤◌, ℤ, List, [], ◌∷◌, ◌++◌, length, refl, arith, sum_by, length-append}
use Rattle.std.proofs.lemmas.List.{length-replicate}
use Rattle.std.proofs.lemmas.List.Elements.{All-weaker}
use Rattle.std.proofs.lemmas.List.Sums.{sum_by-cons}
use Rattle.std.specs.Int.{to_le_bytes, w64}
use Rattle.std.specs.Prelude.{if◌then◌else◌}
use Rattle.std.specs.List.{All, AllZip, flat_map}
use Rattle.shapes_core.specs.Shape.{total}
use Rattle.shapes_core.specs.declared.area.Area.{Area}
use Rattle.shapes_core.specs.declared.area.AreaKind.{AreaKind}
use Rattle.shapes_core.specs.declared.area.AreaKind.TheVariants.{In, Out, Scan}
use Rattle.shapes_core.specs.declared.area.Declared.{Declared}
use Rattle.rv_line.specs.Fits.{AreAreas}
use Rattle.rv_line.specs.Parts.{block_words}
use Rattle.rv_line.specs.declared.assembly.Header.{Header}
use Rattle.rv_steps.specs.Effects.{word_of}
use Rattle.rv_steps.specs.Good.{is_input}
use Rattle.array_run.specs.Starts.{bytes_of, input_in, inputs, start_block, words_left, zeros}
use Rattle.array_run.proofs.AreaLemmas.{ends_within}

-- there is a list of values for each array, as long as its total
abbrev pub AreWhole : List Declared → List (List ℤ) → Type 0
AreWhole declared arrays = AllZip (λ array values. length values ≡ total array.shape) declared arrays

abbrev area_total : Area → ℕ
area_total area = total area.shape

pub bytes_counted : (values : List ℤ) → length (bytes_of values) ≡ 8 * length values
bytes_counted [] = refl
bytes_counted (value ∷ values) = omega (arith, length-append (to_le_bytes w64 (word_of value)) (bytes_of values), bytes_counted values)

-- of an area in front of others: the bytes of the inputs and of what is left are those of all words
words_added : (kind : AreaKind) (shape : List ℕ) (others : List Declared) (arrays : List (List ℤ)) (left all : ℕ)
    → AreWhole (input_in kind shape ++ others) arrays
    → ((rest : List (List ℤ)) → AreWhole others rest → length (flat_map bytes_of rest) + 8 * left ≡ 8 * all)
    → length (flat_map bytes_of arrays) + 8 * ((if is_input kind then 0 else total shape) + left) ≡ 8 * (total shape + all)
words_added (In name) shape others [] left all whole follow = absurd whole
words_added (In name) shape others (values ∷ arrays) left all whole follow =
    omega (arith, length-append (bytes_of values) (flat_map bytes_of arrays), bytes_counted values, whole.0, follow arrays whole.1)
words_added (Out name) shape others arrays left all whole follow = omega (arith, follow arrays whole)
words_added (Scan number) shape others arrays left all whole follow = omega (arith, follow arrays whole)

words_counted : (areas : List Area) (arrays : List (List ℤ)) → AreWhole (inputs areas) arrays
    → length (flat_map bytes_of arrays) + 8 * sum_by words_left areas ≡ 8 * sum_by area_total areas
words_counted [] [] whole = refl
words_counted [] (values ∷ arrays) whole = absurd whole
words_counted (area ∷ areas) arrays whole =
    rw (sum_by-cons words_left area areas, sum_by-cons area_total area areas)
    (words_added area.kind area.shape (inputs areas) arrays (sum_by words_left areas) (sum_by area_total areas) whole
    (words_counted areas))

pub zeros_counted : (words : ℕ) → length (zeros words) ≡ 8 * words
zeros_counted words = length-replicate (8 * words) 0

pub block_sized : (header : Header) (areas : List Area) (arrays : List (List ℤ)) → AreWhole (inputs areas) arrays
    → length (start_block header.spill areas arrays) ≡ 8 * block_words header areas
block_sized header areas arrays whole =
    omega (
      arith,
      length-append (zeros header.spill) (flat_map bytes_of arrays ++ zeros (sum_by words_left areas)),
      length-append (flat_map bytes_of arrays) (zeros (sum_by words_left areas)),
      zeros_counted header.spill,
      zeros_counted (sum_by words_left areas),
      words_counted areas arrays whole,
    )

-- each area lies in the block
pub areas_lie_within : (header : Header) (areas : List Area) (size : ℕ) → AreAreas areas → size ≡ 8 * block_words header areas
    → All (λ area. 8 * (header.spill + area.start + total area.shape) ≤ size) areas
areas_lie_within header areas size are sized =
    All-weaker (λ area. area.start + total area.shape ≤ sum_by area_total areas)
    (λ area. 8 * (header.spill + area.start + total area.shape) ≤ size)
    (λ area within. omega (arith, within, sized)) areas (ends_within 0 (sum_by area_total areas) areas are.packed (omega arith))
