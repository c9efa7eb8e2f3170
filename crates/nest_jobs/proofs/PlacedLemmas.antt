-- Areas that are placed one after another are laid out.
use Rattle.std.specs.Prelude.{◌≡◌, ℕ, zero, suc, ◌+◌, ◌<◌, ◌≤◌, ℤ, pos, List, [], ◌∷◌, slice_get, Some, unsigned_abs}
use Rattle.std.specs.List.{AllByRecursion, sum_by}
use Rattle.std.proofs.Common.{refl, ap, sym, ◌∙◌, arith}
use Rattle.std.proofs.lemmas.List.Sums.{sum_by-cons}
use Rattle.std.proofs.lemmas.Option.{none-some, same_Some}
use Rattle.shapes_core.specs.declared.area.Area.{Area}
use Rattle.shapes_core.specs.Shape.{total}
use Rattle.moa_tree.specs.Expr.{Item}
use Rattle.shape_check.specs.Layout.{Array, areas, arrays, placed, words}
use Rattle.loop_ir.specs.Inside.{IsWordOf}
use Rattle.nest_build.specs.Gives.{AreLaidOut}
use Rattle.nest_jobs.proofs.ListLemmas.{each-at, each-follows}

abbrev pub size_of : Area → ℕ
size_of area = total area.shape

-- an area within so many words from one on
abbrev IsWithin : ℕ → ℕ → Area → Type 0
IsWithin start count area = (start ≤ area.start) × (area.start + total area.shape ≤ start + count)

each-within : (start : ℕ) (list : List Array) → AllByRecursion (IsWithin start (sum_by size_of (placed start list))) (placed start list)
each-within start [] = tt
each-within start (array ∷ others) =
    let later = start + total array.1 in
    let rest = placed later others in
    let sum : sum_by size_of (placed start (array ∷ others)) ≡ total array.1 + sum_by size_of rest =
    sum_by-cons size_of (record { kind = array.0; shape = array.1; start = start }) rest in (
      (omega arith, omega (arith, sum)),
      each-follows (IsWithin later (sum_by size_of rest)) (IsWithin start (sum_by size_of (placed start (array ∷ others))))
          (λ area h. (omega (arith, h.0), omega (arith, h.1, sum))) rest (each-within later others),
    )

-- no word is of an area and of one behind it
behind-first : (start : ℕ) (array : Array) (others : List Array) (number : ℕ) (first area : Area) (place : ℕ)
    → slice_get (placed start (array ∷ others)) 0 ≡ Some first → slice_get (placed start (array ∷ others)) (suc number) ≡ Some area
    → place < first.start + total first.shape → area.start ≤ place → ⊥
behind-first start array others number first area place e g below begun =
    let later = start + total array.1 in
    let h = each-at (IsWithin later (sum_by size_of (placed later others))) (placed later others)
    (each-within later others) number area g in
    let same = same_Some (record { kind = array.0; shape = array.1; start = start }) first e in
    let ends : start + total array.1 ≡ first.start + total first.shape = ap (λ a. a.start + total a.shape) same in
    omega (arith, h.0, ends, below, begun)

one-area : (start : ℕ) (list : List Array) (number other : ℕ) (area second : Area) (place : ℕ)
    → slice_get (placed start list) number ≡ Some area → slice_get (placed start list) other ≡ Some second
    → area.start ≤ place → place < area.start + total area.shape → second.start ≤ place → place < second.start + total second.shape
    → number ≡ other
one-area start [] number other area second place e g a b c d = absurd (none-some area e)
one-area start (array ∷ others) zero zero area second place e g a b c d = refl
one-area start (array ∷ others) zero (suc other) area second place e g a b c d =
    absurd (behind-first start array others other area second place e g b c)
one-area start (array ∷ others) (suc number) zero area second place e g a b c d =
    absurd (behind-first start array others number second area place g e d a)
one-area start (array ∷ others) (suc number) (suc other) area second place e g a b c d =
    ap suc (one-area (start + total array.1) others number other area second place e g a b c d)

word-as : (list : List Area) (number : ℕ) (word : ℤ) (place : ℕ) (h : IsWordOf list number word) → word ≡ pos place → h.place ≡ place
word-as list number word place h e = ap unsigned_abs (sym h.same ∙ e)

pub laid-out : (items : List Item) → AreLaidOut (areas items) (words items)
laid-out items =
    let list = areas items in
    record {
      within = λ number area e.
          let h = each-at (IsWithin 0 (sum_by size_of list)) list (each-within 0 (arrays items)) number area e in omega (arith, h.1);
      apart = λ number other word h k.
          let same = word-as list other word h.place k h.same in
          one-area 0 (arrays items) number other h.area k.area h.place h.there k.there h.begun h.within
          (omega (arith, k.begun, same)) (omega (arith, k.within, same));
    }
