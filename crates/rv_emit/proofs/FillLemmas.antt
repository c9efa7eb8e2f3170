-- Arrays of one size that are filled from the front.
use Rattle.std.proofs.Common.{◌≡◌, ℕ, ◌+◌, ◌-◌, ◌<◌, suc, List, [], ◌∷◌, ◌++◌, length, take, drop, set, replicate, ap, sym, ◌∙◌, arith, length-append}
use Rattle.std.proofs.Math.Seq.{drop-append-add}
use Rattle.std.proofs.lemmas.List.{append_assoc, drop-replicate, length-replicate, set_split, take_more_set}
use Rattle.shapes_core.specs.Padded.{IsPadded, padded}

-- one place more in use
pub one_more : {X : Type 0} (other : X) (size : ℕ) (array : List X) (count : ℕ) (item : X) → IsPadded other size array count → count < size → IsPadded other size (set array count item) (count + 1)
one_more other size array count item h room =
    let list = take count array in
    let rest = replicate (size - length list) other in
    let counted : length list ≡ count = h.counted in
    let whole : length array ≡ size =
    sym (ap length h.filled) ∙ omega (arith, length-append list rest, length-replicate (size - length list) other) in
    let front = take_more_set array count item (omega arith) in
    let split = set_split array count item (omega arith) in
    let one : suc count ≡ length list + 1 = omega arith in
    let longer : length (list ++ item ∷ []) ≡ count + 1 = omega (arith, length-append list (item ∷ [])) in
    let left : size - length list - 1 ≡ size - length (list ++ item ∷ []) = omega arith in
    let behind : drop (suc count) array ≡ replicate (size - length (list ++ item ∷ [])) other =
    ap (λ (n : ℕ). drop n array) one ∙ ap (drop (length list + 1)) (sym h.filled) ∙ drop-append-add list rest 1
    ∙ drop-replicate 1 (size - length list) other ∙ ap (λ (n : ℕ). replicate n other) left in
    record {
      within = omega arith;
      counted = ap length front ∙ longer;
      filled = ap (padded other size) front ∙ append_assoc list (item ∷ []) (replicate (size - length (list ++ item ∷ [])) other)
          ∙ ap (λ more. list ++ item ∷ more) (sym behind) ∙ sym split;
    }
