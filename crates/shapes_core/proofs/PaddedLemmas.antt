-- Lists that are copied into arrays of one size.
use Rattle.std.proofs.Common.{◌≡◌, ℕ, ◌≤◌, List, ◌++◌, length, take, drop, replicate, ap, sym, ◌∙◌}
use Rattle.std.proofs.lemmas.List.{take_at, drop-replicate}
use Rattle.shapes_core.specs.Padded.{IsPadded, padded}

-- the front of an array that a list was copied to
pub filled_front : {X : Type 0} (list copied rest : List X) → copied ≡ list → take (length list) (copied ++ rest) ≡ list
filled_front list copied rest same = take_at copied rest (length list) (ap length same) ∙ same

-- a list copied to the front of an array of one item
pub filled : {X : Type 0} (other : X) (size : ℕ) (list copied : List X) → copied ≡ list → length list ≤ size
    → IsPadded other size (copied ++ drop (length list) (replicate size other)) (length list)
filled other size list copied same within =
    let rest = drop (length list) (replicate size other) in
    let front = filled_front list copied rest same in
    record {
      within = within;
      counted = ap length front;
      filled = ap (padded other size) front ∙ ap (λ more. list ++ more) (sym (drop-replicate (length list) size other))
          ∙ ap (λ l. l ++ rest) (sym same);
    }
