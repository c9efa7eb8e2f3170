-- A loop that puts a part behind what is done for each item that is left.
use Rattle.std.specs.Prelude.{◌≡◌, List, ◌++◌}
use Rattle.std.proofs.Common.{ap, sym, ◌∙◌, append_assoc}

module _ {X : Type 0} where
  -- what is done and what is left stay the whole
  pub goes-on : (done more part before after whole : List X) → more ≡ done ++ part → before ≡ part ++ after → done ++ before ≡ whole
      → more ++ after ≡ whole
  goes-on done more part before after whole put first same =
      ap (λ l. l ++ after) put ∙ append_assoc done part after ∙ ap (λ l. done ++ l) (sym first) ∙ same
