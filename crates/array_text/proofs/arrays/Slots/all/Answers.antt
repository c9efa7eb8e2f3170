use Rattle.std.proofs.Common.{◌∙◌, sym, ap, length, Some}
use Rattle.std.specs.List.{list_all}
use Rattle.array_text.proofs.SlotLemmas.{all_there, counted, one_missing, slots_len}
use Rattle.array_text.proofs.arrays.Slots.all.Goals as goal

pub returns-then-are_all-clause-value : goal.returns-then-are_all-clause-value
returns-then-are_all-clause-value c =
    rw (← c.self.view_is) (ap Some c.new.ensures ∙ sym (all_there _ _ (counted (λ list. list.items) _ _ c.self.invariant)
    (ap (list_all (λ here. here)) (sym c.as_slice.ensures.value) ∙ sym c.are_all.ensures ∙ c.if-are_all.true)))

pub returns-then-are_all-clause-each : goal.returns-then-are_all-clause-each
returns-then-are_all-clause-each c =
    ap length c.new.ensures ∙ sym (counted (λ list. list.items) _ _ c.self.invariant)
    ∙ sym (slots_len _ _ (counted (λ list. list.items) _ _ c.self.invariant)) ∙ ap length c.self.view_is

pub returns-else-are_all-clause-value : goal.returns-else-are_all-clause-value
returns-else-are_all-clause-value c =
    rw (← c.self.view_is) (sym (one_missing _ _ (counted (λ list. list.items) _ _ c.self.invariant)
    (ap (list_all (λ here. here)) (sym c.as_slice.ensures.value) ∙ sym c.are_all.ensures ∙ c.if-are_all.false)))
