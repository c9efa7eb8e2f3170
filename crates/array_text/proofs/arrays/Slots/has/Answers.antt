use Rattle.std.proofs.Common.{◌<◌, ◌∙◌, sym, ap, arith, length}
use Rattle.array_text.proofs.SlotLemmas.{counted, slot_at, slots_len}
use Rattle.array_text.proofs.arrays.Slots.has.Goals as goal

pub index-requires : goal.index-requires
index-requires c =
    omega (arith, c.requires, ap length c.self.view_is, slots_len _ _ (counted (λ list. list.items) _ _ c.self.invariant))

pub returns : goal.returns
returns c =
    let inside : c.args.place < length c.self.inside.came.items =
    omega (arith, c.requires, ap length c.self.view_is, slots_len _ _ (counted (λ list. list.items) _ _ c.self.invariant)) in
    rw (← c.self.view_is) (c.index.ensures ∙ sym (slot_at _ _ c.args.place _ (counted (λ list. list.items) _ _ c.self.invariant) inside))
