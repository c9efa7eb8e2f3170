use Rattle.std.proofs.Common.{ap, arith, length}
use Rattle.std.proofs.lemmas.List.{map-set}
use Rattle.array_text.proofs.SlotLemmas.{counted, slots_len, slots_set}
use Rattle.array_text.proofs.arrays.Slots.fill.Goals as goal

pub index_mut-requires : goal.index_mut-requires
index_mut-requires c =
    omega (arith, c.requires, ap length c.self.view_is, slots_len _ _ (counted (λ list. list.items) _ _ c.self.invariant))

pub index_mut-requires-2 : goal.index_mut-requires-2
index_mut-requires-2 c =
    omega (arith, c.requires, ap length c.self.view_is, slots_len _ _ (counted (λ list. list.items) _ _ c.self.invariant))

pub returns : goal.returns
returns c =
    rw (← c.self.view_is) (rw map-set (slots_set _ _ c.args.place c.args.values.items (counted (λ list. list.items) _ _ c.self.invariant)))
