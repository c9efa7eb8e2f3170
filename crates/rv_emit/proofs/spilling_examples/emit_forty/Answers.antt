use Rattle.std.specs.Prelude.{◌≤◌, ◌^◌, ◌∷◌, []}
use Rattle.std.specs.List.{Contains, range_with_len}
use Rattle.std.proofs.Common.{◌≡◌, ap, sym, ◌∙◌, subst, arith}
use Rattle.std.proofs.lemmas.Result.{IfOk-weaker}
use Rattle.loop_ir.specs.Kept.{EachNamed}
use Rattle.register_map.specs.Fits.{NamesFew}
use Rattle.register_map.specs.Homes.{code}
use Rattle.rv_line.specs.declared.assembly.Header.{Header}
use Rattle.rv_emit.specs.Emitting.{program}
use Rattle.rv_emit.specs.Pricing.{total_cost, total_time}
use Rattle.rv_emit.specs.Programs.{most_spill, pairs}
use Rattle.rv_emit.proofs.SpillLemmas.{forty-codes, forty-cost, forty-few, forty-spill, forty-time}
use Rattle.rv_emit.proofs.spilling_examples.emit_forty.Goals as goal

pub assign-requires : goal.assign-requires
assign-requires c = subst NamesFew (sym c.requires) forty-few

pub emit-requires : goal.emit-requires
emit-requires c =
    let given = c.in_ok-given.given in
    let short = c.constants_are_short.ensures.most 31 in
    let nests = c.deref.ensures.value ∙ c.in_ok-nests.ensures.items in
    let homes = c.deref-2.ensures.value ∙ c.in_ok-homes.ensures.items in
    let ranked = c.in_ok-given.ensures.ranked (range_with_len 0 80)
    (subst (EachNamed (λ key. Contains (range_with_len 0 80) (code key))) (sym c.requires) forty-codes) in
    let few = forty-spill given c.spill-spill.ensures.given ranked in
    rw (nests, homes) (record {
      counted = omega arith;
      fit = (c.in_ok-given.ensures.fits, tt);
      lines = subst (λ nest. total_cost ((nest, given) ∷ []) ≤ 245760) (sym c.requires) (forty-cost short given);
      spill = omega (arith, few);
      steps = subst (λ nest. total_time ((nest, given) ∷ []) ≤ 2 ^ 50) (sym c.requires) (forty-time short given);
    })

pub returns : goal.returns
returns c =
    let given = c.in_ok-given.given in
    let homes = c.deref-2.ensures.value ∙ c.in_ok-homes.ensures.items in
    let ranked = c.in_ok-given.ensures.ranked (range_with_len 0 80)
    (subst (EachNamed (λ key. Contains (range_with_len 0 80) (code key))) (sym c.requires) forty-codes) in
    let few = forty-spill given c.spill-spill.ensures.given ranked in
    let most = ap most_spill homes in
    let all = pairs c.deref.result.now c.deref-2.result.now in
    let spill = most_spill c.deref-2.result.now in
    IfOk-weaker c.emit.result (λ made. made.header ≡ record { steps = (program spill all 0).steps; spill = spill })
    (λ made. made.header.spill ≤ 81)
    (λ made e. let same = ap (λ (h : Header). h.spill) e in omega (arith, same, most, few)) c.emit.ensures.header
