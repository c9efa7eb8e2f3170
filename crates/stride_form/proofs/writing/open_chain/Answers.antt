use Rattle.std.proofs.Common.{arith}
use Rattle.normal_form.specs.Pool.{form_at, forms}
use Rattle.stride_form.specs.Small.{fact_at}
use Rattle.stride_form.proofs.ChainLemmas.{down-start, down-step, may-open}
use Rattle.stride_form.proofs.writing.open_chain.Goals as goal

pub loop-binding-init : goal.loop-binding-init
loop-binding-init c = (
  omega arith,
  down-start (form_at (forms c.args.normal.now.terms) c.args.number) c.args.pile.now.items c.args.writer.now c.requires.none c.requires.ready,
)

pub binding_at-requires : goal.binding_at-requires
binding_at-requires c = omega (arith, c.loop-binding.invariant.0, c.requires.there)

pub open-requires-clause-near : goal.open-requires-clause-near
open-requires-clause-near c =
    let found = c.in-Some.ensures in
    let may = may-open (fact_at c.loop-binding.writer.facts) (form_at (forms c.args.normal.now.terms) c.loop-binding.number)
    (form_at (forms c.args.normal.now.terms) c.in-Some.binding.of) c.in-Some.binding.var c.in-Some.binding.bind found.1
    c.loop-binding.invariant.1.ready in
    may.near

pub open-requires-clause-resolved : goal.open-requires-clause-resolved
open-requires-clause-resolved c =
    let found = c.in-Some.ensures in
    let may = may-open (fact_at c.loop-binding.writer.facts) (form_at (forms c.args.normal.now.terms) c.loop-binding.number)
    (form_at (forms c.args.normal.now.terms) c.in-Some.binding.of) c.in-Some.binding.var c.in-Some.binding.bind found.1
    c.loop-binding.invariant.1.ready in
    may.resolved

pub open-requires-clause-small : goal.open-requires-clause-small
open-requires-clause-small c =
    let found = c.in-Some.ensures in
    let may = may-open (fact_at c.loop-binding.writer.facts) (form_at (forms c.args.normal.now.terms) c.loop-binding.number)
    (form_at (forms c.args.normal.now.terms) c.in-Some.binding.of) c.in-Some.binding.var c.in-Some.binding.bind found.1
    c.loop-binding.invariant.1.ready in
    may.small

pub loop-binding-smaller : goal.loop-binding-smaller
loop-binding-smaller c = let found = c.in-Some.ensures in found.0

pub loop-binding-preserved : goal.loop-binding-preserved
loop-binding-preserved c =
    let found = c.in-Some.ensures in
    let opened = c.in_ok-open.ensures in (
      omega (arith, found.0, c.loop-binding.invariant.0),
      down-step (form_at (forms c.args.normal.now.terms) c.args.number) (form_at (forms c.args.normal.now.terms) c.loop-binding.number)
          (form_at (forms c.args.normal.now.terms) c.in-Some.binding.of) c.in-Some.binding.var c.in-Some.binding.bind c.loop-binding.pile.items
          c.open.new.pile.items c.args.writer.now c.loop-binding.writer c.open.new.writer found.1 c.loop-binding.invariant.1 opened.opened,
    )

pub returns-clause-before : goal.returns-clause-before
returns-clause-before c = c.loop-binding.invariant.0

pub returns-clause-down : goal.returns-clause-down
returns-clause-down c = c.loop-binding.invariant.1
