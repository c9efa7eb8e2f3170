use Rattle.std.specs.Prelude.{◌≡◌, ◌<◌, [], ◌∷◌, length}
use Rattle.std.proofs.Common.{rules, ap, subst, sym, ◌∙◌, arith}
use Rattle.std.proofs.lemmas.List.{length-append}
use Rattle.shapes_core.specs.Limits.{most_items}
use Rattle.moa_tree.specs.Pools.{Pools}
use Rattle.moa_reader.specs.Build.{with_statement}
use Rattle.moa_reader.specs.Rooms.{built}
use Rattle.moa_reader.proofs.RoomLemmas.{built_statement, all_built}
use Rattle.moa_reader.proofs.pools.Builder.statement.Goals as goal

pub invariant_of-self-2 : goal.invariant_of-self-2
invariant_of-self-2 c =
    let old = c.self.inside in
    let pools : Pools = record { version = old.version; nodes = old.nodes.items; positions = old.positions.items; numbers = old.numbers.items; statements = old.statements.items } in
    let room : built pools < most_items = subst (λ those. built those < most_items) (sym c.self.view_is) c.requires in
    omega (arith, ap length c.in_ok-push.ensures.items, length-append old.statements.items (c.args.statement ∷ []), all_built pools, room)

pub returns-clause-built : goal.returns-clause-built
returns-clause-built c =
    let old = c.self.inside in
    let new : Pools = record { version = old.version; nodes = old.nodes.items; positions = old.positions.items; numbers = old.numbers.items; statements = c.push.new.self.items } in
    let added : new ≡ with_statement c.args.self.now c.args.statement = search rules in
    ap built added ∙ built_statement c.args.self.now c.args.statement
