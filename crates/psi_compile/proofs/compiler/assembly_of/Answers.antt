use Rattle.std.specs.List.{AllByRecursion}
use Rattle.std.proofs.Common.{◌≡◌, ap, map, sym, subst, ◌∙◌}
use Rattle.std.proofs.lemmas.Result.{IfOk-weaker}
use Rattle.loop_ir.specs.Pool.{tree as tree_of_nest}
use Rattle.moa_tree.specs.Canonical.{canonical}
use Rattle.moa_tree.specs.Pools.{tree_of}
use Rattle.moa_tree.specs.Readings.{Reads}
use Rattle.nest_jobs.specs.Leads.{nests}
use Rattle.register_map.specs.Fits.{NamesFew}
use Rattle.shape_check.specs.Layout.{areas}
use Rattle.psi_compile.proofs.CompileLemmas.{Laws, all_assembled, as-many, few_lines, few_spill, few_steps, fit, given-too}
use Rattle.psi_compile.proofs.compiler.assembly_of.Goals as goal

pub homes_of-requires : goal.homes_of-requires
homes_of-requires c =
    let tree = tree_of c.args.checked.now.pools in
    let reads = subst (λ pools. Reads (canonical (tree_of pools)) (tree_of pools)) c.program.ensures.value c.statements-statements.ensures.program.reads in
    let same : map tree_of_nest c.deref.result.now ≡ nests tree.statements = ap (map tree_of_nest) c.deref.ensures.value ∙ c.in_ok-nests.ensures in
    subst (AllByRecursion NamesFew) (sym same) (c.nests_are_small.ensures.names (canonical tree) tree reads c.program.ensures.checked.accepted c.requires)

pub emit-requires : goal.emit-requires
emit-requires c =
    let checking = c.args.checked.now in
    let tree = tree_of checking.pools in
    let laws : Laws = record {
      ready = c.nests_are_ready.ensures;
      lines = c.nests_are_small.ensures.lines;
      spill = c.nests_are_small.ensures.spill;
      steps = c.nests_are_small.ensures.steps;
      size = c.nests_are_small.ensures.size;
      work = c.nests_are_small.ensures.work;
      cost = c.programs_cost.ensures.lines;
      time = c.programs_cost.ensures.steps;
      free = c.lines_are_free.ensures;
      serves = c.programs_serve.ensures.serves;
      exact = c.programs_serve.ensures.exact;
      base = c.programs_serve.ensures.base;
    } in
    let reads = subst (λ pools. Reads (canonical (tree_of pools)) (tree_of pools)) c.program.ensures.value c.statements-statements.ensures.program.reads in
    let trees = map tree_of_nest c.deref-2.result.now in
    let same : trees ≡ nests tree.statements = ap (map tree_of_nest) c.deref-2.ensures.value ∙ c.in_ok-nests.ensures in
    let homes = c.deref-3.result.now in
    let given = given-too c.in_ok-nests.nests.items c.deref.result.now c.deref-2.result.now c.in_ok-homes.homes.items homes c.deref.ensures.value
    c.deref-2.ensures.value c.deref-3.ensures.value c.in_ok-homes.ensures in
    record {
      counted = as-many c.deref-2.result.now homes given;
      fit = fit laws (canonical tree) tree reads c.program.ensures.checked.accepted c.requires trees same homes given;
      lines = few_lines laws (canonical tree) tree reads c.program.ensures.checked.accepted c.requires trees same homes given;
      spill = few_spill laws (canonical tree) tree reads c.program.ensures.checked.accepted c.requires trees same homes given;
      steps = few_steps laws (canonical tree) tree reads c.program.ensures.checked.accepted c.requires trees same homes given;
    }

pub returns : goal.returns
returns c =
    let checking = c.args.checked.now in
    let tree = tree_of checking.pools in
    let laws : Laws = record {
      ready = c.nests_are_ready.ensures;
      lines = c.nests_are_small.ensures.lines;
      spill = c.nests_are_small.ensures.spill;
      steps = c.nests_are_small.ensures.steps;
      size = c.nests_are_small.ensures.size;
      work = c.nests_are_small.ensures.work;
      cost = c.programs_cost.ensures.lines;
      time = c.programs_cost.ensures.steps;
      free = c.lines_are_free.ensures;
      serves = c.programs_serve.ensures.serves;
      exact = c.programs_serve.ensures.exact;
      base = c.programs_serve.ensures.base;
    } in
    let reads = subst (λ pools. Reads (canonical (tree_of pools)) (tree_of pools)) c.program.ensures.value c.statements-statements.ensures.program.reads in
    let trees = map tree_of_nest c.deref-2.result.now in
    let same : trees ≡ nests tree.statements = ap (map tree_of_nest) c.deref-2.ensures.value ∙ c.in_ok-nests.ensures in
    let homes = c.deref-3.result.now in
    let given = given-too c.in_ok-nests.nests.items c.deref.result.now c.deref-2.result.now c.in_ok-homes.homes.items homes c.deref.ensures.value
    c.deref-2.ensures.value c.deref-3.ensures.value c.in_ok-homes.ensures in
    all_assembled laws (canonical tree) tree reads c.program.ensures.checked.accepted c.requires trees same homes given c.emit.result c.emit.ensures.lines
    c.emit.ensures.header
    (IfOk-weaker c.emit.result (λ made. made.areas ≡ c.layout_of.result.now) (λ made. made.areas ≡ areas tree.statements)
    (λ made e. e ∙ c.layout_of.ensures ∙ c.program.ensures.checked.laid_out) c.emit.ensures.areas)
