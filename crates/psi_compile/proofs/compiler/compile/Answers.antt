use Rattle.moa_tree.specs.Pools.{tree_of}
use Rattle.psi_compile.proofs.CompileLemmas.{compiled}
use Rattle.psi_compile.proofs.compiler.compile.Goals as goal

pub returns-clause-compiled : goal.returns-clause-compiled
returns-clause-compiled c =
    let tree = tree_of c.in_ok-checked.checked.pools in (
      tree,
      c.in_ok-checked.ensures.read,
      compiled tree c.in_ok-checked.ensures.plain c.in_ok-assembly.assembly c.in_ok-assembly.ensures c.in_ok-written.written.items
          c.in_ok-written.ensures.spells
          c.texts_spell_one.ensures,
    )
