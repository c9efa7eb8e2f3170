use Rattle.moa_tree.specs.Pools.{tree_of}
use Rattle.psi_top.proofs.texts.nest_text.Goals as goal

pub returns-clause-made : goal.returns-clause-made
returns-clause-made c =
    let program = c.in_ok-program.ensures in
    record {
      tree = tree_of c.in_ok-program.program.pools;
      read = program.read;
      can = record { built = λ e. program.plain; accepted = c.in_ok-nests_text.ensures.accepted };
      made = c.in_ok-nests_text.ensures.made;
    }
