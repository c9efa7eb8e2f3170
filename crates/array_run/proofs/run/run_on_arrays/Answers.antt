use Rattle.std.proofs.Common.{◌≡◌, ◌∙◌, ap, sym}
use Rattle.array_run.specs.Ran.{ran, ran_from}
use Rattle.array_run.proofs.run.run_on_arrays.Goals as goal

pub returns-clause-prints : goal.returns-clause-prints
returns-clause-prints c =
    let same : ran c.args.program.now c.args.file.now ≡ ran_from c.args.program.now c.deref_mut.result.now =
    c.in_ok-block.ensures.starts ∙ ap (ran_from c.args.program.now) (sym c.deref_mut.ensures.value) in
    rw same c.run_on_block.ensures.prints

pub returns-clause-says : goal.returns-clause-says
returns-clause-says c =
    let same : ran c.args.program.now c.args.file.now ≡ ran_from c.args.program.now c.deref_mut.result.now =
    c.in_ok-block.ensures.starts ∙ ap (ran_from c.args.program.now) (sym c.deref_mut.ensures.value) in
    rw same c.run_on_block.ensures.says
