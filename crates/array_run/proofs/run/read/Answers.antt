use Rattle.std.proofs.Common.{subst, ap, List}
use Rattle.std.proofs.lemmas.Result.{err_from_is_err_and}
use Rattle.std.specs.Prelude.{Err}
use Rattle.shapes_core.specs.declared.area.Declared.{Declared}
use Rattle.array_text.specs.Files.{IsAccepted}
use Rattle.array_run.proofs.AreaLemmas.{inputs_differ}
use Rattle.array_run.proofs.ReadLemmas.{refusal_said}
use Rattle.array_run.proofs.run.read.Goals as goal

pub read_arrays-requires-clause-differ : goal.read_arrays-requires-clause-differ
read_arrays-requires-clause-differ c =
    rw c.requires.inputs (inputs_differ c.args.program.now.areas c.areas-areas.ensures.fits.in_block)

pub returns-in_err-read_arrays-clause-says : goal.returns-in_err-read_arrays-clause-says
returns-in_err-read_arrays-clause-says c =
    let p = err_from_is_err_and c.from_residual.result c.from_residual.ensures.1 in
    rw (p.1, p.2) (refusal_said c.args.program.now c.args.declared.now c.args.file.now c.in_err-read_arrays.field-0.0 c.requires.inputs
    (λ line cause same. c.in_err-read_arrays.ensures.refused line cause (ap Err same)))

pub returns-clause-accepted : goal.returns-clause-accepted
returns-clause-accepted c =
    (c.grammar.ensures _ _ _ (inputs_differ c.args.program.now.areas c.areas-areas.ensures.fits.in_block)).1
    (subst (λ (declared : List Declared). IsAccepted declared c.in_ok-read_arrays.field-0 c.args.file.now) c.requires.inputs
    c.in_ok-read_arrays.ensures.read)
