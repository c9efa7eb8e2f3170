use Rattle.std.proofs.Common.{◌∙◌, ap}
use Rattle.array_run.specs.Ran.{ran_after}
use Rattle.array_run.specs.Starts.{inputs}
use Rattle.array_run.proofs.AreaLemmas.{inputs_differ}
use Rattle.array_run.proofs.GoodLemmas.{good_gives}
use Rattle.array_run.proofs.laws.good_texts_give_what_is_demanded.Goals as goal

pub returns : goal.returns
returns c = λ text file areas demand program arrays good spelled few room accepted.
    let found = (c.grammar.ensures (inputs program.areas) arrays file (inputs_differ program.areas spelled.areas)).0 accepted in
    ap (ran_after program) accepted
    ∙ good_gives c.bytes_are_kept.ensures.bytes c.runs_stop.ensures.only text areas demand program arrays good spelled few room
    (c.accepted_arrays_are_whole.ensures (inputs program.areas) arrays file found)
    (c.accepted_values_fit.ensures (inputs program.areas) arrays file found)
