use Rattle.rv_emit.proofs.ProgramLemmas.{ProgramLaws, programs-performed}
use Rattle.rv_emit.proofs.step_laws.programs_are_performed.Goals as goal

pub returns : goal.returns
returns c =
    let laws : ProgramLaws = record {
      machine = c.machine_is_known.ensures;
      simulated = c.steps_are_simulated.ensures;
      unread = c.unread_counters_may_count_down.ensures;
      many = c.counting_runs_keep.ensures.words;
      fits = c.values_fit.ensures;
      grow = c.traces_grow.ensures.grow;
    } in
    programs-performed laws c.lines_are_free.ensures
