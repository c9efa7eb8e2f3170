use Rattle.shape_check.specs.Progress.{Reached}
use Rattle.shape_check.proofs.survey.go_over.Given as goal

abbrev pub invariant-loop-count : goal.invariant-loop-count
invariant-loop-count l = Reached l.program l.inventory l.count l.progress
