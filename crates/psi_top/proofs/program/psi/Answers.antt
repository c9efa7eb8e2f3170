use Rattle.psi_top.proofs.AnswerLemmas as lemmas
use Rattle.psi_top.proofs.DenoteLemmas.{denotes}
use Rattle.psi_top.proofs.program.psi.Goals as goal

pub returns-clause-answered : goal.returns-clause-answered
returns-clause-answered g c = lemmas.answered _ _ _ _ _ _ _ _ _ c.answer_to-answer.ensures.due c.publish.ensures.put

pub returns-clause-made : goal.returns-clause-made
returns-clause-made g c = lemmas.text_of_zero _ _ _ _ _ _ _ _ (returns-clause-answered g c) c.texts_run.ensures.spelled

pub returns-clause-denotes : goal.returns-clause-denotes
returns-clause-denotes g c = λ assembly arrays text tree asked tells compiled.
    denotes _ _ _ _ _ _ _ _ (returns-clause-answered g c) tree text assembly arrays (c.texts_run.ensures.faithful tree text compiled) asked tells

pub returns-clause-complete : goal.returns-clause-complete
returns-clause-complete g c = λ outcome read over calm out err.
    let done = returns-clause-answered g c in lemmas.status_complete _ _ _ _ _ _ _ c.one_outcome.ensures done.0 outcome read _ done.1 done.2 over calm out err

pub returns-clause-misuse : goal.returns-clause-misuse
returns-clause-misuse g c = let done = returns-clause-answered g c in lemmas.misuse_status _ _ _ _ _ _ _ done.0 _ done.1 done.2

pub returns-clause-quiet : goal.returns-clause-quiet
returns-clause-quiet g c = lemmas.out_unchanged _ _ _ _ _ _ _ _ (returns-clause-answered g c)

pub returns-clause-puts_counted : goal.returns-clause-puts_counted
returns-clause-puts_counted g c = lemmas.puts_same _ _ _ _ _ _ _ _ (returns-clause-answered g c)

pub returns-clause-unreadable : goal.returns-clause-unreadable
returns-clause-unreadable g c = let done = returns-clause-answered g c in lemmas.two_unreadable _ _ _ _ _ _ _ done.0 _ done.1 done.2

pub returns-clause-reads_counted : goal.returns-clause-reads_counted
returns-clause-reads_counted g c = let done = returns-clause-answered g c in lemmas.reads_same _ _ _ _ _ _ _ done.0 _ done.1 done.2

pub returns-clause-statuses : goal.returns-clause-statuses
returns-clause-statuses g c = let done = returns-clause-answered g c in lemmas.status_among _ _ _ _ _ _ _ done.0 _ done.1 done.2
