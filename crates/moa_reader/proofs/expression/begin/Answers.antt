use Rattle.std.proofs.lemmas.Result.{IfErr-weaker, IfOk-weaker}
use Rattle.moa_reader.proofs.StandingLemmas.{at_the_bottom, is_below, wanted_begins, wanted_refused}
use Rattle.moa_reader.proofs.expression.begin.Goals as goal

pub returns-clause-stands : goal.returns-clause-stands
returns-clause-stands c =
    IfOk-weaker c.begin_expression.result _ _
    (λ which begins first before w.
    wanted_begins c.pools_keep.ensures.node c.pools_keep.ensures.numbers c.pools_keep.ensures.places first c.args.source.now c.begin_expression.new.source before c.args.builder.now
    c.begin_expression.new.builder c.args.frames.now which w begins.1 (is_below c.args.frames.now c.len.result c.len.ensures begins.0))
    c.begin_expression.ensures.head

pub returns-clause-refused : goal.returns-clause-refused
returns-clause-refused c =
    IfErr-weaker c.begin_expression.result _ _
    (λ error refused first before w.
    wanted_refused first c.args.source.now before c.args.builder.now c.args.frames.now error w
    (λ depth wants e free. refused depth wants (at_the_bottom c.args.frames.now depth c.len.result w.levels w.deep c.len.ensures e) free))
    c.begin_expression.ensures.refused
