use Rattle.stride_form.specs.Accesses.{constant_of}
use Rattle.stride_form.proofs.StrideLemmas.{start-word}
use Rattle.stride_form.proofs.collect.start_with.Goals as goal

pub returns : goal.returns
returns c =
    start-word c.args.weight (constant_of c.args.entry) c.constant_of.result c.args.start c.constant_of.ensures c.ranges.weight
    c.ranges.start c.requires.weight c.requires.near c.requires.room
