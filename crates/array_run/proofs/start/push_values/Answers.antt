use Rattle.std.proofs.Common.{◌≡◌, ◌∙◌, ◌++◌, ap, sym, take, get_or, pos, append_assoc, rules}
use Rattle.std.specs.Int.{to_le_bytes, w64}
use Rattle.rv_steps.specs.Effects.{word_of}
use Rattle.array_run.specs.Starts.{bytes_of}
use Rattle.array_run.proofs.WordLemmas.{bytes_more}
use Rattle.array_run.proofs.start.push_values.Goals as goal

pub loop-value-preserved : goal.loop-value-preserved
loop-value-preserved c =
    let pushed : c.push_value.new.block.items
    ≡ c.loop-value.block.items ++ to_le_bytes w64 (word_of (get_or c.args.values.now c.loop-value.value-index (pos 0))) =
    search (rules, c.in_ok-push_value.ensures) in
    pushed
    ∙ ap (λ block. block ++ to_le_bytes w64 (word_of (get_or c.args.values.now c.loop-value.value-index (pos 0)))) c.loop-value.invariant
    ∙ append_assoc c.args.block.now.items (bytes_of (take c.loop-value.value-index c.args.values.now)) _
    ∙ ap (λ bytes. c.args.block.now.items ++ bytes)
    (sym (bytes_more c.args.values.now c.loop-value.value-index (pos 0) c.loop-value-test.true))
