use Rattle.std.proofs.Common.{◌∙◌, ap, cond, sym}
use Rattle.std.proofs.lemmas.Map.Text.{hash_map_updates_str}
use Rattle.std.specs.Str.{bytes_eq}
use Rattle.std.specs.declared.option.Option.TheVariants.{Some}
use Rattle.array_text.proofs.IndexLemmas.{index_more}
use Rattle.array_text.proofs.index.index_of.Goals as goal

pub loop-place-preserved : goal.loop-place-preserved
loop-place-preserved c = λ name.
    hash_map_updates_str c.bytes.result.now c.loop-place.index c.insert.new.self (Some c.loop-place.place) c.in_ok-insert.ensures.updates name
    ∙ ap (λ o. cond (bytes_eq c.bytes.result.now name) (Some c.loop-place.place) o) (c.loop-place.invariant name)
    ∙ index_more c.args.declared.now c.loop-place.place c.index-declared-place.result c.bytes.result.now name c.requires c.loop-place-test.true
    c.index-declared-place.is (c.bytes.ensures.value ∙ ap (λ d. d.name) (sym c.index-declared-place.is))
