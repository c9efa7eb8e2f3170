use Rattle.std.proofs.Common.{◌∙◌, ap}
use Rattle.std.specs.HashMap.{get_by}
use Rattle.std.specs.Str.{bytes_eq}
use Rattle.array_text.proofs.IndexLemmas.{place_within}
use Rattle.array_text.proofs.index.place_of.Goals as goal

pub returns-clause-within : goal.returns-clause-within
returns-clause-within c = λ declared index.
    place_within declared c.args.name.now c.copied.result
    (c.copied.ensures ∙ c.get.ensures.value ∙ ap (λ bytes. get_by (λ key. bytes_eq bytes key.now) c.args.index.now) c.bytes.ensures.value ∙ index c.args.name.now)
