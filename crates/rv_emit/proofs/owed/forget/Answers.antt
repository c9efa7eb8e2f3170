use Rattle.std.proofs.Common.{rules, sym, ◌∙◌, not}
use Rattle.std.proofs.lemmas.Fn.{filter_same}
use Rattle.rv_emit.specs.Walks.{is_home}
use Rattle.rv_emit.proofs.OwedCodeLemmas.{without-filters}
use Rattle.rv_emit.proofs.owed.forget.Goals as goal

pub returns : goal.returns
returns c =
    filter_same _ (λ entry. not (is_home entry.0 c.args.home)) _ (λ x b f' k. search rules) _ _ c.retain.ensures.filtered
    ∙ sym (without-filters c.args.owed.now.items c.args.home)
