use Rattle.std.specs.Prelude.{◌++◌, ◌∷◌, [], nat_eq}
use Rattle.std.proofs.Common.{ap, sym, ◌∙◌}
use Rattle.indexmap.proofs.CallerLemmas.{insert_entry-new}
use Rattle.register_map.specs.Assigned.{home_for}
use Rattle.register_map.specs.declared.home.Home.TheVariants as home
use Rattle.register_map.proofs.assignment.give_home.Goals as goal

pub returns-in_ok-insert-in-Some-clause-given : goal.returns-in_ok-insert-in-Some-clause-given
returns-in_ok-insert-in-Some-clause-given c =
    c.in_ok-insert-in-Some.ensures.entries
    ∙ insert_entry-new nat_eq c.args.homes.now c.args.code (home.Register c.in-Some.number) c.requires.fresh
    ∙ ap (λ o. c.args.homes.now.entries ++ (c.args.code, home_for o c.args.word) ∷ []) (sym c.in-Some.is)

pub returns-in_ok-insert-in-None-clause-given : goal.returns-in_ok-insert-in-None-clause-given
returns-in_ok-insert-in-None-clause-given c =
    c.in_ok-insert-in-None.ensures.entries
    ∙ insert_entry-new nat_eq c.args.homes.now c.args.code (home.Spill c.args.word) c.requires.fresh
    ∙ ap (λ o. c.args.homes.now.entries ++ (c.args.code, home_for o c.args.word) ∷ []) (sym c.in-None.is)
