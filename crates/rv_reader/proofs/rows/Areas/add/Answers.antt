use Rattle.std.proofs.Common.{◌+◌, ◌≤◌, ap, subst}
use Rattle.shapes_core.specs.Limits.{greatest_extent}
use Rattle.rv_reader.proofs.TrackLemmas.{tracked_step}
use Rattle.rv_reader.proofs.rows.Areas.add.Goals as goal

pub returns-clause-tracked : goal.returns-clause-tracked
returns-clause-tracked c =
    let old = c.args.self.now in
    tracked_step old.areas.items _ old.known _ old.words _ old.next _ c.args.area c.requires.tracked c.requires.follows c.in_ok-push.ensures.items c.in_ok-note_name.ensures.noted
    (ap (λ t. old.words + t) c.total.ensures.value) (subst (λ t. t ≤ greatest_extent) c.total.ensures.value c.total.ensures.small) c.next_behind-self.ensures
