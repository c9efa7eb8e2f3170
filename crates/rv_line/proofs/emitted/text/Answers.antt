use Rattle.std.proofs.Common.{◌≡◌, refl}
use Rattle.rv_line.specs.Emitted.{emitted}
use Rattle.rv_line.proofs.LabelLemmas.{targets_within}
use Rattle.rv_line.proofs.SpellLemmas.{emitted_spells, spelled_as_placed}
use Rattle.rv_line.proofs.emitted.text.Goals as goal

pub labels-requires-clause-targets : goal.labels-requires-clause-targets
labels-requires-clause-targets c = rw c.lines-lines.ensures.value (targets_within _ 0 _ c.lines-lines.ensures.fits.in_form)

pub returns : goal.returns
returns c =
    let parts = c.args.program.now in
    let exact : c.push_lines.new.out.items ≡ emitted parts =
    rw (
      c.in_ok-push_lines.ensures,
      c.in_ok-push_text.ensures,
      c.in_ok-push_areas.ensures,
      c.in_ok-push_header.ensures,
      c.in_ok-out.ensures.items,
      c.lines-lines.ensures.value,
      c.areas.ensures.value,
      c.header-header.ensures,
    ) refl
    in
    let spells = emitted_spells parts c.lines-lines.ensures.fits in
    record {
      exact = exact;
      spells = rw exact spells;
      placed = λ is. rw exact (spelled_as_placed (emitted parts) parts is spells);
    }
